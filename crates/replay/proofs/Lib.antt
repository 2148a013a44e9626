mod LineLemmas
pub mod Taking
mod Asking
mod Telling
pub mod Starting
mod NewestLemmas
mod Recovery
mod Whole
pub mod Looking
mod Naming
mod Clients
mod Shaping
mod Added
mod Reported
mod StartLemmas
pub mod Staying
mod ReadingOn
