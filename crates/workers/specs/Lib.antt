pub mod Counted
pub mod Resting
pub mod Waking
pub mod Working
pub mod Polling
pub mod Running
