pub mod Availability
pub mod Commands
pub mod Reading
pub mod Taking
