pub mod Words
pub mod Faults
pub mod Running
pub mod Ports
