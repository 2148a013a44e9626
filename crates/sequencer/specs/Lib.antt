pub mod Claims
pub mod Words
pub mod Rooms
pub mod ClaimNumber
