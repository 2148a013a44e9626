pub mod Places
pub mod Keys
pub mod Arena
pub mod Ladders
pub mod Stamps
pub mod StampLaws
