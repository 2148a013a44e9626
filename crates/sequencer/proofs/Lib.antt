pub mod ClaimRooms
pub mod Rooms
pub mod WordLemmas
