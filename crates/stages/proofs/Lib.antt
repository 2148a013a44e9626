pub mod Polls
pub mod Unmarshalling
pub mod Processing
pub mod Putting
pub mod Journalling
pub mod Marshalling
pub mod Finishing
