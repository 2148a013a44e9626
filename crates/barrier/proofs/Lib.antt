pub mod Looks
pub mod Behind
pub mod Buffers
pub mod Words
pub mod CommandWords
pub mod TextStores
pub mod Takings
pub mod TextReading
