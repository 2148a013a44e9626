pub mod Packings
mod Examples
