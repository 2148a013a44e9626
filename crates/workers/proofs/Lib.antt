mod Rests
mod Turns
