pub mod Steps
pub mod Adds
pub mod Taken
pub mod Walked
