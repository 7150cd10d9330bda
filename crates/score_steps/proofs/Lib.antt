pub mod Heights
pub mod Neighbours
