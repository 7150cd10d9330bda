pub mod Numbers
pub mod Poses
pub mod Room
