pub mod Numbers
pub mod Lines
pub mod Parted
pub mod Poses
pub mod Room
