pub mod Accepted
pub mod Buffers
pub mod Poses
pub mod Fields
pub mod Answers
