pub mod Draws
pub mod Lines
pub mod Sites
pub mod Cells
pub mod Accepted
pub mod Outcomes
