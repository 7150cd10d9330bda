pub mod Fields
pub mod Openings
pub mod Cells
