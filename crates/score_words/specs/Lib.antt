pub mod Flat
pub mod Shown
pub mod Rows
