pub mod Solved
pub mod Rows
