pub mod Rest
pub mod Upto
