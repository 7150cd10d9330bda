pub mod Refusals
pub mod Fields
