pub mod Fault
pub mod Part
