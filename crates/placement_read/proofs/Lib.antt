pub mod Lines
pub mod Kept
pub mod Found
pub mod Sofar
