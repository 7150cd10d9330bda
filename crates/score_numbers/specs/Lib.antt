pub mod Counted
pub mod Sums
pub mod Bridge
