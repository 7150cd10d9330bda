pub mod Traces
pub mod Sources
pub mod Lasts
pub mod Steps
