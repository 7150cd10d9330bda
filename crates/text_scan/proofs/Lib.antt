pub mod Sofar
pub mod Feed
pub mod Counted
pub mod Led
