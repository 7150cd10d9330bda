pub mod Stage
pub mod Starts
pub mod Laws
pub mod Same
pub mod Rows
