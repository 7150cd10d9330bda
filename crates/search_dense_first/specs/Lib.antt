pub mod Firsts
pub mod Begun
pub mod Starts
