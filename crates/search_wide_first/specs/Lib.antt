pub mod Firsts
pub mod Starts
