pub mod Breakers
pub mod Lengths
pub mod Sentences
pub mod Outcomes
