pub mod Both
pub mod Decks
