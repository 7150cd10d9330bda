pub mod Words
pub mod Ways
pub mod Laws
pub mod WayLaws
