pub mod Tests
pub mod Near
pub mod Out
pub mod Ends
