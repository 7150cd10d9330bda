pub mod Tests
pub mod Marks
pub mod Lowest
pub mod Offered
pub mod Quick
