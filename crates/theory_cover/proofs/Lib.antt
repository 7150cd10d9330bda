pub mod Recurrence
pub mod Covered
pub mod Fewest
pub mod Runs
