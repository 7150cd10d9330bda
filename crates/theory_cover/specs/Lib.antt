pub mod Sums
pub mod FileRow
pub mod Recurrence
pub mod Covered
pub mod Fewest
pub mod Runs
