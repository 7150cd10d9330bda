pub mod Tests
pub mod Lists
pub mod Rising
pub mod Line
pub mod More
pub mod Whole
pub mod Refused
