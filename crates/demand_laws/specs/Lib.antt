pub mod Fair
pub mod Demand1
pub mod Demand2
pub mod Gaps
pub mod Fixed
pub mod Loads
pub mod Reasons
pub mod Weights
