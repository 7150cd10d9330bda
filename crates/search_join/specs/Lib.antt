pub mod Tables
pub mod Found
pub mod Sums
pub mod Laws
pub mod SumLaws
pub mod CaseLaws
pub mod Parts
pub mod Closing
