pub mod Compare
pub mod Numbers
pub mod Membership
pub mod Neighbours
pub mod Zeros
pub mod Tails
