pub mod Lanes
pub mod Store
pub mod Laws
pub mod Lowered
