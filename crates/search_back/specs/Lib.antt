pub mod Trace
pub mod Laws
pub mod Scatter
pub mod ScatterLaws
