pub mod States
pub mod Spots
pub mod Layers
pub mod CostsRight
pub mod StagesRight
pub mod CaseStates
pub mod CasesRight
pub mod LeastCost
