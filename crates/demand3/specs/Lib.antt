pub mod Demand3
pub mod Demand3Mixed
