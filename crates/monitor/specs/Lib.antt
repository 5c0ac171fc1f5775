pub mod Monitor
pub mod Parts
pub mod Reset
pub mod Settings
pub mod Totals
