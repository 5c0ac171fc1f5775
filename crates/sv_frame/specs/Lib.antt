pub mod Field
pub mod Sv
pub mod Places
pub mod Refusals
