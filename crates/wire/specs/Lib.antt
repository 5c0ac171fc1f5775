pub mod Number
pub mod Element
pub mod LengthCases
pub mod Reader
pub mod Header
pub mod Refusals
pub mod Points
