pub mod Flag
pub mod Frame
pub mod Result
