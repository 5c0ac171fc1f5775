pub mod Octets
pub mod Sv
pub mod Goose
pub mod Mms
pub mod Raw
