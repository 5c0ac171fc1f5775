pub mod SvLaws
pub mod PlaceLaws
pub mod SvLegal
pub mod RowLaws
pub mod RefusalsHold
