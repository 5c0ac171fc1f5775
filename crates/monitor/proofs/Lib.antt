pub mod Bijection
pub mod PartLaws
pub mod ResetLaws
pub mod SettingLaws
pub mod TotalLaws
