pub mod OctetLaws
pub mod RawLaws
