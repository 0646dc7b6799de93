pub mod PartLaws
pub mod ActLaws
pub mod BlockLaws
pub mod AgreeLaws
pub mod FillLaws
pub mod RunLaws
