pub mod EntryLaws
pub mod PhiLaws
pub mod EdgeLaws
