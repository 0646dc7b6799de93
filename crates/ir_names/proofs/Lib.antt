pub mod FirstLaws
pub mod AddLaws
pub mod ReachLaws
pub mod StartLaws
pub mod UseLaws
