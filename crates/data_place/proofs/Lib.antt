pub mod PartLaws
pub mod StartLaws
pub mod ByteLaws
pub mod HoldLaws
pub mod FitLaws
pub mod Worked
