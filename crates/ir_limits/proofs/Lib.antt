pub mod PastLaws
pub mod ToldLaws
pub mod OverLaws
