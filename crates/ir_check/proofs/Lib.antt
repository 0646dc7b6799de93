pub mod FirstLaws
pub mod RefusalLaws
