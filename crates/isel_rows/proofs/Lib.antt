pub mod VariableLaws
pub mod AllocaLaws
pub mod CountLaws
pub mod ListLaws
pub mod FunctionLaws
pub mod SymbolLaws
pub mod SameLaws
pub mod ProgramLaws
