pub mod Small
pub mod Always
pub mod BuiltTypes
pub mod BuiltValues
pub mod BuiltInstructions
pub mod BuiltModule
