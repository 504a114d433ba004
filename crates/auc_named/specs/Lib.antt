pub mod Named
pub mod Law
pub mod NamedValue
pub mod InnerNaming
