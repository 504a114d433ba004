pub mod Field
pub mod Text
