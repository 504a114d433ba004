pub mod Generator
pub mod Keys
