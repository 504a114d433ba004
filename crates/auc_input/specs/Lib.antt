pub mod Words
pub mod Reading
pub mod Turns
pub mod Header
pub mod Opening
pub mod InnerRefusal
