pub mod InnerRefusal
pub mod InnerSoFar
pub mod Law
pub mod Limits
pub mod Numbers
pub mod Reading
pub mod Scenario
pub mod Session
