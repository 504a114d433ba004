pub mod Adds
pub mod InnerAdds
pub mod InnerSteps
pub mod Kept
