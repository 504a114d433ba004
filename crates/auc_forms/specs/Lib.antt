pub mod Algorithm
pub mod Reserved
