pub mod Part
pub mod Sim
pub mod Sites
