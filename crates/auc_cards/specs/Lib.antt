pub mod Own
pub mod Stores
pub mod Devices
pub mod Usims
pub mod Known
