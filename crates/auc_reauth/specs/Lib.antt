pub mod Store
pub mod Server
pub mod Device
pub mod Kept
pub mod Laws
pub mod Machine
