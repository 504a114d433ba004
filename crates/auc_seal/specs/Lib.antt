pub mod Mac
pub mod Checkcode
pub mod Encrypted
pub mod Laws
pub mod Inner
