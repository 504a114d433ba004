pub mod Keys
pub mod Agree
