pub mod Permanent
pub mod Names
pub mod Name
pub mod InnerName
pub mod Ordinals
