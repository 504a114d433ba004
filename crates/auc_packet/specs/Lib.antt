pub mod Packet
pub mod Spelling
pub mod Head
pub mod Laws
pub mod Received
pub mod Sealed
pub mod InnerSealed
pub mod Messages
