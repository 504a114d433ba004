pub mod Buffer
pub mod Faults
pub mod Identity
pub mod IdentityKey
pub mod Reserved
