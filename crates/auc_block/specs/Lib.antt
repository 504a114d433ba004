pub mod Block
pub mod Hearing
pub mod InnerHearing
pub mod MemWire
pub mod StdWire
pub mod Turns
