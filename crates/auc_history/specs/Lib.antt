pub mod History
pub mod Inner
pub mod Merge
pub mod Recut
pub mod Resynchronise
pub mod Split
