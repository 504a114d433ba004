mod DeviceLemmas
mod RowLemmas
pub mod Facts
