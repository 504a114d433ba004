pub mod Facts
mod FoundLemmas
mod ImageLemmas
mod LengthLemmas
