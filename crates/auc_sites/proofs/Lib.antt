pub mod Facts
mod DrawingLemmas
mod EventLemmas
mod ListLemmas
mod NetLemmas
mod RunLemmas
mod SoundLemmas
mod StateLemmas
