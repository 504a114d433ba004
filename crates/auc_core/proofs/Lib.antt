pub mod Facts
mod RunLemmas
