pub mod Facts
mod BlockLemmas
mod TurnLemmas
mod GiveLemmas
