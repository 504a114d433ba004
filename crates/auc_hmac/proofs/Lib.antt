pub mod Facts
mod MacLemmas
