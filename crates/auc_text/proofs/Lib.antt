pub mod Facts
mod NumberLemmas
mod TextLemmas
