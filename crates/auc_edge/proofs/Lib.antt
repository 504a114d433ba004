pub mod Facts
mod ShelfLemmas
mod SinkLemmas
