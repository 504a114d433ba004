pub mod MemShelf
pub mod MemSink
pub mod Shelf
pub mod Sink
