pub mod Facts
mod RoomLemmas
