pub mod Facts
mod BookLemmas
mod CoverLemmas
mod KeeperLemmas
mod LimitLemmas
mod OrderLemmas
mod PassLemmas
mod SeatLemmas
mod StepLemmas
mod StopLemmas
mod ToldLemmas
mod ViewLemmas
