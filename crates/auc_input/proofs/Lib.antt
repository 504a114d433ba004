mod TurnLemmas
pub mod Facts
mod OpeningLemmas
mod ReadingLemmas
mod HeaderLemmas
