pub mod Facts
mod CountLemmas
mod HeldLemmas
mod NotingLemmas
mod OpeningLemmas
mod VectorLemmas
