pub mod Facts
mod AutnLemmas
mod AutsLemmas
mod CoreCentreLemmas
mod ManyLemmas
