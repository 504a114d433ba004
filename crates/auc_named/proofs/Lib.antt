-- What other crates may cite of the proofs here; every other module is private.
pub mod Facts
mod ClosingLemmas
mod GivenLemmas
mod NamingLemmas
mod PlaceLemmas
mod RecordLemmas
mod RenumberLemmas
mod RoundLemmas
