pub mod Facts
mod LawLemmas
mod ReceivedLemmas
mod SealedLemmas
