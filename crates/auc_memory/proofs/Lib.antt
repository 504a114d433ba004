pub mod Facts
mod IdentityLemmas
