pub mod Facts
mod FaultLemmas
mod FieldLemmas
mod FileLemmas
mod LawLemmas
mod LookupLemmas
mod RowLemmas
mod TopLemmas
