pub mod Facts
mod FieldLemmas
mod FitLemmas
mod FivegLemmas
mod LineLemmas
mod NameLemmas
mod ScheduleLemmas
