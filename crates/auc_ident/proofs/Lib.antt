mod IdentLemmas
mod KeptLemmas
mod NameLemmas
