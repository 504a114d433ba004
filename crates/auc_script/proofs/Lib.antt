mod LawLemmas
mod ReadingLemmas
mod SessionLemmas
mod SoFarLemmas
