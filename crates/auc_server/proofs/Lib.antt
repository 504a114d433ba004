pub mod Facts
mod AskingLemmas
mod EndingLemmas
mod FitsLemmas
mod HomeLemmas
mod LawLemmas
mod MessageLemmas
mod MakeLemmas
mod MoveLemmas
mod OptionsLemmas
mod OrdinalLemmas
mod PlanLemmas
mod ResumeLemmas
mod TurnLemmas
