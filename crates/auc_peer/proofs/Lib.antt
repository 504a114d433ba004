pub mod Facts
mod AskingLemmas
mod ReauthLemmas
mod MessageLemmas
mod CounterLemmas
mod OptionLemmas
mod LawLemmas
mod FitsLemmas
mod MoveLemmas
mod NameLemmas
mod NetworkLemmas
mod TurnLemmas
mod AdoptLemmas
mod SendLemmas
mod StepLemmas
mod PlaceLemmas
