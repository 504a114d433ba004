pub mod Facts
mod Tools
mod ValueLemmas
mod WritingLemmas
mod ItemLemmas
mod FrontLemmas
mod FaultLemmas
mod WalkLemmas
mod SpellingLemmas
mod ConditionLemmas
mod FrameLemmas
mod FrameFaultLemmas
mod MacLemmas
mod ValueInLemmas
mod PlaceLemmas
mod LawLemmas
mod AkaLemmas
