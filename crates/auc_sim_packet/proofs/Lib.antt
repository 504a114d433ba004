pub mod Facts
mod AttrLemmas
mod FoundLemmas
mod ListedLemmas
mod MayLemmas
mod MessageLemmas
mod PacketLemmas
mod RandsLemmas
mod ReceivedLemmas
mod SealedLemmas
mod WrittenLemmas
