pub mod Facts
mod ClimbLemmas
mod CoverLemmas
mod CutLemmas
mod ListLemmas
mod MergeLemmas
mod RecutLemmas
mod SplitLemmas
mod Walk
