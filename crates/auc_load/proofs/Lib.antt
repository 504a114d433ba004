mod InputLemmas
mod PieceLemmas
mod SummaryLemmas
mod VectorLemmas
