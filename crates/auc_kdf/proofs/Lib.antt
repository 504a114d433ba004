mod BlockLemmas
mod JoinLemmas
mod PairLemmas
