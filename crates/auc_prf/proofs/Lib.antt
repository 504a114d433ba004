mod GeneratorLemmas
mod NumberLemmas
mod ScheduleLemmas
mod SumLemmas
