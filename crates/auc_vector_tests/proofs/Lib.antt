mod GainLemmas
