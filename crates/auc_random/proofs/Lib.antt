mod RandomLemmas
