-- Inner facts: what only private contracts of this crate cite.
use Rattle.std.specs.Prelude.{ℕ, List, ◌++◌}
use Rattle.auc_kdf.specs.declared.prf.Seed.{Seed}

-- the seed of PRF' as one string
abbrev pub seed_bytes : Seed → List ℕ
seed_bytes seed = seed.label.now ++ seed.identity.now ++ seed.freshness.now
