-- Inner facts: what only private contracts of this crate cite.
use Rattle.std.specs.Prelude.{◌≡◌, ℕ, ◌+◌, ◌-◌, ◌%◌, ◌^◌, ◌<◌, ◌≤◌, nat_lt, nat_le, if◌then◌else◌, All, Option}
use Rattle.auc_sqn.specs.Number.{indices, most_bits}
use Rattle.auc_sqn.specs.Past.{is_aged}
use Rattle.auc_sqn.specs.declared.verdict.Verdict.{Verdict}
use Rattle.auc_sqn.specs.declared.verdict.Verdict.TheVariants.{Fresh, Old, Far, Aged}
use Rattle.auc_sqn.specs.declared.sqn_array.SqnArray.TheInside.{Inside}

-- the verdict by the entry for the IND and the greatest entry
abbrev pub verdict_at : Option ℕ → ℕ → ℕ → ℕ → Verdict
verdict_at age entry greatest seq =
    if nat_le seq entry then Old entry
    else if nat_lt (greatest + 2 ^ 28) seq then Far greatest
    else if is_aged age greatest seq then Aged greatest
    else Fresh

-- the last number up to v with a remainder, or 0 if there is none
pub record IsLastNumber (bits v ind number : ℕ) : Type 0 where
  pub within : number ≤ v
  pub remainder : 0 < number → number % indices bits ≡ ind
  pub last : (m : ℕ) → m ≤ v → m % indices bits ≡ ind → m ≤ number

-- an array has one of the index lengths, and each entry is a SEQ
pub record IsArray (a : Inside) : Type 0 where
  pub few : a.bits ≤ most_bits
  pub seqs : All (λ seq. seq < 2 ^ (48 - a.bits)) a.entries
