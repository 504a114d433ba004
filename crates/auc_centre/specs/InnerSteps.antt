-- Inner facts: what the private contracts of a draw cite.
use Rattle.std.specs.Prelude.{◌≡◌, ◌≢◌, ℕ, List, [], ◌∷◌, ◌++◌, Contains, Option, Some, None, Result, Ok, Err}
use Rattle.auc_memory.specs.declared.stop.Stop.{Stop}
use Rattle.auc_history.specs.declared.entry.Entry.{Entry}
use Rattle.auc_draw.specs.declared.rule.Deed.{Deed}
use Rattle.auc_draw.specs.Deeds.{entries_of, claims_of, held_of, released_of, AreInOrder}
use Rattle.auc_draw.specs.Values.{PassValue}
use Rattle.auc_vector.specs.declared.centre.CentreRefusal.{CentreRefusal}
use Rattle.auc_vector.specs.declared.centre.CentreRefusal.TheVariants.{Exhausted, Withheld, Beyond}

-- some steps of a pass: the entries of a subscriber that they made, and its withheld numbers, each with its cause; of no
-- other subscriber is there any, and no job is claimed
pub record Steps (old : PassValue) (sub : ℕ) (entries : List Entry) (withheld : List (ℕ × Stop)) (new : PassValue) : Type 0 where
  pub rest : List Deed
  pub grows : new.deeds ≡ old.deeds ++ rest
  pub made : entries_of sub rest ≡ entries
  pub others : (i : ℕ) → i ≢ sub → entries_of i rest ≡ []
  pub held : held_of sub rest ≡ withheld
  pub free : (i : ℕ) → i ≢ sub → held_of i rest ≡ []
  pub claims : claims_of rest ≡ []
  pub ended : new.ended ≡ old.ended
  pub tops : new.tops ≡ old.tops
  pub ordered : AreInOrder new.deeds

-- a drawn number of a subscriber is released, or withheld for a cause
abbrev pub Settles : ℕ → ℕ → PassValue → PassValue → Result ℕ CentreRefusal → Type 0
Settles sub n old new (Ok m) = (m ≡ n) × Steps old sub [] [] new × Contains (released_of sub new.deeds) n
Settles sub n old new (Err (Exhausted w)) = ⊥
Settles sub n old new (Err (Withheld m stop)) = (m ≡ n) × Steps old sub [] ((m, stop) ∷ []) new
Settles sub n old new (Err (Beyond seen seq_ms)) = ⊥

-- or neither yet
abbrev pub Tries : ℕ → ℕ → PassValue → PassValue → Option (Result ℕ CentreRefusal) → Type 0
Tries sub n old new None = Steps old sub [] [] new
Tries sub n old new (Some answer) = Settles sub n old new answer
