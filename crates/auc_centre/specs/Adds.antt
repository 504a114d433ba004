-- What calls at a desk add to what its pass did.
use Rattle.std.specs.Prelude.{◌≡◌, ◌⊎◌, ℕ, ◌<◌, List, ◌++◌, All, Contains, Option, map, slice_index}
use Rattle.auc_memory.specs.declared.stop.Stop.{Stop}
use Rattle.auc_history.specs.declared.entry.Entry.{Entry}
use Rattle.auc_history.specs.History.{IsBefore, IsInOrder, drawn}
use Rattle.auc_draw.specs.declared.rule.Deed.{Deed}
use Rattle.auc_draw.specs.Deeds.{entries_of, claims_of, held_of, kept_of, released_of}
use Rattle.auc_draw.specs.Values.{PassValue}

-- the word of a subscriber that a pass keeps from its first refused draw
abbrev pub kept_by : PassValue → ℕ → Option ℕ
kept_by pass sub = kept_of (slice_index pass.tops sub) pass.deeds sub

-- the numbers of some withheld ones
abbrev pub numbers_of : List (ℕ × Stop) → List ℕ
numbers_of withheld = map (λ held. held.0) withheld

-- what became of a drawn number of a subscriber with this greatest number: it is a mark, or it is withheld, or it is released
abbrev pub IsTold : ℕ → List (ℕ × Stop) → List ℕ → ℕ → Type 0
IsTold top withheld released n = (top < n) ⊎ (Contains (numbers_of withheld) n ⊎ Contains released n)

-- some calls at a desk: the pass before them, a subscriber, the entries of it that they made, its withheld numbers, each
-- with its cause, and the pass after them
pub record AddsAtDesk (old : PassValue) (sub : ℕ) (entries : List Entry) (withheld : List (ℕ × Stop)) (new : PassValue) : Type 0 where
  -- the entries come after those that the pass had made before
  pub made : entries_of sub new.deeds ≡ entries_of sub old.deeds ++ entries
  -- each of them continues those before it
  pub ordered : IsInOrder entries
  -- and all that the pass had made before
  pub after : All (λ d. All (IsBefore d) entries) (entries_of sub old.deeds)
  -- the withheld numbers come after those that the pass had withheld before
  pub held : held_of sub new.deeds ≡ held_of sub old.deeds ++ withheld
  -- each drawn number that is no mark is withheld or released
  pub told : All (IsTold (slice_index old.tops sub) withheld (released_of sub new.deeds)) (drawn entries)
  -- the pass did all that it had done before, and no job is claimed; the claims end as they ended before
  pub grows : (rest : List Deed) × (new.deeds ≡ old.deeds ++ rest)
  pub claims : claims_of new.deeds ≡ claims_of old.deeds
  pub ended : new.ended ≡ old.ended
  -- the greatest numbers stay
  pub tops : new.tops ≡ old.tops
