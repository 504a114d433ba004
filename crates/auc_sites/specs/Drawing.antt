-- Some draws of a subscriber at a centre, one after the other.
use Rattle.std.specs.Prelude.{◌≡◌, ◌≢◌, ℕ, ◌<◌, List, [], ◌++◌, All, length, map, Option, Some, None, Ok, Err}
use Rattle.auc_memory.specs.declared.stop.Stop.{Stop}
use Rattle.auc_history.specs.declared.entry.Entry.{Entry}
use Rattle.auc_history.specs.declared.entry.Entry.TheVariants.{Drawn}
use Rattle.auc_vector.specs.Centre.{AnswersNext, entries_of_next, withheld_of_next, kept_after_next}
use Rattle.auc_vector.specs.declared.centre.CentreRefusal.{CentreRefusal}
use Rattle.auc_sites.specs.Lease.{IsRising}

-- the ghost members of a centre, over its states: the stretches of its calls
abbrev pub Goes : Type 0 → Type 1
Goes S = S → ℕ → List Entry → List (ℕ × Stop) → S → Type 0

-- the kept words of its subscribers
abbrev pub KeptWords : Type 0 → Type 0
KeptWords S = S → ℕ → Option ℕ

-- their greatest numbers
abbrev pub Top : Type 0 → Type 0
Top S = S → ℕ → ℕ

-- as many numbers as were asked for; or fewer, and a refusal
abbrev pub HasSize : ℕ → List ℕ → Option CentreRefusal → Type 0
HasSize size numbers None = length numbers ≡ size
HasSize size numbers (Some why) = length numbers < size

-- the entries of draws that gave numbers
abbrev pub entries_of : List ℕ → List Entry
entries_of numbers = map Drawn numbers

-- the entries of the draw that was refused after them, if one was
abbrev pub entries_of_end : Option ℕ → Option CentreRefusal → List Entry
entries_of_end kept None = []
entries_of_end kept (Some why) = entries_of_next kept (Err why)

-- the numbers that it withheld
abbrev pub withheld_of_end : Option CentreRefusal → List (ℕ × Stop)
withheld_of_end None = []
withheld_of_end (Some why) = withheld_of_next (Err why)

-- the word that is kept after it
abbrev pub kept_after_end : Option ℕ → Option CentreRefusal → Option ℕ
kept_after_end kept None = kept
kept_after_end kept (Some why) = kept_after_next kept (Err why)

-- it is an answer to a draw
abbrev pub AnswersEnd : ℕ → Option ℕ → Option CentreRefusal → Type 0
AnswersEnd top kept None = Unit {0}
AnswersEnd top kept (Some why) = AnswersNext top kept (Err why)

-- at most `size` draws of a subscriber, the last of which may be refused
pub record Drew {S : Type 0} (goes : Goes S) (kept : KeptWords S) (top : Top S) (sub size : ℕ) (numbers : List ℕ) (end : Option CentreRefusal) (old new : S) : Type 0 where
  -- they end with `size` numbers, or with a refusal
  pub count : HasSize size numbers end
  -- each number is the answer to a draw, and they rise
  pub given : All (λ n. AnswersNext (top old sub) (kept old sub) (Ok n)) numbers
  pub rising : IsRising numbers
  -- and so is the refusal
  pub refused : AnswersEnd (top old sub) (kept old sub) end
  -- the centre makes the entries of these draws, for this subscriber alone
  pub own : goes old sub (entries_of numbers ++ entries_of_end (kept old sub) end) (withheld_of_end end) new
  pub others : (i : ℕ) → i ≢ sub → goes old i [] [] new
  -- the word of a refused draw is kept
  pub keeps : kept new sub ≡ kept_after_end (kept old sub) end
  pub still : (i : ℕ) → i ≢ sub → kept new i ≡ kept old i
