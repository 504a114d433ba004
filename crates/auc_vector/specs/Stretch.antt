-- The calls of a centre over the pure core, whose state has each subscriber's word and its top: the last number that was
-- drawn or passed over, or the mark, top + 1, after a draw was refused; and the subscriber's greatest number.
use Rattle.std.specs.Prelude.{◌≡◌, ℕ, nat_le, if◌then◌else◌, List, [], Option, Some, None, slice_index}
use Rattle.auc_core.specs.Step.{CoreState}
use Rattle.auc_memory.specs.declared.stop.Stop.{Stop}
use Rattle.auc_history.specs.declared.entry.Entry.{Entry}
use Rattle.auc_history.specs.History.{IsLegal}

-- the word that is kept of a subscriber, by its top and its word
abbrev pub kept_at : ℕ → ℕ → Option ℕ
kept_at top word = if nat_le word top then None else Some top

-- a stretch of calls: its entries of a subscriber are a legal history from the word before it to the word after it, no
-- number is withheld, and the tops stay
pub record IsStretch (old : CoreState) (sub : ℕ) (entries : List Entry) (withheld : List (ℕ × Stop)) (new : CoreState) : Type 0 where
  pub legal : IsLegal (slice_index old.tops sub) (slice_index old.words sub) (slice_index new.words sub) entries
  pub nothing : withheld ≡ []
  pub tops : new.tops ≡ old.tops
