-- What the calls of an authentication centre answer, and which entries of a subscriber's history they make (TS 33.102
-- §6.3.2 and §6.3.5). `top` is the subscriber's greatest number. `kept` is the word of the first draw that was refused:
-- once it is kept, it stays, and the subscriber is spent.
use Rattle.std.specs.Prelude.{◌≡◌, ℕ, ◌+◌, ◌≤◌, List, [], ◌∷◌, Option, Some, None, Result, Ok, Err}
use Rattle.auc_memory.specs.declared.stop.Stop.{Stop}
use Rattle.auc_history.specs.declared.entry.Entry.{Entry}
use Rattle.auc_history.specs.declared.entry.Entry.TheVariants.{Drawn, Moved as moved, Look}
use Rattle.auc_history.specs.Resynchronise.{resynchronise_of, Moved as moved_to, InRange as in_range, Beyond as beyond}
use Rattle.auc_vector.specs.declared.centre.Resynced.{Resynced}
use Rattle.auc_vector.specs.declared.centre.Resynced.TheVariants.{Moved, InRange}
use Rattle.auc_vector.specs.declared.centre.CentreRefusal.{CentreRefusal}
use Rattle.auc_vector.specs.declared.centre.CentreRefusal.TheVariants.{Exhausted, Withheld, Beyond}

-- if a word is kept, it is this one
abbrev pub IsWordKept : Option ℕ → ℕ → Type 0
IsWordKept None word = Unit {0}
IsWordKept (Some w) word = word ≡ w

-- the entries of a call that makes none for a spent subscriber
abbrev pub unless_spent : Option ℕ → List Entry → List Entry
unless_spent None entries = entries
unless_spent (Some w) entries = []

-- ---- a draw

-- the answer to a draw: a number that is released or withheld is one of the subscriber's, and none is drawn for a spent
-- subscriber; the word of a refused draw is no lower than the greatest number
abbrev pub AnswersNext : ℕ → Option ℕ → Result ℕ CentreRefusal → Type 0
AnswersNext top kept (Ok n) = (kept ≡ None) × (1 ≤ n) × (n ≤ top)
AnswersNext top kept (Err (Exhausted w)) = (top ≤ w) × IsWordKept kept w
AnswersNext top kept (Err (Withheld n stop)) = (kept ≡ None) × (1 ≤ n) × (n ≤ top)
AnswersNext top kept (Err (Beyond seen seq_ms)) = ⊥

-- the entries of a draw: the drawn number, or the mark of the first refused draw
abbrev pub entries_of_next : Option ℕ → Result ℕ CentreRefusal → List Entry
entries_of_next kept (Ok n) = Drawn n ∷ []
entries_of_next kept (Err (Exhausted w)) = unless_spent kept (Drawn (w + 1) ∷ [])
entries_of_next kept (Err (Withheld n stop)) = Drawn n ∷ []
entries_of_next kept (Err (Beyond seen seq_ms)) = []

-- the number that a draw took and withheld, with its cause
abbrev pub withheld_of_next : Result ℕ CentreRefusal → List (ℕ × Stop)
withheld_of_next (Ok n) = []
withheld_of_next (Err (Exhausted w)) = []
withheld_of_next (Err (Withheld n stop)) = (n, stop) ∷ []
withheld_of_next (Err (Beyond seen seq_ms)) = []

-- the word that is kept after a draw
abbrev pub kept_after_next : Option ℕ → Result ℕ CentreRefusal → Option ℕ
kept_after_next kept (Ok n) = kept
kept_after_next kept (Err (Exhausted w)) = Some w
kept_after_next kept (Err (Withheld n stop)) = kept
kept_after_next kept (Err (Beyond seen seq_ms)) = kept

-- ---- a resynchronisation

-- the answer to a resynchronisation: the verdict on the number that stood. If the subscriber is spent, that is the word
-- that is kept, and no SEQ moves it
abbrev pub AnswersResync : Option ℕ → ℕ → Result Resynced CentreRefusal → Type 0
AnswersResync kept seq_ms (Ok (Moved seen seq)) = (kept ≡ None) × (resynchronise_of seen seq_ms ≡ moved_to seen seq)
AnswersResync kept seq_ms (Ok (InRange seen seq)) = IsWordKept kept seen × (resynchronise_of seen seq_ms ≡ in_range seen seq)
AnswersResync kept seq_ms (Err (Exhausted w)) = ⊥
AnswersResync kept seq_ms (Err (Withheld n stop)) = ⊥
AnswersResync kept seq_ms (Err (Beyond seen seq)) = IsWordKept kept seen × (resynchronise_of seen seq_ms ≡ beyond seen seq)

-- the entries of a resynchronisation: the number moved, or was looked at
abbrev pub entries_of_resync : Option ℕ → Result Resynced CentreRefusal → List Entry
entries_of_resync kept (Ok (Moved seen seq)) = moved seen seq ∷ []
entries_of_resync kept (Ok (InRange seen seq)) = unless_spent kept (Look seen ∷ [])
entries_of_resync kept (Err (Exhausted w)) = []
entries_of_resync kept (Err (Withheld n stop)) = []
entries_of_resync kept (Err (Beyond seen seq)) = unless_spent kept (Look seen ∷ [])
