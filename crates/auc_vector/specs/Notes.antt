-- What the notes of a turn say of the centre: which of its answers they stand for, which entries of the subscriber's
-- history it made, and which word is kept after it.
use Rattle.std.specs.Prelude.{◌≡◌, ◌≢◌, ℕ, List, [], ◌++◌, Option, Some, None, Result, Ok, Err}
use Rattle.auc_memory.specs.declared.stop.Stop.{Stop}
use Rattle.auc_history.specs.declared.entry.Entry.{Entry}
use Rattle.auc_vector.specs.declared.centre.Resynced.TheVariants as resynced
use Rattle.auc_vector.specs.declared.centre.CentreRefusal.{CentreRefusal}
use Rattle.auc_vector.specs.declared.centre.CentreRefusal.TheVariants as refusal
use Rattle.auc_vector.specs.declared.notes.Notes.{Notes}
use Rattle.auc_vector.specs.declared.notes.NumberNote.{NumberNote}
use Rattle.auc_vector.specs.declared.notes.NumberNote.TheVariants as number
use Rattle.auc_vector.specs.declared.notes.ResyncNote.{ResyncNote}
use Rattle.auc_vector.specs.declared.notes.ResyncNote.TheVariants as resync
use Rattle.auc_vector.specs.Centre.{AnswersNext, AnswersResync, entries_of_next, withheld_of_next, kept_after_next, entries_of_resync}

-- ---- a number that was asked for

-- the centre's answer that a note stands for
abbrev pub answer_noted : NumberNote → Result ℕ CentreRefusal
answer_noted (number.Drew n) = Ok n
answer_noted (number.Exhausted w) = Err (refusal.Exhausted w)
answer_noted (number.Withheld n stop) = Err (refusal.Withheld n stop)

-- it is an answer to a draw, by the subscriber's greatest number and the word that is kept
abbrev pub AnswersNote : ℕ → Option ℕ → NumberNote → Type 0
AnswersNote top kept note = AnswersNext top kept (answer_noted note)

-- if a number was asked for, the note is an answer
abbrev pub AnswersNumber : ℕ → Option ℕ → Option NumberNote → Type 0
AnswersNumber top kept None = Unit {0}
AnswersNumber top kept (Some note) = AnswersNote top kept note

-- the entries that were made; without a note none
abbrev pub entries_noted : Option ℕ → Option NumberNote → List Entry
entries_noted kept None = []
entries_noted kept (Some note) = entries_of_next kept (answer_noted note)

-- the number that was withheld, with its cause
abbrev pub withheld_noted : Option NumberNote → List (ℕ × Stop)
withheld_noted None = []
withheld_noted (Some note) = withheld_of_next (answer_noted note)

-- the word that is kept afterwards; without a note the one before
abbrev pub kept_noted : Option ℕ → Option NumberNote → Option ℕ
kept_noted kept None = kept
kept_noted kept (Some note) = kept_after_next kept (answer_noted note)

-- ---- a SEQ that was reported

-- the note of a resynchronisation is an answer to the SEQ that was reported, and comes exactly if one was; AUTS whose
-- MAC-S isn't right reports none
abbrev pub AnswersReport : Option ℕ → Option ℕ → Option ResyncNote → Type 0
AnswersReport kept None None = Unit {0}
AnswersReport kept None (Some resync.BadAuts) = Unit {0}
AnswersReport kept None (Some _) = ⊥
AnswersReport kept (Some seq_ms) (Some (resync.Moved seen seq)) = AnswersResync kept seq_ms (Ok (resynced.Moved seen seq))
AnswersReport kept (Some seq_ms) (Some (resync.InRange seen seq)) = AnswersResync kept seq_ms (Ok (resynced.InRange seen seq))
AnswersReport kept (Some seq_ms) (Some (resync.Beyond seen seq)) = AnswersResync kept seq_ms (Err (refusal.Beyond seen seq))
AnswersReport kept (Some seq_ms) (Some resync.BadAuts) = ⊥
AnswersReport kept (Some seq_ms) None = ⊥

-- the entries that were made; without a report none
abbrev pub entries_resynced : Option ℕ → Option ResyncNote → List Entry
entries_resynced kept None = []
entries_resynced kept (Some (resync.Moved seen seq)) = entries_of_resync kept (Ok (resynced.Moved seen seq))
entries_resynced kept (Some (resync.InRange seen seq)) = entries_of_resync kept (Ok (resynced.InRange seen seq))
entries_resynced kept (Some (resync.Beyond seen seq)) = entries_of_resync kept (Err (refusal.Beyond seen seq))
entries_resynced kept (Some resync.BadAuts) = []

-- ---- a turn

-- what a turn asks the centre for: a subscriber, and the SEQ that its USIM reported, if one did
pub record Asking : Type 0 where
  pub sub : ℕ
  pub reported : Option ℕ

-- the centre answered what a turn asked for, as its notes say; its entries, for this subscriber alone, are those of
-- the resynchronisation and then those of the number, and a draw that it refused is kept. `goes`, `kept` and `top` are
-- those of the centre
pub record AskedOf {S : Type 0} (goes : S → ℕ → List Entry → List (ℕ × Stop) → S → Type 0) (kept : S → ℕ → Option ℕ) (top : S → ℕ → ℕ) (asking : Asking) (notes : Notes) (old new : S) : Type 0 where
  pub own : goes old asking.sub (entries_resynced (kept old asking.sub) notes.resync ++ entries_noted (kept old asking.sub) notes.number) (withheld_noted notes.number) new
  pub others : (i : ℕ) → i ≢ asking.sub → goes old i [] [] new
  pub resynced : AnswersReport (kept old asking.sub) asking.reported notes.resync
  pub number : AnswersNumber (top old asking.sub) (kept old asking.sub) notes.number
  pub keeps : kept new asking.sub ≡ kept_noted (kept old asking.sub) notes.number
  pub still : (i : ℕ) → i ≢ asking.sub → kept new i ≡ kept old i

-- a turn that asks for nothing leaves no entry, and each word as it was
abbrev pub AskedCentre : {S : Type 0} → (S → ℕ → List Entry → List (ℕ × Stop) → S → Type 0) → (S → ℕ → Option ℕ) → (S → ℕ → ℕ) → Option Asking → Notes → S → S → Type 0
AskedCentre goes kept top None notes old new = ((i : ℕ) → goes old i [] [] new) × ((i : ℕ) → kept new i ≡ kept old i)
AskedCentre goes kept top (Some asking) notes old new = AskedOf goes kept top asking notes old new
