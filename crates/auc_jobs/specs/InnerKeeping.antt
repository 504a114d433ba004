-- Inner facts: what only private contracts of this crate cite. Here: the keeper of a round, from its journal to the journal
-- after it.
use Rattle.std.specs.Prelude.{◌≡◌, ◌≢◌, ◌↔◌, ℕ, ◌+◌, ◌<◌, ◌^◌, All, AllPairs, Bool, false, true, List, Option, Some, None, if◌then◌else◌}
use Rattle.std.specs.List.{list_any}
use Rattle.atomic_table.specs.Seated.{TableId}
use Rattle.auc_draw.specs.Values.{KeeperValue}
use Rattle.auc_memory.specs.Faults.{Rose}
use Rattle.auc_memory.specs.Identity.{Identity}
use Rattle.auc_memory.specs.declared.stop.Stop.{Stop}
use Rattle.auc_memory.specs.declared.stop.Stop.TheVariants.{Fault, Full}
use Rattle.auc_journal.specs.Durable.{IsDurable, IsTold}
use Rattle.auc_journal.specs.Image.{reserved_in}
use Rattle.auc_journal.specs.Journal.{JournalState, limits_of}
use Rattle.auc_journal.specs.Settled.{LeavesOnly}
use Rattle.auc_keeper.specs.Keeper.{IsAbove, IsLeft}
use Rattle.auc_vector.specs.declared.notes.NumberNote.{NumberNote}
use Rattle.auc_vector.specs.declared.notes.NumberNote.TheVariants as number
use Rattle.auc_record.specs.Lines.{number_said}
use Rattle.auc_record.specs.declared.record.LineRecord.{LineRecord}

-- a keeper can begin a round: its pass is of the round's table, and the limits of its pass are the journal's
pub record CanKeep {D : Type 0} (table : TableId) (passes : ℕ) (opening : Option (JournalState D)) (journal : JournalState D) (pass : KeeperValue) : Type 0 where
  pub own : pass.id ≡ table
  pub all : pass.passes ≡ passes
  pub begun : opening ≡ Some journal
  -- the journal takes appends, and each of its subscribers has an identity of its own
  pub ready : journal.failed ≡ false
  pub differ : AllPairs (λ a b. a ≢ b) journal.imsis
  pub limits : pass.limits ≡ limits_of journal
  pub running : pass.stop ≡ None

-- what a stop says of the journals before and after it
pub record TellsStop {D : Type 0} (faults : D → ℕ) (journal : JournalState D) (stop : Option Stop) (after : JournalState D) : Type 0 where
  pub ready : (after.failed ≡ true) ↔ (stop ≡ Some Fault)
  pub fault : stop ≡ Some Fault → Rose (faults journal.disk) (faults after.disk)
  pub quiet : stop ≢ Some Fault → faults after.disk ≡ faults journal.disk
  pub full : stop ≡ Some Full → 2 ^ 30 < after.place + 20

-- the limits of all other identities stand, and a crash leaves no limit above that of before and a step above the word, now and at
-- any moment since the round began
pub record StaysNear {D : Type 0} (seen : D → Option (List ℕ)) (may_leave : D → List ℕ → Type 0) (moment : D → ℕ) (left_since : D → ℕ → List ℕ → Type 0) (journal : JournalState D) (words : List ℕ) (after : JournalState D) : Type 0 where
  pub others : (imsi : Identity) → All (λ own. own ≢ imsi) journal.imsis → reserved_in after.limits imsi ≡ reserved_in journal.limits imsi
  pub durable : (from : D) (most more : Identity → ℕ) → IsAbove journal.imsis words most more → IsDurable seen may_leave from most journal → IsDurable seen may_leave from more after
  pub always : (from : D) (most more : Identity → ℕ) → IsAbove journal.imsis words most more → IsDurable seen may_leave from most journal → (told : IsTold seen may_leave from)
      → LeavesOnly moment left_since journal.disk after.disk (IsLeft told.0 journal more)

-- whether a note says that a number was withheld
abbrev pub is_withheld : Option NumberNote → Bool
is_withheld None = false
is_withheld (Some (number.Drew n)) = false
is_withheld (Some (number.Exhausted word)) = false
is_withheld (Some (number.Withheld n stop)) = true

-- whether a line does
abbrev pub withholds : LineRecord → Bool
withholds line = is_withheld (number_said line)

-- why reservations ended in a round whose keeper stopped so, as its lines tell it: that the journal is full is told only if
-- a number was withheld
abbrev pub told_stop : Option Stop → List (List LineRecord) → Option Stop
told_stop None records = None
told_stop (Some Fault) records = Some Fault
told_stop (Some Full) records = if list_any (list_any withholds) records then Some Full else None
