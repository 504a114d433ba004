-- The journal as it is found and opened for the subscribers of a run.
use Rattle.std.specs.Prelude.{◌≡◌, ℕ, List, map, Option, Some, Ok, Err, false}
use Rattle.auc_journal.specs.Durable.{IsDurable}
use Rattle.auc_journal.specs.Image.{Frame, read_image, reserved_in}
use Rattle.auc_journal.specs.Journal.{JournalState, limits_of}
use Rattle.auc_journal.specs.Opening.{LeavesOpening}
use Rattle.auc_refusal.specs.declared.refusal.Refusal.{Refusal}
use Rattle.auc_subs.specs.declared.row.Row.{Row}
use Rattle.auc_refusal.specs.declared.refusal.Refusal.TheVariants as refused

-- the limits of subscribers by some frames, in the order of their rows; 0 if there is none
abbrev pub limits_in : List Row → List Frame → List ℕ
limits_in rows frames = map (λ imsi. reserved_in frames imsi) (map (λ row. row.imsi) rows)

-- the bytes of a journal are read as these frames, if the disk reveals the bytes
abbrev pub IsFound : Option (List ℕ) → List Frame → Type 0
IsFound seen frames = (file : List ℕ) → seen ≡ Some file → (end : ℕ) × (read_image file ≡ Ok (record { frames = frames; end = end }))

-- they are no journal, which this place shows, if the disk reveals them
abbrev pub IsNoJournal : Option (List ℕ) → ℕ → Type 0
IsNoJournal seen place = (file : List ℕ) → seen ≡ Some file → read_image file ≡ Err place

-- what a run begins with: the journal of a disk, opened for some subscribers
pub record Begins {D : Type 0} (seen : D → Option (List ℕ)) (may_leave : D → List ℕ → Type 0) (moment : D → ℕ) (left_since : D → ℕ → List ℕ → Type 0) (faults : D → ℕ) (rows : List Row) (from : D) (journal : JournalState D) : Type 0 where
  pub found : List Frame
  pub is_found : IsFound (seen from) found
  pub subscribers : journal.imsis ≡ map (λ row. row.imsi) rows
  pub all : journal.all ≡ journal.imsis
  pub limits : limits_of journal ≡ limits_in rows found
  pub ready : journal.failed ≡ false
  pub durable : IsDurable seen may_leave from (λ imsi. reserved_in journal.limits imsi) journal
  pub quiet : faults journal.disk ≡ faults from
  pub always : LeavesOpening seen may_leave moment left_since from journal.disk

-- why a journal isn't opened
abbrev pub JournalStops : Option (List ℕ) → Refusal → Type 0
JournalStops seen refused.StoreFault = Unit {0}
JournalStops seen (refused.NotJournal place) = IsNoJournal seen place
JournalStops seen refused.NoMemory = Unit {0}
JournalStops seen _ = ⊥
