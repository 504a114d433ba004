-- The forms that tell the journal: `reserved`, a line for each of its limits, and `compact`, the bytes of a journal that has the
-- same limits, each identity once.
use Rattle.std.specs.Prelude.{◌≡◌, ◌≤◌, ◌<◌, ◌+◌, ◌*◌, ◌^◌, ◌⊎◌, ℕ, List, length, Option, Some}
use Rattle.auc_compact.specs.Compact.{IsAnew, compact_image}
use Rattle.auc_edge.specs.Sink.{Appends, AppendsFront}
use Rattle.auc_forms.specs.Reserved.{IsReservedText}
use Rattle.auc_journal.specs.Image.{Frame}
use Rattle.auc_journal.specs.Limits.{AreLimits}
use Rattle.auc_input.specs.Opening.{IsFound, IsNoJournal}
use Rattle.auc_refusal.specs.Refusal.{line_of}
use Rattle.auc_input.specs.declared.forms.JournalForm.{JournalForm}
use Rattle.auc_input.specs.declared.forms.JournalForm.TheVariants.{Reserved, Compact}
use Rattle.auc_refusal.specs.declared.refusal.Refusal.TheVariants as refused
use Rattle.auc_refusal.specs.declared.status.Status.{Status}
use Rattle.auc_refusal.specs.declared.status.Status.TheVariants.{Done, WriteFault, StoreFault, NotJournal, TooLong, NoMemory}
use Rattle.auc_input.specs.Words.{journal_named}

-- ---- what is told

-- a text is the lines of the limits of the journal that was found
abbrev pub AreLimitLines : Option (List ℕ) → List ℕ → Type 0
AreLimitLines seen text = (found : List Frame) × IsFound seen found × IsReservedText found text

-- a text is the bytes of a journal with the limits of the one that was found: the header, each identity in a frame of its own, and
-- a closed gate
pub record IsJournalAnew (seen : Option (List ℕ)) (text : List ℕ) : Type 0 where
  pub found : List Frame
  pub is_found : IsFound seen found
  pub limits : List Frame
  pub are : AreLimits limits found
  pub bytes : text ≡ compact_image limits
  pub fits : 17 + 19 * length limits ≤ 2 ^ 30
  -- if the disk revealed the file, the text is read as a journal at rest with these limits, and reserves for every identity
  -- exactly what the file does
  pub anew : (file : List ℕ) → seen ≡ Some file → IsAnew file limits text

-- a text is what a form tells of the journal that was found
abbrev pub TellsJournal : JournalForm → Option (List ℕ) → List ℕ → Type 0
TellsJournal Reserved seen text = AreLimitLines seen text
TellsJournal Compact seen text = IsJournalAnew seen text

-- the bytes of a journal with the limits of the one that was found would be more than a journal may have
pub record IsLongAnew (seen : Option (List ℕ)) : Type 0 where
  pub found : List Frame
  pub is_found : IsFound seen found
  pub limits : List Frame
  pub are : AreLimits limits found
  pub long : 2 ^ 30 < 17 + 19 * length limits

-- what a form tells of the journal that was found is too long; the lines of limits never are
abbrev pub IsLongTold : JournalForm → Option (List ℕ) → Type 0
IsLongTold Reserved seen = ⊥
IsLongTold Compact seen = IsLongAnew seen

-- ---- how such a run ends

-- the words have one of the two forms, and what it tells was written
pub record PrintsJournal (words : List (List ℕ)) (seen : Option (List ℕ)) (old new : Option (List ℕ)) : Type 0 where
  pub form : JournalForm
  pub named : journal_named words ≡ Some form
  pub text : List ℕ
  pub tells : TellsJournal form seen text
  pub written : Appends old new text

-- the words have one of the two forms, and what it tells is too long; nothing was written
pub record IsTooLong (words : List (List ℕ)) (seen : Option (List ℕ)) (status : Status) (old new : Option (List ℕ)) : Type 0 where
  pub form : JournalForm
  pub named : journal_named words ≡ Some form
  pub is_status : status ≡ TooLong
  pub long : IsLongTold form seen
  pub same : new ≡ old

-- how a run of such a form ends, and what was written then: what it tells, or some first bytes of that if the output failed; or, if
-- the file is no journal, the line that says so, or some first bytes of it; or nothing if the disk failed, what is told is too
-- long, or memory ran out
abbrev pub EndsTelling : JournalForm → Option (List ℕ) → Status → Option (List ℕ) → Option (List ℕ) → Type 0
EndsTelling form seen Done old new = (text : List ℕ) × TellsJournal form seen text × Appends old new text
EndsTelling form seen WriteFault old new = ((text : List ℕ) × TellsJournal form seen text × AppendsFront old new text)
    ⊎ ((place : ℕ) × IsNoJournal seen place × AppendsFront old new (line_of (refused.NotJournal place)))
EndsTelling form seen NotJournal old new = (place : ℕ) × IsNoJournal seen place × Appends old new (line_of (refused.NotJournal place))
EndsTelling form seen StoreFault old new = new ≡ old
EndsTelling form seen TooLong old new = IsLongTold form seen × (new ≡ old)
EndsTelling form seen NoMemory old new = new ≡ old
EndsTelling form seen _ old new = ⊥

-- how it may end if what is told is too long
abbrev pub MayBeLong : Status → Type 0
MayBeLong status = (status ≡ TooLong) ⊎ (status ≡ StoreFault) ⊎ (status ≡ NoMemory)
