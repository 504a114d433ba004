-- Inner facts: what only private contracts of this crate cite. Here: what the lines of a round add, and what stands after them.
use Rattle.std.specs.Prelude.{◌≡◌, ℕ, ◌≤◌, Bool, true, false, List, [], ◌∷◌, ◌++◌, Option, Some, None, slice_get}
use Rattle.auc_memory.specs.declared.stop.Stop.{Stop}
use Rattle.auc_history.specs.declared.entry.Entry.{Entry}
use Rattle.auc_lines.specs.declared.part.Line.{Line}
use Rattle.auc_lines.specs.declared.part.Report.{Report}
use Rattle.auc_subs.specs.declared.row.Row.{Row}
use Rattle.auc_vector.specs.declared.auts.Auts.{Auts}
use Rattle.auc_vector.specs.declared.auts.Auts.TheVariants as read
use Rattle.auc_vector.specs.declared.notes.ResyncNote.{ResyncNote}
use Rattle.auc_vector.specs.declared.notes.ResyncNote.TheVariants as resync
use Rattle.auc_record.specs.Entries.{is_reported, entries_of_line, entries_of_lines}
use Rattle.auc_world.specs.Given.{Before, EventGives, IsGiven, is_released, packet_of, past_before, GiveGives, JobGives, said_by}
use Rattle.auc_record.specs.Draws.{IsReleasable, OneGives}
use Rattle.auc_world.specs.Net.{Net}
use Rattle.auc_subs.specs.Setting.{Setting}
use Rattle.auc_record.specs.Lines.{held_by, held_of, accepted}
use Rattle.auc_usim.specs.Usim.{Memory}
use Rattle.auc_record.specs.declared.event.Event.{Event as EventOf}
use Rattle.auc_record.specs.declared.record.GiveVerdict.{GiveVerdict}
use Rattle.auc_record.specs.declared.record.LineRecord.{LineRecord}
use Rattle.auc_record.specs.declared.record.LineRecord.TheVariants.{Number, Give}
use Rattle.auc_vector.specs.declared.notes.NumberNote.{NumberNote}
use Rattle.auc_vector.specs.declared.notes.NumberNote.TheVariants as number
use Rattle.auc_record.specs.Released.{Released, AreReleased}
use Rattle.auc_jobs.specs.Numbers.{AreNumbers}
use Rattle.auc_jobs.specs.Usims.{AreBehind}

-- ---- the calls of the centre

-- some lines of the round report the word that the centre keeps of a subscriber, or no word if it keeps none
abbrev pub IsTold : ℕ → Option ℕ → List LineRecord → Type 0
IsTold sub None lines = (word : ℕ) → is_reported sub word lines ≡ false
IsTold sub (Some kept) lines = is_reported sub kept lines ≡ true

-- the same of each subscriber
abbrev pub AreTold : (ℕ → Option ℕ) → List LineRecord → Type 0
AreTold kept lines = (sub : ℕ) → IsTold sub (kept sub) lines

-- the calls after some lines made the entries that a further line stands for, and the word that the centre keeps then is
-- reported.
-- `goes` says which entries the calls made of a subscriber, and its withheld numbers, each with its cause
pub record Says (goes : ℕ → List Entry → List (ℕ × Stop) → Type 0) (kept : ℕ → Option ℕ) (before : List LineRecord) (line : LineRecord) : Type 0 where
  pub made : (sub : ℕ) → goes sub (entries_of_line sub before line) (held_by sub line)
  pub told : AreTold kept (before ++ line ∷ [])

-- the same of further lines
pub record Say (goes : ℕ → List Entry → List (ℕ × Stop) → Type 0) (kept : ℕ → Option ℕ) (before lines : List LineRecord) : Type 0 where
  pub made : (sub : ℕ) → goes sub (entries_of_lines sub before lines) (held_of sub lines)
  pub told : AreTold kept (before ++ lines)

-- ---- a number that was asked for

-- the number that was drawn and released
abbrev pub number_drawn : NumberNote → Option ℕ
number_drawn (number.Drew n) = Some n
number_drawn (number.Exhausted word) = None
number_drawn (number.Withheld n stop) = None

-- what a request for a vector of a subscriber adds: the vector of a number, or what ends the request
abbrev pub IsNext : Setting → ℕ → Option ℕ → List LineRecord → Type 0
IsNext set sub None lines = OneGives set sub (λ n rest. ⊥) lines
IsNext set sub (Some n) lines = (lines ≡ Number sub (number.Drew n) ∷ []) × IsReleasable set sub n

-- ---- a resynchronisation

-- what the AUTS of a report says of a subscriber
pub record IsReported (set : Setting) (sub : ℕ) (report : Report) (auts : Auts) : Type 0 where
  pub row : Row
  pub there : slice_get set.rows sub ≡ Some row
  pub read : auts ≡ said_by set row sub report

-- a SEQ that was read is at most a subscriber's greatest number
abbrev pub IsSeqWithin : ℕ → Auts → Type 0
IsSeqWithin top (read.SeqMs seq_ms) = seq_ms ≤ top
IsSeqWithin top read.WrongMac = Unit {0}

-- whether vectors follow a resynchronisation
abbrev pub is_accepted_next : ResyncNote → Bool
is_accepted_next (resync.Moved from to) = true
is_accepted_next (resync.InRange seen seq_ms) = true
is_accepted_next (resync.Beyond seen seq_ms) = false
is_accepted_next resync.BadAuts = false

-- ---- what holds, and what is added

-- what holds after the lines before a line: the words that the centre keeps are reported, the released numbers are those of
-- the earlier rounds, each is at most its subscriber's greatest number, as is each that the job released, and each USIM
-- remembers what all lines say that it accepted
pub record JobStands (rows : List Row) (before : Before) (kept : ℕ → Option ℕ) (released : Released) (usims : ℕ → Option Memory) : Type 0 where
  pub told : AreTold kept (before.beside ++ before.own)
  pub earlier : AreReleased released before.early
  pub numbers : AreNumbers rows before.early × AreNumbers rows before.own
  pub pasts : AreBehind rows (before.early ++ before.beside ++ before.own) usims

-- a request added lines that it gives to those of a job
pub record AddsLines (goes : ℕ → List Entry → List (ℕ × Stop) → Type 0) (rows : List Row) (kept : ℕ → Option ℕ) (beside old new : List LineRecord) (Gives : List LineRecord → Type 0) : Type 0 where
  pub lines : List LineRecord
  pub added : new ≡ old ++ lines
  pub given : Gives lines
  pub said : Say goes kept (beside ++ old) lines
  pub quiet : (bits sub : ℕ) → accepted bits sub lines ≡ []
  pub numbers : AreNumbers rows lines

-- the lines before a line of a job, which has had some lines
abbrev pub before_at : List LineRecord → List LineRecord → List LineRecord → Before
before_at early beside own = record { early = early; beside = beside; own = own }

-- what a line of a job added, and what holds after it
pub record ServesLine (goes : ℕ → List Entry → List (ℕ × Stop) → Type 0) (rows : List Row) (before : Before) (kept : ℕ → Option ℕ) (released : Released) (usims : ℕ → Option Memory)
    (Gives : List LineRecord → Type 0) (new : List LineRecord) : Type 0 where
  pub lines : List LineRecord
  pub added : new ≡ before.own ++ lines
  pub given : Gives lines
  pub made : (sub : ℕ) → goes sub (entries_of_lines sub (before.beside ++ before.own) lines) (held_of sub lines)
  pub stands : JobStands rows (before_at before.early before.beside new) kept released usims

-- what the lines of a job gave in its network, after earlier rounds and the worker's earlier lines
pub record ServesLines (goes : ℕ → List Entry → List (ℕ × Stop) → Type 0) (set : Setting) (early beside : List LineRecord) (kept : ℕ → Option ℕ) (released : Released) (usims : ℕ → Option Memory)
    (net : Net) (job : List Line) (lines : List LineRecord) (last : Net) : Type 0 where
  pub given : JobGives set (before_at early beside []) net job lines last
  pub made : (sub : ℕ) → goes sub (entries_of_lines sub beside lines) (held_of sub lines)
  pub stands : JobStands set.rows (before_at early beside lines) kept released usims

-- ---- an event

-- an event added a line, and made this packet or none
pub record Happens (set : Setting) (before : Before) (net : Net) (e : EventOf) (packet : Option ℕ) (lines : List LineRecord) (next : Net) : Type 0 where
  pub line : LineRecord
  pub is : lines ≡ line ∷ []
  pub given : EventGives set before net e (line ∷ []) next
  pub makes : packet_of line ≡ packet

-- ---- a presented vector

-- what a USIM answers to the vector of a number, if the centre has released it, and the USIMs after the line
pub record IsAnswered (rows : List Row) (before : Before) (sub n : ℕ) (answer : GiveVerdict) (usims : ℕ → Option Memory) : Type 0 where
  pub given : (row : Row) → slice_get rows sub ≡ Some row → IsGiven row (is_released before sub n) (past_before before row sub) n answer
  pub behind : AreBehind rows (before.early ++ before.beside ++ before.own ++ Give sub n answer ∷ []) usims

-- what presenting the vector of a number gives, if this is the verdict
pub record GivesVerdict (set : Setting) (before : Before) (sub n : ℕ) (verdict : GiveVerdict) (lines : List LineRecord) : Type 0 where
  pub gives : GiveGives set before sub n lines
  pub is : gives.answer ≡ verdict

-- what the line of a presented vector adds
pub record AddsGive (set : Setting) (before : Before) (sub n : ℕ) (verdict : GiveVerdict) (usims : ℕ → Option Memory) (new : List LineRecord) : Type 0 where
  pub added : new ≡ before.own ++ Give sub n verdict ∷ []
  pub given : GivesVerdict set before sub n verdict (Give sub n verdict ∷ [])
  pub behind : AreBehind set.rows (before.early ++ before.beside ++ new) usims
