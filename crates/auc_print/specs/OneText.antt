-- A text tells what is told of its transcript.
use Rattle.std.specs.Prelude.{ℕ, ◌≡◌, ◌≢◌, Bool, List, [], ◌∷◌, length, Option, Some, None, Result, Ok, Err, All, AllPairs}
use Rattle.hex.specs.Hex.{IsBytes}
use Rattle.auc_memory.specs.Identity.{Identity, IsIdentity}
use Rattle.auc_vector.specs.declared.notes.UsimNote.{UsimNote}
use Rattle.auc_vector.specs.declared.notes.UsimNote.TheVariants as usim
use Rattle.auc_record.specs.Record.{PartNamesBelow}
use Rattle.auc_subs.specs.Setting.{Setting}
use Rattle.auc_record.specs.Told.{told}
use Rattle.auc_record.specs.declared.event.Event.{Event}
use Rattle.auc_record.specs.declared.event.Event.TheVariants as event
use Rattle.auc_record.specs.declared.event.Note.{Note}
use Rattle.auc_record.specs.declared.event.WorldRefusal.{WorldRefusal}
use Rattle.auc_record.specs.declared.further.Further.{Further}
use Rattle.auc_record.specs.declared.further.Further.TheVariants as further
use Rattle.auc_record.specs.declared.record.LineRecord.{LineRecord}
use Rattle.auc_record.specs.declared.record.LineRecord.TheVariants as record_of
use Rattle.auc_record.specs.declared.record.GiveVerdict.{GiveVerdict}
use Rattle.auc_record.specs.declared.record.GiveVerdict.TheVariants.{Accepted, Sync as SyncFailure, Absent}
use Rattle.auc_record.specs.declared.record.PartRecord.{PartRecord}
use Rattle.auc_record.specs.declared.record.PartRecord.TheVariants.{Round, Restart}
use Rattle.auc_record.specs.declared.record.RoundRecord.{RoundRecord}
use Rattle.auc_record.specs.Ends.{AreAtTheirEnds}
use Rattle.auc_print.specs.Text.{identities_of, transcript_text}

-- valid identities, no two of which are the same
pub record AreIdentities (identities : List Identity) : Type 0 where
  pub each : All (λ identity. IsIdentity identity.digits identity.number) identities
  pub differ : AllPairs ◌≢◌ identities

-- ---- the SQNs in the answers of USIMs, the keys and halves that are printed, and what the network puts into a packet consist of
-- bytes

abbrev pub GiveFits : GiveVerdict → Type 0
GiveFits Accepted = Unit {0}
GiveFits (SyncFailure sqn_ms) = IsBytes sqn_ms
GiveFits Absent = Unit {0}

abbrev pub UsimFits : Option UsimNote → Type 0
UsimFits None = Unit {0}
UsimFits (Some (usim.Accepted sqn)) = IsBytes sqn
UsimFits (Some (usim.Sync sqn_ms)) = IsBytes sqn_ms
UsimFits (Some usim.WrongMac) = Unit {0}

abbrev pub EventFits : Event → Type 0
EventFits (event.Open opening) = Unit {0}
EventFits (event.Start session) = Unit {0}
EventFits (event.Deliver session at' packet) = Unit {0}
EventFits (event.Repeat session) = Unit {0}
EventFits (event.GiveUp session at') = Unit {0}
EventFits (event.Tamper packet place byte) = IsBytes (byte ∷ [])
EventFits (event.Cut packet count) = Unit {0}

abbrev pub CameFits : Result Note WorldRefusal → Type 0
CameFits (Ok note) = UsimFits note.notes.usim
CameFits (Err why) = Unit {0}

abbrev pub FurtherFits : Further → Type 0
FurtherFits (further.Kasme key) = IsBytes key
FurtherFits (further.HxresStar half) = IsBytes half
FurtherFits (further.Fiveg sub outcome) = Unit {0}
FurtherFits (further.Sites sub note) = Unit {0}
FurtherFits (further.Sim sub note) = Unit {0}

-- those of a job's record, if it has any
abbrev pub AnswerFits : LineRecord → Type 0
AnswerFits (record_of.Number sub note) = Unit {0}
AnswerFits (record_of.Sync sub note) = Unit {0}
AnswerFits (record_of.Give sub n verdict) = GiveFits verdict
AnswerFits (record_of.Further said) = FurtherFits said
AnswerFits (record_of.Event r) = EventFits r.event × CameFits r.result

abbrev pub RoundFits : RoundRecord → Type 0
RoundFits round = All (All AnswerFits) round.jobs

-- those of a part; a restart has none
abbrev pub PartFits : PartRecord → Type 0
PartFits (Round round) = RoundFits round
PartFits Restart = Unit {0}

-- each subscriber that the parts name is one of the first `count` subscribers, and each SQN, K_ASME, HXRES* and changed byte in
-- them consists of bytes
pub record IsPrintable (count : ℕ) (records : List PartRecord) : Type 0 where
  pub named : All (PartNamesBelow count) records
  pub fit : All PartFits records

-- ---- the law

-- a printable transcript and another one with the same text tell the same
abbrev pub OneTranscript : Type 0
OneTranscript = (set : Setting) (full : Bool) (records others : List PartRecord) → AreIdentities (identities_of set.rows)
    → IsPrintable (length set.rows) records → AreAtTheirEnds records → AreAtTheirEnds others
    → transcript_text set full records ≡ transcript_text set full others → told records ≡ told others
