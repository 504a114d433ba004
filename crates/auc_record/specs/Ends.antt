-- The ends that events concern, and the steps of these ends.
use Rattle.std.specs.Prelude.{List, Option, Some, None, Result, Ok, Err, All}
use Rattle.auc_lines.specs.declared.part.End.{End}
use Rattle.auc_lines.specs.declared.part.End.TheVariants as end
use Rattle.auc_record.specs.declared.event.Event.{Event}
use Rattle.auc_record.specs.declared.event.Event.TheVariants as event
use Rattle.auc_record.specs.declared.event.Note.{Note}
use Rattle.auc_record.specs.declared.event.NoteStep.{NoteStep}
use Rattle.auc_record.specs.declared.event.NoteStep.TheVariants as did
use Rattle.auc_record.specs.declared.event.WorldRefusal.{WorldRefusal}
use Rattle.auc_record.specs.declared.record.LineRecord.{LineRecord}
use Rattle.auc_record.specs.declared.record.LineRecord.TheVariants as record_of
use Rattle.auc_record.specs.declared.record.PartRecord.{PartRecord}
use Rattle.auc_record.specs.declared.record.PartRecord.TheVariants.{Round, Restart}

-- the end that an event concerns; a session is opened, and a packet is changed, at no end
abbrev pub end_of : Event → Option End
end_of (event.Open opening) = None
end_of (event.Start session) = Some end.Server
end_of (event.Deliver session at' packet) = Some at'
end_of (event.Repeat session) = Some end.Server
end_of (event.GiveUp session at') = Some at'
end_of (event.Tamper packet place byte) = None
end_of (event.Cut packet count) = None

-- a step is one of this end
abbrev pub IsStepAt : Option End → NoteStep → Type 0
IsStepAt None did.Opened = Unit {0}
IsStepAt None (did.Made bytes) = Unit {0}
IsStepAt (Some end.Server) (did.Server what) = Unit {0}
IsStepAt (Some end.Peer) (did.Peer what) = Unit {0}
IsStepAt _ _ = ⊥

abbrev pub CameAt : Option End → Result Note WorldRefusal → Type 0
CameAt at' (Ok note) = IsStepAt at' note.step
CameAt at' (Err why) = Unit {0}

-- what came of a record's event is a step of the end that the event concerns
abbrev pub IsAtItsEnd : LineRecord → Type 0
IsAtItsEnd (record_of.Number sub note) = Unit {0}
IsAtItsEnd (record_of.Sync sub note) = Unit {0}
IsAtItsEnd (record_of.Give sub n verdict) = Unit {0}
IsAtItsEnd (record_of.Further said) = Unit {0}
IsAtItsEnd (record_of.Event r) = CameAt (end_of r.event) r.result

-- the same of a part's records
abbrev pub PartIsAtItsEnds : PartRecord → Type 0
PartIsAtItsEnds (Round round) = All (All IsAtItsEnd) round.jobs
PartIsAtItsEnds Restart = Unit {0}

abbrev pub AreAtTheirEnds : List PartRecord → Type 0
AreAtTheirEnds records = All PartIsAtItsEnds records
