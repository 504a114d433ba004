-- What the text of a transcript tells of its records. It leaves out what follows from the scenario and from the other lines:
-- the subscribers of events, the options of sessions, and the bytes, vectors and keys of a full print.
use Rattle.std.specs.Prelude.{ℕ, false, List, [], map, None, Ok, Err}
use Rattle.auc_hmac.specs.declared.keys.KeySet.{KeySet}
use Rattle.auc_hmac.specs.declared.method.Method.TheVariants as method
use Rattle.auc_lines.specs.declared.part.Identity.TheVariants as identity
use Rattle.auc_lines.specs.declared.part.SessionLine.{SessionLine}
use Rattle.auc_vector.specs.declared.sim_note.SimBecame.{SimBecame}
use Rattle.auc_vector.specs.declared.sim_note.SimBecame.TheVariants as became
use Rattle.auc_vector.specs.declared.sim_note.SimNote.{SimNote}
use Rattle.auc_vector.specs.declared.sim_note.SimNote.TheVariants as said
use Rattle.auc_vector.specs.declared.turn.Outcome.{Outcome}
use Rattle.auc_vector.specs.declared.turn.Outcome.TheVariants as outcome
use Rattle.auc_vector.specs.declared.turn.Step.{Step}
use Rattle.auc_vector.specs.declared.turn.Step.TheVariants as step
use Rattle.auc_record.specs.Event.{Came}
use Rattle.auc_record.specs.declared.event.Event.{Event}
use Rattle.auc_record.specs.declared.event.Event.TheVariants as event
use Rattle.auc_record.specs.declared.event.EventRecord.{EventRecord}
use Rattle.auc_record.specs.declared.event.NoteStep.{NoteStep}
use Rattle.auc_record.specs.declared.event.NoteStep.TheVariants as did
use Rattle.auc_record.specs.declared.further.FivegOutcome.{FivegOutcome}
use Rattle.auc_record.specs.declared.further.FivegOutcome.TheVariants as fiveg
use Rattle.auc_record.specs.declared.further.Further.{Further}
use Rattle.auc_record.specs.declared.further.Further.TheVariants as further
use Rattle.auc_record.specs.declared.record.LineRecord.{LineRecord}
use Rattle.auc_record.specs.declared.record.LineRecord.TheVariants as line
use Rattle.auc_record.specs.declared.record.PartRecord.{PartRecord}
use Rattle.auc_record.specs.declared.record.PartRecord.TheVariants as part
use Rattle.auc_record.specs.declared.record.RoundRecord.{RoundRecord}

-- keys and bytes aren't told
abbrev pub no_keys : KeySet
no_keys = record { k_encr = []; k_aut = []; k_re = []; msk = []; emsk = [] }

abbrev pub told_outcome : {W : Type 0} → Outcome W → Outcome W
told_outcome (outcome.Success keys) = outcome.Success no_keys
told_outcome (outcome.Failure why) = outcome.Failure why

abbrev pub told_what : {W : Type 0} → Step W → Step W
told_what (step.Sent bytes) = step.Sent []
told_what (step.Ended result bytes) = step.Ended (told_outcome result) []
told_what (step.Ignored why) = step.Ignored why

abbrev pub told_step : NoteStep → NoteStep
told_step did.Opened = did.Opened
told_step (did.Server what) = did.Server (told_what what)
told_step (did.Peer what) = did.Peer (told_what what)
told_step (did.Made bytes) = did.Made []

-- nor are subscribers and vectors
abbrev pub told_came : Came → Came
told_came (Ok note) = Ok (record { notes = note.notes; step = told_step note.step; packet = note.packet; asked = None; device = None; vector = None })
told_came (Err why) = Err why

-- of an opening its session alone
abbrev pub told_opening : ℕ → SessionLine
told_opening session = record {
  session = session;
  sub = 0;
  method = method.Aka;
  name = [];
  peer_name = None;
  pseudonym = false;
  reauth = false;
  bidding = false;
  any = false;
  has_prime = false;
  identity = identity.Held;
}

abbrev pub told_event : Event → Event
told_event (event.Open opening) = event.Open (told_opening opening.session)
told_event (event.Start session) = event.Start session
told_event (event.Deliver session at' packet) = event.Deliver session at' packet
told_event (event.Repeat session) = event.Repeat session
told_event (event.GiveUp session at') = event.GiveUp session at'
told_event (event.Tamper packet place byte) = event.Tamper packet place byte
told_event (event.Cut packet count) = event.Cut packet count

abbrev pub told_record : EventRecord → EventRecord
told_record r = record { event = told_event r.event; result = told_came r.result }

-- the keys of both ends aren't told
abbrev pub told_outcome_of_5g : FivegOutcome → FivegOutcome
told_outcome_of_5g fiveg.NoSeparation = fiveg.NoSeparation
told_outcome_of_5g fiveg.ServingRefused = fiveg.ServingRefused
told_outcome_of_5g fiveg.HomeRefused = fiveg.HomeRefused
told_outcome_of_5g (fiveg.Confirmed home device) = fiveg.Confirmed [] []

-- nor are the packets of EAP-SIM
abbrev pub told_became : SimBecame → SimBecame
told_became became.NoSuchPacket = became.NoSuchPacket
told_became (became.Did what sent) = became.Did (told_what what) sent

abbrev pub told_note_of_sim : SimNote → SimNote
told_note_of_sim (said.Started bytes) = said.Started []
told_note_of_sim (said.Delivered at' packet it) = said.Delivered at' packet (told_became it)
told_note_of_sim (said.Ended agree) = said.Ended agree

abbrev pub told_further : Further → Further
told_further (further.Kasme key) = further.Kasme key
told_further (further.HxresStar half) = further.HxresStar half
told_further (further.Fiveg sub outcome) = further.Fiveg sub (told_outcome_of_5g outcome)
told_further (further.Sites sub note) = further.Sites sub note
told_further (further.Sim sub note) = further.Sim sub (told_note_of_sim note)

-- the other lines are told whole
abbrev pub told_line : LineRecord → LineRecord
told_line (line.Number sub note) = line.Number sub note
told_line (line.Sync sub note) = line.Sync sub note
told_line (line.Give sub n verdict) = line.Give sub n verdict
told_line (line.Further said) = line.Further (told_further said)
told_line (line.Event r) = line.Event (told_record r)

abbrev pub told_job : List LineRecord → List LineRecord
told_job job = map told_line job

abbrev pub told_round : RoundRecord → RoundRecord
told_round round = record round { jobs = map told_job round.jobs }

abbrev pub told_part : PartRecord → PartRecord
told_part (part.Round round) = part.Round (told_round round)
told_part part.Restart = part.Restart

-- what is told of a transcript
abbrev pub told : List PartRecord → List PartRecord
told records = map told_part records
