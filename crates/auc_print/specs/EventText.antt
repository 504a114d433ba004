-- The words of an event's line: those of the event, of the notes in their order, and of the step.
use Rattle.std.specs.Prelude.{ℕ, Bool, true, false, List, [], ◌∷◌, ◌++◌, Option, Some, None, Result, Ok, Err, codes}
use Rattle.hex.specs.Hex.{encode_lower}
use Rattle.auc_memory.specs.declared.stop.Stop.{Stop}
use Rattle.auc_memory.specs.declared.stop.Stop.TheVariants.{Fault, Full}
use Rattle.auc_hmac.specs.declared.keys.KeySet.{KeySet}
use Rattle.auc_lines.specs.declared.part.End.{End}
use Rattle.auc_lines.specs.declared.part.End.TheVariants as end
use Rattle.auc_vector.specs.declared.why.PeerWhy.{PeerWhy}
use Rattle.auc_vector.specs.declared.why.PeerWhy.TheVariants as peer_why
use Rattle.auc_vector.specs.declared.why.ServerWhy.{ServerWhy}
use Rattle.auc_vector.specs.declared.why.ServerWhy.TheVariants as server_why
use Rattle.auc_vector.specs.declared.notes.CounterNote.{CounterNote}
use Rattle.auc_vector.specs.declared.notes.CounterNote.TheVariants as counter
use Rattle.auc_vector.specs.declared.notes.Notes.{Notes}
use Rattle.auc_vector.specs.declared.notes.NumberNote.{NumberNote}
use Rattle.auc_vector.specs.declared.notes.NumberNote.TheVariants as number
use Rattle.auc_vector.specs.declared.notes.ResyncNote.{ResyncNote}
use Rattle.auc_vector.specs.declared.notes.ResyncNote.TheVariants as resync
use Rattle.auc_vector.specs.declared.notes.UsimNote.{UsimNote}
use Rattle.auc_vector.specs.declared.notes.UsimNote.TheVariants as usim
use Rattle.auc_vector.specs.declared.turn.Outcome.{Outcome}
use Rattle.auc_vector.specs.declared.turn.Outcome.TheVariants as outcome
use Rattle.auc_vector.specs.declared.turn.Reason.{Reason}
use Rattle.auc_vector.specs.declared.turn.Reason.TheVariants as reason
use Rattle.auc_vector.specs.declared.turn.Step.{Step}
use Rattle.auc_vector.specs.declared.turn.Step.TheVariants as step
use Rattle.auc_record.specs.declared.event.Event.{Event}
use Rattle.auc_record.specs.declared.event.Event.TheVariants as event
use Rattle.auc_record.specs.declared.event.Note.{Note}
use Rattle.auc_record.specs.declared.event.NoteStep.{NoteStep}
use Rattle.auc_record.specs.declared.event.NoteStep.TheVariants as did
use Rattle.auc_record.specs.declared.event.WorldRefusal.{WorldRefusal}
use Rattle.auc_record.specs.declared.event.WorldRefusal.TheVariants as refused
use Rattle.auc_print.specs.Numeral.{numeral}

-- the word that says why a number was withheld
abbrev pub stop_word : Stop → List ℕ
stop_word Fault = codes "fault"
stop_word Full = codes "full"

-- the word that says whether the keys of both ends of a session are equal
abbrev pub agree_word : Bool → List ℕ
agree_word true = codes "agree"
agree_word false = codes "differ"

-- ---- the event

abbrev pub end_word : End → List ℕ
end_word end.Server = codes "server"
end_word end.Peer = codes "peer"

abbrev pub event_words : Event → List (List ℕ)
event_words (event.Open opening) = codes "session" ∷ numeral opening.session ∷ []
event_words (event.Start session) = codes "start" ∷ numeral session ∷ []
event_words (event.Deliver session at' packet) = codes "deliver" ∷ numeral session ∷ end_word at' ∷ numeral packet ∷ []
event_words (event.Repeat session) = codes "repeat" ∷ numeral session ∷ []
event_words (event.GiveUp session at') = codes "giveup" ∷ numeral session ∷ end_word at' ∷ []
event_words (event.Tamper packet place byte) = codes "tamper" ∷ numeral packet ∷ numeral place ∷ encode_lower (byte ∷ []) ∷ []
event_words (event.Cut packet count) = codes "cut" ∷ numeral packet ∷ numeral count ∷ []

-- ---- the notes; a note that there isn't has no words

-- what the centre made of an AUTS
abbrev pub resync_words : Option ResyncNote → List (List ℕ)
resync_words None = []
resync_words (Some (resync.Moved from to)) = codes "moved" ∷ numeral from ∷ numeral to ∷ []
resync_words (Some (resync.InRange seen seq_ms)) = codes "inrange" ∷ numeral seen ∷ numeral seq_ms ∷ []
resync_words (Some (resync.Beyond seen seq_ms)) = codes "beyond" ∷ numeral seen ∷ numeral seq_ms ∷ []
resync_words (Some resync.BadAuts) = codes "badauts" ∷ []

-- what the centre answered to a draw
abbrev pub number_words : Option NumberNote → List (List ℕ)
number_words None = []
number_words (Some (number.Drew n)) = codes "drew" ∷ numeral n ∷ []
number_words (Some (number.Exhausted word)) = codes "exhausted" ∷ numeral word ∷ []
number_words (Some (number.Withheld n stop)) = codes "withheld" ∷ numeral n ∷ stop_word stop ∷ []

-- the counter of the context that was taken up again
abbrev pub resumed_words : Option ℕ → List (List ℕ)
resumed_words None = []
resumed_words (Some count) = codes "resumed" ∷ numeral count ∷ []

-- what the USIM answered
abbrev pub usim_words : Option UsimNote → List (List ℕ)
usim_words None = []
usim_words (Some (usim.Accepted sqn)) = codes "accepted" ∷ encode_lower sqn ∷ []
usim_words (Some (usim.Sync sqn_ms)) = codes "sync" ∷ encode_lower sqn_ms ∷ []
usim_words (Some usim.WrongMac) = codes "wrongmac" ∷ []

-- what became of a counter
abbrev pub counter_words : Option CounterNote → List (List ℕ)
counter_words None = []
counter_words (Some (counter.Taken count)) = codes "counter" ∷ numeral count ∷ []
counter_words (Some (counter.Small count)) = codes "small" ∷ numeral count ∷ []

abbrev pub notes_words : Notes → List (List ℕ)
notes_words notes =
    resync_words notes.resync ++ (number_words notes.number ++ (resumed_words notes.resumed ++ (usim_words notes.usim ++ counter_words notes.counter)))

-- ---- the step

-- why what was received is ignored
abbrev pub reason_word : Reason → List ℕ
reason_word reason.Closed = codes "closed"
reason_word reason.NotForMe = codes "notforme"
reason_word reason.OtherType = codes "othertype"
reason_word reason.Malformed = codes "malformed"
reason_word reason.Unexpected = codes "unexpected"
reason_word reason.Missing = codes "missing"
reason_word reason.NoContext = codes "nocontext"

-- why a server ends in Failure
abbrev pub server_words : ServerWhy → List (List ℕ)
server_words server_why.UnknownIdentity = codes "unknownidentity" ∷ []
server_words server_why.WrongMac = codes "wrongmac" ∷ []
server_words server_why.WrongRes = codes "wrongres" ∷ []
server_words server_why.WrongCheckcode = codes "wrongcheckcode" ∷ []
server_words server_why.WrongCounter = codes "wrongcounter" ∷ []
server_words server_why.SecondSync = codes "secondsync" ∷ []
server_words server_why.BadAuts = codes "badauts" ∷ []
server_words (server_why.Beyond seen seq_ms) = codes "beyond" ∷ numeral seen ∷ numeral seq_ms ∷ []
server_words (server_why.Exhausted word) = codes "exhausted" ∷ numeral word ∷ []
server_words (server_why.Stopped n stop) = codes "stopped" ∷ numeral n ∷ stop_word stop ∷ []
server_words server_why.Rejected = codes "rejected" ∷ []
server_words (server_why.ClientError code) = codes "clienterror" ∷ numeral code ∷ []
server_words server_why.GivenUp = codes "givenup" ∷ []

-- why a peer does
abbrev pub peer_words : PeerWhy → List (List ℕ)
peer_words peer_why.Malformed = codes "malformed" ∷ []
peer_words peer_why.Missing = codes "missing" ∷ []
peer_words peer_why.BadKdf = codes "badkdf" ∷ []
peer_words peer_why.BadName = codes "badname" ∷ []
peer_words peer_why.NoSeparation = codes "noseparation" ∷ []
peer_words peer_why.Downgrade = codes "downgrade" ∷ []
peer_words peer_why.WrongAutn = codes "wrongautn" ∷ []
peer_words peer_why.WrongMac = codes "wrongmac" ∷ []
peer_words peer_why.WrongCheckcode = codes "wrongcheckcode" ∷ []
peer_words peer_why.Undecryptable = codes "undecryptable" ∷ []
peer_words (peer_why.Notified code) = codes "notified" ∷ numeral code ∷ []
peer_words peer_why.FailureReceived = codes "failurereceived" ∷ []
peer_words peer_why.GivenUp = codes "givenup" ∷ []

-- an end sends a packet, the network makes one
abbrev pub sent_word : NoteStep → List ℕ
sent_word did.Opened = codes "sent"
sent_word (did.Server what) = codes "sent"
sent_word (did.Peer what) = codes "sent"
sent_word (did.Made bytes) = codes "made"

-- the packet that was sent or made in a step
abbrev pub sent_words : NoteStep → Option ℕ → List (List ℕ)
sent_words step None = []
sent_words step (Some packet) = sent_word step ∷ numeral packet ∷ []

-- how a session ended at an end, by the words for its whys
abbrev pub outcome_words : {W : Type 0} → (W → List (List ℕ)) → Outcome W → List (List ℕ)
outcome_words why_words (outcome.Success keys) = codes "ended" ∷ codes "success" ∷ []
outcome_words why_words (outcome.Failure why) = codes "ended" ∷ codes "failure" ∷ why_words why

-- what an end did besides sending; the network does nothing besides making a packet
abbrev pub what_words : {W : Type 0} → (W → List (List ℕ)) → Step W → List (List ℕ)
what_words why_words (step.Sent bytes) = []
what_words why_words (step.Ended result bytes) = outcome_words why_words result
what_words why_words (step.Ignored why) = codes "ignored" ∷ reason_word why ∷ []

abbrev pub step_words : NoteStep → List (List ℕ)
step_words did.Opened = codes "open" ∷ []
step_words (did.Server what) = what_words server_words what
step_words (did.Peer what) = what_words peer_words what
step_words (did.Made bytes) = []

-- ---- what came of the event

abbrev pub refusal_words : WorldRefusal → List (List ℕ)
refusal_words refused.NoSuchPacket = codes "nosuchpacket" ∷ []
refusal_words refused.NoSuchEnd = codes "nosuchend" ∷ []
refusal_words refused.Started = codes "started" ∷ []
refusal_words refused.NoSuchPlace = codes "nosuchplace" ∷ []

abbrev pub came_words : Result Note WorldRefusal → List (List ℕ)
came_words (Ok note) = notes_words note.notes ++ (sent_words note.step note.packet ++ step_words note.step)
came_words (Err why) = refusal_words why

-- ---- what a full print adds: the packet that was sent or made, and the keys of Success

abbrev pub packet_words : ℕ → List ℕ → List (List ℕ)
packet_words packet bytes = codes "packet" ∷ numeral packet ∷ encode_lower bytes ∷ []

abbrev pub keys_words : KeySet → List (List ℕ)
keys_words keys =
    codes "keys" ∷ encode_lower keys.k_encr ∷ encode_lower keys.k_aut ∷ encode_lower keys.k_re
    ∷ encode_lower keys.msk ∷ encode_lower keys.emsk ∷ []

-- the bytes that a step sent or made, if it did
abbrev pub what_sent : {W : Type 0} → Step W → List ℕ
what_sent (step.Sent bytes) = bytes
what_sent (step.Ended result bytes) = bytes
what_sent (step.Ignored why) = []

abbrev pub step_sent : NoteStep → List ℕ
step_sent did.Opened = []
step_sent (did.Server what) = what_sent what
step_sent (did.Peer what) = what_sent what
step_sent (did.Made bytes) = bytes

abbrev pub packet_lines : Option ℕ → List ℕ → List (List (List ℕ))
packet_lines None bytes = []
packet_lines (Some packet) bytes = packet_words packet bytes ∷ []

abbrev pub outcome_lines : {W : Type 0} → Outcome W → List (List (List ℕ))
outcome_lines (outcome.Success keys) = keys_words keys ∷ []
outcome_lines (outcome.Failure why) = []

abbrev pub what_lines : {W : Type 0} → Step W → List (List (List ℕ))
what_lines (step.Sent bytes) = []
what_lines (step.Ended result bytes) = outcome_lines result
what_lines (step.Ignored why) = []

abbrev pub step_lines : NoteStep → List (List (List ℕ))
step_lines did.Opened = []
step_lines (did.Server what) = what_lines what
step_lines (did.Peer what) = what_lines what
step_lines (did.Made bytes) = []

abbrev pub came_lines : Result Note WorldRefusal → List (List (List ℕ))
came_lines (Ok note) = packet_lines note.packet (step_sent note.step) ++ step_lines note.step
came_lines (Err why) = []
