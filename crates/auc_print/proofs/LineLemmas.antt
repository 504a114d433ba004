-- The words of a line determine what is told of the line, and so does the text of lines.
use Rattle.std.proofs.Common.{ℕ, ◌<◌, ◌≡◌, ◌∙◌, refl, sym, ap, Bool, true, false, ◌||◌, List, [], ◌∷◌, ◌++◌, map, drop, length, flat_map, if◌then◌else◌, codes, bytes_eq, slice_get, Option, Some, None, Result, Ok, Err, arith}
use Rattle.std.specs.List.{AllByRecursion}
use Rattle.std.proofs.lemmas.List.Concat.{flat_map-append}
use Rattle.auc_memory.specs.Identity.{Identity}
use Rattle.auc_lines.specs.declared.part.End.{End}
use Rattle.auc_milenage.specs.Milenage.{auts}
use Rattle.auc_vector.specs.declared.why.PeerWhy.{PeerWhy}
use Rattle.auc_vector.specs.declared.why.PeerWhy.TheVariants as peer_why
use Rattle.auc_random.specs.Random.{rand_of}
use Rattle.auc_vector.specs.declared.why.ServerWhy.{ServerWhy}
use Rattle.auc_vector.specs.declared.why.ServerWhy.TheVariants as server_why
use Rattle.auc_vector.specs.declared.sim_note.SimBecame.{SimBecame}
use Rattle.auc_vector.specs.declared.sim_note.SimBecame.TheVariants as became
use Rattle.auc_vector.specs.declared.sim_note.SimNote.{SimNote}
use Rattle.auc_vector.specs.declared.sim_note.SimNote.TheVariants as note
use Rattle.auc_subs.specs.declared.row.Row.{Row}
use Rattle.auc_vector.specs.declared.notes.CounterNote.{CounterNote}
use Rattle.auc_vector.specs.declared.notes.CounterNote.TheVariants as counter
use Rattle.auc_vector.specs.declared.notes.Notes.{Notes}
use Rattle.auc_vector.specs.declared.notes.NumberNote.{NumberNote}
use Rattle.auc_vector.specs.declared.notes.NumberNote.TheVariants as number
use Rattle.auc_vector.specs.declared.notes.ResyncNote.{ResyncNote}
use Rattle.auc_vector.specs.declared.notes.ResyncNote.TheVariants as resync
use Rattle.auc_vector.specs.declared.notes.UsimNote.{UsimNote}
use Rattle.auc_vector.specs.declared.notes.UsimNote.TheVariants as usim
use Rattle.auc_vector.specs.declared.parts.Vector.{Vector as AuthVector}
use Rattle.auc_vector.specs.declared.turn.Outcome.TheVariants as outcome
use Rattle.auc_vector.specs.declared.turn.Step.{Step}
use Rattle.auc_vector.specs.declared.turn.Step.TheVariants as step
use Rattle.auc_record.specs.Event.{device_in, usim_in}
use Rattle.auc_record.specs.Record.{IsBelow, subscriber_of}
use Rattle.auc_subs.specs.Setting.{Setting}
use Rattle.auc_record.specs.Told.{told_line}
use Rattle.auc_record.specs.Vectors.{vector_in}
use Rattle.auc_record.specs.declared.event.Event.{Event as SessionEvent}
use Rattle.auc_record.specs.declared.event.Event.TheVariants as event
use Rattle.auc_record.specs.declared.event.EventRecord.{EventRecord}
use Rattle.auc_record.specs.declared.event.Note.{Note}
use Rattle.auc_record.specs.declared.event.NoteStep.{NoteStep}
use Rattle.auc_record.specs.declared.event.NoteStep.TheVariants as did
use Rattle.auc_record.specs.declared.event.WorldRefusal.{WorldRefusal}
use Rattle.auc_record.specs.declared.event.WorldRefusal.TheVariants as refused
use Rattle.auc_record.specs.declared.further.FivegOutcome.TheVariants as fiveg
use Rattle.auc_record.specs.declared.further.Further.{Further as Said}
use Rattle.auc_record.specs.declared.further.Further.TheVariants as further
use Rattle.auc_record.specs.declared.record.Breach.{Breach}
use Rattle.auc_record.specs.declared.record.LineRecord.{LineRecord}
use Rattle.auc_record.specs.declared.record.LineRecord.TheVariants.{Number, Sync, Give, Further, Event}
use Rattle.auc_record.specs.declared.record.GiveVerdict.{GiveVerdict}
use Rattle.auc_record.specs.declared.record.GiveVerdict.TheVariants.{Accepted, Sync as SyncFailure, Absent}
use Rattle.auc_record.specs.declared.record.Closing.{Closing}
use Rattle.auc_record.specs.declared.record.SessionVerdict.{SessionVerdict}
use Rattle.auc_print.specs.AutsText.{auts_after, auts_lines, give_auts, rand_delivered, row_at, usim_auts}
use Rattle.auc_print.specs.EventText.{agree_word, came_lines, came_words, counter_words, event_words, notes_words, number_words, packet_lines, peer_words, resumed_words, resync_words, sent_words, server_words, step_lines, step_sent, step_words, usim_words, what_lines, what_sent, what_words}
use Rattle.auc_print.specs.SimText.{became_lines, sim_lines}
use Rattle.auc_print.specs.Text.{Line, RoundLine, JobLine, RecordLine, ClosedLine, SessionLine, HeldLine, BrokenLine, RestartLine, added_lines, broken_words, bytes_words, closing_words, further_lines, further_words, give_words, identities_of, line_text, line_words, record_words, session_words, shown_lines, spaced, sync_words}
use Rattle.auc_print.specs.OneText.{AnswerFits, AreIdentities, GiveFits}
use Rattle.auc_record.specs.Ends.{IsAtItsEnd}
use Rattle.auc_print.proofs.EventLemmas.{agree_injective, end_injective, event_injective, mark, notes_flat, resync_same, stop_injective, word_at}
use Rattle.auc_print.proofs.FurtherLemmas.{further_injective, further_words_are}
use Rattle.auc_print.proofs.HexLemmas.{hex_injective}
use Rattle.auc_print.proofs.ImsiLemmas.{imsi_injective, imsi_word}
use Rattle.auc_print.proofs.NumeralLemmas.{numeral_injective, numeral_word}
use Rattle.auc_print.proofs.SpacedLemmas.{AllWords, AreWords, AreLines, hex_word, lines_cut, word_from_test, words_append}
use Rattle.auc_print.proofs.WordLemmas.{a_stop, agree_word_is, end_word_is, no_more, one_number, some_bytes, stop_word_is, two_numbers, what_words_are}

-- each subscriber that a line names has an identity, and the SQN, K_ASME, HXRES* or changed byte in the line consists of bytes
abbrev pub LineFits : List Identity → Line → Type 0
LineFits identities (RoundLine number) = Unit {0}
LineFits identities (JobLine number) = Unit {0}
LineFits identities (RecordLine job answer) = IsBelow (length identities) (subscriber_of answer) × AnswerFits answer
LineFits identities (ClosedLine closing) = closing.sub < length identities
LineFits identities (SessionLine verdict) = Unit {0}
LineFits identities HeldLine = Unit {0}
LineFits identities (BrokenLine job breach) = Unit {0}
LineFits identities RestartLine = Unit {0}

-- what came of an event in a line is a step of its end
abbrev pub LineAt : Line → Type 0
LineAt (RoundLine number) = Unit {0}
LineAt (JobLine number) = Unit {0}
LineAt (RecordLine job answer) = IsAtItsEnd answer
LineAt (ClosedLine closing) = Unit {0}
LineAt (SessionLine verdict) = Unit {0}
LineAt HeldLine = Unit {0}
LineAt (BrokenLine job breach) = Unit {0}
LineAt RestartLine = Unit {0}

-- what is told of a line; a record's line is told without the records beside it
abbrev pub told_of : Line → Line
told_of (RoundLine number) = RoundLine number
told_of (JobLine number) = JobLine number
told_of (RecordLine job answer) = RecordLine [] (told_line answer)
told_of (ClosedLine closing) = ClosedLine closing
told_of (SessionLine verdict) = SessionLine verdict
told_of HeldLine = HeldLine
told_of (BrokenLine job breach) = BrokenLine job breach
told_of RestartLine = RestartLine

-- ---- words

give_words_are : (verdict : GiveVerdict) → AllWords (give_words verdict)
give_words_are Accepted = no_more (codes "accepted") refl
give_words_are (SyncFailure sqn_ms) = some_bytes (codes "sync") sqn_ms refl
give_words_are Absent = no_more (codes "absent") refl

resync_words_are : (a : Option ResyncNote) → AllWords (resync_words a)
resync_words_are None = tt
resync_words_are (Some (resync.Moved from to)) = two_numbers (codes "moved") from to refl
resync_words_are (Some (resync.InRange seen seq_ms)) = two_numbers (codes "inrange") seen seq_ms refl
resync_words_are (Some (resync.Beyond seen seq_ms)) = two_numbers (codes "beyond") seen seq_ms refl
resync_words_are (Some resync.BadAuts) = no_more (codes "badauts") refl

-- a line on a synchronisation failure has the words of an event's note, except for AUTS whose MAC-S isn't right
sync_words_are : (note : ResyncNote) → AllWords (sync_words note)
sync_words_are resync.BadAuts = no_more (codes "wrongmac") refl
sync_words_are note = resync_words_are (Some note)

number_words_are : (a : Option NumberNote) → AllWords (number_words a)
number_words_are None = tt
number_words_are (Some (number.Drew n)) = one_number (codes "drew") n refl
number_words_are (Some (number.Exhausted word)) = one_number (codes "exhausted") word refl
number_words_are (Some (number.Withheld n stop)) = a_stop (codes "withheld") n stop refl

resumed_words_are : (a : Option ℕ) → AllWords (resumed_words a)
resumed_words_are None = tt
resumed_words_are (Some count) = one_number (codes "resumed") count refl

usim_words_are : (a : Option UsimNote) → AllWords (usim_words a)
usim_words_are None = tt
usim_words_are (Some (usim.Accepted sqn)) = some_bytes (codes "accepted") sqn refl
usim_words_are (Some (usim.Sync sqn_ms)) = some_bytes (codes "sync") sqn_ms refl
usim_words_are (Some usim.WrongMac) = no_more (codes "wrongmac") refl

counter_words_are : (a : Option CounterNote) → AllWords (counter_words a)
counter_words_are None = tt
counter_words_are (Some (counter.Taken count)) = one_number (codes "counter") count refl
counter_words_are (Some (counter.Small count)) = one_number (codes "small") count refl

sent_words_are : (d : NoteStep) (a : Option ℕ) → AllWords (sent_words d a)
sent_words_are d None = tt
sent_words_are did.Opened (Some packet) = one_number (codes "sent") packet refl
sent_words_are (did.Server what) (Some packet) = one_number (codes "sent") packet refl
sent_words_are (did.Peer what) (Some packet) = one_number (codes "sent") packet refl
sent_words_are (did.Made bytes) (Some packet) = one_number (codes "made") packet refl

notes_words_are : (notes : Notes) → AllWords (notes_words notes)
notes_words_are notes =
    words_append (resync_words notes.resync) _ (resync_words_are notes.resync)
    (words_append (number_words notes.number) _ (number_words_are notes.number)
    (words_append (resumed_words notes.resumed) _ (resumed_words_are notes.resumed)
    (words_append (usim_words notes.usim) (counter_words notes.counter) (usim_words_are notes.usim) (counter_words_are notes.counter))))

server_words_are : (a : ServerWhy) → AllWords (server_words a)
server_words_are server_why.UnknownIdentity = no_more (codes "unknownidentity") refl
server_words_are server_why.WrongMac = no_more (codes "wrongmac") refl
server_words_are server_why.WrongRes = no_more (codes "wrongres") refl
server_words_are server_why.WrongCheckcode = no_more (codes "wrongcheckcode") refl
server_words_are server_why.WrongCounter = no_more (codes "wrongcounter") refl
server_words_are server_why.SecondSync = no_more (codes "secondsync") refl
server_words_are server_why.BadAuts = no_more (codes "badauts") refl
server_words_are (server_why.Beyond seen seq_ms) = two_numbers (codes "beyond") seen seq_ms refl
server_words_are (server_why.Exhausted word) = one_number (codes "exhausted") word refl
server_words_are (server_why.Stopped n stop) = a_stop (codes "stopped") n stop refl
server_words_are server_why.Rejected = no_more (codes "rejected") refl
server_words_are (server_why.ClientError code) = one_number (codes "clienterror") code refl
server_words_are server_why.GivenUp = no_more (codes "givenup") refl

peer_words_are : (a : PeerWhy) → AllWords (peer_words a)
peer_words_are peer_why.Malformed = no_more (codes "malformed") refl
peer_words_are peer_why.Missing = no_more (codes "missing") refl
peer_words_are peer_why.BadKdf = no_more (codes "badkdf") refl
peer_words_are peer_why.BadName = no_more (codes "badname") refl
peer_words_are peer_why.NoSeparation = no_more (codes "noseparation") refl
peer_words_are peer_why.Downgrade = no_more (codes "downgrade") refl
peer_words_are peer_why.WrongAutn = no_more (codes "wrongautn") refl
peer_words_are peer_why.WrongMac = no_more (codes "wrongmac") refl
peer_words_are peer_why.WrongCheckcode = no_more (codes "wrongcheckcode") refl
peer_words_are peer_why.Undecryptable = no_more (codes "undecryptable") refl
peer_words_are (peer_why.Notified code) = one_number (codes "notified") code refl
peer_words_are peer_why.FailureReceived = no_more (codes "failurereceived") refl
peer_words_are peer_why.GivenUp = no_more (codes "givenup") refl

step_words_are : (a : NoteStep) → AllWords (step_words a)
step_words_are did.Opened = no_more (codes "open") refl
step_words_are (did.Server what) = what_words_are server_words server_words_are what
step_words_are (did.Peer what) = what_words_are peer_words peer_words_are what
step_words_are (did.Made bytes) = tt

came_words_are : (a : Result Note WorldRefusal) → AllWords (came_words a)
came_words_are (Ok note) =
    words_append (notes_words note.notes) _ (notes_words_are note.notes)
    (words_append (sent_words note.step note.packet) (step_words note.step) (sent_words_are note.step note.packet) (step_words_are note.step))
came_words_are (Err refused.NoSuchPacket) = no_more (codes "nosuchpacket") refl
came_words_are (Err refused.NoSuchEnd) = no_more (codes "nosuchend") refl
came_words_are (Err refused.Started) = no_more (codes "started") refl
came_words_are (Err refused.NoSuchPlace) = no_more (codes "nosuchplace") refl

-- the words of an event's line are words
event_words_are : (e : SessionEvent) (words : List (List ℕ)) → AllWords words → AreWords (event_words e ++ words)
event_words_are (event.Open opening) words are = (word_from_test (codes "session") refl, (numeral_word opening.session, are))
event_words_are (event.Start session) words are = (word_from_test (codes "start") refl, (numeral_word session, are))
event_words_are (event.Deliver session at' packet) words are =
    (word_from_test (codes "deliver") refl, (numeral_word session, (end_word_is at', (numeral_word packet, are))))
event_words_are (event.Repeat session) words are = (word_from_test (codes "repeat") refl, (numeral_word session, are))
event_words_are (event.GiveUp session at') words are = (word_from_test (codes "giveup") refl, (numeral_word session, (end_word_is at', are)))
event_words_are (event.Tamper packet place byte) words are =
    (word_from_test (codes "tamper") refl, (numeral_word packet, (numeral_word place, (hex_word (byte ∷ []), are))))
event_words_are (event.Cut packet count) words are = (word_from_test (codes "cut") refl, (numeral_word packet, (numeral_word count, are)))

-- the words of a job's record are words
answer_words_are : (identities : List Identity) (answer : LineRecord) → AreWords (record_words identities answer)
answer_words_are identities (Number sub (number.Drew n)) =
    (word_from_test (codes "vector") refl, (imsi_word identities sub, (numeral_word n, tt)))
answer_words_are identities (Number sub (number.Withheld n stop)) =
    (word_from_test (codes "withheld") refl, (imsi_word identities sub, (numeral_word n, (stop_word_is stop, tt))))
answer_words_are identities (Number sub (number.Exhausted word)) =
    (word_from_test (codes "exhausted") refl, (imsi_word identities sub, (numeral_word word, tt)))
answer_words_are identities (Sync sub note) =
    (word_from_test (codes "sync") refl, (imsi_word identities sub, sync_words_are note))
answer_words_are identities (Give sub n verdict) =
    (word_from_test (codes "give") refl, (imsi_word identities sub, (numeral_word n, give_words_are verdict)))
answer_words_are identities (Further said) = further_words_are identities said
answer_words_are identities (Event r) = event_words_are r.event (came_words r.result) (came_words_are r.result)

-- the words of a line are words
words_are : (identities : List Identity) (line : Line) → AreWords (line_words identities line)
words_are identities (RoundLine number) = (word_from_test (codes "round") refl, (numeral_word number, tt))
words_are identities (JobLine number) = (word_from_test (codes "job") refl, (numeral_word number, tt))
words_are identities (RecordLine job answer) = answer_words_are identities answer
words_are identities (SessionLine verdict) =
    (word_from_test (codes "session") refl, (numeral_word verdict.session, (agree_word_is verdict.agree, tt)))
words_are identities HeldLine = (word_from_test (codes "premise") refl, (word_from_test (codes "held") refl, tt))
words_are identities (BrokenLine job breach) = (
  word_from_test (codes "premise") refl,
  (
    word_from_test (codes "broken") refl,
    (numeral_word job, (numeral_word breach.session, (end_word_is breach.end, (numeral_word breach.packet, tt)))),
  ),
)
words_are identities RestartLine = (word_from_test (codes "restart") refl, tt)
words_are identities (ClosedLine closing) = (
  word_from_test (codes "closed") refl,
  (
    imsi_word identities closing.sub,
    (
      numeral_word closing.first,
      (
        numeral_word closing.last,
        (
          numeral_word closing.drawn,
          (numeral_word closing.skipped, (numeral_word closing.released, (numeral_word closing.withheld, tt))),
        ),
      ),
    ),
  ),
)

-- ---- the lines that a full print adds

-- the words of the lines that a print adds after a line
abbrev added : Setting → Bool → Line → List (List (List ℕ))
added set full (RecordLine job answer) = if full then added_lines set job answer else []
added set full (RoundLine number) = []
added set full (JobLine number) = []
added set full (ClosedLine closing) = []
added set full (SessionLine verdict) = []
added set full HeldLine = []
added set full (BrokenLine job breach) = []
added set full RestartLine = []

-- the printed lines of a line
abbrev printed : Setting → Bool → Line → List (List (List ℕ))
printed set full line = line_words (identities_of set.rows) line ∷ added set full line

-- a line's text is that of its printed lines
text_is : (set : Setting) (full : Bool) (line : Line) → line_text set full line ≡ flat_map spaced (printed set full line)
text_is set full (RecordLine job answer) = refl
text_is set full (RoundLine number) = refl
text_is set full (JobLine number) = refl
text_is set full (ClosedLine closing) = refl
text_is set full (SessionLine verdict) = refl
text_is set full HeldLine = refl
text_is set full (BrokenLine job breach) = refl
text_is set full RestartLine = refl

-- the text of lines is that of their printed lines
texts_are : (set : Setting) (full : Bool) (lines : List Line)
    → flat_map (line_text set full) lines ≡ flat_map spaced (flat_map (printed set full) lines)
texts_are set full [] = refl
texts_are set full (line ∷ lines) =
    ap (λ t. t ++ flat_map (line_text set full) lines) (text_is set full line)
    ∙ ap (λ t. flat_map spaced (printed set full line) ++ t) (texts_are set full lines)
    ∙ sym (flat_map-append spaced (printed set full line) (flat_map (printed set full) lines))

-- the word at a place, and whether a first word is that of a line that a full print adds
abbrev is_added : List ℕ → Bool
is_added word =
    bytes_eq word (codes "bytes") || (bytes_eq word (codes "packet") || (bytes_eq word (codes "keys") || (bytes_eq word (codes "seaf") || bytes_eq word (codes "auts"))))

-- lines of words that a full print adds
abbrev AreAdded : List (List (List ℕ)) → Type 0
AreAdded [] = Unit {0}
AreAdded (words ∷ lines) = (is_added (word_at words 0) ≡ true) × AreWords words × AreAdded lines

added_append : (ls ms : List (List (List ℕ))) → AreAdded ls → AreAdded ms → AreAdded (ls ++ ms)
added_append [] ms a b = b
added_append (l ∷ ls) ms a b = (a.0, a.1, added_append ls ms a.2 b)

bytes_added : (vectors : List AuthVector) → AreAdded (map bytes_words vectors)
bytes_added [] = tt
bytes_added (vector ∷ vectors) = (
  refl,
  (word_from_test (codes "bytes") refl, (hex_word vector.rand, (hex_word vector.autn, (hex_word vector.xres, (hex_word vector.ck, (hex_word vector.ik, tt)))))),
  bytes_added vectors,
)

auts_are_added : (row : Option Row) (rand : Option (List ℕ)) (sqn_ms : List ℕ) → AreAdded (auts_lines row rand sqn_ms)
auts_are_added None rand sqn_ms = tt
auts_are_added (Some row) None sqn_ms = tt
auts_are_added (Some row) (Some rand) sqn_ms =
    (refl, (word_from_test (codes "auts") refl, (hex_word (auts row.secret.k row.secret.opc rand sqn_ms), (hex_word rand, tt))), tt)

give_added : (row : Option Row) (rand : List ℕ) (verdict : GiveVerdict) → AreAdded (give_auts row rand verdict)
give_added row rand Accepted = tt
give_added row rand (SyncFailure sqn_ms) = auts_are_added row (Some rand) sqn_ms
give_added row rand Absent = tt

usim_added : (row : Option Row) (rand : Option (List ℕ)) (a : Option UsimNote) → AreAdded (usim_auts row rand a)
usim_added row rand None = tt
usim_added row rand (Some (usim.Accepted sqn)) = tt
usim_added row rand (Some (usim.Sync sqn_ms)) = auts_are_added row rand sqn_ms
usim_added row rand (Some usim.WrongMac) = tt

auts_added : (set : Setting) (job : List LineRecord) (answer : LineRecord) → AreAdded (auts_after set job answer)
auts_added set job (Number sub note) = tt
auts_added set job (Sync sub note) = tt
auts_added set job (Give sub n verdict) = give_added (slice_get set.rows sub) (rand_of set.key sub n) verdict
auts_added set job (Further said) = tt
auts_added set job (Event r) = usim_added (row_at set.rows (device_in r.result)) (rand_delivered job r.event) (usim_in r.result)

packet_added : (packet : Option ℕ) (bytes : List ℕ) → AreAdded (packet_lines packet bytes)
packet_added None bytes = tt
packet_added (Some packet) bytes = (refl, (word_from_test (codes "packet") refl, (numeral_word packet, (hex_word bytes, tt))), tt)

keys_added : {W : Type 0} (a : Step W) → AreAdded (what_lines a)
keys_added (step.Sent bytes) = tt
keys_added (step.Ended (outcome.Success keys) bytes) =
    (refl, (word_from_test (codes "keys") refl, (hex_word keys.k_encr, (hex_word keys.k_aut, (hex_word keys.k_re, (hex_word keys.msk, (hex_word keys.emsk, tt)))))), tt)
keys_added (step.Ended (outcome.Failure why) bytes) = tt
keys_added (step.Ignored why) = tt

step_added : (a : NoteStep) → AreAdded (step_lines a)
step_added did.Opened = tt
step_added (did.Server what) = keys_added what
step_added (did.Peer what) = keys_added what
step_added (did.Made bytes) = tt

came_added : (a : Result Note WorldRefusal) → AreAdded (came_lines a)
came_added (Ok note) =
    added_append (packet_lines note.packet (step_sent note.step)) (step_lines note.step) (packet_added note.packet (step_sent note.step)) (step_added note.step)
came_added (Err why) = tt

became_added : (a : SimBecame) → AreAdded (became_lines a)
became_added became.NoSuchPacket = tt
became_added (became.Did what sent) =
    added_append (packet_lines sent (what_sent what)) (what_lines what) (packet_added sent (what_sent what)) (keys_added what)

sim_added : (a : SimNote) → AreAdded (sim_lines a)
sim_added (note.Started bytes) = packet_added (Some 1) bytes
sim_added (note.Delivered at' packet it) = became_added it
sim_added (note.Ended agree) = tt

further_added : (said : Said) → AreAdded (further_lines said)
further_added (further.Kasme key) = tt
further_added (further.HxresStar half) = tt
further_added (further.Sites sub note) = tt
further_added (further.Sim sub note) = sim_added note
further_added (further.Fiveg sub fiveg.NoSeparation) = tt
further_added (further.Fiveg sub fiveg.ServingRefused) = tt
further_added (further.Fiveg sub fiveg.HomeRefused) = tt
further_added (further.Fiveg sub (fiveg.Confirmed home device)) =
    (refl, (word_from_test (codes "seaf") refl, (hex_word home, (hex_word device, tt))), tt)

shown_added : (answer : LineRecord) → AreAdded (shown_lines answer)
shown_added (Number sub note) = tt
shown_added (Sync sub note) = tt
shown_added (Give sub n verdict) = tt
shown_added (Further said) = further_added said
shown_added (Event r) = came_added r.result

all_added : (set : Setting) (full : Bool) (line : Line) → AreAdded (added set full line)
all_added set true (RecordLine job answer) =
    added_append (map bytes_words (vector_in set answer)) (auts_after set job answer ++ shown_lines answer) (bytes_added (vector_in set answer))
    (added_append (auts_after set job answer) (shown_lines answer) (auts_added set job answer) (shown_added answer))
all_added set false (RecordLine job answer) = tt
all_added set full (RoundLine number) = tt
all_added set full (JobLine number) = tt
all_added set full (ClosedLine closing) = tt
all_added set full (SessionLine verdict) = tt
all_added set full HeldLine = tt
all_added set full (BrokenLine job breach) = tt
all_added set full RestartLine = tt

-- added lines before lines of words are lines of words
with_added : (lines rest : List (List (List ℕ))) → AreAdded lines → AreLines rest → AreLines (lines ++ rest)
with_added [] rest a are = are
with_added (words ∷ lines) rest a are = (a.1, with_added lines rest a.2 are)

-- printed lines are lines of words
printed_are : (set : Setting) (full : Bool) (lines : List Line) → AreLines (flat_map (printed set full) lines)
printed_are set full [] = tt
printed_are set full (line ∷ lines) =
    (words_are (identities_of set.rows) line, with_added (added set full line) _ (all_added set full line) (printed_are set full lines))

-- the lines without those that a full print adds
abbrev own : List (List (List ℕ)) → List (List (List ℕ))
own [] = []
own (words ∷ lines) = if is_added (word_at words 0) then own lines else words ∷ own lines

-- no added line is left
own_of_added : (lines rest : List (List (List ℕ))) → AreAdded lines → own (lines ++ rest) ≡ own rest
own_of_added [] rest a = refl
own_of_added (words ∷ lines) rest a =
    ap (λ (b : Bool). if b then own (lines ++ rest) else words ∷ own (lines ++ rest)) a.0 ∙ own_of_added lines rest a.2

-- the words of a line, which isn't added, are left
own_of_event : (e : SessionEvent) (words : List (List ℕ)) (rest : List (List (List ℕ))) → own ((event_words e ++ words) ∷ rest) ≡ (event_words e ++ words) ∷ own rest
own_of_event (event.Open opening) words rest = refl
own_of_event (event.Start session) words rest = refl
own_of_event (event.Deliver session at' packet) words rest = refl
own_of_event (event.Repeat session) words rest = refl
own_of_event (event.GiveUp session at') words rest = refl
own_of_event (event.Tamper packet place byte) words rest = refl
own_of_event (event.Cut packet count) words rest = refl

own_of_further : (identities : List Identity) (said : Said) (rest : List (List (List ℕ)))
    → own (further_words identities said ∷ rest) ≡ further_words identities said ∷ own rest
own_of_further identities (further.Kasme key) rest = refl
own_of_further identities (further.HxresStar half) rest = refl
own_of_further identities (further.Fiveg sub outcome) rest = refl
own_of_further identities (further.Sites sub note) rest = refl
own_of_further identities (further.Sim sub note) rest = refl

own_of_words : (identities : List Identity) (line : Line) (rest : List (List (List ℕ)))
    → own (line_words identities line ∷ rest) ≡ line_words identities line ∷ own rest
own_of_words identities (RoundLine number) rest = refl
own_of_words identities (JobLine number) rest = refl
own_of_words identities (ClosedLine closing) rest = refl
own_of_words identities (SessionLine verdict) rest = refl
own_of_words identities HeldLine rest = refl
own_of_words identities (BrokenLine job breach) rest = refl
own_of_words identities RestartLine rest = refl
own_of_words identities (RecordLine job (Number sub (number.Drew n))) rest = refl
own_of_words identities (RecordLine job (Number sub (number.Withheld n stop))) rest = refl
own_of_words identities (RecordLine job (Number sub (number.Exhausted word))) rest = refl
own_of_words identities (RecordLine job (Sync sub note)) rest = refl
own_of_words identities (RecordLine job (Give sub n verdict)) rest = refl
own_of_words identities (RecordLine job (Further said)) rest = own_of_further identities said rest
own_of_words identities (RecordLine job (Event r)) rest = own_of_event r.event (came_words r.result) rest

-- without what a full print adds, only the lines themselves are left of their printed lines
own_of_lines : (set : Setting) (full : Bool) (lines : List Line)
    → own (flat_map (printed set full) lines) ≡ map (line_words (identities_of set.rows)) lines
own_of_lines set full [] = refl
own_of_lines set full (line ∷ lines) =
    own_of_words (identities_of set.rows) line (added set full line ++ flat_map (printed set full) lines)
    ∙ ap (λ rest. line_words (identities_of set.rows) line ∷ rest)
    (own_of_added (added set full line) (flat_map (printed set full) lines) (all_added set full line) ∙ own_of_lines set full lines)

-- ---- the kind of a line

-- whether a word is that of a verdict on a session; none of an event's line stands in its place
abbrev is_verdict : List ℕ → Bool
is_verdict word = bytes_eq word (codes "agree") || bytes_eq word (codes "differ")

after_resync : (a : Option ResyncNote) (r : List (List ℕ)) → is_verdict (word_at r 0) ≡ false → is_verdict (word_at (resync_words a ++ r) 0) ≡ false
after_resync None r none = none
after_resync (Some (resync.Moved from to)) r none = refl
after_resync (Some (resync.InRange seen seq_ms)) r none = refl
after_resync (Some (resync.Beyond seen seq_ms)) r none = refl
after_resync (Some resync.BadAuts) r none = refl

after_number : (a : Option NumberNote) (r : List (List ℕ)) → is_verdict (word_at r 0) ≡ false → is_verdict (word_at (number_words a ++ r) 0) ≡ false
after_number None r none = none
after_number (Some (number.Drew n)) r none = refl
after_number (Some (number.Exhausted word)) r none = refl
after_number (Some (number.Withheld n stop)) r none = refl

after_resumed : (a : Option ℕ) (r : List (List ℕ)) → is_verdict (word_at r 0) ≡ false → is_verdict (word_at (resumed_words a ++ r) 0) ≡ false
after_resumed None r none = none
after_resumed (Some count) r none = refl

after_usim : (a : Option UsimNote) (r : List (List ℕ)) → is_verdict (word_at r 0) ≡ false → is_verdict (word_at (usim_words a ++ r) 0) ≡ false
after_usim None r none = none
after_usim (Some (usim.Accepted sqn)) r none = refl
after_usim (Some (usim.Sync sqn_ms)) r none = refl
after_usim (Some usim.WrongMac) r none = refl

after_counter : (a : Option CounterNote) (r : List (List ℕ)) → is_verdict (word_at r 0) ≡ false → is_verdict (word_at (counter_words a ++ r) 0) ≡ false
after_counter None r none = none
after_counter (Some (counter.Taken count)) r none = refl
after_counter (Some (counter.Small count)) r none = refl

after_sent : (d : NoteStep) (a : Option ℕ) (r : List (List ℕ)) → is_verdict (word_at r 0) ≡ false → is_verdict (word_at (sent_words d a ++ r) 0) ≡ false
after_sent d None r none = none
after_sent did.Opened (Some packet) r none = refl
after_sent (did.Server what) (Some packet) r none = refl
after_sent (did.Peer what) (Some packet) r none = refl
after_sent (did.Made bytes) (Some packet) r none = refl

in_what : {W : Type 0} (why_words : W → List (List ℕ)) (a : Step W) → is_verdict (word_at (what_words why_words a) 0) ≡ false
in_what why_words (step.Sent bytes) = refl
in_what why_words (step.Ended (outcome.Success keys) bytes) = refl
in_what why_words (step.Ended (outcome.Failure why) bytes) = refl
in_what why_words (step.Ignored why) = refl

in_step : (a : NoteStep) → is_verdict (word_at (step_words a) 0) ≡ false
in_step did.Opened = refl
in_step (did.Server what) = in_what server_words what
in_step (did.Peer what) = in_what peer_words what
in_step (did.Made bytes) = refl

in_came : (a : Result Note WorldRefusal) → is_verdict (word_at (came_words a) 0) ≡ false
in_came (Ok note) =
    ap (λ ws. is_verdict (word_at ws 0)) (notes_flat note.notes (sent_words note.step note.packet ++ step_words note.step))
    ∙ after_resync note.notes.resync _ (after_number note.notes.number _ (after_resumed note.notes.resumed _
    (after_usim note.notes.usim _ (after_counter note.notes.counter _ (after_sent note.step note.packet _ (in_step note.step))))))
in_came (Err refused.NoSuchPacket) = refl
in_came (Err refused.NoSuchEnd) = refl
in_came (Err refused.Started) = refl
in_came (Err refused.NoSuchPlace) = refl

-- a number for each kind of line, by its words
abbrev kind_of_words : List (List ℕ) → ℕ
kind_of_words words =
    if bytes_eq (word_at words 0) (codes "round") then 0
    else if bytes_eq (word_at words 0) (codes "job") then 1
    else if bytes_eq (word_at words 0) (codes "closed") then 2
    else if bytes_eq (word_at words 0) (codes "restart") then 3
    else if bytes_eq (word_at words 0) (codes "premise") then (if bytes_eq (word_at words 1) (codes "held") then 5 else 6)
    else if bytes_eq (word_at words 0) (codes "session") then (if is_verdict (word_at words 2) then 7 else 4) else 4

-- the same number, by the line
abbrev kind_of : Line → ℕ
kind_of (RoundLine number) = 0
kind_of (JobLine number) = 1
kind_of (ClosedLine closing) = 2
kind_of RestartLine = 3
kind_of (RecordLine job answer) = 4
kind_of HeldLine = 5
kind_of (BrokenLine job breach) = 6
kind_of (SessionLine verdict) = 7

kind_of_event : (e : SessionEvent) (words : List (List ℕ)) → is_verdict (word_at words 0) ≡ false → 4 ≡ kind_of_words (event_words e ++ words)
kind_of_event (event.Open opening) words none = ap (λ (b : Bool). if b then 7 else 4) {x = false} {y = is_verdict (word_at words 0)} (sym none)
kind_of_event (event.Start session) words none = refl
kind_of_event (event.Deliver session at' packet) words none = refl
kind_of_event (event.Repeat session) words none = refl
kind_of_event (event.GiveUp session at') words none = refl
kind_of_event (event.Tamper packet place byte) words none = refl
kind_of_event (event.Cut packet count) words none = refl

kind_of_further : (identities : List Identity) (said : Said) → 4 ≡ kind_of_words (further_words identities said)
kind_of_further identities (further.Kasme key) = refl
kind_of_further identities (further.HxresStar half) = refl
kind_of_further identities (further.Fiveg sub outcome) = refl
kind_of_further identities (further.Sites sub note) = refl
kind_of_further identities (further.Sim sub note) = refl

kind_of_verdict : (agree : Bool) → is_verdict (agree_word agree) ≡ true
kind_of_verdict true = refl
kind_of_verdict false = refl

-- the words say the kind of line
kind_is : (identities : List Identity) (line : Line) → kind_of line ≡ kind_of_words (line_words identities line)
kind_is identities (RoundLine number) = refl
kind_is identities (JobLine number) = refl
kind_is identities (ClosedLine closing) = refl
kind_is identities (SessionLine verdict) =
    ap (λ (b : Bool). if b then 7 else 4) {x = true} {y = is_verdict (agree_word verdict.agree)} (sym (kind_of_verdict verdict.agree))
kind_is identities HeldLine = refl
kind_is identities (BrokenLine job breach) = refl
kind_is identities RestartLine = refl
kind_is identities (RecordLine job (Number sub (number.Drew n))) = refl
kind_is identities (RecordLine job (Number sub (number.Withheld n stop))) = refl
kind_is identities (RecordLine job (Number sub (number.Exhausted word))) = refl
kind_is identities (RecordLine job (Sync sub note)) = refl
kind_is identities (RecordLine job (Give sub n verdict)) = refl
kind_is identities (RecordLine job (Further said)) = kind_of_further identities said
kind_is identities (RecordLine job (Event r)) = kind_of_event r.event (came_words r.result) (in_came r.result)

-- whether a word is the first of a line on what follows from a vector, for sites, or for a session of EAP-SIM
abbrev is_further : List ℕ → Bool
is_further word =
    bytes_eq word (codes "kasme")
    || (bytes_eq word (codes "hxresstar") || (bytes_eq word (codes "fiveg") || (bytes_eq word (codes "sites") || bytes_eq word (codes "sim"))))

-- whether a word is the first of a line on what the centre answered when it was asked for a number
abbrev is_number : List ℕ → Bool
is_number word = bytes_eq word (codes "vector") || (bytes_eq word (codes "withheld") || bytes_eq word (codes "exhausted"))

-- a number for each kind of record, by its first word
abbrev record_of_word : List ℕ → ℕ
record_of_word word =
    if is_number word then 0
    else if bytes_eq word (codes "sync") then 1
    else if bytes_eq word (codes "give") then 2
    else if is_further word then 3 else 4

-- the same number, by the record
abbrev record_number : LineRecord → ℕ
record_number (Number sub note) = 0
record_number (Sync sub note) = 1
record_number (Give sub n verdict) = 2
record_number (Further said) = 3
record_number (Event r) = 4

record_of_further : (identities : List Identity) (said : Said) → 3 ≡ record_of_word (word_at (further_words identities said) 0)
record_of_further identities (further.Kasme key) = refl
record_of_further identities (further.HxresStar half) = refl
record_of_further identities (further.Fiveg sub outcome) = refl
record_of_further identities (further.Sites sub note) = refl
record_of_further identities (further.Sim sub note) = refl

record_of_event : (e : SessionEvent) (words : List (List ℕ)) → 4 ≡ record_of_word (word_at (event_words e ++ words) 0)
record_of_event (event.Open opening) words = refl
record_of_event (event.Start session) words = refl
record_of_event (event.Deliver session at' packet) words = refl
record_of_event (event.Repeat session) words = refl
record_of_event (event.GiveUp session at') words = refl
record_of_event (event.Tamper packet place byte) words = refl
record_of_event (event.Cut packet count) words = refl

-- the first word says the kind of record
record_is : (identities : List Identity) (answer : LineRecord) → record_number answer ≡ record_of_word (word_at (record_words identities answer) 0)
record_is identities (Number sub (number.Drew n)) = refl
record_is identities (Number sub (number.Withheld n stop)) = refl
record_is identities (Number sub (number.Exhausted word)) = refl
record_is identities (Sync sub note) = refl
record_is identities (Give sub n verdict) = refl
record_is identities (Further said) = record_of_further identities said
record_is identities (Event r) = record_of_event r.event (came_words r.result)

-- what the home network made of an AUTS is determined by its words
sync_injective : (a b : ResyncNote) → sync_words a ≡ sync_words b → a ≡ b
sync_injective resync.BadAuts resync.BadAuts e = refl
sync_injective resync.BadAuts b e =
    let marks : mark (sync_words resync.BadAuts) ≡ mark (sync_words b) = ap mark e in absurd (omega arith)
sync_injective a resync.BadAuts e =
    let marks : mark (sync_words a) ≡ mark (sync_words resync.BadAuts) = ap mark e in absurd (omega arith)
sync_injective a b e = let same : Some a ≡ Some b = (resync_same a b [] [] (omega arith) (omega arith) e).0 in (cc)

-- a number for each answer of a USIM, by its first word
abbrev answer_of_word : List ℕ → ℕ
answer_of_word word =
    if bytes_eq word (codes "accepted") then 0
    else if bytes_eq word (codes "sync") then 1 else 2

-- the same number, by the answer
abbrev answer_number : GiveVerdict → ℕ
answer_number Accepted = 0
answer_number (SyncFailure sqn_ms) = 1
answer_number Absent = 2

-- the first word says which answer it is
answer_is : (verdict : GiveVerdict) → answer_number verdict ≡ answer_of_word (word_at (give_words verdict) 0)
answer_is Accepted = refl
answer_is (SyncFailure sqn_ms) = refl
answer_is Absent = refl

-- a USIM's answer is determined by its words
give_injective : (a b : GiveVerdict) → GiveFits a → give_words a ≡ give_words b → a ≡ b
give_injective Accepted Accepted p e = refl
give_injective (SyncFailure a) (SyncFailure b) p e = ap SyncFailure (hex_injective a b p (ap (λ ws. word_at ws 1) e))
give_injective Absent Absent p e = refl
give_injective a b p e =
    let kinds : answer_number a ≡ answer_number b = answer_is a ∙ ap (λ ws. answer_of_word (word_at ws 0)) e ∙ sym (answer_is b) in
    absurd (omega arith)

-- what the centre answered when it was asked for a number is determined by its words, and so is the subscriber
number_injective : (identities : List Identity) (s t : ℕ) (a b : NumberNote) → AreIdentities identities → s < length identities
    → record_words identities (Number s a) ≡ record_words identities (Number t b) → Number s a ≡ Number t b
number_injective identities s t (number.Drew m) (number.Drew n) are p e =
    let sub : s ≡ t = imsi_injective identities s t are p (ap (λ ws. word_at ws 1) e) in
    let drawn : m ≡ n = numeral_injective m n (ap (λ ws. word_at ws 2) e) in (cc)
number_injective identities s t (number.Withheld m a) (number.Withheld n b) are p e =
    let sub : s ≡ t = imsi_injective identities s t are p (ap (λ ws. word_at ws 1) e) in
    let drawn : m ≡ n = numeral_injective m n (ap (λ ws. word_at ws 2) e) in
    let stop : a ≡ b = stop_injective a b (ap (λ ws. word_at ws 3) e) in (cc)
number_injective identities s t (number.Exhausted m) (number.Exhausted n) are p e =
    let sub : s ≡ t = imsi_injective identities s t are p (ap (λ ws. word_at ws 1) e) in
    let read : m ≡ n = numeral_injective m n (ap (λ ws. word_at ws 2) e) in (cc)
number_injective identities s t a b are p e =
    let marks : mark (record_words identities (Number s a)) ≡ mark (record_words identities (Number t b)) = ap mark e in absurd (omega arith)

-- what is told of a job's record is determined by its words
answer_injective : (identities : List Identity) (a b : LineRecord) → AreIdentities identities
    → LineFits identities (RecordLine [] a) → IsAtItsEnd a → IsAtItsEnd b
    → record_words identities a ≡ record_words identities b → told_line a ≡ told_line b
answer_injective identities (Number s a) (Number t b) are p x y e = number_injective identities s t a b are p.0 e
answer_injective identities (Sync s a) (Sync t b) are p x y e =
    let sub : s ≡ t = imsi_injective identities s t are p.0 (ap (λ ws. word_at ws 1) e) in
    let note : a ≡ b = sync_injective a b (ap (λ ws. drop 2 ws) e) in (cc)
answer_injective identities (Give s m a) (Give t n b) are p x y e =
    let sub : s ≡ t = imsi_injective identities s t are p.0 (ap (λ ws. word_at ws 1) e) in
    let number : m ≡ n = numeral_injective m n (ap (λ ws. word_at ws 2) e) in
    let verdict : a ≡ b = give_injective a b p.1 (ap (λ ws. drop 3 ws) e) in (cc)
answer_injective identities (Further a) (Further b) are p x y e = ap (λ (s : Said). Further s) (further_injective identities a b are p.0 p.1 e)
answer_injective identities (Event a) (Event b) are p x y e = ap (λ (r : EventRecord). Event r) (event_injective a b p.1.0 p.1.1 x y e)
answer_injective identities a b are p x y e =
    let kinds : record_number a ≡ record_number b
    = record_is identities a ∙ ap (λ ws. record_of_word (word_at ws 0)) e ∙ sym (record_is identities b) in
    absurd (omega arith)

-- closings with the same fields are the same
closing_is : (a b : Closing) → a.sub ≡ b.sub → a.first ≡ b.first → a.last ≡ b.last → a.drawn ≡ b.drawn → a.skipped ≡ b.skipped
    → a.released ≡ b.released → a.withheld ≡ b.withheld → a ≡ b
closing_is a b sub first last drawn skipped released withheld =
    let make : ℕ → ℕ → ℕ → ℕ → ℕ → ℕ → ℕ → Closing
    = λ s f l d k r w. record { sub = s; first = f; last = l; drawn = d; skipped = k; released = r; withheld = w } in
    ap (λ s. make s a.first a.last a.drawn a.skipped a.released a.withheld) sub
    ∙ ap (λ f. make b.sub f a.last a.drawn a.skipped a.released a.withheld) first
    ∙ ap (λ l. make b.sub b.first l a.drawn a.skipped a.released a.withheld) last
    ∙ ap (λ d. make b.sub b.first b.last d a.skipped a.released a.withheld) drawn
    ∙ ap (λ k. make b.sub b.first b.last b.drawn k a.released a.withheld) skipped
    ∙ ap (λ r. make b.sub b.first b.last b.drawn b.skipped r a.withheld) released
    ∙ ap (λ w. make b.sub b.first b.last b.drawn b.skipped b.released w) withheld

-- a closing is determined by its words
closing_injective : (identities : List Identity) (a b : Closing) → AreIdentities identities → LineFits identities (ClosedLine a)
    → closing_words identities a ≡ closing_words identities b → a ≡ b
closing_injective identities a b are p e =
    let at : (i : ℕ) → word_at (closing_words identities a) i ≡ word_at (closing_words identities b) i = λ i. ap (λ ws. word_at ws i) e in
    let sub : a.sub ≡ b.sub = imsi_injective identities _ _ are p (at 1) in
    let first : a.first ≡ b.first = numeral_injective _ _ (at 2) in
    let last : a.last ≡ b.last = numeral_injective _ _ (at 3) in
    let drawn : a.drawn ≡ b.drawn = numeral_injective _ _ (at 4) in
    let skipped : a.skipped ≡ b.skipped = numeral_injective _ _ (at 5) in
    let released : a.released ≡ b.released = numeral_injective _ _ (at 6) in
    let withheld : a.withheld ≡ b.withheld = numeral_injective _ _ (at 7) in
    closing_is a b sub first last drawn skipped released withheld

-- so is the verdict on a session
verdict_injective : (a b : SessionVerdict) → session_words a ≡ session_words b → a ≡ b
verdict_injective a b e =
    let session : a.session ≡ b.session = numeral_injective _ _ (ap (λ ws. word_at ws 1) e) in
    let agree : a.agree ≡ b.agree = agree_injective _ _ (ap (λ ws. word_at ws 2) e) in
    let make : ℕ → Bool → SessionVerdict = λ s v. record { session = s; agree = v } in
    ap (λ (s : ℕ). make s a.agree) session ∙ ap (λ v. make b.session v) agree

-- and a breach with its job
broken_injective : (i j : ℕ) (a b : Breach) → broken_words i a ≡ broken_words j b → BrokenLine i a ≡ BrokenLine j b
broken_injective i j a b e =
    let job : i ≡ j = numeral_injective _ _ (ap (λ ws. word_at ws 2) e) in
    let session : a.session ≡ b.session = numeral_injective _ _ (ap (λ ws. word_at ws 3) e) in
    let place : a.end ≡ b.end = end_injective _ _ (ap (λ ws. word_at ws 4) e) in
    let packet : a.packet ≡ b.packet = numeral_injective _ _ (ap (λ ws. word_at ws 5) e) in
    let make : ℕ → ℕ → End → ℕ → Line = λ k s x n. BrokenLine k (record { session = s; end = x; packet = n }) in
    ap (λ (k : ℕ). make k a.session a.end a.packet) job ∙ ap (λ (s : ℕ). make j s a.end a.packet) session
    ∙ ap (λ x. make j b.session x a.packet) place ∙ ap (λ (n : ℕ). make j b.session b.end n) packet

-- what is told of a line is determined by its words
line_injective : (identities : List Identity) (l m : Line) → AreIdentities identities → LineFits identities l → LineAt l → LineAt m
    → line_words identities l ≡ line_words identities m → told_of l ≡ told_of m
line_injective identities (RoundLine m) (RoundLine n) are p x y e = ap RoundLine (numeral_injective m n (ap (λ ws. word_at ws 1) e))
line_injective identities (JobLine m) (JobLine n) are p x y e = ap JobLine (numeral_injective m n (ap (λ ws. word_at ws 1) e))
line_injective identities (RecordLine j a) (RecordLine k b) are p x y e = ap (RecordLine []) (answer_injective identities a b are p x y e)
line_injective identities (ClosedLine a) (ClosedLine b) are p x y e = ap ClosedLine (closing_injective identities a b are p e)
line_injective identities (SessionLine a) (SessionLine b) are p x y e = ap SessionLine (verdict_injective a b e)
line_injective identities HeldLine HeldLine are p x y e = refl
line_injective identities (BrokenLine i a) (BrokenLine j b) are p x y e = broken_injective i j a b e
line_injective identities RestartLine RestartLine are p x y e = refl
line_injective identities l m are p x y e =
    let kinds : kind_of l ≡ kind_of m = kind_is identities l ∙ ap kind_of_words e ∙ sym (kind_is identities m) in
    absurd (omega arith)

-- what is told of lines is determined by their words
words_injective : (identities : List Identity) (ls ms : List Line) → AreIdentities identities
    → AllByRecursion (LineFits identities) ls → AllByRecursion LineAt ls → AllByRecursion LineAt ms
    → map (line_words identities) ls ≡ map (line_words identities) ms → map told_of ls ≡ map told_of ms
words_injective identities [] [] are p x y e = refl
words_injective identities [] (m ∷ ms) are p x y e = absurd (cc)
words_injective identities (l ∷ ls) [] are p x y e = absurd (cc)
words_injective identities (l ∷ ls) (m ∷ ms) are p x y e =
    let first : line_words identities l ≡ line_words identities m = cc in
    let others : map (line_words identities) ls ≡ map (line_words identities) ms = cc in
    let line : told_of l ≡ told_of m = line_injective identities l m are p.0 x.0 y.0 first in
    let rest : map told_of ls ≡ map told_of ms = words_injective identities ls ms are p.1 x.1 y.1 others in (cc)

-- and by their text
pub lines_injective : (set : Setting) (full : Bool) (ls ms : List Line) → AreIdentities (identities_of set.rows)
    → AllByRecursion (LineFits (identities_of set.rows)) ls → AllByRecursion LineAt ls → AllByRecursion LineAt ms
    → flat_map (line_text set full) ls ≡ flat_map (line_text set full) ms → map told_of ls ≡ map told_of ms
lines_injective set full ls ms are p x y e =
    let lines : flat_map (printed set full) ls ≡ flat_map (printed set full) ms
    = lines_cut _ _ (printed_are set full ls) (printed_are set full ms)
    (sym (texts_are set full ls) ∙ e ∙ texts_are set full ms) in
    words_injective (identities_of set.rows) ls ms are p x y (sym (own_of_lines set full ls) ∙ ap own lines ∙ own_of_lines set full ms)
