-- What the lines of a job give, by what came before them and in the network of its sessions. The centre's answers are free
-- here; the rule of the round (`specs/Round`) says which of them a legal history allows.
use Rattle.std.specs.Prelude.{◌≡◌, ℕ, ◌-◌, ◌/◌, ◌%◌, ◌^◌, ◌<◌, ◌≤◌, ◌||◌, Bool, true, false, Option, Some, None, Ok, Err, List, [], ◌∷◌, ◌++◌, length, map, not, replicate, fold, slice_get, slice_set, take, All, Contains, if◌then◌else◌}
use Rattle.std.specs.Str.{bytes_eq}
use Rattle.auc_5g.specs.Keys.{asme_of, device_of, front_of, home_of, standard_of}
use Rattle.auc_5g.specs.declared.device_keys.DeviceKeys.{DeviceKeys}
use Rattle.auc_5g.specs.declared.home_keys.HomeKeys.{HomeKeys}
use Rattle.auc_aes.specs.Bytes.{xor}
use Rattle.auc_history.specs.Resynchronise.{resynchronise_of}
use Rattle.auc_history.specs.Resynchronise.{Resynchronisation}
use Rattle.auc_history.specs.Resynchronise as found
use Rattle.auc_milenage.specs.Milenage.{auts, f2, f3, f4, f5}
use Rattle.auc_milenage.specs.declared.secret.Secret.{Secret}
use Rattle.auc_lines.specs.declared.part.End.{End}
use Rattle.auc_lines.specs.declared.part.End.TheVariants as end
use Rattle.auc_lines.specs.declared.part.FivegLine.{FivegLine}
use Rattle.auc_lines.specs.declared.part.Line.{Line}
use Rattle.auc_lines.specs.declared.part.Line.TheVariants as line
use Rattle.auc_lines.specs.declared.part.Report.{Report}
use Rattle.auc_lines.specs.declared.part.Report.TheVariants as report_of
use Rattle.auc_peer.specs.Asking.{answer_noted}
use Rattle.auc_peer.specs.Turn.{Decrypts}
use Rattle.auc_peer.specs.declared.peer.Challenge.{Challenge}
use Rattle.auc_request.specs.Request.{is_separated}
use Rattle.auc_sqn.specs.Number.{ind_of, indices, seq_of, sqn_bytes}
use Rattle.auc_sqn.specs.Past.{Past, opening_past, verdict_of, IsSqnMs}
use Rattle.auc_sqn.specs.declared.verdict.Verdict.{Verdict}
use Rattle.auc_sqn.specs.declared.verdict.Verdict.TheVariants.{Fresh, Old, Far, Aged}
use Rattle.auc_subs.specs.Subscriber.{top_at}
use Rattle.auc_subs.specs.declared.row.Row.{Row}
use Rattle.auc_usim.specs.Usim.{IsAnswer}
use Rattle.auc_vector.specs.Auts.{read_auts_of}
use Rattle.auc_vector.specs.Notes.{Asking}
use Rattle.auc_random.specs.Random.{rand_of}
use Rattle.auc_vector.specs.declared.auts.Auts.{Auts}
use Rattle.auc_vector.specs.declared.auts.Auts.TheVariants as read
use Rattle.auc_vector.specs.declared.parts.Vector.{Vector as AuthVector}
use Rattle.auc_vector.specs.declared.notes.Notes.{Notes}
use Rattle.auc_vector.specs.declared.notes.NumberNote.{NumberNote}
use Rattle.auc_vector.specs.declared.notes.NumberNote.TheVariants as number
use Rattle.auc_vector.specs.declared.notes.ResyncNote.{ResyncNote}
use Rattle.auc_vector.specs.declared.notes.ResyncNote.TheVariants as resync
use Rattle.auc_vector.specs.declared.notes.UsimNote.{UsimNote}
use Rattle.auc_record.specs.Draws.{DrawGives, OneGives}
use Rattle.auc_world.specs.Came.{AreReceived, Presented, TellsNotes, TellsReply, asking_of, bytes_named, came, presented_by}
use Rattle.auc_record.specs.Event.{Came}
use Rattle.auc_world.specs.Happened.{ToldEvent, happened}
use Rattle.auc_world.specs.Net.{Net, other}
use Rattle.auc_world.specs.Sim.{SimGives}
use Rattle.auc_world.specs.Sites.{SitesGives}
use Rattle.auc_world.specs.Start.{Kept, start_of}
use Rattle.auc_record.specs.declared.event.Event.{Event}
use Rattle.auc_record.specs.declared.event.Event.TheVariants as event
use Rattle.auc_record.specs.declared.record.LineRecord.{LineRecord}
use Rattle.auc_record.specs.declared.record.LineRecord.TheVariants as record_of
use Rattle.auc_record.specs.declared.record.GiveVerdict.{GiveVerdict}
use Rattle.auc_record.specs.declared.record.GiveVerdict.TheVariants as given
use Rattle.auc_record.specs.Lines.{accepted, is_in, numbers_of}
use Rattle.auc_subs.specs.Setting.{Setting}
use Rattle.auc_record.specs.VectorAt.{vector_at, vector_of_row}
use Rattle.auc_record.specs.declared.further.FivegOutcome.{FivegOutcome}
use Rattle.auc_record.specs.declared.further.FivegOutcome.TheVariants as fiveg
use Rattle.auc_record.specs.declared.further.Further.TheVariants as further

-- the lines before a line of a transcript: those of earlier rounds, those of earlier jobs of its round, and
-- those of its own job
pub record Before : Type 0 where
  pub early : List LineRecord
  pub beside : List LineRecord
  pub own : List LineRecord

-- the lines before what comes after some lines of the same job
abbrev pub behind : Before → List LineRecord → Before
behind before lines = record { early = before.early; beside = before.beside; own = before.own ++ lines }

-- ---- sync

-- so many bytes of which only one bit is set, counted from the first byte's top bit: the byte of the bit is a power of
-- two, and each other byte is 0
abbrev pub bit_mask : ℕ → ℕ → List ℕ
bit_mask size bit = slice_set (replicate size 0) (bit / 8) (2 ^ (7 - bit % 8))

-- bytes, with one bit inverted if a bit is named
abbrev pub turned : Option ℕ → List ℕ → List ℕ
turned None bytes = bytes
turned (Some bit) bytes = xor bytes (bit_mask (length bytes) bit)

-- the AUTS of a USIM whose SQN_MS is that of a number, for the RAND of the subscriber's number 0, with one bit
-- inverted if a bit is named
abbrev pub auts_for : Setting → Row → ℕ → ℕ → Option ℕ → List ℕ
auts_for set row sub seq bit = turned bit (auts row.secret.k row.secret.opc (rand_of set.key sub 0) (sqn_bytes row.bits seq))

-- what the AUTS of a report says by a row's secret for the RAND that it answers: of the subscriber's number 0, or the one that came
-- with it
abbrev pub said_by : Setting → Row → ℕ → Report → Auts
said_by set row sub (report_of.Seq seq bit) = read_auts_of row.secret (rand_of set.key sub 0) (auts_for set row sub seq bit) row.bits
said_by set row sub (report_of.Auts auts rand) = read_auts_of row.secret rand auts row.bits

-- the note of a resynchronisation
abbrev pub resync_note : Resynchronisation → ResyncNote
resync_note (found.Moved seen seq_ms) = resync.Moved seen seq_ms
resync_note (found.InRange seen seq_ms) = resync.InRange seen seq_ms
resync_note (found.Beyond seen seq_ms) = resync.Beyond seen seq_ms

-- what the centre makes of an AUTS that was read: its MAC-S is wrong, or the found number and SEQ_MS decide
abbrev pub IsResynced : Auts → ResyncNote → Type 0
IsResynced read.WrongMac note = note ≡ resync.BadAuts
IsResynced (read.SeqMs seq_ms) note = (seen : ℕ) × (note ≡ resync_note (resynchronise_of seen seq_ms))

-- what follows it: vectors, if the number moved or is in range
abbrev pub VectorsFollow : Setting → ℕ → ℕ → ResyncNote → List LineRecord → Type 0
VectorsFollow set sub count (resync.Moved seen seq_ms) lines = DrawGives set sub count lines
VectorsFollow set sub count (resync.InRange seen seq_ms) lines = DrawGives set sub count lines
VectorsFollow set sub count (resync.Beyond seen seq_ms) lines = lines ≡ []
VectorsFollow set sub count resync.BadAuts lines = lines ≡ []

-- what the AUTS of a report gives: what the centre makes of it, and what follows
pub record SyncGives (set : Setting) (sub : ℕ) (report : Report) (count : ℕ) (lines : List LineRecord) : Type 0 where
  pub row : Row
  pub there : slice_get set.rows sub ≡ Some row
  pub note : ResyncNote
  pub more : List LineRecord
  pub lines_are : lines ≡ record_of.Sync sub note ∷ more
  pub resynced : IsResynced (said_by set row sub report) note
  pub follows : VectorsFollow set sub count note more

-- ---- give

-- whether the vector of a number was released in an earlier round or earlier in the same job
abbrev pub is_released : Before → ℕ → ℕ → Bool
is_released before sub n = is_in n (numbers_of sub before.early) || is_in n (numbers_of sub before.own)

-- the past of a USIM whose index has so many bits: its opening, and the SQNs that it accepted since, the last one first
abbrev pub past_of : ℕ → ℕ → List (List ℕ) → Past
past_of bits opening sqns = fold (λ past sqn. (seq_of bits sqn, ind_of bits sqn) ∷ past) (opening_past bits opening) sqns

-- a USIM's past has each SQN that it accepted
abbrev pub EachAcceptedSqnIsInThePast : Type 0
EachAcceptedSqnIsInThePast = (bits opening : ℕ) (sqns : List (List ℕ))
    → All (λ sqn. Contains (past_of bits opening sqns) (seq_of bits sqn, ind_of bits sqn)) sqns

-- the past of a subscriber's USIM by some lines, and by all lines before
abbrev pub past_by : Row → ℕ → List LineRecord → Past
past_by row sub lines = past_of row.bits row.usim (accepted row.bits sub lines)

abbrev pub past_before : Before → Row → ℕ → Past
past_before before row sub = past_by row sub (before.early ++ before.beside ++ before.own)

-- a USIM's answer to the vector of a number, by its verdict on the number's SQN: a synchronisation failure
-- carries SQN_MS
abbrev pub UsimAnswers : ℕ → Verdict → Past → GiveVerdict → Type 0
UsimAnswers bits Fresh past answer = answer ≡ given.Accepted
UsimAnswers bits (Old entry) past answer = (sqn_ms : List ℕ) × IsSqnMs bits past sqn_ms × (answer ≡ given.Sync sqn_ms)
UsimAnswers bits (Far greatest) past answer = (sqn_ms : List ℕ) × IsSqnMs bits past sqn_ms × (answer ≡ given.Sync sqn_ms)
UsimAnswers bits (Aged greatest) past answer = (sqn_ms : List ℕ) × IsSqnMs bits past sqn_ms × (answer ≡ given.Sync sqn_ms)

-- the verdict of a row's USIM on the SQN of a number
abbrev pub verdict_by : Row → Past → ℕ → Verdict
verdict_by row past n = verdict_of row.age past n (n % indices row.bits)

-- the answer when a vector is presented to a row's USIM: absent, if the centre hasn't released it
abbrev pub IsGiven : Row → Bool → Past → ℕ → GiveVerdict → Type 0
IsGiven row false past n answer = answer ≡ given.Absent
IsGiven row true past n answer = UsimAnswers row.bits (verdict_by row past n) past answer

-- what presenting a number's vector to its subscriber's USIM gives
pub record GiveGives (set : Setting) (before : Before) (sub n : ℕ) (lines : List LineRecord) : Type 0 where
  pub row : Row
  pub there : slice_get set.rows sub ≡ Some row
  pub answer : GiveVerdict
  pub lines_are : lines ≡ record_of.Give sub n answer ∷ []
  pub given : IsGiven row (is_released before sub n) (past_before before row sub) n answer

-- ---- EPS and 5G

-- K_ASME of a vector, for a serving network (TS 33.401 Annex A.2)
abbrev pub kasme_line : List ℕ → AuthVector → LineRecord
kasme_line snid v = record_of.Further (further.Kasme (asme_of v.ck v.ik snid (take 6 v.autn)))

-- what a line for EPS gives: a vector, and its K_ASME
abbrev pub EpsGives : Setting → ℕ → List ℕ → List LineRecord → Type 0
EpsGives set sub snid lines = OneGives set sub (λ n rest. rest ≡ map (kasme_line snid) (vector_at set sub n)) lines

-- what a device with a row's secret makes of the vector of a number that its USIM accepted, for a serving network (TS 33.501
-- §6.1.3.2): the USIM hands it RES, CK and IK (TS 33.102 §6.3.3)
abbrev pub device_of_row : Row → ℕ → List ℕ → List ℕ → DeviceKeys
device_of_row row n rand name =
    device_of (f2 row.secret.k row.secret.opc rand) (f3 row.secret.k row.secret.opc rand) (f4 row.secret.k row.secret.opc rand)
    (f5 row.secret.k row.secret.opc rand) (sqn_bytes row.bits n) rand name

-- what the networks make of RES* that reaches them: the serving network compares HRES*, and then the home network RES*
abbrev pub outcome_of : HomeKeys → DeviceKeys → List ℕ → FivegOutcome
outcome_of home device star =
    if not (bytes_eq (front_of home.rand star) home.hxres_star) then fiveg.ServingRefused
    else if not (bytes_eq star home.xres_star) then fiveg.HomeRefused
    else fiveg.Confirmed home.k_seaf device.k_seaf

-- the standard's HXRES*, if the line tells it
abbrev pub hxres_lines : Bool → HomeKeys → List LineRecord
hxres_lines told home = if told then record_of.Further (further.HxresStar (standard_of home.rand home.xres_star)) ∷ [] else []

-- what follows a USIM's answer: if it accepted, the device's RES* reaches the networks, with one bit turned over if one is named
abbrev pub judged_lines : FivegLine → HomeKeys → DeviceKeys → GiveVerdict → List LineRecord
judged_lines line home device given.Accepted =
    hxres_lines line.hxres home ++ record_of.Further (further.Fiveg line.sub (outcome_of home device (turned line.bit device.res_star))) ∷ []
judged_lines line home device (given.Sync sqn_ms) = []
judged_lines line home device given.Absent = []

-- what a 5G authentication with a number's vector gives: the subscriber's USIM answers it
pub record Authenticates (set : Setting) (before : Before) (line : FivegLine) (row : Row) (n : ℕ) (lines : List LineRecord) : Type 0 where
  pub front : List LineRecord
  pub more : List LineRecord
  pub lines_are : lines ≡ front ++ more
  pub gives : GiveGives set before line.sub n front
  pub judged : more ≡ judged_lines line (home_of (vector_of_row set row line.sub n) line.home)
      (device_of_row row n (rand_of set.key line.sub n) line.device) gives.answer

-- if the separation bit of AMF is set (TS 33.501 §6.1.3.2)
abbrev pub AuthenticatesIf : Bool → Setting → Before → FivegLine → Row → ℕ → List LineRecord → Type 0
AuthenticatesIf false set before line row n lines = lines ≡ record_of.Further (further.Fiveg line.sub fiveg.NoSeparation) ∷ []
AuthenticatesIf true set before line row n lines = Authenticates set before line row n lines

-- what follows the vector of a number
pub record FivegFollows (set : Setting) (before : Before) (line : FivegLine) (n : ℕ) (lines : List LineRecord) : Type 0 where
  pub row : Row
  pub there : slice_get set.rows line.sub ≡ Some row
  pub follows : AuthenticatesIf (is_separated (vector_of_row set row line.sub n).autn) set before line row n lines

-- what a line for 5G gives: a vector, which is released for the USIM's answer, and what follows it
abbrev pub FivegGives : Setting → Before → FivegLine → List LineRecord → Type 0
FivegGives set before line lines =
    OneGives set line.sub (λ n rest. FivegFollows set (behind before (record_of.Number line.sub (number.Drew n) ∷ [])) line n rest) lines

-- ---- events of sessions

-- the centre's answer to a draw for a subscriber is a number that a vector may have, or the word of a spent subscriber
abbrev pub IsNumberNote : Setting → ℕ → NumberNote → Type 0
IsNumberNote set sub (number.Drew n) = (1 ≤ n) × (n ≤ top_at set.rows sub)
IsNumberNote set sub (number.Exhausted word) = top_at set.rows sub ≤ word
IsNumberNote set sub (number.Withheld n stop) = (1 ≤ n) × (n ≤ top_at set.rows sub)

abbrev pub IsNumberAnswer : Setting → ℕ → Option NumberNote → Type 0
IsNumberAnswer set sub None = ⊥
IsNumberAnswer set sub (Some note) = IsNumberNote set sub note

-- what follows a resynchronisation: a number is asked for, if the centre's number moved or is in range
abbrev pub NumberFollows : Setting → ℕ → Resynchronisation → Option NumberNote → Type 0
NumberFollows set sub (found.Moved seen seq_ms) answer = IsNumberAnswer set sub answer
NumberFollows set sub (found.InRange seen seq_ms) answer = IsNumberAnswer set sub answer
NumberFollows set sub (found.Beyond seen seq_ms) answer = answer ≡ None

-- the centre answered a request for a number, after a SEQ was reported or without one
abbrev pub CentreAnswers : Setting → ℕ → Option ℕ → Notes → Type 0
CentreAnswers set sub None notes = IsNumberAnswer set sub notes.number
CentreAnswers set sub (Some seq_ms) notes = (seen : ℕ) × (notes.resync ≡ Some (resync_note (resynchronise_of seen seq_ms)))
    × NumberFollows set sub (resynchronise_of seen seq_ms) notes.number

-- if it was asked, for a subscriber that there is
pub record AsksCentre (set : Setting) (request : Asking) (notes : Notes) : Type 0 where
  pub known : request.sub < length set.rows
  pub answers : CentreAnswers set request.sub request.reported notes

abbrev pub IsCentreAsked : Setting → Option Asking → Notes → Type 0
IsCentreAsked set None notes = Unit {0}
IsCentreAsked set (Some request) notes = AsksCentre set request notes

-- a row's USIM with a secret answered what it was handed, by its past, as the note tells
abbrev pub UsimNotes : Secret → Row → Past → Option Challenge → Option UsimNote → Type 0
UsimNotes secret row past None note = note ≡ None
UsimNotes secret row past (Some challenge) None = ⊥
UsimNotes secret row past (Some challenge) (Some note) =
    IsAnswer secret row.bits row.age past challenge.rand challenge.autn (answer_noted secret challenge note)

-- the device of a session's subscriber received a packet: its USIM answered, by all that it had accepted; and what was
-- decrypted is what was encrypted
pub record AsksUsim (set : Setting) (before : Before) (p : Presented) (told : ToldEvent) : Type 0 where
  pub row : Row
  pub there : slice_get set.rows p.delivery.session.sub ≡ Some row
  pub answers : UsimNotes p.device.secret row (past_before before row p.delivery.session.sub) p.challenge told.notes.usim
  pub decrypts : Decrypts p.decryption told.inner

abbrev pub IsUsimAsked : Setting → Before → Option Presented → ToldEvent → Type 0
IsUsimAsked set before None told = Unit {0}
IsUsimAsked set before (Some p) told = AsksUsim set before p told

-- what an event gives in a job's network, and the network after it
pub record EventGives (set : Setting) (before : Before) (net : Net) (e : Event) (lines : List LineRecord) (next : Net) : Type 0 where
  pub told : ToldEvent
  pub lines_are : lines ≡ record_of.Event (record { event = e; result = came set net e told }) ∷ []
  pub leads : next ≡ happened set net e told
  pub received : AreReceived (bytes_named net e) told.seen
  pub notes : TellsNotes told (came set net e told)
  pub replies : TellsReply net e told
  pub centre : IsCentreAsked set (asking_of set net e told) told.notes
  pub usim : IsUsimAsked set before (presented_by net e told) told

-- the packet that an event made, if it made one
abbrev pub packet_in : Came → Option ℕ
packet_in (Ok note) = note.packet
packet_in (Err why) = None

abbrev pub packet_of : LineRecord → Option ℕ
packet_of (record_of.Number s note) = None
packet_of (record_of.Sync s answer) = None
packet_of (record_of.Give s n answer) = None
packet_of (record_of.Further said) = None
packet_of (record_of.Event r) = packet_in r.result

-- a packet is delivered to an end, if there is one; each packet that follows is delivered to the other end
abbrev pub RelayGives : Setting → Before → Net → ℕ → End → Option ℕ → List LineRecord → Net → Type 0
RelayGives set before net session at' None [] next = next ≡ net
RelayGives set before net session at' None (line ∷ lines) next = ⊥
RelayGives set before net session at' (Some packet) [] next = ⊥
RelayGives set before net session at' (Some packet) (line ∷ lines) next = (mid : Net)
    × EventGives set before net (event.Deliver session at' packet) (line ∷ []) mid
    × RelayGives set (behind before (line ∷ [])) mid session (other at') (packet_of line) lines next

-- a session is started, and its packets are delivered until one makes none
abbrev pub PlainGives : Setting → Before → Net → ℕ → List LineRecord → Net → Type 0
PlainGives set before net session [] next = ⊥
PlainGives set before net session (line ∷ lines) next = (mid : Net) × EventGives set before net (event.Start session) (line ∷ []) mid
    × RelayGives set (behind before (line ∷ [])) mid session end.Peer (packet_of line) lines next

-- ---- lines, jobs

-- what a line of a job gives, in the job's network, and the network after it
abbrev pub LineGives : Setting → Before → Net → Line → List LineRecord → Net → Type 0
LineGives set before net (line.Draw sub count) lines next = DrawGives set sub count lines × (next ≡ net)
LineGives set before net (line.Sync sub report count) lines next = SyncGives set sub report count lines × (next ≡ net)
LineGives set before net (line.Give sub n) lines next = GiveGives set before sub n lines × (next ≡ net)
LineGives set before net (line.Eps sub snid) lines next = EpsGives set sub snid lines × (next ≡ net)
LineGives set before net (line.Fiveg line) lines next = FivegGives set before line lines × (next ≡ net)
LineGives set before net (line.Sites line) lines next = SitesGives set line lines × (next ≡ net)
LineGives set before net (line.Sim line) lines next = SimGives set line lines × (next ≡ net)
LineGives set before net (line.Session opening) lines next = EventGives set before net (event.Open opening) lines next
LineGives set before net (line.Start session) lines next = EventGives set before net (event.Start session) lines next
LineGives set before net (line.Deliver session at' packet) lines next = EventGives set before net (event.Deliver session at' packet) lines next
LineGives set before net (line.Repeat session) lines next = EventGives set before net (event.Repeat session) lines next
LineGives set before net (line.GiveUp session at') lines next = EventGives set before net (event.GiveUp session at') lines next
LineGives set before net (line.Plain session) lines next = PlainGives set before net session lines next
LineGives set before net (line.Tamper packet place byte) lines next = EventGives set before net (event.Tamper packet place byte) lines next
LineGives set before net (line.Cut packet count) lines next = EventGives set before net (event.Cut packet count) lines next

-- what the lines of a job give, one line after the other, and the network after the last
abbrev pub JobGives : Setting → Before → Net → List Line → List LineRecord → Net → Type 0
JobGives set before net [] records last = (records ≡ []) × (last ≡ net)
JobGives set before net (line ∷ lines) records last = (front : List LineRecord) × (rest : List LineRecord) × (next : Net)
    × (records ≡ front ++ rest) × LineGives set before net line front next × JobGives set (behind before front) next lines rest last

-- what the jobs of a round give, each its own record, by the lines of earlier rounds and of earlier jobs; and the network
-- of each after its last line. Homes and devices begin as the round before left them, since no two jobs hold one
abbrev pub JobsGive : Setting → List LineRecord → List Kept → List LineRecord → List (List Line) → List (List LineRecord) → List Net → Type 0
JobsGive set early kept beside [] records nets = (records ≡ []) × (nets ≡ [])
JobsGive set early kept beside (job ∷ jobs) [] nets = ⊥
JobsGive set early kept beside (job ∷ jobs) (lines ∷ records) [] = ⊥
JobsGive set early kept beside (job ∷ jobs) (lines ∷ records) (net ∷ nets) =
    JobGives set (record { early = early; beside = beside; own = [] }) (start_of set kept job) job lines net
    × JobsGive set early kept (beside ++ lines) jobs records nets
