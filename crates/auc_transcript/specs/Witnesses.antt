-- Witnesses of the promises: for each promise transcripts of a few lines that meet its premise, with a part left open. The promise
-- determines that part. So no promise is empty: if nothing met the premise, it would determine nothing, and the law here would be
-- false.
use Rattle.std.specs.Prelude.{◌≡◌, ◌≢◌, ℕ, ◌≤◌, Bool, true, false, List, [], ◌∷◌, ◌++◌, map, replicate, Contains, Option, Some, None, Ok}
use Rattle.auc_attr.specs.declared.attr.Attr.TheVariants as attr
use Rattle.auc_memory.specs.declared.stop.Stop.{Stop}
use Rattle.auc_history.specs.History.{numbers_after}
use Rattle.auc_hmac.specs.declared.keys.KeySet.{KeySet}
use Rattle.auc_hmac.specs.declared.keys.Master.TheVariants as master
use Rattle.auc_hmac.specs.declared.method.Method.TheVariants as method
use Rattle.auc_ident.specs.Permanent.{username}
use Rattle.auc_lines.specs.Sim.{IsSchedule, SimValue}
use Rattle.auc_lines.specs.Sites.{SitesValue}
use Rattle.auc_lines.specs.declared.part.End.TheVariants as end
use Rattle.auc_lines.specs.declared.part.FivegLine.{FivegLine}
use Rattle.auc_lines.specs.declared.part.Identity.TheVariants as identity
use Rattle.auc_lines.specs.declared.part.Line.TheVariants as line
use Rattle.auc_lines.specs.declared.part.Part.{Part}
use Rattle.auc_lines.specs.declared.part.Part.TheVariants as part
use Rattle.auc_lines.specs.declared.part.SessionLine.{SessionLine}
use Rattle.auc_lines.specs.declared.sim.SimSchedule.{SimSchedule}
use Rattle.auc_lines.specs.declared.sim.SimSchedule.TheVariants.{Plain}
use Rattle.auc_lines.specs.declared.sites.SiteEvent.TheVariants as site_event
use Rattle.auc_packet.specs.Spelling.{packet_text}
use Rattle.auc_packet.specs.declared.packet.Packet.{Packet}
use Rattle.auc_packet.specs.declared.packet.Packet.TheVariants as packet
use Rattle.auc_packet.specs.declared.subtype.Subtype.TheVariants as subtype
use Rattle.auc_peer.specs.Table.{new_peer}
use Rattle.auc_peer.specs.declared.decrypted.Decrypted.TheVariants as decrypted
use Rattle.auc_peer.specs.declared.next.NextContext.TheVariants as next
use Rattle.auc_peer.specs.declared.peer.Source.TheVariants as source
use Rattle.auc_random.specs.Random.{rand_of}
use Rattle.auc_reauth.specs.Device.{Keeps}
use Rattle.auc_reauth.specs.Server.{no_contexts}
use Rattle.auc_reauth.specs.declared.context.Context.{Context}
use Rattle.auc_server.specs.Server.{started}
use Rattle.auc_server.specs.Table.{silent}
use Rattle.auc_server.specs.State.{last_of}
use Rattle.auc_server.specs.declared.server.Resumed.{Resumed}
use Rattle.auc_server.specs.declared.server.ServerState.{ServerState}
use Rattle.auc_server.specs.declared.server.ServerState.TheVariants as state
use Rattle.auc_sim.specs.SessionLaws.{Succeeds as SimSucceeds}
use Rattle.auc_vector.specs.declared.sim_note.SimNote.{SimNote}
use Rattle.auc_vector.specs.declared.sim_note.SimNote.TheVariants as sim_note
use Rattle.auc_sqn.specs.Number.{sqn_bytes}
use Rattle.auc_subs.specs.declared.row.Row.{Row}
use Rattle.auc_vector.specs.Vector.{autn_of}
use Rattle.auc_vector.specs.declared.notes.CounterNote.TheVariants as counts
use Rattle.auc_vector.specs.declared.notes.Notes.{Notes}
use Rattle.auc_vector.specs.declared.notes.NumberNote.TheVariants as number
use Rattle.auc_vector.specs.declared.notes.UsimNote.{UsimNote}
use Rattle.auc_vector.specs.declared.notes.UsimNote.TheVariants as usim
use Rattle.auc_vector.specs.declared.turn.Outcome.TheVariants as outcome
use Rattle.auc_vector.specs.declared.turn.Step.TheVariants as step
use Rattle.auc_world.specs.Came.{of_opening}
use Rattle.auc_world.specs.Happened.{new_session, peer_options, server_options}
use Rattle.auc_world.specs.Net.{Net}
use Rattle.auc_world.specs.Plain.{Succeeds}
use Rattle.auc_subs.specs.Setting.{Setting}
use Rattle.auc_record.specs.Told.{no_keys}
use Rattle.auc_record.specs.declared.event.Event.{Event as Happens}
use Rattle.auc_record.specs.declared.event.Event.TheVariants as event
use Rattle.auc_record.specs.declared.event.Note.{Note}
use Rattle.auc_record.specs.declared.event.NoteStep.TheVariants as did
use Rattle.auc_record.specs.declared.further.FivegOutcome.{FivegOutcome}
use Rattle.auc_record.specs.declared.further.FivegOutcome.TheVariants as fiveg
use Rattle.auc_record.specs.declared.further.Further.TheVariants as further
use Rattle.auc_world.specs.declared.net.Session.{Session}
use Rattle.auc_record.specs.declared.record.GiveVerdict.{GiveVerdict}
use Rattle.auc_record.specs.declared.record.GiveVerdict.TheVariants as given
use Rattle.auc_record.specs.declared.record.LineRecord.{LineRecord}
use Rattle.auc_record.specs.declared.record.LineRecord.TheVariants.{Number, Give, Further, Event}
use Rattle.auc_record.specs.declared.record.PartRecord.{PartRecord}
use Rattle.auc_record.specs.declared.record.PartRecord.TheVariants as record_of
use Rattle.auc_record.specs.declared.record.Premise.TheVariants as premise
use Rattle.auc_record.specs.declared.record.RoundRecord.{RoundRecord}
use Rattle.auc_record.specs.declared.record.SessionVerdict.{SessionVerdict}
use Rattle.auc_record.specs.declared.sites.SitesNote.{SitesNote}
use Rattle.auc_record.specs.declared.sites.SitesNote.TheVariants as site_note
use Rattle.auc_record.specs.declared.sites.SitesOutcome.TheVariants as site_outcome
use Rattle.auc_transcript.specs.Completeness.{PlainSessionsAgree, ResumedSessionsAgree}
use Rattle.auc_transcript.specs.Counters.{KeepsContexts}
use Rattle.auc_transcript.specs.Headline.{FailsExactlyByPlace, IsFailure}
use Rattle.auc_transcript.specs.Keys.{EndsAgree}
use Rattle.auc_transcript.specs.Leases.{LeasesAreKept}
use Rattle.auc_transcript.specs.Presented.{FailsExactlyByPlaceInSessions, FindsRightMacs, IsNotedFailure}
use Rattle.auc_transcript.specs.SimSessions.{SimSessionsAgree}
use Rattle.auc_transcript.specs.Systems.{AuthenticationsAreConfirmed}

-- ---- one subscriber, and a round of one job

abbrev pub zeros : List ℕ
zeros = replicate 16 0

-- its USIM is opened at 0, its index has 5 bits, and it has no age limit
abbrev pub subscriber : Row
subscriber = record {
  imsi = record { digits = 6; number = 1 };
  secret = record { k = zeros; opc = zeros };
  amf = 128 ∷ 0 ∷ [];
  seq = 0;
  usim = 0;
  bits = 5;
  age = None;
}

abbrev pub setting : List ℕ → Setting
setting key = record { key = key; names = zeros; rows = subscriber ∷ []; realm = [] }

-- the record of a round, without its closings
abbrev pub round_of : ℕ → List LineRecord → List SessionVerdict → RoundRecord
round_of n lines verdicts = record { number = n; jobs = lines ∷ []; closings = []; sessions = verdicts; premise = premise.Held }

abbrev pub transcript_of : List LineRecord → List PartRecord
transcript_of lines = record_of.Round (round_of 1 lines []) ∷ []

-- ---- vectors that lines give

-- the vectors of 1 to 33 are released, and that of 33 is accepted, which is 32 places after 1
abbrev pub accepted_late : List LineRecord
accepted_late = map (λ n. Number 0 (number.Drew n)) (numbers_after 0 33) ++ Give 0 33 given.Accepted ∷ []

-- then that of 1 is presented, with this answer
abbrev pub given_late : GiveVerdict → List PartRecord
given_late answer = transcript_of (accepted_late ++ Give 0 1 answer ∷ [])

-- the first vector is presented before any other
abbrev pub given_first : GiveVerdict → List PartRecord
given_first answer = transcript_of (Number 0 (number.Drew 1) ∷ Give 0 1 answer ∷ [])

-- the late vector gets a synchronisation failure, and the first one doesn't
abbrev pub PlacesDecide : Type 0
PlacesDecide = (answer : GiveVerdict) → answer ≢ given.Absent → (FailsExactlyByPlace (subscriber ∷ []) (given_late answer) → IsFailure answer)
    × (FailsExactlyByPlace (subscriber ∷ []) (given_first answer) → IsFailure answer → ⊥)

-- ---- age limits

-- a subscriber with an age limit of 3
abbrev pub ageing : Row
ageing = record subscriber { age = Some 3 }

-- the vectors of 1 to 4 are released, and that of 4 is accepted
abbrev pub accepted_fourth : List LineRecord
accepted_fourth = map (λ n. Number 0 (number.Drew n)) (numbers_after 0 4) ++ Give 0 4 given.Accepted ∷ []

-- then that of a number is presented, with this answer
abbrev pub given_aged : ℕ → GiveVerdict → List PartRecord
given_aged n answer = transcript_of (accepted_fourth ++ Give 0 n answer ∷ [])

-- the first vector gets a synchronisation failure, and the second one doesn't; without an age limit the first one doesn't either
abbrev pub AgesDecide : Type 0
AgesDecide = (answer : GiveVerdict) → answer ≢ given.Absent → (FailsExactlyByPlace (ageing ∷ []) (given_aged 1 answer) → IsFailure answer)
    × (FailsExactlyByPlace (ageing ∷ []) (given_aged 2 answer) → IsFailure answer → ⊥)
    × (FailsExactlyByPlace (subscriber ∷ []) (given_aged 1 answer) → IsFailure answer → ⊥)

-- ---- the lines of a session

-- a session of EAP-AKA with re-authentication identities
abbrev pub opening : ℕ → SessionLine
opening session = record {
  session = session;
  sub = 0;
  method = method.Aka;
  name = [];
  peer_name = None;
  pseudonym = false;
  reauth = true;
  bidding = false;
  any = false;
  has_prime = false;
  identity = identity.Held;
}

abbrev pub line_of : Happens → Note → LineRecord
line_of e note = Event (record { event = e; result = Ok note })

-- the server sent bytes, the job's packet of a number, and asked the centre for a subscriber if it asked
abbrev pub server_sent : Notes → Option ℕ → List ℕ → ℕ → Note
server_sent notes asked bytes n = record { notes = notes; step = did.Server (step.Sent bytes); packet = Some n; asked = asked; device = None; vector = None }

abbrev pub peer_sent : Notes → List ℕ → ℕ → Note
peer_sent notes bytes n = record { notes = notes; step = did.Peer (step.Sent bytes); packet = Some n; asked = None; device = Some 0; vector = None }

-- a session begins: its packets 1 and 2 ask for the identity and give it. What they are is no matter
abbrev pub beginning : ℕ → List LineRecord
beginning session =
    line_of (event.Start session) (server_sent silent None [] 1)
    ∷ line_of (event.Deliver session end.Peer 1) (peer_sent silent [] 2)
    ∷ []

-- the server draws number 1 and sends a Challenge, packet 3
abbrev pub challenging : ℕ → List ℕ → LineRecord
challenging session bytes = line_of (event.Deliver session end.Server 2) (server_sent (record silent { number = Some (number.Drew 1) }) (Some 0) bytes 3)

-- it reaches the peer, whose USIM answers
abbrev pub presenting : ℕ → UsimNote → ℕ → LineRecord
presenting session answer n = line_of (event.Deliver session end.Peer 3) (peer_sent (record silent { usim = Some answer }) [] n)

-- both ends end in Success
abbrev pub winning : ℕ → List LineRecord
winning session =
    line_of (event.Deliver session end.Server 4)
    (record { notes = silent; step = did.Server (step.Ended (outcome.Success no_keys) zeros); packet = Some 5; asked = None; device = None; vector = None })
    ∷ line_of (event.Deliver session end.Peer 5)
    (record { notes = silent; step = did.Peer (step.Ended (outcome.Success no_keys) []); packet = None; asked = None; device = Some 0; vector = None })
    ∷ []

-- ---- vectors that sessions present

-- the Challenge of number 1, by its RAND and its AUTN
abbrev pub challenge : List ℕ → Packet
challenge key = packet.Aka true 2 method.Aka subtype.Challenge (
    attr.Rand (rand_of key 0 1) ∷ attr.Autn (autn_of subscriber.secret.k subscriber.secret.opc (rand_of key 0 1) subscriber.amf subscriber.bits 1) ∷ []
    )

-- the lines before the Challenge is presented
abbrev pub challenged : List ℕ → List LineRecord
challenged key = line_of (event.Open (opening 1)) of_opening ∷ (beginning 1 ++ challenging 1 (packet_text (challenge key)) ∷ [])

-- it is presented, with this answer
abbrev pub presented_first : List ℕ → UsimNote → List PartRecord
presented_first key answer = transcript_of (challenged key ++ presenting 1 answer 4 ∷ [])

-- it is accepted
abbrev pub accepted_once : List ℕ → List LineRecord
accepted_once key = challenged key ++ presenting 1 (usim.Accepted (sqn_bytes 5 1)) 4 ∷ []

-- and then presented again, with this answer
abbrev pub presented_again : List ℕ → UsimNote → List PartRecord
presented_again key answer = transcript_of (accepted_once key ++ presenting 1 answer 5 ∷ [])

-- the vector gets a synchronisation failure when it is presented again, and not before
abbrev pub PlacesDecideInSessions : Type 0
PlacesDecideInSessions = (key : List ℕ) (answer : UsimNote)
    → (FailsExactlyByPlaceInSessions (setting key) (presented_again key answer) → IsNotedFailure answer)
    × (FailsExactlyByPlaceInSessions (setting key) (presented_first key answer) → IsNotedFailure answer → ⊥)

-- the USIM doesn't find its MAC wrong
abbrev pub MacIsRight : Type 0
MacIsRight = (key : List ℕ) (answer : UsimNote) → FindsRightMacs (setting key) (presented_first key answer) → answer ≢ usim.WrongMac

-- ---- keys

-- the network of a job's sessions after its last line, in which no delivery broke the premise
abbrev pub net_of : List Session → Net
net_of sessions = record { packets = []; sessions = sessions; released = []; homes = []; devices = []; stores = []; broken = None }

abbrev pub one_job : List Session → List (List Net)
one_job sessions = (net_of sessions ∷ []) ∷ []

-- a context of the full authentication 1
abbrev pub context : List ℕ → ℕ → Context
context name counter = record { origin = 1; identity = name; k_encr = zeros; k_aut = zeros; master = master.Aka zeros; counter = counter }

-- a session whose ends ended in Success under these keys, over one challenge
abbrev pub won : KeySet → KeySet → Session
won k l = record (new_session (opening 1) 0) {
  server = Some (record (started (server_options (opening 1))) {
    state = state.Ended (outcome.Success k) (record {
      challenged = Some (record {
        sub = 0;
        number = 1;
        vector = record { n = 1; rand = zeros; autn = zeros; xres = []; ck = zeros; ik = zeros };
        keys = k;
        master = master.Aka zeros;
        next = None;
      });
      resumed = None;
    });
  });
  peer = record (new_peer (peer_options (opening 1))) { source = source.Challenge (record { rand = zeros; autn = zeros }) [] };
  peer_keys = Some l;
}

-- and one whose ends did so in a fast re-authentication
abbrev pub won_again : KeySet → KeySet → Session
won_again k l = record (new_session (opening 1) 0) {
  server = Some (record (started (server_options (opening 1))) {
    state = state.Ended (outcome.Success k) (record { challenged = None; resumed = Some (record { sub = 0; context = context [] 1; nonce = zeros; next = None }) });
  });
  peer = record (new_peer (peer_options (opening 1))) { source = source.Context (context [] 1) };
  peer_keys = Some l;
}

-- the keys are equal
abbrev pub KeysAreEqual : Type 0
KeysAreEqual = (k l : KeySet) → (EndsAgree (one_job (won k l ∷ [])) → k ≡ l) × (EndsAgree (one_job (won_again k l ∷ [])) → k ≡ l)

-- ---- contexts

-- the record that tells that a server took up a context with a counter, and the one that tells that a device accepted a counter
abbrev pub resumes : ℕ → ℕ → LineRecord
resumes session n = line_of (event.Deliver session end.Server 2) (server_sent (record silent { resumed = Some n }) None [] 3)

abbrev pub accepts : ℕ → ℕ → LineRecord
accepts session n = line_of (event.Deliver session end.Peer 3) (peer_sent (record silent { counter = Some (counts.Taken n) }) [] 4)

-- a session whose server took up a context again
abbrev pub resuming : ℕ → Context → Session
resuming session c = record (new_session (opening session) 0) {
  server = Some (record (started (server_options (opening session))) { state = state.AwaitReauth (record { sub = 0; context = c; nonce = zeros; next = None }) });
}

-- and one whose peer accepted the counter of its device's context
abbrev pub accepting : ℕ → Context → Session
accepting session c = record (new_session (opening session) 0) {
  peer = record (new_peer (peer_options (opening session))) {
    inner = decrypted.Attributes (record { pseudonym = None; identity = None; counter = Some c.counter; nonce = Some zeros });
    source = source.Context c;
    next = next.Renamed c.identity None;
  };
}

-- the counters and the identities of two resumptions differ, and so do the counters of two acceptances
abbrev pub ContextsAreKept : Type 0
ContextsAreKept = (set : Setting) (parts : List Part) (x y : List ℕ) (c d : ℕ)
    → (KeepsContexts set parts (transcript_of (resumes 1 c ∷ resumes 2 d ∷ [])) (one_job (resuming 1 (context x c) ∷ resuming 2 (context y d) ∷ []))
    → (c ≢ d) × (x ≢ y))
    × (KeepsContexts set parts (transcript_of (accepts 1 c ∷ accepts 2 d ∷ [])) (one_job (accepting 1 (context x c) ∷ accepting 2 (context y d) ∷ []))
    → c ≢ d)

-- a counter that was used is told, and no other one is
abbrev pub CountersAreNoted : Type 0
CountersAreNoted = (set : Setting) (parts : List Part) (c n : ℕ)
    → (KeepsContexts set parts (transcript_of (resumes 1 n ∷ [])) (one_job (resuming 1 (context [] c) ∷ [])) → n ≡ c)
    × (KeepsContexts set parts (transcript_of (accepts 1 n ∷ [])) (one_job (accepting 1 (context [] c) ∷ [])) → n ≡ c)
    × (KeepsContexts set parts (transcript_of []) (one_job (resuming 1 (context [] c) ∷ [])) → ⊥)
    × (KeepsContexts set parts (transcript_of []) (one_job (accepting 1 (context [] c) ∷ [])) → ⊥)

-- ---- plain sessions

-- a job of a session whose only event line is `plain`
abbrev pub plain_round : ℕ → Part
plain_round session = part.Round ((line.Session (opening session) ∷ line.Plain session ∷ []) ∷ [])

-- its records, in a full authentication
abbrev pub plain_lines : List LineRecord
plain_lines =
    line_of (event.Open (opening 1)) of_opening
    ∷ (beginning 1 ++ challenging 1 [] ∷ presenting 1 (usim.Accepted (sqn_bytes 5 1)) 4 ∷ winning 1)

-- whatever network and verdicts there are: the session succeeds, and there is the verdict that its ends agree
abbrev pub PlainSessionWins : Type 0
PlainSessionWins = (verdicts : List SessionVerdict) (net : Net)
    → PlainSessionsAgree (subscriber ∷ []) (plain_round 1 ∷ []) (record_of.Round (round_of 1 plain_lines verdicts) ∷ []) ((net ∷ []) ∷ [])
    → Succeeds net 1 × Contains verdicts (record { session = 1; agree = true })

-- ---- resumed sessions

-- after that session the device keeps a context
abbrev pub device : Context → Keeps
device c = record { pseudonyms = record { aka = None; prime = None }; contexts = record { aka = Some c; prime = None } }

abbrev pub first_net : Context → Net
first_net c = record (net_of []) { homes = record { sub = 0; ordinals = 1; store = no_contexts } ∷ []; stores = device c ∷ [] }

-- in the next round a session's server takes it up again, and the device accepts its counter
abbrev pub resumed_lines : List LineRecord
resumed_lines =
    beginning 2 ++ resumes 2 1 ∷ accepts 2 1 ∷ winning 2

abbrev pub taken_up : Resumed
taken_up = record { sub = 0; context = context zeros 1; nonce = zeros; next = None }

-- the network after it, whatever state the server is in and whatever keys the peer has
abbrev pub second_net : ServerState → Option KeySet → Net
second_net now keys = net_of (record (new_session (opening 2) 0) {
  server = Some (record (started (server_options (opening 2))) { state = now });
  peer_keys = keys;
} ∷ [])

abbrev pub two_rounds : List SessionVerdict → List PartRecord
two_rounds verdicts =
    record_of.Round (round_of 1 plain_lines [])
    ∷ record_of.Round (round_of 2 (line_of (event.Open (opening 2)) of_opening ∷ resumed_lines) verdicts)
    ∷ []

-- the session succeeds too, in whatever state the server has that took the context up
abbrev pub ResumedSessionWins : Type 0
ResumedSessionWins = (key : List ℕ) (verdicts : List SessionVerdict) (now : ServerState) (keys : Option KeySet)
    → (last_of now).resumed ≡ Some taken_up
    → ResumedSessionsAgree (setting key) (plain_round 1 ∷ plain_round 2 ∷ []) (two_rounds verdicts) ((first_net (context zeros 1) ∷ []) ∷ (second_net now keys ∷ []) ∷ [])
    → Succeeds (second_net now keys) 2 × Contains verdicts (record { session = 2; agree = true })

-- ---- acceptances

-- a session whose peer sends a text as its first identity
abbrev pub opening_with : ℕ → List ℕ → SessionLine
opening_with session text = record (opening session) { identity = identity.Text text }

-- a job of such a session: its server starts, and packets 1 and 3 reach the peer
abbrev pub text_round : ℕ → List ℕ → Part
text_round session text = part.Round ((
    line.Session (opening_with session text) ∷ line.Start session ∷ line.Deliver session end.Peer 1 ∷ line.Deliver session end.Peer 3 ∷ []
    ) ∷ [])

-- the session is opened, its server asks for the identity, and its peer sends the text
abbrev pub text_sent : ℕ → List ℕ → List LineRecord
text_sent session text =
    line_of (event.Open (opening_with session text)) of_opening
    ∷ line_of (event.Start session) (server_sent silent None (packet_text (packet.Identity true 1 [])) 1)
    ∷ line_of (event.Deliver session end.Peer 1) (peer_sent silent (packet_text (packet.Identity false 1 text)) 2)
    ∷ []

-- the round after the plain session, in which the device is told to have accepted a counter
abbrev pub text_rounds : List ℕ → ℕ → List PartRecord
text_rounds text n =
    record_of.Round (round_of 1 plain_lines []) ∷ record_of.Round (round_of 2 (text_sent 2 text ++ accepts 2 n ∷ []) []) ∷ []

-- the text has the identity of the context that the device kept, and the context was open for the counter, whatever network there is
-- in the end
abbrev pub AcceptanceIsOwn : Type 0
AcceptanceIsOwn = (key text x : List ℕ) (c n : ℕ) (net : Net)
    → KeepsContexts (setting key) (plain_round 1 ∷ text_round 2 text ∷ []) (text_rounds text n) ((first_net (context x c) ∷ []) ∷ (net ∷ []) ∷ [])
    → (username text ≡ x) × (c ≤ n)

-- ---- authentications in 5G

-- one in which nothing happens to RES* on its way, and both ends know the serving network by one name
abbrev pub authentication : FivegLine
authentication = record { sub = 0; home = zeros; device = zeros; bit = None; hxres = false }

abbrev pub fiveg_round : Part
fiveg_round = part.Round ((line.Fiveg authentication ∷ []) ∷ [])

-- the first vector is released for it, the USIM gives this answer, and this is its outcome
abbrev pub authenticated : GiveVerdict → FivegOutcome → List PartRecord
authenticated answer outcome = transcript_of (Number 0 (number.Drew 1) ∷ Give 0 1 answer ∷ Further (further.Fiveg 0 outcome) ∷ [])

-- the USIM accepted, and both ends have one K_SEAF, whatever network there is
abbrev pub AuthenticationIsConfirmed : Type 0
AuthenticationIsConfirmed = (key : List ℕ) (answer : GiveVerdict) (outcome : FivegOutcome) (net : Net)
    → AuthenticationsAreConfirmed (setting key) (fiveg_round ∷ []) (authenticated answer outcome) ((net ∷ []) ∷ [])
    → (answer ≡ given.Accepted) × ((k_seaf : List ℕ) × (outcome ≡ fiveg.Confirmed k_seaf k_seaf))

-- ---- sites

-- one site, to which a master leases one number
abbrev pub leasing : SitesValue
leasing = record { sub = 0; sites = 1; size = 1; schedule = site_event.Ask 1 ∷ site_event.Deliver 1 ∷ site_event.Deliver 2 ∷ site_event.Draw 1 ∷ [] }

abbrev pub sites_round : Part
sites_round = part.Round ((line.Sites leasing ∷ []) ∷ [])

-- what is said of an event of the subscriber's sites
abbrev pub said : SitesNote → LineRecord
said what = Further (further.Sites 0 what)

-- the first vector is released for the site's request, and the site hands out this number
abbrev pub leased_lines : ℕ → List LineRecord
leased_lines n =
    said (site_note.Asked 1 1) ∷ Number 0 (number.Drew 1) ∷ said (site_note.Delivered 1 (site_outcome.Granted 1 2)) ∷ said (site_note.Delivered 2 (site_outcome.Taken 1)) ∷ said (site_note.Number 1 n) ∷ []

abbrev pub leased : ℕ → List PartRecord
leased n = transcript_of (leased_lines n)

-- it is the vector's, whatever network there is
abbrev pub LeaseIsKept : Type 0
LeaseIsKept = (key : List ℕ) (n : ℕ) (net : Net) → LeasesAreKept (setting key) (sites_round ∷ []) (leased n) ((net ∷ []) ∷ []) → n ≡ 1

-- ---- EAP-SIM

-- a session with two triplets
abbrev pub sim_line : SimSchedule → SimValue
sim_line schedule = record { sub = 0; count = 2; schedule = schedule }

abbrev pub sim_round : SimSchedule → Part
sim_round schedule = part.Round ((line.Sim (sim_line schedule) ∷ []) ∷ [])

-- the first two vectors are released for it, and this is said of it
abbrev pub sim_lines : List SimNote → List LineRecord
sim_lines notes = Number 0 (number.Drew 1) ∷ Number 0 (number.Drew 2) ∷ map (λ note. Further (further.Sim 0 note)) notes

-- by whichever schedule, if both ends ended in Success, then with equal keys, whatever network there is
abbrev pub SimEndsAgree : Type 0
SimEndsAgree = (key : List ℕ) (schedule : SimSchedule) (agree : Bool) (net : Net) → IsSchedule schedule
    → SimSessionsAgree (setting key) (sim_round schedule ∷ []) (transcript_of (sim_lines (sim_note.Ended agree ∷ []))) ((net ∷ []) ∷ []) → agree ≡ true

-- by the plain one, they did
abbrev pub SimSessionSucceeds : Type 0
SimSessionSucceeds = (key : List ℕ) (notes : List SimNote) (net : Net) → rand_of key 0 1 ≢ rand_of key 0 2
    → SimSessionsAgree (setting key) (sim_round Plain ∷ []) (transcript_of (sim_lines notes)) ((net ∷ []) ∷ []) → SimSucceeds notes

-- the second number is withheld: nothing is said of a session
abbrev pub SimSessionIsNone : Type 0
SimSessionIsNone = (key : List ℕ) (schedule : SimSchedule) (stop : Stop) (notes : List SimNote) (net : Net) → IsSchedule schedule
    → SimSessionsAgree (setting key) (sim_round schedule ∷ [])
    (transcript_of (Number 0 (number.Drew 1) ∷ Number 0 (number.Withheld 2 stop) ∷ map (λ note. Further (further.Sim 0 note)) notes)) ((net ∷ []) ∷ []) → notes ≡ []
