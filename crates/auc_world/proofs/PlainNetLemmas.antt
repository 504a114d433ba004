-- For plain sessions: a packet that is under way reaches its end, and the packet that the end sends is under way to the other one.
use Rattle.std.proofs.Common.{◌≡◌, ℕ, suc, ◌+◌, ◌-◌, ◌≤◌, ◌==◌, Bool, true, List, [], ◌∷◌, length, Option, Some, None, Ok, slice_get, slice_set, refl, sym, ap, ◌∙◌, subst, arith}
use Rattle.std.proofs.lemmas.Option.{slice_get_within}
use Rattle.auc_lines.specs.declared.part.End.{End}
use Rattle.auc_lines.specs.declared.part.End.TheVariants as end
use Rattle.auc_packet.specs.Received.{IsReceived}
use Rattle.auc_peer.specs.Rows.{peer_row}
use Rattle.auc_peer.specs.Subscription.{Subscription}
use Rattle.auc_peer.specs.Table.{peer_step}
use Rattle.auc_peer.specs.Turn.{Decrypts, asked, decryption_made}
use Rattle.auc_peer.specs.declared.peer.Peer.{Peer}
use Rattle.auc_vector.specs.declared.why.PeerWhy.{PeerWhy}
use Rattle.auc_server.specs.Replies.{Replies}
use Rattle.auc_server.specs.Rows.{server_row}
use Rattle.auc_server.specs.Server.{ServerEnd, challenged_of, started}
use Rattle.auc_subs.specs.Setting.{Setting}
use Rattle.auc_server.specs.Steps.{asking}
use Rattle.auc_reauth.specs.Device.{Keeps}
use Rattle.auc_server.specs.Table.{homes_after, server_step, silent}
use Rattle.auc_server.specs.declared.setting.HomeRow.{HomeRow}
use Rattle.auc_vector.specs.declared.why.ServerWhy.{ServerWhy}
use Rattle.auc_released.specs.declared.numbers.Number.{Number}
use Rattle.auc_sqn.specs.Past.{Past}
use Rattle.auc_subs.specs.declared.row.Row.{Row}
use Rattle.auc_vector.specs.Notes.{Asking}
use Rattle.auc_vector.specs.declared.notes.Notes.{Notes}
use Rattle.auc_vector.specs.declared.turn.Step.{Step}
use Rattle.auc_vector.specs.declared.turn.Step.TheVariants as step
use Rattle.auc_vector.specs.declared.turn.Turn.{Turn}
use Rattle.auc_world.proofs.DeviceLemmas.{get_here}
use Rattle.auc_world.proofs.PlainListLemmas.{last_packet, position_stays, set_there}
use Rattle.auc_world.proofs.PlainToldLemmas.{IsQuiet, IsSizedAt, IsSpared, Stage, TellSo, is_spared, line_of, loosened, stays}
use Rattle.auc_world.specs.Came.{AreReceived, Presented, RepliesAt, RepliesIn, TellsNotes, asked_sub, asking_at, asking_in, by_peer, by_server, came, came_at_peer, came_at_server, came_delivered, came_in, came_started, packet_number, presented_at, presented_in, received_at, received_by, session_at, session_of, vector_sent}
use Rattle.auc_record.specs.Event.{Came}
use Rattle.auc_world.specs.Given.{Before, IsCentreAsked, IsUsimAsked, PlainGives, RelayGives, UsimNotes, behind, packet_of, past_before}
use Rattle.auc_world.specs.Happened.{Delivery, ToldEvent, at_place, delivered, delivery_at, delivery_in, delivery_of, in_session, kept_after, keys_won, moved, peer_turn, drawn_in_turn, sent_by, start, to_peer, to_server, with_peer, with_server}
use Rattle.auc_world.specs.Net.{Net, inputs_of_peer, inputs_of_server, keeps_at, keeps_or, packet_at, posted, session_place}
use Rattle.auc_world.specs.Plain.{sqn_reported}
use Rattle.auc_record.specs.declared.event.Event.{Event}
use Rattle.auc_record.specs.declared.event.Event.TheVariants as event
use Rattle.auc_record.specs.declared.event.Note.{Note}
use Rattle.auc_world.specs.declared.net.Inputs.{Inputs}
use Rattle.auc_world.specs.declared.net.SentPacket.{SentPacket}
use Rattle.auc_world.specs.declared.net.Session.{Session}
use Rattle.auc_record.specs.declared.record.LineRecord.{LineRecord}
use Rattle.auc_record.specs.declared.record.LineRecord.TheVariants as record_of

-- ---- a packet under way

-- a session stands at a place of a network, under its number
pub record Stands (w : Net) (number place : ℕ) (s : Session) : Type 0 where
  pub numbered : session_place w.sessions number ≡ Some place
  pub there : slice_get w.sessions place ≡ Some s
  pub own : (s.number == number) ≡ true

pub stands_as : (w : Net) (number place : ℕ) (s : Session) → Stands w number place s → session_of w number ≡ Some s
stands_as w number place s st = ap (session_at w) st.numbered ∙ st.there

-- and so does what it becomes
becomes : (w next : Net) (number place : ℕ) (s new : Session) → Stands w number place s → new.number ≡ s.number → next.sessions ≡ slice_set w.sessions place new → Stands next number place new
becomes w next number place s new st same e =
    let own : (new.number == number) ≡ true = ap (λ (n : ℕ). n == number) same ∙ st.own in
    let within = slice_get_within w.sessions place s st.there in
    record {
      numbered = ap (λ (l : List Session). session_place l number) e ∙ position_stays (λ (x : Session). x.number == number) w.sessions place new st.numbered own;
      there = ap (λ (l : List Session). slice_get l place) e ∙ set_there w.sessions place new within;
      own = own;
    }

-- a packet of a session is on its way to an end, and some lines tell what comes of it, as at a stage of the session
pub record OnWay (set : Setting) (stage : Stage) (number : ℕ) (to : End) (s : Session) (device : Subscription) (keeps : Keeps) (bytes : List ℕ) (syncs : ℕ) (next : Net) : Type 0 where
  pub before : Before
  pub w : Net
  pub place : ℕ
  pub stands : Stands w number place s
  pub card : slice_get w.devices s.device ≡ Some device
  pub stored : slice_get w.stores s.device ≡ Some keeps
  pub packet : ℕ
  pub sent : SentPacket
  pub under_way : packet_at w.packets packet ≡ Some sent
  pub are : sent.bytes ≡ bytes
  pub lines : List LineRecord
  pub gives : RelayGives set before w number to (Some packet) lines next
  pub well : TellSo stage s.sub syncs lines
  pub sized : IsSizedAt stage w.homes s.sub

-- a smaller number of synchronisation failures is one of them
pub loosen : (set : Setting) (stage : Stage) (number : ℕ) (to : End) (s : Session) (device : Subscription) (keeps : Keeps) (bytes : List ℕ) (few syncs : ℕ) (next : Net) → OnWay set stage number to s device keeps bytes few next
    → few ≤ syncs → OnWay set stage number to s device keeps bytes syncs next
loosen set stage number to s device keeps bytes few syncs next o less = record {
  before = o.before;
  w = o.w;
  place = o.place;
  stands = o.stands;
  card = o.card;
  stored = o.stored;
  packet = o.packet;
  sent = o.sent;
  under_way = o.under_way;
  are = o.are;
  lines = o.lines;
  gives = o.gives;
  well = loosened stage s.sub few syncs o.lines less o.well;
  sized = o.sized;
}

-- what comes of a step: the packet that was sent is on its way to the other end, or the session stands in the last network
abbrev pub Goes : Setting → Stage → ℕ → End → Session → Subscription → Keeps → Option (List ℕ) → ℕ → List LineRecord → Net → Type 0
Goes set stage number to s device keeps (Some bytes) syncs lines next = (o : OnWay set stage number to s device keeps bytes syncs next) × (o.lines ≡ lines)
Goes set stage number to s device keeps None syncs lines next = (session_of next number ≡ Some s) × (lines ≡ [])

-- a network in which a session took a step
record Steps (w mid : Net) (place : ℕ) (new : Session) (keeps : Keeps) (from : End) (inputs : Option Inputs) (sent : Option (List ℕ)) : Type 0 where
  pub sessions : mid.sessions ≡ slice_set w.sessions place new
  pub packets : mid.packets ≡ posted w.packets from inputs sent
  pub devices : mid.devices ≡ w.devices
  pub stores : slice_get mid.stores new.device ≡ Some keeps

goes_on : (set : Setting) (stage : Stage) (number : ℕ) (to from : End) (place : ℕ) (s new : Session) (device : Subscription) (keeps : Keeps) (syncs : ℕ) (before : Before) (w mid next : Net) (inputs : Option Inputs) (sent : Option (List ℕ)) (lines : List LineRecord)
    → Stands w number place s → new.number ≡ s.number → slice_get w.devices new.device ≡ Some device → Steps w mid place new keeps from inputs sent
    → RelayGives set before mid number to (packet_number w sent) lines next → TellSo stage new.sub syncs lines → IsSizedAt stage mid.homes new.sub → Goes set stage number to new device keeps sent syncs lines next
goes_on set stage number to from place s new device keeps syncs before w mid next inputs (Some bytes) lines st same card steps gives well sized =
    let sent : SentPacket = record { bytes = bytes; sender = Some from; inputs = inputs } in (
      record {
        before = before;
        w = mid;
        place = place;
        stands = becomes w mid number place s new st same steps.sessions;
        card = ap (λ (l : List Subscription). slice_get l new.device) steps.devices ∙ card;
        stored = steps.stores;
        packet = length w.packets + 1;
        sent = sent;
        under_way = ap (λ (l : List SentPacket). packet_at l (length w.packets + 1)) steps.packets ∙ last_packet w.packets sent;
        are = refl;
        lines = lines;
        gives = gives;
        well = well;
        sized = sized;
      },
      refl,
    )
goes_on set stage number to from place s new device keeps syncs before w mid next inputs None [] st same card steps gives well sized =
    (ap (λ (n : Net). session_of n number) gives ∙ stands_as mid number place new (becomes w mid number place s new st same steps.sessions), refl)
goes_on set stage number to from place s new device keeps syncs before w mid next inputs None (line ∷ lines) st same card steps gives well sized = absurd gives

one_line : (a b : LineRecord) → a ∷ [] ≡ b ∷ [] → a ≡ b
one_line a b e = cc

-- ---- a peer

abbrev pub peer_new : Session → Peer × Turn PeerWhy → Session
peer_new s turn = record s { peer = turn.0; peer_keys = keys_won s.peer_keys turn.1.step }

-- a peer received a packet: what it received it as, what its USIM answered, what the line tells and which lines are left, and
-- what comes of its turn, if the lines that are left tell something at a stage
pub record PeerTook (set : Setting) (stage : Stage) (number : ℕ) (s : Session) (device : Subscription) (keeps : Keeps) (bytes : List ℕ) (syncs : ℕ) (next : Net) : Type 0 where
  pub told : ToldEvent
  pub received : IsReceived told.seen
  pub are : told.seen.bytes ≡ bytes
  pub row : Row
  pub past : Past
  pub usim : UsimNotes device.secret row past (asked (peer_row s.peer told.seen)) told.notes.usim
  pub decrypts : Decrypts (decryption_made device keeps s.peer told.seen (peer_row s.peer told.seen) told.notes.usim) told.inner
  pub notes : told.notes ≡ (peer_step set.key device keeps s.peer told.seen told.notes.usim told.inner).1.notes
  pub e : Event
  pub note : Note
  pub noted : note.notes ≡ told.notes
  pub lines : List LineRecord
  pub tell : TellSo stage s.sub syncs (line_of e note ∷ lines)
  pub goes : (turn : Peer × Turn PeerWhy) → peer_step set.key device keeps s.peer told.seen told.notes.usim told.inner ≡ turn
      → TellSo stage s.sub (syncs - length (sqn_reported told.notes.usim)) lines
      → Goes set stage number end.Server (peer_new s turn) device (kept_after keeps s told turn.1) (sent_by turn.1.step) (syncs - length (sqn_reported told.notes.usim)) lines next

-- the delivery of a packet that is on its way
delivers : (w : Net) (number packet place : ℕ) (s : Session) (sent : SentPacket) → Stands w number place s → packet_at w.packets packet ≡ Some sent
    → delivery_in w number packet ≡ Some (record { place = place; session = s; bytes = sent.bytes; packet = packet })
delivers w number packet place s sent st under_way =
    ap (delivery_at w packet) st.numbered ∙ ap (λ (x : Option Session). delivery_of packet place x (packet_at w.packets packet)) st.there
    ∙ ap (delivery_of packet place (Some s)) under_way

pub peer_takes_all : (set : Setting) (stage : Stage) (number : ℕ) (s : Session) (device : Subscription) (keeps : Keeps) (bytes : List ℕ) (syncs : ℕ) (next : Net) (o : OnWay set stage number end.Peer s device keeps bytes syncs next)
    → (took : PeerTook set stage number s device keeps bytes syncs next) × (suc (length took.lines) ≡ length o.lines)
peer_takes_all set stage number s device keeps bytes syncs next o = by o.lines o.gives o.well
  where
    by : (lines : List LineRecord) → RelayGives set o.before o.w number end.Peer (Some o.packet) lines next → TellSo stage s.sub syncs lines
        → (took : PeerTook set stage number s device keeps bytes syncs next) × (suc (length took.lines) ≡ length lines)
    by [] gives well = absurd gives
    by (line ∷ lines) (mid, gives, relay) well =
        let w = o.w in
        let e : Event = event.Deliver number end.Peer o.packet in
        let told = gives.told in
        let d : Delivery = record { place = o.place; session = s; bytes = o.sent.bytes; packet = o.packet } in
        let there : delivery_in w number o.packet ≡ Some d = delivers w number o.packet o.place s o.sent o.stands o.under_way in
        let keeps_is : keeps_at w s.device ≡ keeps = ap keeps_or o.stored in
        let turn = peer_step set.key device keeps s.peer told.seen told.notes.usim told.inner in
        let note : Note = by_peer w turn.1.notes turn.1.step (Some s.sub) in
        let came_is : came set w e told ≡ Ok note =
        ap (λ (p : Option SentPacket). came_delivered set w end.Peer told p (delivery_in w number o.packet)) o.under_way
        ∙ ap (came_delivered set w end.Peer told (Some o.sent)) there ∙ ap (came_at_peer set w d told) o.card
        ∙ ap (λ (k : Keeps). Ok (by_peer w (peer_turn set device k s told).1.notes (peer_turn set device k s told).1.step (Some s.sub))) keeps_is in
        let bytes_are : received_at w end.Peer (delivery_in w number o.packet) ≡ Some o.sent.bytes =
        ap (received_at w end.Peer) there ∙ ap (received_by o.sent.bytes) o.card in
        let received = subst (λ (b : Option (List ℕ)). AreReceived b told.seen) bytes_are gives.received in
        let presents : Keeps → Option Presented = λ k. Some (record {
          delivery = d;
          device = device;
          challenge = asked (peer_row s.peer told.seen);
          decryption = decryption_made device k s.peer told.seen (peer_row s.peer told.seen) told.notes.usim;
        }) in
        let presented = ap (presented_in w end.Peer told) there ∙ ap (presented_at w d told) o.card ∙ ap presents keeps_is in
        let usim = subst (λ (p : Option Presented). IsUsimAsked set o.before p told) presented gives.usim in
        let notes : told.notes ≡ turn.1.notes = subst (TellsNotes told) came_is gives.notes in
        let line_is : line ≡ record_of.Event (record { event = e; result = Ok note }) =
        one_line line (record_of.Event (record { event = e; result = came set w e told })) gives.lines_are
        ∙ ap (λ (c : Came). record_of.Event (record { event = e; result = c })) came_is in
        let went : Keeps → Net = λ k. record (with_peer w o.place s (peer_turn set device k s told).0 (peer_turn set device k s told).1.step) {
          stores = slice_set w.stores s.device (kept_after k s told (peer_turn set device k s told).1);
        } in
        let moved_is : moved set w e told ≡ went keeps = ap (delivered set w end.Peer told) there ∙ ap (to_peer set w d told) o.card ∙ ap went keeps_is in
        let kept = kept_after keeps s told turn.1 in
        let sized : IsSizedAt stage mid.homes s.sub = subst (λ (h : List HomeRow). IsSizedAt stage h s.sub) (sym (ap (λ (n : Net). n.homes) gives.leads ∙ ap (λ (n : Net). n.homes) moved_is)) o.sized in
        let left = syncs - length (sqn_reported told.notes.usim) in
        let steps : Steps w mid o.place (peer_new s turn) kept end.Peer (inputs_of_peer s.sub turn.0) (sent_by turn.1.step) =
        record {
          sessions = ap (λ (n : Net). n.sessions) gives.leads ∙ ap (λ (n : Net). n.sessions) moved_is;
          packets = ap (λ (n : Net). n.packets) gives.leads ∙ ap (λ (n : Net). n.packets) moved_is;
          devices = ap (λ (n : Net). n.devices) gives.leads ∙ ap (λ (n : Net). n.devices) moved_is;
          stores = ap (λ (n : Net). slice_get n.stores s.device) gives.leads ∙ ap (λ (n : Net). slice_get n.stores s.device) moved_is ∙ get_here w.stores s.device keeps kept o.stored;
        } in
        let on : TellSo stage s.sub left lines → Goes set stage number end.Server (peer_new s turn) device kept (sent_by turn.1.step) left lines next =
        λ tell. goes_on set stage number end.Server end.Peer o.place s (peer_new s turn) device kept left (behind o.before (line ∷ [])) w mid next
        (inputs_of_peer s.sub turn.0) (sent_by turn.1.step) lines o.stands refl o.card steps
        (subst (λ (p : Option ℕ). RelayGives set (behind o.before (line ∷ [])) mid number end.Server p lines next) (ap packet_of line_is) relay) tell sized in (
          record {
            told = told;
            received = received.0;
            are = received.1 ∙ o.are;
            row = usim.row;
            past = past_before o.before usim.row s.sub;
            usim = usim.answers;
            decrypts = usim.decrypts;
            notes = notes;
            e = e;
            note = note;
            noted = sym notes;
            lines = lines;
            tell = subst (λ (l : LineRecord). TellSo stage s.sub syncs (l ∷ lines)) line_is well;
            goes = λ other same tell. subst (λ (t : Peer × Turn PeerWhy). Goes set stage number end.Server (peer_new s t) device (kept_after keeps s told t.1) (sent_by t.1.step) left lines next) same (on tell);
          },
          refl,
        )

pub peer_takes : (set : Setting) (stage : Stage) (number : ℕ) (s : Session) (device : Subscription) (keeps : Keeps) (bytes : List ℕ) (syncs : ℕ) (next : Net) → OnWay set stage number end.Peer s device keeps bytes syncs next
    → PeerTook set stage number s device keeps bytes syncs next
peer_takes set stage number s device keeps bytes syncs next o = (peer_takes_all set stage number s device keeps bytes syncs next o).0

-- what a line that tells neither of a number nor of a counter leaves
pub peer_stays : (set : Setting) (stage : Stage) (number : ℕ) (s : Session) (device : Subscription) (keeps : Keeps) (bytes : List ℕ) (syncs : ℕ) (next : Net) (took : PeerTook set stage number s device keeps bytes syncs next)
    → IsQuiet took.told.notes → TellSo stage s.sub (syncs - length (sqn_reported took.told.notes.usim)) took.lines
peer_stays set stage number s device keeps bytes syncs next took quiet =
    subst (λ (n : Notes). TellSo stage s.sub (syncs - length (sqn_reported n.usim)) took.lines) took.noted
    (stays stage s.sub syncs took.e took.note took.lines (subst IsQuiet (sym took.noted) quiet) took.tell)

-- the packet that the peer sends is on its way to the server, if the device keeps what it kept
pub peer_sends : (set : Setting) (stage : Stage) (number : ℕ) (s : Session) (device : Subscription) (keeps : Keeps) (bytes : List ℕ) (syncs few : ℕ) (next : Net) (took : PeerTook set stage number s device keeps bytes syncs next)
    (z : Peer) (notes : Notes) (answer : List ℕ) (checked : Bool) → IsQuiet notes
    → kept_after keeps s took.told (record { notes = notes; step = step.Sent answer; checked = checked }) ≡ keeps
    → peer_step set.key device keeps s.peer took.told.seen took.told.notes.usim took.told.inner ≡ (z, record { notes = notes; step = step.Sent answer; checked = checked })
    → syncs - length (sqn_reported took.told.notes.usim) ≤ few → OnWay set stage number end.Server (record s { peer = z }) device keeps answer few next
peer_sends set stage number s device keeps bytes syncs few next took z notes answer checked quiet same is less =
    let turn : Peer × Turn PeerWhy = (z, record { notes = notes; step = step.Sent answer; checked = checked }) in
    let left = syncs - length (sqn_reported took.told.notes.usim) in
    let own : took.told.notes ≡ notes = took.notes ∙ ap (λ (t : Peer × Turn PeerWhy). t.1.notes) is in
    let way = took.goes turn is (peer_stays set stage number s device keeps bytes syncs next took (subst IsQuiet (sym own) quiet)) in
    subst (λ (k : Keeps). OnWay set stage number end.Server (record s { peer = z }) device k answer few next) same
    (loosen set stage number end.Server (record s { peer = z }) device (kept_after keeps s took.told turn.1) answer left few next way.0 less)

-- ---- a server

abbrev pub server_new : Session → ServerEnd → Session
server_new s q = record s { server = Some q }

-- a server received a packet: what it received it as, what it made of a reply, what the centre answered, what the line tells and
-- which lines are left, and what comes of its turn
pub record ServerTook (set : Setting) (stage : Stage) (number : ℕ) (s : Session) (device : Subscription) (keeps : Keeps) (bytes : List ℕ) (q : ServerEnd) (syncs : ℕ) (next : Net) : Type 0 where
  pub told : ToldEvent
  pub received : IsReceived told.seen
  pub are : told.seen.bytes ≡ bytes
  pub homes : List HomeRow
  pub sized : IsSizedAt stage homes s.sub
  pub replies : Replies q.state told.seen.reading told.reply
  pub centre : IsCentreAsked set (asking (server_row set homes q told.seen told.reply)) told.notes
  pub notes : told.notes ≡ (server_step set homes q told.seen told.reply told.notes).1.notes
  pub e : Event
  pub note : Note
  pub noted : note.notes ≡ told.notes
  pub asked : note.asked ≡ asked_sub (asking (server_row set homes q told.seen told.reply))
  pub lines : List LineRecord
  pub tell : TellSo stage s.sub syncs (line_of e note ∷ lines)
  pub spare : IsSpared stage s.sub syncs (asked_sub (asking (server_row set homes q told.seen told.reply))) told.notes lines
  pub goes : (after : Stage) (turn : ServerEnd × Turn ServerWhy) → server_step set homes q told.seen told.reply told.notes ≡ turn
      → TellSo after s.sub (syncs - length (sqn_reported told.notes.usim)) lines → IsSizedAt after (homes_after set homes q told.seen told.reply told.notes) s.sub
      → Goes set after number end.Peer (server_new s turn.0) device keeps (sent_by turn.1.step) (syncs - length (sqn_reported told.notes.usim)) lines next

pub server_takes_all : (set : Setting) (stage : Stage) (number : ℕ) (s : Session) (device : Subscription) (keeps : Keeps) (bytes : List ℕ) (q : ServerEnd) (syncs : ℕ) (next : Net) → s.server ≡ Some q
    → (o : OnWay set stage number end.Server s device keeps bytes syncs next) → (took : ServerTook set stage number s device keeps bytes q syncs next) × (suc (length took.lines) ≡ length o.lines)
server_takes_all set stage number s device keeps bytes q syncs next is o = by o.lines o.gives o.well
  where
    by : (lines : List LineRecord) → RelayGives set o.before o.w number end.Server (Some o.packet) lines next → TellSo stage s.sub syncs lines
        → (took : ServerTook set stage number s device keeps bytes q syncs next) × (suc (length took.lines) ≡ length lines)
    by [] gives well = absurd gives
    by (line ∷ lines) (mid, gives, relay) well =
        let w = o.w in
        let e : Event = event.Deliver number end.Server o.packet in
        let told = gives.told in
        let d : Delivery = record { place = o.place; session = s; bytes = o.sent.bytes; packet = o.packet } in
        let there : delivery_in w number o.packet ≡ Some d = delivers w number o.packet o.place s o.sent o.stands o.under_way in
        let turn = server_step set w.homes q told.seen told.reply told.notes in
        let asks = asking (server_row set w.homes q told.seen told.reply) in
        let note : Note = by_server w turn.1.notes turn.1.step asks (vector_sent turn.1.notes.number (challenged_of turn.0)) in
        let came_is : came set w e told ≡ Ok note =
        ap (λ (p : Option SentPacket). came_delivered set w end.Server told p (delivery_in w number o.packet)) o.under_way
        ∙ ap (came_delivered set w end.Server told (Some o.sent)) there ∙ ap (came_at_server set w told) is in
        let bytes_are : received_at w end.Server (delivery_in w number o.packet) ≡ Some o.sent.bytes =
        ap (received_at w end.Server) there ∙ ap (received_by o.sent.bytes) is in
        let received = subst (λ (b : Option (List ℕ)). AreReceived b told.seen) bytes_are gives.received in
        let asks_is : asking_in set w end.Server told (delivery_in w number o.packet) ≡ asks = ap (asking_in set w end.Server told) there ∙ ap (asking_at set w told) is in
        let centre = subst (λ (a : Option Asking). IsCentreAsked set a told.notes) asks_is gives.centre in
        let notes : told.notes ≡ turn.1.notes = subst (TellsNotes told) came_is gives.notes in
        let line_is : line ≡ record_of.Event (record { event = e; result = Ok note }) =
        one_line line (record_of.Event (record { event = e; result = came set w e told })) gives.lines_are
        ∙ ap (λ (c : Came). record_of.Event (record { event = e; result = c })) came_is in
        let news : List Number = drawn_in_turn asks turn.1.notes.number in
        let moved_is : moved set w e told ≡ record (with_server w o.place s news turn.0 turn.1.step) { homes = homes_after set w.homes q told.seen told.reply told.notes } = ap (delivered set w end.Server told) there ∙ ap (to_server set w d told) is in
        let replies = subst (λ (d : Option Delivery). RepliesIn end.Server told d) there gives.replies in
        let left = syncs - length (sqn_reported told.notes.usim) in
        let tell : TellSo stage s.sub syncs (line_of e note ∷ lines) = subst (λ (l : LineRecord). TellSo stage s.sub syncs (l ∷ lines)) line_is well in
        let steps : Steps w mid o.place (server_new s turn.0) keeps end.Server (inputs_of_server turn.0) (sent_by turn.1.step) =
        record {
          sessions = ap (λ (n : Net). n.sessions) gives.leads ∙ ap (λ (n : Net). n.sessions) moved_is;
          packets = ap (λ (n : Net). n.packets) gives.leads ∙ ap (λ (n : Net). n.packets) moved_is;
          devices = ap (λ (n : Net). n.devices) gives.leads ∙ ap (λ (n : Net). n.devices) moved_is;
          stores = ap (λ (n : Net). slice_get n.stores s.device) gives.leads ∙ ap (λ (n : Net). slice_get n.stores s.device) moved_is ∙ o.stored;
        } in
        let later = homes_after set w.homes q told.seen told.reply told.notes in
        let on : (after : Stage) → TellSo after s.sub left lines → IsSizedAt after later s.sub → Goes set after number end.Peer (server_new s turn.0) device keeps (sent_by turn.1.step) left lines next =
        λ after tells sized. goes_on set after number end.Peer end.Server o.place s (server_new s turn.0) device keeps left (behind o.before (line ∷ [])) w mid next
        (inputs_of_server turn.0) (sent_by turn.1.step) lines o.stands refl o.card steps
        (subst (λ (p : Option ℕ). RelayGives set (behind o.before (line ∷ [])) mid number end.Peer p lines next) (ap packet_of line_is) relay) tells
        (subst (λ (h : List HomeRow). IsSizedAt after h s.sub) (sym (ap (λ (n : Net). n.homes) gives.leads ∙ ap (λ (n : Net). n.homes) moved_is)) sized) in (
          record {
            told = told;
            received = received.0;
            are = received.1 ∙ o.are;
            homes = w.homes;
            sized = o.sized;
            replies = subst (RepliesAt told) is replies;
            centre = centre;
            notes = notes;
            e = e;
            note = note;
            noted = sym notes;
            asked = refl;
            lines = lines;
            tell = tell;
            spare = subst (λ (n : Notes). IsSpared stage s.sub syncs (asked_sub asks) n lines) (sym notes) (is_spared stage s.sub syncs e note lines tell);
            goes = λ after other same tells sized. subst (λ (t : ServerEnd × Turn ServerWhy). Goes set after number end.Peer (server_new s t.0) device keeps (sent_by t.1.step) left lines next) same (on after tells sized);
          },
          refl,
        )

pub server_takes : (set : Setting) (stage : Stage) (number : ℕ) (s : Session) (device : Subscription) (keeps : Keeps) (bytes : List ℕ) (q : ServerEnd) (syncs : ℕ) (next : Net) → s.server ≡ Some q
    → OnWay set stage number end.Server s device keeps bytes syncs next → ServerTook set stage number s device keeps bytes q syncs next
server_takes set stage number s device keeps bytes q syncs next is o = (server_takes_all set stage number s device keeps bytes q syncs next is o).0

pub server_stays : (set : Setting) (stage : Stage) (number : ℕ) (s : Session) (device : Subscription) (keeps : Keeps) (bytes : List ℕ) (q : ServerEnd) (syncs : ℕ) (next : Net)
    (took : ServerTook set stage number s device keeps bytes q syncs next) → IsQuiet took.told.notes → TellSo stage s.sub (syncs - length (sqn_reported took.told.notes.usim)) took.lines
server_stays set stage number s device keeps bytes q syncs next took quiet =
    subst (λ (n : Notes). TellSo stage s.sub (syncs - length (sqn_reported n.usim)) took.lines) took.noted
    (stays stage s.sub syncs took.e took.note took.lines (subst IsQuiet (sym took.noted) quiet) took.tell)

-- the packet that the server sends is on its way to the peer
pub server_sends : (set : Setting) (stage after : Stage) (number : ℕ) (s : Session) (device : Subscription) (keeps : Keeps) (bytes : List ℕ) (q : ServerEnd) (syncs : ℕ) (next : Net)
    (took : ServerTook set stage number s device keeps bytes q syncs next) (z : ServerEnd) (notes : Notes) (answer : List ℕ) (checked : Bool)
    → TellSo after s.sub (syncs - length (sqn_reported took.told.notes.usim)) took.lines → IsSizedAt after (homes_after set took.homes q took.told.seen took.told.reply took.told.notes) s.sub
    → server_step set took.homes q took.told.seen took.told.reply took.told.notes ≡ (z, record { notes = notes; step = step.Sent answer; checked = checked })
    → OnWay set after number end.Peer (server_new s z) device keeps answer syncs next
server_sends set stage after number s device keeps bytes q syncs next took z notes answer checked tell sized is =
    let way = took.goes after (z, record { notes = notes; step = step.Sent answer; checked = checked }) is tell sized in
    loosen set after number end.Peer (server_new s z) device keeps answer (syncs - length (sqn_reported took.told.notes.usim)) syncs next way.0 (omega arith)

-- ---- the start

pub starts : (set : Setting) (stage : Stage) (before : Before) (w next : Net) (number place : ℕ) (s : Session) (device : Subscription) (keeps : Keeps) (syncs : ℕ) (lines : List LineRecord) → Stands w number place s → s.server ≡ None
    → slice_get w.devices s.device ≡ Some device → slice_get w.stores s.device ≡ Some keeps → PlainGives set before w number lines next → TellSo stage s.sub syncs lines → IsSizedAt stage w.homes s.sub
    → OnWay set stage number end.Peer (server_new s (started s.options)) device keeps (started s.options).last syncs next
starts set stage before w next number place s device keeps syncs [] st none card stored gives well sized = absurd gives
starts set stage before w next number place s device keeps syncs (line ∷ lines) st none card stored (mid, gives, relay) well sized =
    let e : Event = event.Start number in
    let told = gives.told in
    let first = started s.options in
    let did : Step ServerWhy = step.Sent first.last in
    let note : Note = by_server w silent did None None in
    let came_is : came set w e told ≡ Ok note =
    ap (λ (x : Option Session). came_in (λ (t : Session). came_started w t.options t.server) x) (stands_as w number place s st) ∙ ap (came_started w s.options) none in
    let line_is : line ≡ record_of.Event (record { event = e; result = Ok note }) =
    one_line line (record_of.Event (record { event = e; result = came set w e told })) gives.lines_are
    ∙ ap (λ (c : Came). record_of.Event (record { event = e; result = c })) came_is in
    let does : ℕ → Session → Net = λ k t. start w k t t.server in
    let moved_is : moved set w e told ≡ with_server w place s [] first did =
    ap (at_place w does) st.numbered ∙ ap (in_session w does place) st.there ∙ ap (start w place s) none in
    let tell = stays stage s.sub syncs e note lines (record { resumed = refl; drawn = refl; taken = refl }) (subst (λ (l : LineRecord). TellSo stage s.sub syncs (l ∷ lines)) line_is well) in
    let steps : Steps w mid place (server_new s first) keeps end.Server (inputs_of_server first) (Some first.last) =
    record {
      sessions = ap (λ (n : Net). n.sessions) gives.leads ∙ ap (λ (n : Net). n.sessions) moved_is;
      packets = ap (λ (n : Net). n.packets) gives.leads ∙ ap (λ (n : Net). n.packets) moved_is;
      devices = ap (λ (n : Net). n.devices) gives.leads ∙ ap (λ (n : Net). n.devices) moved_is;
      stores = ap (λ (n : Net). slice_get n.stores s.device) gives.leads ∙ ap (λ (n : Net). slice_get n.stores s.device) moved_is ∙ stored;
    } in
    (goes_on set stage number end.Peer end.Server place s (server_new s first) device keeps syncs (behind before (line ∷ [])) w mid next (inputs_of_server first) (Some first.last) lines st refl card steps
    (subst (λ (p : Option ℕ). RelayGives set (behind before (line ∷ [])) mid number end.Peer p lines next) (ap packet_of line_is) relay)
    (subst (λ (n : ℕ). TellSo stage s.sub n lines) (omega arith) tell)
    (subst (λ (h : List HomeRow). IsSizedAt stage h s.sub) (sym (ap (λ (n : Net). n.homes) gives.leads ∙ ap (λ (n : Net). n.homes) moved_is)) sized)).0
