-- For OneTold: an event of which the same is told comes to the same, and leads to the same network.
use Rattle.std.proofs.Common.{◌≡◌, ℕ, List, Option, Some, None, Ok, Err, refl, sym, ap, subst, ◌∙◌}
use Rattle.std.specs.Prelude.{slice_get, slice_set}
use Rattle.auc_attr.specs.Laws.{OneWalk}
use Rattle.auc_lines.specs.declared.part.End.{End}
use Rattle.auc_lines.specs.declared.part.End.TheVariants as end
use Rattle.auc_packet.specs.Received.{OneReceived, Seen}
use Rattle.auc_peer.proofs.Facts.{row_once}
use Rattle.auc_peer.specs.Rows.{peer_row}
use Rattle.auc_peer.specs.Subscription.{Subscription}
use Rattle.auc_peer.specs.Table.{kept_by, peer_step}
use Rattle.auc_peer.specs.Turn.{Decrypts, decryption_made}
use Rattle.auc_peer.specs.declared.decrypted.Decrypted.{Decrypted}
use Rattle.auc_peer.specs.declared.decrypted.Decrypted.TheVariants as decrypted
use Rattle.auc_peer.specs.declared.peer.Peer.{Peer}
use Rattle.auc_vector.specs.declared.why.PeerWhy.{PeerWhy}
use Rattle.auc_reauth.specs.Device.{Keeps}
use Rattle.auc_seal.specs.Laws.{OneOpening}
use Rattle.auc_server.specs.Replies.{Replies}
use Rattle.auc_server.specs.Server.{ServerEnd}
use Rattle.auc_server.specs.Table.{silent}
use Rattle.auc_server.specs.declared.reply.Reply.{Reply}
use Rattle.auc_sim.specs.SessionLaws.{EachSessionHasOneRun}
use Rattle.auc_vector.specs.declared.notes.Notes.{Notes}
use Rattle.auc_vector.specs.declared.turn.Turn.{Turn}
use Rattle.auc_world.specs.Came.{AreReceived, RepliesAt, RepliesIn, TellsNotes, TellsReply, bytes_named, by_peer, came, came_at_peer, came_at_server, came_delivered, presented_at, presented_by, presented_in, received_at, received_by}
use Rattle.auc_record.specs.Event.{Came}
use Rattle.auc_world.specs.Given.{Before, IsUsimAsked}
use Rattle.auc_world.specs.Happened.{Delivery, ToldEvent, breach_at, delivered, delivery_at, delivery_of, found_by, happened, moved, found, peer_finds, peer_turn, server_finds, to_peer, to_server, with_peer}
use Rattle.auc_world.specs.Net.{Finding, Net, inputs_of_peer, judged, keeps_at, packet_at, session_place}
use Rattle.auc_subs.specs.Setting.{Setting}
use Rattle.auc_record.specs.Told.{told_came}
use Rattle.auc_record.specs.declared.event.Event.{Event}
use Rattle.auc_record.specs.declared.event.Event.TheVariants as event
use Rattle.auc_world.specs.declared.net.SentPacket.{SentPacket}
use Rattle.auc_world.specs.declared.net.Session.{Session}
use Rattle.auc_transcript.proofs.ReplyLemmas.{replies_once}

-- equal bytes are received alike, opened alike, and read alike; and a session of EAP-SIM runs in one way
pub record Laws : Type 0 where
  pub received : OneReceived
  pub walk : OneWalk
  pub opening : OneOpening
  pub runs : EachSessionHasOneRun

-- an event comes to the same by what was told of it twice
pub record AreOne (came other : Came) (moved moved_other : Net) (found found_other : Option Finding) : Type 0 where
  pub same : came ≡ other
  pub leads : moved ≡ moved_other
  pub finds : found ≡ found_other

-- ---- what is told

one_seen : Laws → (bytes : List ℕ) (seen other : Seen) → AreReceived (Some bytes) seen → AreReceived (Some bytes) other → seen ≡ other
one_seen laws bytes seen other (is, of) (also, like) = laws.received seen other (of ∙ sym like) is also

-- the notes of an event are told
abbrev notes_or : Came → Notes
notes_or (Ok note) = note.notes
notes_or (Err why) = silent

abbrev told_with : Seen → Notes → Reply → ToldEvent
told_with seen notes said = record { seen = seen; notes = notes; inner = decrypted.Unreadable; reply = said }

-- ---- a delivery to a server

-- what follows from what was received, noted and replied
alike : {X : Type 0} (f : ToldEvent → X) (a b : ToldEvent) → a.seen ≡ b.seen → a.notes ≡ b.notes → a.reply ≡ b.reply → f (told_with a.seen a.notes a.reply) ≡ f (told_with b.seen b.notes b.reply)
alike f a b seen notes said =
    ap (λ (x : Seen). f (told_with x a.notes a.reply)) seen ∙ ap (λ (n : Notes). f (told_with b.seen n a.reply)) notes ∙ ap (λ (r : Reply). f (told_with b.seen b.notes r)) said

server_one : Laws → (set : Setting) (w : Net) (d : Delivery) (o : Option ServerEnd) (a b : ToldEvent) → AreReceived (received_by d.bytes o) a.seen → AreReceived (received_by d.bytes o) b.seen
    → RepliesAt a o → RepliesAt b o → TellsNotes a (came_at_server set w a o) → TellsNotes b (came_at_server set w b o) → told_came (came_at_server set w a o) ≡ told_came (came_at_server set w b o)
    → AreOne (came_at_server set w a o) (came_at_server set w b o) (to_server set w d a o) (to_server set w d b o) (server_finds set w d a o) (server_finds set w d b o)
server_one laws set w d None a b first second replies replied tells also same = record { same = refl; leads = refl; finds = refl }
server_one laws set w d (Some s) a b first second replies replied tells also same =
    let seen = one_seen laws d.bytes a.seen b.seen first second in
    let notes : a.notes ≡ b.notes = tells ∙ ap notes_or same ∙ sym also in
    let said : a.reply ≡ b.reply =
    replies_once laws.walk laws.opening s.state a.seen.reading a.reply b.reply replies (subst (λ (x : Seen). Replies s.state x.reading b.reply) (sym seen) replied) in
    record {
      same = alike (λ (t : ToldEvent). came_at_server set w t (Some s)) a b seen notes said;
      leads = alike (λ (t : ToldEvent). to_server set w d t (Some s)) a b seen notes said;
      finds = alike (λ (t : ToldEvent). server_finds set w d t (Some s)) a b seen notes said;
    }

-- ---- a delivery to a peer

abbrev Did : Subscription → Keeps → Peer → Seen → Notes → Decrypted → Type 0
Did s keeps p seen notes inner = Decrypts (decryption_made s keeps p seen (peer_row p seen) notes.usim) inner

turn_one : Laws → (key : List ℕ) (s : Subscription) (keeps : Keeps) (p : Peer) (a b : ToldEvent) → a.seen ≡ b.seen → a.notes ≡ b.notes → Did s keeps p a.seen a.notes a.inner → Did s keeps p b.seen b.notes b.inner
    → peer_step key s keeps p a.seen a.notes.usim a.inner ≡ peer_step key s keeps p b.seen b.notes.usim b.inner
turn_one laws key s keeps p a b seen notes first second =
    let back : Did s keeps p a.seen a.notes b.inner =
    subst (λ (x : Seen). Did s keeps p x a.notes b.inner) (sym seen) (subst (λ (n : Notes). Did s keeps p b.seen n b.inner) (sym notes) second) in
    row_once laws.walk laws.opening key s keeps p a.seen (peer_row p a.seen) a.notes.usim a.inner b.inner first back
    ∙ ap (λ (x : Seen). peer_step key s keeps p x a.notes.usim b.inner) seen ∙ ap (λ (n : Notes). peer_step key s keeps p b.seen n.usim b.inner) notes

peer_one : Laws → (set : Setting) (before also_before : Before) (w : Net) (d : Delivery) (o : Option Subscription) (a b : ToldEvent)
    → AreReceived (received_by d.bytes o) a.seen → AreReceived (received_by d.bytes o) b.seen → TellsNotes a (came_at_peer set w d a o) → TellsNotes b (came_at_peer set w d b o)
    → IsUsimAsked set before (presented_at w d a o) a → IsUsimAsked set also_before (presented_at w d b o) b → told_came (came_at_peer set w d a o) ≡ told_came (came_at_peer set w d b o)
    → AreOne (came_at_peer set w d a o) (came_at_peer set w d b o) (to_peer set w d a o) (to_peer set w d b o) (peer_finds set w d a o) (peer_finds set w d b o)
peer_one laws set before also_before w d None a b first second tells also is was same = record { same = refl; leads = refl; finds = refl }
peer_one laws set before also_before w d (Some device) a b first second tells also is was same =
    let seen = one_seen laws d.bytes a.seen b.seen first second in
    let notes : a.notes ≡ b.notes = tells ∙ ap notes_or same ∙ sym also in
    let turn : peer_turn set device keeps d.session a ≡ peer_turn set device keeps d.session b = turn_one laws set.key device keeps d.session.peer a b seen notes is.decrypts was.decrypts in
    record {
      same = ap (λ (t : Peer × Turn PeerWhy). Ok (by_peer w t.1.notes t.1.step (Some d.session.sub))) turn;
      leads = ap (λ (t : Peer × Turn PeerWhy). led t a.seen) turn ∙ ap (led (peer_turn set device keeps d.session b)) seen;
      finds = ap (λ (t : Peer × Turn PeerWhy). finding t) turn;
    }
  where
    keeps : Keeps
    keeps = keeps_at w d.session.device

    -- the network after a turn, by what was received
    led : Peer × Turn PeerWhy → Seen → Net
    led t seen = record (with_peer w d.place d.session t.0 t.1.step) {
      stores = slice_set w.stores d.session.device (kept_by (peer_row d.session.peer seen) d.session.peer t.1.notes.counter keeps);
    }

    finding : Peer × Turn PeerWhy → Option Finding
    finding t = Some (record { checked = t.1.checked; inputs = inputs_of_peer d.session.sub t.0; bytes = d.bytes; delivery = breach_at d end.Peer })

-- ---- deliveries

-- what two deliveries come to
abbrev DeliveriesAreOne : Setting → Net → End → Option SentPacket → Option Delivery → ToldEvent → ToldEvent → Type 0
DeliveriesAreOne set w at' sent d a b =
    AreOne (came_delivered set w at' a sent d) (came_delivered set w at' b sent d) (delivered set w at' a d) (delivered set w at' b d) (found_by set w at' a d) (found_by set w at' b d)

-- what is known of a delivery
record IsDelivered (set : Setting) (before : Before) (w : Net) (at' : End) (sent : Option SentPacket) (d : Option Delivery) (told : ToldEvent) : Type 0 where
  received : AreReceived (received_at w at' d) told.seen
  replies : RepliesIn at' told d
  tells : TellsNotes told (came_delivered set w at' told sent d)
  usim : IsUsimAsked set before (presented_in w at' told d) told

none_one : (set : Setting) (w : Net) (at' : End) (sent : Option SentPacket) (a b : ToldEvent) → DeliveriesAreOne set w at' sent None a b
none_one set w at' None a b = record { same = refl; leads = refl; finds = refl }
none_one set w at' (Some sent) a b = record { same = refl; leads = refl; finds = refl }

some_one : Laws → (set : Setting) (before also_before : Before) (w : Net) (at' : End) (sent : SentPacket) (d : Delivery) (a b : ToldEvent)
    → IsDelivered set before w at' (Some sent) (Some d) a → IsDelivered set also_before w at' (Some sent) (Some d) b
    → told_came (came_delivered set w at' a (Some sent) (Some d)) ≡ told_came (came_delivered set w at' b (Some sent) (Some d)) → DeliveriesAreOne set w at' (Some sent) (Some d) a b
some_one laws set before also_before w end.Server sent d a b is was same =
    let one = server_one laws set w d d.session.server a b is.received was.received is.replies was.replies is.tells was.tells same in record { same = one.same; leads = one.leads; finds = one.finds }
some_one laws set before also_before w end.Peer sent d a b is was same =
    let one = peer_one laws set before also_before w d (slice_get w.devices d.session.device) a b is.received was.received is.tells was.tells is.usim was.usim same in
    record { same = one.same; leads = one.leads; finds = one.finds }

delivery_one : Laws → (set : Setting) (before also_before : Before) (w : Net) (at' : End) (packet place : ℕ) (x : Option Session) (y : Option SentPacket) (a b : ToldEvent)
    → IsDelivered set before w at' y (delivery_of packet place x y) a → IsDelivered set also_before w at' y (delivery_of packet place x y) b
    → told_came (came_delivered set w at' a y (delivery_of packet place x y)) ≡ told_came (came_delivered set w at' b y (delivery_of packet place x y))
    → DeliveriesAreOne set w at' y (delivery_of packet place x y) a b
delivery_one laws set before also_before w at' packet place (Some session) (Some sent) a b is was same =
    some_one laws set before also_before w at' sent (record { place = place; session = session; bytes = sent.bytes; packet = packet }) a b is was same
delivery_one laws set before also_before w at' packet place (Some session) None a b is was same = none_one set w at' None a b
delivery_one laws set before also_before w at' packet place None (Some sent) a b is was same = none_one set w at' (Some sent) a b
delivery_one laws set before also_before w at' packet place None None a b is was same = none_one set w at' None a b

delivered_one : Laws → (set : Setting) (before also_before : Before) (w : Net) (at' : End) (packet : ℕ) (o : Option ℕ) (a b : ToldEvent)
    → IsDelivered set before w at' (packet_at w.packets packet) (delivery_at w packet o) a → IsDelivered set also_before w at' (packet_at w.packets packet) (delivery_at w packet o) b
    → told_came (came_delivered set w at' a (packet_at w.packets packet) (delivery_at w packet o)) ≡ told_came (came_delivered set w at' b (packet_at w.packets packet) (delivery_at w packet o))
    → DeliveriesAreOne set w at' (packet_at w.packets packet) (delivery_at w packet o) a b
delivered_one laws set before also_before w at' packet None a b is was same = none_one set w at' (packet_at w.packets packet) a b
delivered_one laws set before also_before w at' packet (Some place) a b is was same =
    delivery_one laws set before also_before w at' packet place (slice_get w.sessions place) (packet_at w.packets packet) a b is was same

-- ---- events

-- what is known of an event
pub record IsTold (set : Setting) (before : Before) (w : Net) (e : Event) (told : ToldEvent) : Type 0 where
  pub received : AreReceived (bytes_named w e) told.seen
  pub replies : TellsReply w e told
  pub tells : TellsNotes told (came set w e told)
  pub usim : IsUsimAsked set before (presented_by w e told) told

-- two events of which the same is told
pub record ComeToOne (set : Setting) (w : Net) (e : Event) (a b : ToldEvent) : Type 0 where
  pub same : came set w e a ≡ came set w e b
  pub leads : happened set w e a ≡ happened set w e b

pub event_one : Laws → (set : Setting) (before also_before : Before) (w : Net) (e : Event) (a b : ToldEvent) → IsTold set before w e a → IsTold set also_before w e b
    → told_came (came set w e a) ≡ told_came (came set w e b) → ComeToOne set w e a b
event_one laws set before also_before w (event.Open opening) a b is was same = record { same = refl; leads = refl }
event_one laws set before also_before w (event.Start session) a b is was same = record { same = refl; leads = refl }
event_one laws set before also_before w (event.Deliver session at' packet) a b is was same =
    let one = delivered_one laws set before also_before w at' packet (session_place w.sessions session) a b
    (record { received = is.received; replies = is.replies; tells = is.tells; usim = is.usim })
    (record { received = was.received; replies = was.replies; tells = was.tells; usim = was.usim }) same in
    let e = event.Deliver session at' packet in
    record {
      same = one.same;
      leads = ap (λ (m : Net). record m { broken = judged w.packets w.broken (found set w e a) }) one.leads
          ∙ ap (λ (f : Option Finding). record (moved set w e b) { broken = judged w.packets w.broken f }) one.finds;
    }
event_one laws set before also_before w (event.Repeat session) a b is was same = record { same = refl; leads = refl }
event_one laws set before also_before w (event.GiveUp session at') a b is was same = record { same = refl; leads = refl }
event_one laws set before also_before w (event.Tamper packet place byte) a b is was same = record { same = refl; leads = refl }
event_one laws set before also_before w (event.Cut packet count) a b is was same = record { same = refl; leads = refl }
