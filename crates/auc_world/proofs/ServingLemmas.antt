-- For `world`: a packet that reaches a server.
use Rattle.std.proofs.Common.{◌≡◌, ◌≤◌, ◌<◌, ◌-◌, ℕ, zero, suc, List, [], ◌∷◌, ◌++◌, length, get_or, Option, Some, None, Ok, Err, refl, sym, ap, ◌∙◌, subst, arith}
use Rattle.std.specs.Prelude.{slice_get, slice_set}
use Rattle.std.proofs.lemmas.Option.{get_or_from_slice_get}
use Rattle.auc_memory.specs.declared.stop.Stop.{Stop}
use Rattle.auc_history.specs.declared.entry.Entry.{Entry}
use Rattle.auc_lines.specs.declared.part.End.TheVariants as end
use Rattle.auc_packet.specs.declared.received.Reading.TheVariants as reading
use Rattle.auc_packet.specs.declared.refusal.PacketRefusal.TheVariants as refusal
use Rattle.auc_peer.specs.declared.decrypted.Decrypted.TheVariants as decrypted
use Rattle.auc_peer.specs.declared.device.Device.{Device}
use Rattle.auc_released.specs.declared.numbers.Number.{Number}
use Rattle.auc_server.proofs.Facts.{IsReported, asked_is, sub_asked}
use Rattle.auc_server.specs.Asked.{asked_after}
use Rattle.auc_server.specs.Rows.{server_row}
use Rattle.auc_server.specs.Server.{ServerEnd, challenged_of}
use Rattle.auc_subs.specs.Setting.{Setting}
use Rattle.auc_server.specs.Steps.{Steps, asking}
use Rattle.auc_server.specs.Table.{homes_after, silent}
use Rattle.auc_server.specs.Laws.{Fits}
use Rattle.auc_server.specs.declared.reply.Reply.TheVariants as replies
use Rattle.auc_server.specs.declared.setting.HomeRow.{HomeRow}
use Rattle.auc_vector.specs.declared.why.ServerWhy.{ServerWhy}
use Rattle.auc_vector.specs.Notes.{AskedCentre, Asking}
use Rattle.auc_vector.specs.declared.notes.Notes.{Notes}
use Rattle.auc_vector.specs.declared.notes.NumberNote.{NumberNote}
use Rattle.auc_vector.specs.declared.notes.NumberNote.TheVariants as number
use Rattle.auc_vector.specs.declared.parts.Vector.{Vector}
use Rattle.auc_vector.specs.declared.turn.Turn.{Turn}
use Rattle.auc_world.proofs.ActingLemmas.{numbered}
use Rattle.auc_world.proofs.HomeLemmas.{asked_same}
use Rattle.auc_world.specs.Came.{AreReceived, AsksAt, RepliesAt, asked_sub, asking_at, by_server, came_at_server, packet_number, received_by, vector_sent}
use Rattle.auc_record.specs.Event.{Came}
use Rattle.auc_world.specs.Happened.{Delivery, ToldEvent, breach_at, delivery_at, drawn_in_turn, sent_by, server_finds, to_server, with_server}
use Rattle.auc_world.specs.InnerWorld.{ServesPacket, number_after, refusal_of, released_for, state_of}
use Rattle.auc_world.specs.Net.{Net, inputs_of_server, judged, packet_at, posted}
use Rattle.auc_world.specs.World.{AreOfSame, WorldState}
use Rattle.auc_record.specs.declared.event.Note.{Note}
use Rattle.auc_record.specs.declared.event.NoteStep.TheVariants as did
use Rattle.auc_record.specs.declared.event.WorldRefusal.TheVariants as refused
use Rattle.auc_record.specs.declared.record.Breach.{Breach}
use Rattle.auc_world.specs.declared.net.Inputs.{Inputs}
use Rattle.auc_world.specs.declared.net.SentPacket.{SentPacket}
use Rattle.auc_world.specs.declared.net.Session.{Session}

-- what is told where nothing was received
abbrev pub nothing_told : ToldEvent
nothing_told = record { seen = record { bytes = []; reading = reading.Fault refusal.Short; place = None }; notes = silent; inner = decrypted.Unreadable; reply = replies.Wrong }

-- without a finding the breach stays
pub unjudged : (packets : List SentPacket) (broken : Option Breach) → broken ≡ judged packets broken None
unjudged packets None = refl
unjudged packets (Some first) = refl

one_delivery : (a b : Delivery) → ◌≡◌ {A = Option Delivery} (Some a) (Some b) → a ≡ b
one_delivery a b same = cc

same_sub : (a : Option Asking) → sub_asked a ≡ asked_sub a
same_sub None = refl
same_sub (Some request) = refl

same_released : (a : Option Asking) (n : Option NumberNote) → released_for (asked_sub a) n ≡ drawn_in_turn a n
same_released None None = refl
same_released None (Some (number.Drew n)) = refl
same_released None (Some (number.Exhausted w)) = refl
same_released None (Some (number.Withheld n stop)) = refl
same_released (Some request) None = refl
same_released (Some request) (Some (number.Drew n)) = refl
same_released (Some request) (Some (number.Exhausted w)) = refl
same_released (Some request) (Some (number.Withheld n stop)) = refl

-- there is a packet of each number up to how many there are
pub record HasPacket (packets : List SentPacket) (packet : ℕ) : Type 0 where
  pub sent : SentPacket
  pub of_number : packet_at packets packet ≡ Some sent
  pub at' : slice_get packets (packet - 1) ≡ Some sent

has_place : (packets : List SentPacket) (place : ℕ) → place < length packets → (sent : SentPacket) × (slice_get packets place ≡ Some sent)
has_place [] place within = absurd (omega arith)
has_place (sent ∷ packets) zero within = (sent, refl)
has_place (sent ∷ packets) (suc place) within = has_place packets place (omega arith)

pub has_packet : (packets : List SentPacket) (packet : ℕ) → 1 ≤ packet → packet ≤ length packets → HasPacket packets packet
has_packet packets zero first last = absurd (omega arith)
has_packet packets (suc place) first last =
    let there = has_place packets place (omega arith) in
    let same : suc place - 1 ≡ place = omega arith in
    record { sent = there.0; of_number = there.1; at' = ap (slice_get packets) same ∙ there.1 }

pub end_missing : (packets : List SentPacket) (packet : ℕ) → 1 ≤ packet → packet ≤ length packets → refused.NoSuchEnd ≡ refusal_of (packet_at packets packet)
end_missing packets packet first last = ap refusal_of (sym (has_packet packets packet first last).of_number)

-- the number of a packet that is there
pub reaches_last : (packet : ℕ) (read packets : List SentPacket) → read ≡ packets → packet ≤ length packets → packet ≤ length read
reaches_last packet read packets same last =
    let size : length read ≡ length packets = ap (λ (ps : List SentPacket). length ps) same in omega (arith, last, size)

-- a packet that was read at its place
pub packet_read : (packets read : List SentPacket) (packet : ℕ) (sent : SentPacket) → read ≡ packets → 1 ≤ packet → packet ≤ length packets → sent ≡ get_or read (packet - 1) sent
    → packet_at packets packet ≡ Some sent
packet_read packets read packet sent same first last is =
    let there = has_packet packets packet first last in
    there.of_number ∙ ap (λ (p : SentPacket). Some p) (sym (is ∙ ap (λ (ps : List SentPacket). get_or ps (packet - 1) sent) same ∙ get_or_from_slice_get packets (packet - 1) there.sent sent there.at'))

-- the delivery of a packet to the session of a place
abbrev pub delivery_to : ℕ → ℕ → Session → SentPacket → Delivery
delivery_to place packet session sent = record { place = place; session = session; bytes = sent.bytes; packet = packet }

pub is_delivery : (w : Net) (place packet : ℕ) (session : Session) (sent : SentPacket) (d : Delivery) → slice_get w.sessions place ≡ Some session → packet_at w.packets packet ≡ Some sent
    → delivery_at w packet (Some place) ≡ Some d → delivery_to place packet session sent ≡ d
is_delivery w place packet session sent d there here found = one_delivery (delivery_to place packet session sent) d (sym (rw (there, here) refl) ∙ found)

module _ {S : Type 0} (goes : S → ℕ → List Entry → List (ℕ × Stop) → S → Type 0) (kept : S → ℕ → Option ℕ) (top : S → ℕ → ℕ) (set : Setting)
    (packets : List SentPacket) (sessions : List Session) (released : List Number) (homes : List HomeRow) (broken : Option Breach) (devices : List Device)
    (place packet : ℕ) (session : Session) (sent_packet : SentPacket) where
  abbrev old : WorldState
  old = state_of packets sessions released homes broken devices

  abbrev d0 : Delivery
  d0 = delivery_to place packet session sent_packet

  -- the server hasn't started
  pub serves_nobody : (before : S) → ((a : S) (i : ℕ) → goes a i [] [] a) → session.server ≡ None
      → (new : WorldState) → new ≡ old → ServesPacket goes kept top set old d0 before new (Err refused.NoSuchEnd) before
  serves_nobody before stays none new same = subst (λ (w : WorldState). ServesPacket goes kept top set old d0 before w (Err refused.NoSuchEnd) before) (sym same) (record {
    told = nothing_told;
    is = ap (came_at_server set old.net nothing_told) (sym none);
    leads = (λ j. record old.net { broken = unjudged packets broken j })
        ∙ ap (λ (s : Option ServerEnd). record (to_server set old.net d0 nothing_told s) { broken = judged packets broken (server_finds set old.net d0 nothing_told s) }) (sym none);
    received = subst (λ (s : Option ServerEnd). AreReceived (received_by sent_packet.bytes s) nothing_told.seen) (sym none) tt;
    notes = tt;
    replies = subst (RepliesAt nothing_told) (sym none) tt;
    centre = subst (λ (s : Option ServerEnd). AskedCentre goes kept top (asking_at set old.net nothing_told s) nothing_told.notes before before) (sym none) ((λ i. stays before i), (λ i. refl));
    drawn = subst (AsksAt set old.net nothing_told) (sym none) tt;
    devices = refl;
  })

  reported_of : (a : Option Asking) (notes : Notes) (before after : S) → AskedCentre goes kept top a notes before after → IsReported a notes
  reported_of None notes before after asked = tt
  reported_of (Some request) notes before after asked = (kept before request.sub, asked.resynced)

  module _ (s new : ServerEnd) (turn : Turn ServerWhy) (before after : S) (bytes : List ℕ) (is : session.server ≡ Some s) (of_packet : bytes ≡ sent_packet.bytes)
      (later : List HomeRow) (steps : Steps goes kept top set homes s bytes before new turn later after) (alike : AreOfSame homes later) (fits : Fits s) where
    abbrev told : ToldEvent
    told = record { seen = steps.seen; notes = turn.notes; inner = decrypted.Unreadable; reply = steps.reply }

    abbrev asks : Option Asking
    asks = asking (server_row set homes s steps.seen steps.reply)

    -- for whom the centre was asked
    asked_for : asked_after set homes new turn.notes.resync turn.notes.number ≡ asked_sub asks
    asked_for =
        ap (λ (x : ServerEnd × Turn ServerWhy). asked_after set homes x.0 turn.notes.resync turn.notes.number) steps.same
        ∙ asked_is set homes s steps.seen steps.reply turn.notes steps.drawn (reported_of asks turn.notes before after steps.asked) (ap (λ (x : ServerEnd × Turn ServerWhy). x.1.notes) (sym steps.same))
        ∙ same_sub asks

    -- the network after a turn
    abbrev after_turn : ServerEnd × Turn ServerWhy → Net
    after_turn x = record (with_server old.net place session (drawn_in_turn asks x.1.notes.number) x.0 x.1.step) {
      homes = homes_after set homes s steps.seen steps.reply turn.notes;
      broken = judged packets broken (Some (record { checked = x.1.checked; inputs = inputs_of_server s; bytes = sent_packet.bytes; delivery = breach_at d0 end.Server }));
    }

    -- `read`, `looked`, `served` and `noted` are the lists as the steps of the code find them
    pub serves : (read looked packets' : List SentPacket) (sessions' : List Session) (noted released' : List Number) (served homes' : List HomeRow) (broken' : Option Breach) (inputs inputs_before : Option Inputs)
        (sent : Option (List ℕ)) (asked posted_as : Option ℕ)
        → read ≡ packets → looked ≡ packets → noted ≡ released → served ≡ later → homes' ≡ later
        → inputs_before ≡ inputs_of_server s → inputs ≡ inputs_of_server new → sent ≡ sent_by turn.step → packets' ≡ posted read end.Server inputs sent → posted_as ≡ number_after read sent
        → asked ≡ asked_after set served new turn.notes.resync turn.notes.number → released' ≡ noted ++ released_for asked turn.notes.number
        → broken' ≡ judged looked broken (Some (record { checked = turn.checked; inputs = inputs_before; bytes = bytes; delivery = breach_at d0 end.Server }))
        → sessions' ≡ slice_set sessions place (record session { server = Some new })
        → (vector : Option Vector) → vector ≡ vector_sent turn.notes.number (challenged_of new)
        → (note : Note) → note ≡ record { notes = turn.notes; step = did.Server turn.step; packet = posted_as; asked = asked; device = None; vector = vector }
        → ServesPacket goes kept top set old d0 before (state_of packets' sessions' released' homes' broken' devices) (Ok note) after
    serves read looked packets' sessions' noted released' served homes' broken' inputs inputs_before sent asked posted_as is_read is_looked is_noted is_served is_homes is_before is_inputs is_sent is_packets is_posted is_asked is_released is_broken is_sessions vector is_vector note is_note =
        let for_whom : asked ≡ asked_sub asks = is_asked ∙ ap (λ (h : List HomeRow). asked_after set h new turn.notes.resync turn.notes.number) is_served
        ∙ asked_same set homes later new turn.notes.resync turn.notes.number alike ∙ asked_for in
        let post : posted read end.Server inputs sent ≡ posted packets end.Server (inputs_of_server new) (sent_by turn.step) = λ j. posted (is_read j) end.Server (is_inputs j) (is_sent j) in
        let out : released' ≡ released ++ drawn_in_turn asks turn.notes.number =
        is_released ∙ ap (λ (all : List Number). all ++ released_for asked turn.notes.number) is_noted ∙ ap (λ (a : Option ℕ). released ++ released_for a turn.notes.number) for_whom
        ∙ ap (λ (all : List Number). released ++ all) (same_released asks turn.notes.number) in
        let judge : judged looked broken (Some (record { checked = turn.checked; inputs = inputs_before; bytes = bytes; delivery = breach_at d0 end.Server }))
        ≡ judged packets broken (Some (record { checked = turn.checked; inputs = inputs_of_server s; bytes = sent_packet.bytes; delivery = breach_at d0 end.Server })) =
        λ j. judged (is_looked j) broken (Some (record { checked = turn.checked; inputs = is_before j; bytes = of_packet j; delivery = breach_at d0 end.Server })) in
        let put : packets' ≡ posted packets end.Server (inputs_of_server new) (sent_by turn.step) = is_packets ∙ post in
        let breach : broken' ≡ judged packets broken (Some (record { checked = turn.checked; inputs = inputs_of_server s; bytes = sent_packet.bytes; delivery = breach_at d0 end.Server })) =
        is_broken ∙ judge in
        let net_is : (state_of packets' sessions' released' homes' broken' devices).net ≡ after_turn (new, turn) =
        λ j. record old.net { packets = put j; sessions = is_sessions j; released = out j; homes = (is_homes ∙ steps.homes_are) j; broken = breach j } in
        let number_is : posted_as ≡ packet_number old.net (sent_by turn.step) =
        is_posted ∙ ap (λ (ps : List SentPacket). number_after ps sent) is_read ∙ ap (number_after packets) is_sent ∙ sym (numbered old.net packets (sent_by turn.step) refl) in
        let note_is : record { notes = turn.notes; step = did.Server turn.step; packet = posted_as; asked = asked; device = None; vector = vector }
        ≡ by_server old.net turn.notes turn.step asks (vector_sent turn.notes.number (challenged_of new)) =
        λ j. record { notes = turn.notes; step = did.Server turn.step; packet = number_is j; asked = for_whom j; device = None; vector = is_vector j } in
        record {
          told = told;
          is = ap (λ (n : Note). Ok n) (is_note ∙ note_is) ∙ ap (λ (x : ServerEnd × Turn ServerWhy). Ok (by_server old.net x.1.notes x.1.step asks (vector_sent x.1.notes.number (challenged_of x.0)))) steps.same ∙ ap (came_at_server set old.net told) (sym is);
          leads = net_is ∙ ap after_turn steps.same
              ∙ ap (λ (o : Option ServerEnd). record (to_server set old.net d0 told o) { broken = judged packets broken (server_finds set old.net d0 told o) }) (sym is);
          received = subst (λ (o : Option ServerEnd). AreReceived (received_by sent_packet.bytes o) steps.seen) (sym is) (steps.received, steps.of ∙ of_packet);
          notes = sym (ap (λ (n : Note). n.notes) is_note);
          replies = subst (RepliesAt told) (sym is) steps.replies;
          centre = subst (λ (o : Option ServerEnd). AskedCentre goes kept top (asking_at set old.net told o) turn.notes before after) (sym is) steps.asked;
          drawn = subst (AsksAt set old.net told) (sym is) steps.drawn;
          devices = refl;
        }

  -- the same of the network as it is seen
  pub serves_now : slice_get sessions place ≡ Some session → packet_at packets packet ≡ Some sent_packet → (now : WorldState) → old ≡ now
      → (new : WorldState) (before after : S) (came : Came) → ServesPacket goes kept top set old d0 before new came after
      → (d : Delivery) → delivery_at now.net packet (Some place) ≡ Some d → ServesPacket goes kept top set now d before new came after
  serves_now there here now is new before after came served =
      subst (λ (w : WorldState). (d : Delivery) → delivery_at w.net packet (Some place) ≡ Some d → ServesPacket goes kept top set w d before new came after) is
      (λ d found. subst (λ (e : Delivery). ServesPacket goes kept top set old e before new came after) (is_delivery old.net place packet session sent_packet d there here found) served)
