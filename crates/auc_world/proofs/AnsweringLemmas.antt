-- For `world`: a packet that reaches a peer.
use Rattle.std.proofs.Common.{◌≡◌, ℕ, zero, suc, List, [], ◌∷◌, map, Option, Some, None, Ok, Err, refl, sym, ap, ◌∙◌, subst}
use Rattle.std.specs.Prelude.{slice_get, slice_set}
use Rattle.auc_hmac.specs.declared.keys.KeySet.{KeySet}
use Rattle.auc_lines.specs.declared.part.End.TheVariants as end
use Rattle.auc_peer.specs.Rows.{peer_row}
use Rattle.auc_peer.specs.Subscription.{Subscription, subscription_of}
use Rattle.auc_peer.specs.Table.{peer_step}
use Rattle.auc_peer.specs.Turn as peer_turns
use Rattle.auc_peer.specs.Turn.{Decrypts, Steps, decryption_made}
use Rattle.auc_peer.specs.declared.device.Device.{Device}
use Rattle.auc_peer.specs.declared.peer.Peer.{Peer}
use Rattle.auc_vector.specs.declared.why.PeerWhy.{PeerWhy}
use Rattle.auc_reauth.specs.Device.{Keeps}
use Rattle.auc_released.specs.declared.numbers.Number.{Number}
use Rattle.auc_subs.specs.Setting.{Setting}
use Rattle.auc_server.specs.declared.reply.Reply.TheVariants as replies
use Rattle.auc_server.specs.declared.setting.HomeRow.{HomeRow}
use Rattle.auc_vector.specs.declared.turn.Turn.{Turn}
use Rattle.auc_world.proofs.ActingLemmas.{numbered}
use Rattle.auc_world.proofs.DeviceLemmas.{get_here, get_other}
use Rattle.auc_world.proofs.ServingLemmas.{delivery_to, is_delivery, nothing_told, unjudged}
use Rattle.auc_world.proofs.WorldLemmas.{map_same}
use Rattle.auc_world.specs.Came.{AreReceived, by_peer, came_at_peer, packet_number, presented_at, received_by}
use Rattle.auc_record.specs.Event.{Came}
use Rattle.auc_world.specs.Happened.{Delivery, ToldEvent, breach_at, delivery_at, kept_after, keys_won, peer_finds, sent_by, to_peer, with_peer}
use Rattle.auc_world.specs.InnerWorld.{Answers, number_after, state_of}
use Rattle.auc_world.specs.Net.{Net, inputs_of_peer, judged, keeps_at, keeps_or, packet_at, posted}
use Rattle.auc_world.specs.World.{AreHanded, RememberPasts, WorldState}
use Rattle.auc_record.specs.declared.event.Note.{Note}
use Rattle.auc_record.specs.declared.event.NoteStep.TheVariants as did
use Rattle.auc_record.specs.declared.event.WorldRefusal.TheVariants as refused
use Rattle.auc_record.specs.declared.record.Breach.{Breach}
use Rattle.auc_world.specs.declared.net.Inputs.{Inputs}
use Rattle.auc_world.specs.declared.net.SentPacket.{SentPacket}
use Rattle.auc_world.specs.declared.net.Session.{Session}

-- the subscription of the device at a place, if there is one
pub subscription_at : (devices : List Device) (place : ℕ) (device : Device) → slice_get devices place ≡ Some device → slice_get (map subscription_of devices) place ≡ Some (subscription_of device)
subscription_at [] place device there = absurd cc
subscription_at (first ∷ devices) zero device there = ap (λ (d : Option Device). subscriptions d) there
  where
    subscriptions : Option Device → Option Subscription
    subscriptions None = None
    subscriptions (Some d) = Some (subscription_of d)
subscription_at (first ∷ devices) (suc place) device there = subscription_at devices place device there

-- and what it keeps
store_at : (devices : List Device) (place : ℕ) (device : Device) → slice_get devices place ≡ Some device → slice_get (map (λ (d : Device). d.store) devices) place ≡ Some device.store
store_at [] place device there = absurd cc
store_at (first ∷ devices) zero device there = ap (λ (d : Option Device). stores d) there
  where
    stores : Option Device → Option Keeps
    stores None = None
    stores (Some d) = Some d.store
store_at (first ∷ devices) (suc place) device there = store_at devices place device there

-- what is told of the items of a list after one of them was put
module _ {A B : Type 0} (f : A → B) where
  map_set : (xs : List A) (place : ℕ) (x : A) → map f (slice_set xs place x) ≡ slice_set (map f xs) place (f x)
  map_set [] place x = refl
  map_set (y ∷ xs) zero x = refl
  map_set (y ∷ xs) (suc place) x = ap (λ (rest : List B). f y ∷ rest) (map_set xs place x)

pub no_subscription_at : (devices : List Device) (place : ℕ) → slice_get devices place ≡ None → slice_get (map subscription_of devices) place ≡ None
no_subscription_at [] place none = refl
no_subscription_at (first ∷ devices) zero none = absurd cc
no_subscription_at (first ∷ devices) (suc place) none = no_subscription_at devices place none

module _ (packets : List SentPacket) (sessions : List Session) (released : List Number) (homes : List HomeRow) (broken : Option Breach) (devices : List Device)
    (place packet : ℕ) (session : Session) (sent_packet : SentPacket) (set : Setting) where
  abbrev old : WorldState
  old = state_of packets sessions released homes broken devices

  abbrev d0 : Delivery
  d0 = delivery_to place packet session sent_packet

  -- the device isn't there
  pub answers_nobody : slice_get devices session.device ≡ None → (new : WorldState) → new ≡ old → Answers set old d0 new (Err refused.NoSuchEnd)
  answers_nobody gone new same =
      let none : slice_get old.net.devices session.device ≡ None = no_subscription_at devices session.device gone in
      subst (λ (w : WorldState). Answers set old d0 w (Err refused.NoSuchEnd)) (sym same) (record {
        told = nothing_told;
        is = ap (came_at_peer set old.net d0 nothing_told) (sym none);
        leads = (λ j. record old.net { broken = unjudged packets broken j })
            ∙ ap (λ (s : Option Subscription). record (to_peer set old.net d0 nothing_told s) { broken = judged packets broken (peer_finds set old.net d0 nothing_told s) }) (sym none);
        received = subst (λ (s : Option Subscription). AreReceived (received_by sent_packet.bytes s) nothing_told.seen) (sym none) tt;
        notes = tt;
        usims = subst (λ (s : Option Subscription). AreHanded (presented_at old.net d0 nothing_told s) nothing_told devices devices) (sym none) refl;
      })

  module _ (device card : Device) (new : Peer) (turn : Turn PeerWhy) (bytes : List ℕ) (there : slice_get devices session.device ≡ Some device)
      (same_card : subscription_of card ≡ subscription_of device) (same_bits : card.usim.array.bits ≡ device.usim.array.bits) (same_age : card.usim.array.age ≡ device.usim.array.age)
      (of_packet : bytes ≡ sent_packet.bytes)
      (steps : Steps set.key (subscription_of device) device.store session.peer bytes device.usim.array new turn card.store card.usim.array) (pasts : RememberPasts devices) where
    abbrev told : ToldEvent
    told = record { seen = steps.seen; notes = turn.notes; inner = peer_turns.inner_of new; reply = replies.Wrong }

    -- the network after a turn
    abbrev after_turn : Peer × Turn PeerWhy → Net
    after_turn x = record (with_peer old.net place session x.0 x.1.step) {
      stores = slice_set old.net.stores session.device (kept_after (keeps_at old.net session.device) session told x.1);
      broken = judged packets broken (Some (record { checked = x.1.checked; inputs = inputs_of_peer session.sub x.0; bytes = sent_packet.bytes; delivery = breach_at d0 end.Peer }));
    }

    -- what the device keeps is what the network says
    keeps_is : device.store ≡ keeps_at old.net session.device
    keeps_is = sym (ap keeps_or (store_at devices session.device device there))

    turn_is : (new, turn) ≡ peer_step set.key (subscription_of device) (keeps_at old.net session.device) session.peer steps.seen turn.notes.usim (peer_turns.inner_of new)
    turn_is =
        let past = pasts session.device device there in
        steps.same past.0 past.1 ∙ ap (λ (k : Keeps). peer_step set.key (subscription_of device) k session.peer steps.seen turn.notes.usim (peer_turns.inner_of new)) keeps_is

    -- `read` and `looked` are the packets as the steps of the code find them
    pub answers : (read looked packets' : List SentPacket) (sessions' : List Session) (broken' : Option Breach) (inputs : Option Inputs)
        (sent : Option (List ℕ)) (posted_as : Option ℕ) (keys : Option KeySet)
        → read ≡ packets → looked ≡ packets
        → inputs ≡ inputs_of_peer session.sub new → sent ≡ sent_by turn.step → packets' ≡ posted read end.Peer inputs sent → posted_as ≡ number_after read sent
        → keys ≡ keys_won session.peer_keys turn.step
        → broken' ≡ judged looked broken (Some (record { checked = turn.checked; inputs = inputs; bytes = bytes; delivery = breach_at d0 end.Peer }))
        → sessions' ≡ slice_set sessions place (record session { peer = new; peer_keys = keys })
        → (note : Note) → note ≡ record { notes = turn.notes; step = did.Peer turn.step; packet = posted_as; asked = None; device = Some session.sub; vector = None }
        → Answers set old d0 (state_of packets' sessions' released homes broken' (slice_set devices session.device card)) (Ok note)
    answers read looked packets' sessions' broken' inputs sent posted_as keys is_read is_looked is_inputs is_sent is_packets is_posted is_keys is_broken is_sessions note is_note =
        let here : slice_get old.net.devices session.device ≡ Some (subscription_of device) = subscription_at devices session.device device there in
        let post : posted read end.Peer inputs sent ≡ posted packets end.Peer (inputs_of_peer session.sub new) (sent_by turn.step) = λ j. posted (is_read j) end.Peer (is_inputs j) (is_sent j) in
        let put : packets' ≡ posted packets end.Peer (inputs_of_peer session.sub new) (sent_by turn.step) = is_packets ∙ post in
        let judge : judged looked broken (Some (record { checked = turn.checked; inputs = inputs; bytes = bytes; delivery = breach_at d0 end.Peer }))
        ≡ judged packets broken (Some (record { checked = turn.checked; inputs = inputs_of_peer session.sub new; bytes = sent_packet.bytes; delivery = breach_at d0 end.Peer })) =
        λ j. judged (is_looked j) broken (Some (record { checked = turn.checked; inputs = is_inputs j; bytes = of_packet j; delivery = breach_at d0 end.Peer })) in
        let breach : broken' ≡ judged packets broken (Some (record { checked = turn.checked; inputs = inputs_of_peer session.sub new; bytes = sent_packet.bytes; delivery = breach_at d0 end.Peer })) =
        is_broken ∙ judge in
        let kept : sessions' ≡ slice_set sessions place (record session { peer = new; peer_keys = keys_won session.peer_keys turn.step }) =
        is_sessions ∙ ap (λ (k : Option KeySet). slice_set sessions place (record session { peer = new; peer_keys = k })) is_keys in
        let alike : map subscription_of (slice_set devices session.device card) ≡ map subscription_of devices = map_same subscription_of devices session.device device card there same_card in
        let stored : map (λ d. d.store) (slice_set devices session.device card) ≡ slice_set old.net.stores session.device (kept_after (keeps_at old.net session.device) session told turn) =
        map_set (λ (d : Device). d.store) devices session.device card
        ∙ ap (slice_set old.net.stores session.device) (steps.stored ∙ ap (λ (k : Keeps). kept_after k session told turn) keeps_is) in
        let net_is : (state_of packets' sessions' released homes broken' (slice_set devices session.device card)).net ≡ after_turn (new, turn) =
        λ j. record old.net { packets = put j; sessions = kept j; devices = alike j; stores = stored j; broken = breach j } in
        let number_is : posted_as ≡ packet_number old.net (sent_by turn.step) =
        is_posted ∙ ap (λ (ps : List SentPacket). number_after ps sent) is_read ∙ ap (number_after packets) is_sent ∙ sym (numbered old.net packets (sent_by turn.step) refl) in
        let note_is : record { notes = turn.notes; step = did.Peer turn.step; packet = posted_as; asked = None; device = Some session.sub; vector = None } ≡ by_peer old.net turn.notes turn.step (Some session.sub) =
        λ j. record { notes = turn.notes; step = did.Peer turn.step; packet = number_is j; asked = None; device = Some session.sub; vector = None } in
        record {
          told = told;
          is = ap (λ (n : Note). Ok n) (is_note ∙ note_is) ∙ ap (λ (x : Peer × Turn PeerWhy). Ok (by_peer old.net x.1.notes x.1.step (Some session.sub))) turn_is ∙ ap (came_at_peer set old.net d0 told) (sym here);
          leads = net_is ∙ ap after_turn turn_is
              ∙ ap (λ (o : Option Subscription). record (to_peer set old.net d0 told o) { broken = judged packets broken (peer_finds set old.net d0 told o) }) (sym here);
          received = subst (λ (o : Option Subscription). AreReceived (received_by sent_packet.bytes o) steps.seen) (sym here) (steps.received, steps.of ∙ of_packet);
          notes = sym (ap (λ (n : Note). n.notes) is_note);
          usims = subst (λ (o : Option Subscription). AreHanded (presented_at old.net d0 told o) told devices (slice_set devices session.device card)) (sym here) (record {
            before = device;
            there = there;
            after = card;
            here = get_here devices session.device device card there;
            secret = ap (λ (s : Subscription). s.secret) same_card;
            bits = same_bits;
            age = same_age;
            others = λ other differ. get_other devices session.device other card differ;
            asked = steps.usim;
            decrypts = λ past remembers. subst (λ (k : Keeps). Decrypts (decryption_made (subscription_of device) k session.peer steps.seen (peer_row session.peer steps.seen) turn.notes.usim) (peer_turns.inner_of new))
                keeps_is (steps.decrypts past remembers);
          });
        }

  -- the same of the network as it is seen
  pub answers_now : slice_get sessions place ≡ Some session → packet_at packets packet ≡ Some sent_packet → (now : WorldState) → old ≡ now
      → (new : WorldState) (came : Came) → (RememberPasts devices → Answers set old d0 new came)
      → RememberPasts now.devices → (d : Delivery) → delivery_at now.net packet (Some place) ≡ Some d → Answers set now d new came
  answers_now there here now is new came answered =
      subst (λ (w : WorldState). RememberPasts w.devices → (d : Delivery) → delivery_at w.net packet (Some place) ≡ Some d → Answers set w d new came) is
      (λ pasts d found. subst (λ (e : Delivery). Answers set old e new came) (is_delivery old.net place packet session sent_packet d there here found) (answered pasts))
