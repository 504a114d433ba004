-- Each plain session ends: after each delivery to an end that answers fewer deliveries may follow.
use Rattle.std.proofs.Common.{◌≡◌, inl, inr, ℕ, suc, ◌+◌, ◌*◌, ◌<◌, ◌≤◌, ◌==◌, true, List, [], ◌∷◌, length, Option, Some, None, slice_get, slice_set, refl, sym, ap, ◌∙◌, arith}
use Rattle.std.proofs.lemmas.List.Quantifiers.{position-Some}
use Rattle.std.proofs.lemmas.Option.{get_or_from_slice_get, slice_get_within}
use Rattle.auc_lines.specs.declared.part.End.{End}
use Rattle.auc_lines.specs.declared.part.End.TheVariants as end
use Rattle.auc_peer.specs.Subscription.{Subscription}
use Rattle.auc_server.specs.Ending.{EachTurnLeavesFewer, LeavesFewer, packets_left}
use Rattle.auc_server.specs.Server.{ServerEnd, started}
use Rattle.auc_vector.specs.declared.why.ServerWhy.{ServerWhy}
use Rattle.auc_vector.specs.declared.turn.Step.{Step}
use Rattle.auc_vector.specs.declared.turn.Turn.{Turn}
use Rattle.auc_world.proofs.PlainListLemmas.{position_stays, set_there}
use Rattle.auc_world.specs.Came.{came, came_at_peer, came_at_server, came_delivered, came_in, came_started, packet_number, session_at, session_of}
use Rattle.auc_world.specs.Ending.{EachDeliveryLeavesFewer, EachPlainSessionEnds, StartLeavesSixteen, deliveries_left, server_left, session_left}
use Rattle.auc_world.specs.Given.{Before, EventGives, RelayGives, behind, packet_in, packet_of}
use Rattle.auc_world.specs.Happened.{Delivery, ToldEvent, at_place, delivered, delivery_at, delivery_of, happened, in_session, keys_won, peer_turn, sent_by, server_turn, start, to_peer, to_server}
use Rattle.auc_world.specs.Net.{Net, keeps_at, other, packet_at, session_place}
use Rattle.auc_subs.specs.Setting.{Setting}
use Rattle.auc_record.specs.declared.event.Event.{Event}
use Rattle.auc_record.specs.declared.event.Event.TheVariants as event
use Rattle.auc_world.specs.declared.net.SentPacket.{SentPacket}
use Rattle.auc_world.specs.declared.net.Session.{Session}
use Rattle.auc_record.specs.declared.record.LineRecord.{LineRecord}
use Rattle.auc_record.specs.declared.record.LineRecord.TheVariants as record_of

no_packet : (packet : ℕ) → ◌≡◌ {A = Option ℕ} None (Some packet) → ⊥
no_packet packet e = cc

-- the session of a number after one of its ends took a step
session_after : (w next : Net) (number place : ℕ) (s new : Session) → session_place w.sessions number ≡ Some place → slice_get w.sessions place ≡ Some s → new.number ≡ s.number
    → next.sessions ≡ slice_set w.sessions place new → session_of next number ≡ Some new
session_after w next number place s new numbered there same are =
    let first = position-Some (λ (x : Session). x.number == number) w.sessions place s numbered in
    let own : (s.number == number) ≡ true = sym (ap (λ (x : Session). x.number == number) (get_or_from_slice_get w.sessions place s s there)) ∙ first.1 in
    let passes : (new.number == number) ≡ true = ap (λ (n : ℕ). n == number) same ∙ own in
    ap (session_at next) (ap (λ (l : List Session). session_place l number) are ∙ position_stays (λ (x : Session). x.number == number) w.sessions place new numbered passes)
    ∙ ap (λ (l : List Session). slice_get l place) are ∙ set_there w.sessions place new (slice_get_within w.sessions place s there)

-- ---- a delivery

-- a turn of the server that sends a packet leaves fewer
sends_fewer : (w : Net) (s new : ServerEnd) (turn : Turn ServerWhy) (packet : ℕ) → LeavesFewer s new turn → packet_number w (sent_by turn.step) ≡ Some packet
    → packets_left new < packets_left s
sends_fewer w s new turn packet (inr less) makes = less
sends_fewer w s new turn packet (inl (cause, is, same)) makes =
    absurd (no_packet packet (sym (ap (λ (did : Step ServerWhy). packet_number w (sent_by did)) is) ∙ makes))

module _ (law : EachTurnLeavesFewer) (set : Setting) (w next : Net) (number packet answer : ℕ) (told : ToldEvent) where
  -- to an end
  abbrev AnsweredAt : End → Type 0
  AnsweredAt at' = deliveries_left next number (other at') < deliveries_left w number at'

  at_server : (d : Delivery) (server : Option ServerEnd) → session_place w.sessions number ≡ Some d.place → slice_get w.sessions d.place ≡ Some d.session → d.session.server ≡ server
      → packet_in (came_at_server set w told server) ≡ Some answer → next.sessions ≡ (to_server set w d told server).sessions → AnsweredAt end.Server
  at_server d None numbered there is makes are = absurd (no_packet answer makes)
  at_server d (Some q) numbered there is makes are =
      let turn = server_turn set w q told in
      let new : Session = record d.session { server = Some turn.0 } in
      let less = sends_fewer w q turn.0 turn.1 answer (law set w.homes q told.seen told.reply told.notes) makes in
      let later : deliveries_left next number end.Peer ≡ 2 * packets_left turn.0 + 2 =
      ap (λ (o : Option Session). 2 * session_left o + 2) (session_after w next number d.place d.session new numbered there refl are) in
      let now : deliveries_left w number end.Server ≡ 2 * packets_left q + 1 =
      ap (λ (o : Option Session). 2 * session_left o + 1) (ap (session_at w) numbered ∙ there) ∙ ap (λ (o : Option ServerEnd). 2 * server_left o + 1) is in
      omega (arith, less, later, now)

  at_peer : (d : Delivery) (device : Option Subscription) → session_place w.sessions number ≡ Some d.place → slice_get w.sessions d.place ≡ Some d.session
      → packet_in (came_at_peer set w d told device) ≡ Some answer → next.sessions ≡ (to_peer set w d told device).sessions → AnsweredAt end.Peer
  at_peer d None numbered there makes are = absurd (no_packet answer makes)
  at_peer d (Some device) numbered there makes are =
      let turn = peer_turn set device (keeps_at w d.session.device) d.session told in
      let new : Session = record d.session { peer = turn.0; peer_keys = keys_won d.session.peer_keys turn.1.step } in
      let later : deliveries_left next number end.Server ≡ 2 * server_left d.session.server + 1 =
      ap (λ (o : Option Session). 2 * session_left o + 1) (session_after w next number d.place d.session new numbered there refl are) in
      let now : deliveries_left w number end.Peer ≡ 2 * server_left d.session.server + 2 =
      ap (λ (o : Option Session). 2 * session_left o + 2) (ap (session_at w) numbered ∙ there) in
      omega (arith, later, now)

  at_session : (place : ℕ) (x : Option Session) (y : Option SentPacket) → session_place w.sessions number ≡ Some place → slice_get w.sessions place ≡ x → (at' : End)
      → packet_in (came_delivered set w at' told y (delivery_of packet place x y)) ≡ Some answer
      → next.sessions ≡ (delivered set w at' told (delivery_of packet place x y)).sessions → AnsweredAt at'
  at_session place None None numbered there at' makes are = absurd (no_packet answer makes)
  at_session place None (Some sent) numbered there at' makes are = absurd (no_packet answer makes)
  at_session place (Some s) None numbered there at' makes are = absurd (no_packet answer makes)
  at_session place (Some s) (Some sent) numbered there end.Server makes are =
      at_server (record { place = place; session = s; bytes = sent.bytes; packet = packet }) s.server numbered there refl makes are
  at_session place (Some s) (Some sent) numbered there end.Peer makes are =
      at_peer (record { place = place; session = s; bytes = sent.bytes; packet = packet }) (slice_get w.devices s.device) numbered there makes are

  nowhere : (y : Option SentPacket) (at' : End) → packet_in (came_delivered set w at' told y None) ≡ Some answer → ⊥
  nowhere None at' makes = no_packet answer makes
  nowhere (Some sent) at' makes = no_packet answer makes

  at_number : (o : Option ℕ) → session_place w.sessions number ≡ o → (at' : End)
      → packet_in (came_delivered set w at' told (packet_at w.packets packet) (delivery_at w packet o)) ≡ Some answer
      → next.sessions ≡ (delivered set w at' told (delivery_at w packet o)).sessions → AnsweredAt at'
  at_number None numbered at' makes are = absurd (nowhere (packet_at w.packets packet) at' makes)
  at_number (Some place) numbered at' makes are = at_session place (slice_get w.sessions place) (packet_at w.packets packet) numbered refl at' makes are

pub delivery_leaves : EachTurnLeavesFewer → EachDeliveryLeavesFewer
delivery_leaves law set w session packet answer at' told makes =
    at_number law set w (happened set w (event.Deliver session at' packet) told) session packet answer told (session_place w.sessions session) refl at' makes refl

-- ---- the start

module _ (set : Setting) (w next : Net) (number packet : ℕ) where
  starts : (place : ℕ) (s : Session) (server : Option ServerEnd) → session_place w.sessions number ≡ Some place → slice_get w.sessions place ≡ Some s
      → packet_in (came_started w s.options server) ≡ Some packet → next.sessions ≡ (start w place s server).sessions → deliveries_left next number end.Peer ≡ 16
  starts place s (Some q) numbered there makes are = absurd (no_packet packet makes)
  starts place s None numbered there makes are =
      let new : Session = record s { server = Some (started s.options) } in
      ap (λ (o : Option Session). 2 * session_left o + 2) (session_after w next number place s new numbered there refl are)

  starts_in : (place : ℕ) (x : Option Session) → session_place w.sessions number ≡ Some place → slice_get w.sessions place ≡ x
      → packet_in (came_in (λ s. came_started w s.options s.server) x) ≡ Some packet → next.sessions ≡ (in_session w (λ k s. start w k s s.server) place x).sessions
      → deliveries_left next number end.Peer ≡ 16
  starts_in place None numbered there makes are = absurd (no_packet packet makes)
  starts_in place (Some s) numbered there makes are = starts place s s.server numbered there makes are

  starts_at : (o : Option ℕ) → session_place w.sessions number ≡ o → packet_in (came_in (λ s. came_started w s.options s.server) (session_at w o)) ≡ Some packet
      → next.sessions ≡ (at_place w (λ k s. start w k s s.server) o).sessions → deliveries_left next number end.Peer ≡ 16
  starts_at None numbered makes are = absurd (no_packet packet makes)
  starts_at (Some place) numbered makes are = starts_in place (slice_get w.sessions place) numbered refl makes are

pub start_leaves : StartLeavesSixteen
start_leaves set w session packet told makes =
    starts_at set w (happened set w (event.Start session) told) session packet (session_place w.sessions session) refl makes refl

-- ---- the lines of a plain session

one_packet : (a b : LineRecord) → a ∷ [] ≡ b ∷ [] → packet_of a ≡ packet_of b
one_packet a b e = ap packet_of (one a b e)
  where
    one : (a b : LineRecord) → a ∷ [] ≡ b ∷ [] → a ≡ b
    one a b e = cc

-- the packet of an event's line is the one that the event made
made_by : (set : Setting) (before : Before) (w next : Net) (e : Event) (line : LineRecord) (g : EventGives set before w e (line ∷ []) next)
    → packet_in (came set w e g.told) ≡ packet_of line
made_by set before w next e line g = sym (one_packet line (record_of.Event (record { event = e; result = came set w e g.told })) g.lines_are)

one_left : (w : Net) (number : ℕ) (at' : End) → 1 ≤ deliveries_left w number at'
one_left w number end.Server = omega arith
one_left w number end.Peer = omega arith

module _ (law : EachTurnLeavesFewer) (set : Setting) (number : ℕ) (next : Net) where
  -- one delivery, and those that follow it
  and_more : (before : Before) (w mid : Net) (at' : End) (packet : ℕ) (line : LineRecord) (lines : List LineRecord) (o : Option ℕ)
      → EventGives set before w (event.Deliver number at' packet) (line ∷ []) mid → packet_of line ≡ o
      → RelayGives set (behind before (line ∷ [])) mid number (other at') o lines next
      → ((answer : ℕ) → RelayGives set (behind before (line ∷ [])) mid number (other at') (Some answer) lines next → length lines ≤ deliveries_left mid number (other at'))
      → suc (length lines) ≤ deliveries_left w number at'
  and_more before w mid at' packet line [] None gives makes relay few = one_left w number at'
  and_more before w mid at' packet line (other_line ∷ lines) None gives makes relay few = absurd relay
  and_more before w mid at' packet line lines (Some answer) gives makes relay few =
      let less = delivery_leaves law set w number packet answer at' gives.told (made_by set before w mid (event.Deliver number at' packet) line gives ∙ makes) in
      let same : deliveries_left mid number (other at') ≡ deliveries_left (happened set w (event.Deliver number at' packet) gives.told) number (other at') =
      ap (λ (n : Net). deliveries_left n number (other at')) gives.leads in
      let rest = few answer relay in omega (arith, less, same, rest)

  relay_is_short : (lines : List LineRecord) (before : Before) (w : Net) (at' : End) (packet : ℕ) → RelayGives set before w number at' (Some packet) lines next
      → length lines ≤ deliveries_left w number at'
  relay_is_short [] before w at' packet gives = absurd gives
  relay_is_short (line ∷ lines) before w at' packet (mid, gives, relay) =
      and_more before w mid at' packet line lines (packet_of line) gives refl relay (λ answer more. relay_is_short lines (behind before (line ∷ [])) mid (other at') answer more)

  -- the start, and the deliveries
  from_start : (before : Before) (w mid : Net) (line : LineRecord) (lines : List LineRecord) (o : Option ℕ) → EventGives set before w (event.Start number) (line ∷ []) mid
      → packet_of line ≡ o → RelayGives set (behind before (line ∷ [])) mid number end.Peer o lines next → suc (length lines) ≤ 17
  from_start before w mid line [] None gives makes relay = omega arith
  from_start before w mid line (other_line ∷ lines) None gives makes relay = absurd relay
  from_start before w mid line lines (Some packet) gives makes relay =
      let sixteen = start_leaves set w number packet gives.told (made_by set before w mid (event.Start number) line gives ∙ makes) in
      let same : deliveries_left mid number end.Peer ≡ deliveries_left (happened set w (event.Start number) gives.told) number end.Peer =
      ap (λ (n : Net). deliveries_left n number end.Peer) gives.leads in
      let rest = relay_is_short lines (behind before (line ∷ [])) mid end.Peer packet relay in omega (arith, sixteen, same, rest)

pub plain_ends : EachTurnLeavesFewer → EachPlainSessionEnds
plain_ends law set before w next session [] gives = absurd gives
plain_ends law set before w next session (line ∷ lines) (mid, gives, relay) =
    from_start law set session next before w mid line lines (packet_of line) gives refl relay
