-- For the counters that are told: an event tells of its session what changes there.
use Rattle.std.proofs.Common.{◌≡◌, ℕ, List, [], ◌++◌, map, Option, Some, None, option_to_list, slice_get, slice_set, refl, sym, ap, ◌∙◌, subst, append-nil}
use Rattle.auc_lines.specs.declared.part.End.{End}
use Rattle.auc_lines.specs.declared.part.End.TheVariants as end
use Rattle.auc_lines.specs.declared.part.SessionLine.{SessionLine}
use Rattle.auc_peer.specs.Laws.{AcceptedIsOfTheContext}
use Rattle.auc_peer.specs.Subscription.{Subscription}
use Rattle.auc_peer.specs.Table.{gave_up as peer_gave_up}
use Rattle.auc_reauth.specs.Machine.{Used}
use Rattle.auc_reauth.specs.Store.{entry}
use Rattle.auc_server.proofs.Facts.{each_turn_fits, started_fits}
use Rattle.auc_server.specs.Laws.{Fits}
use Rattle.auc_server.specs.Server.{ServerEnd, started}
use Rattle.auc_subs.specs.Setting.{Setting}
use Rattle.auc_server.specs.Table.{gave_up as server_gave_up}
use Rattle.auc_record.specs.Event.{Came}
use Rattle.auc_world.specs.Came.{came, came_at_peer, came_at_server, came_changed, came_delivered, came_given_up, came_in, came_opened, came_repeated, came_started, server_came_to_give_up, session_at}
use Rattle.auc_world.specs.Happened.{Delivery, ToldEvent, at_place, changed_in, delivered, delivery_at, delivery_of, give_up, happened, in_session, keys_won, moved, new_session, opened, peer_turn, repeat, server_gives_up, server_turn, start, to_peer, to_server}
use Rattle.auc_world.specs.Net.{Net, device_place, keeps_at, packet_at, session_place}
use Rattle.auc_record.specs.declared.event.Event.{Event as Happens}
use Rattle.auc_record.specs.declared.event.Event.TheVariants as event
use Rattle.auc_world.specs.declared.net.SentPacket.{SentPacket}
use Rattle.auc_world.specs.declared.net.Session.{Session}
use Rattle.auc_world.proofs.Facts.{giving_up_counts, new_is_quiet, turn_counts}
use Rattle.auc_transcript.specs.Completeness.{session_in}
use Rattle.auc_transcript.specs.Counters.{accepted_noted, resumed_noted}
use Rattle.auc_transcript.proofs.ChangeLemmas.{change_holds}
use Rattle.auc_transcript.proofs.ToldTurnLemmas.{FitsIf, counters_of, gives_up, peer_counters, resumed_counters, turn_shows}
use Rattle.auc_transcript.proofs.ToldSessionLemmas.{Agrees, Steps, StepsIn, opened_steps, same_found, server_fine, stays, turned}

-- ---- events of open sessions

fits_of : (o : Option ServerEnd) (q : ServerEnd) → o ≡ Some q → FitsIf o → Fits q
fits_of o q e f = subst FitsIf e f

module _ (set : Setting) (own : AcceptedIsOfTheContext) (w : Net) (told : ToldEvent) (k t : ℕ) (s : Session) (first : session_place w.sessions k ≡ Some t) (there : slice_get w.sessions t ≡ Some s) where
  start_steps : (o : Option ServerEnd) → s.server ≡ o → Steps w (start w t s o) k (came_started w s.options o)
  start_steps (Some q) e = stays w k (came_started w s.options (Some q)) refl refl
  start_steps None e =
      turned w (start w t s None) k t s (record s { server = Some (started s.options) }) first there refl refl (came_started w s.options None)
      (λ r a f. server_fine r a s (started s.options) (ap resumed_counters e) (started_fits s.options) f)

  repeat_steps : (o : Option ServerEnd) → s.server ≡ o → Steps w (repeat w t s o) k (came_repeated w o)
  repeat_steps None e = stays w k (came_repeated w None) refl refl
  repeat_steps (Some q) e =
      turned w (repeat w t s (Some q)) k t s (record s { server = Some q }) first there refl refl (came_repeated w (Some q))
      (λ r a f. server_fine r a s q (ap resumed_counters e) (fits_of s.server q e f.fits) f)

  server_over_steps : (o : Option ServerEnd) → s.server ≡ o → Steps w (server_gives_up w t s o) k (server_came_to_give_up w o)
  server_over_steps None e = stays w k (server_came_to_give_up w None) refl refl
  server_over_steps (Some q) e =
      let over = (server_gave_up q q.state).0 in
      turned w (server_gives_up w t s (Some q)) k t s (record s { server = Some over }) first there refl refl (server_came_to_give_up w (Some q))
      (λ r a f.
      let g = gives_up q q.state (fits_of s.server q e f.fits) in
      server_fine r a s over (ap resumed_counters e ∙ sym (ap counters_of g.same)) g.fits f)

  peer_over_steps : Steps w (give_up w end.Peer t s) k (came_given_up w end.Peer s)
  peer_over_steps =
      let over = peer_gave_up s.peer s.peer.state in
      turned w (give_up w end.Peer t s) k t s (record s { peer = over.0; peer_keys = keys_won s.peer_keys over.1 }) first there refl refl (came_given_up w end.Peer s)
      (λ r a f.
      let c = giving_up_counts None s.peer s.peer.state f.quiet in
      record {
        taken_up = append-nil r ∙ f.taken_up;
        taken = append-nil a ∙ f.taken ∙ sym (ap (map (λ (u : Used). u.counter)) c.used);
        fits = f.fits;
        quiet = c.quiet;
      })

  give_up_steps : (at' : End) → Steps w (give_up w at' t s) k (came_given_up w at' s)
  give_up_steps end.Server = server_over_steps s.server refl
  give_up_steps end.Peer = peer_over_steps

  to_server_steps : (d : Delivery) → d.session ≡ s → d.place ≡ t → (o : Option ServerEnd) → s.server ≡ o → Steps w (to_server set w d told o) k (came_at_server set w told o)
  to_server_steps d is at' None e = stays w k (came_at_server set w told None) refl refl
  to_server_steps d is at' (Some q) e =
      let turn = server_turn set w q told in
      turned w (to_server set w d told (Some q)) k t s (record s { server = Some turn.0 }) first there refl
      (ap (λ (x : Session). slice_set w.sessions d.place (record x { server = Some turn.0 })) is ∙ ap (λ (p : ℕ). slice_set w.sessions p (record s { server = Some turn.0 })) at') (came_at_server set w told (Some q))
      (λ r a f.
      let fits = fits_of s.server q e f.fits in
      record {
        taken_up = ap (λ (l : List ℕ). l ++ option_to_list turn.1.notes.resumed) (f.taken_up ∙ ap resumed_counters e) ∙ sym (turn_shows set w.homes q told.seen told.reply told.notes);
        taken = append-nil a ∙ f.taken;
        fits = each_turn_fits set w.homes q told.seen told.reply told.notes fits;
        quiet = f.quiet;
      })

  to_peer_steps : (d : Delivery) → d.session ≡ s → d.place ≡ t → (o : Option Subscription) → Steps w (to_peer set w d told o) k (came_at_peer set w d told o)
  to_peer_steps d is at' None = stays w k (came_at_peer set w d told None) refl refl
  to_peer_steps d is at' (Some device) =
      subst (λ (x : Session). Steps w (to_peer set w (record { place = d.place; session = x; bytes = d.bytes; packet = d.packet }) told (Some device)) k
      (came_at_peer set w (record { place = d.place; session = x; bytes = d.bytes; packet = d.packet }) told (Some device))) (sym is)
      (subst (λ (p : ℕ). Steps w (to_peer set w (record { place = p; session = s; bytes = d.bytes; packet = d.packet }) told (Some device)) k
      (came_at_peer set w (record { place = p; session = s; bytes = d.bytes; packet = d.packet }) told (Some device))) (sym at') own_turn)
    where
      own_turn : Steps w (to_peer set w (record { place = t; session = s; bytes = d.bytes; packet = d.packet }) told (Some device)) k
          (came_at_peer set w (record { place = t; session = s; bytes = d.bytes; packet = d.packet }) told (Some device))
      own_turn =
          let here : Delivery = record { place = t; session = s; bytes = d.bytes; packet = d.packet } in
          let keeps = keeps_at w s.device in
          let turn = peer_turn set device keeps s told in
          turned w (to_peer set w here told (Some device)) k t s (record s { peer = turn.0; peer_keys = keys_won s.peer_keys turn.1.step }) first there refl refl (came_at_peer set w here told (Some device))
          (λ r a f.
          let c = turn_counts set.key device keeps s.peer f.quiet told.seen told.notes.usim told.inner in
          record {
            taken_up = append-nil r ∙ f.taken_up;
            taken = peer_counters (entry s.peer.options.method keeps.contexts) s.peer turn.0 turn.1.notes.counter a
                (λ n e. let m = own set.key device keeps s.peer told.seen told.notes.usim told.inner n e in (m.context, m.has)) c f.taken;
            fits = f.fits;
            quiet = c.quiet;
          })

-- what happens in a session that there is, if there is one
module _ (w : Net) (k : ℕ) (does : ℕ → Session → Net) (comes : Session → Came)
    (each : (t : ℕ) (s : Session) → session_place w.sessions k ≡ Some t → slice_get w.sessions t ≡ Some s → Steps w (does t s) k (comes s)) where
  at_steps : Steps w (at_place w does (session_place w.sessions k)) k (came_in comes (session_at w (session_place w.sessions k)))
  at_steps = by (session_place w.sessions k) refl
    where
      inside : (t : ℕ) → session_place w.sessions k ≡ Some t → (o : Option Session) → slice_get w.sessions t ≡ o → Steps w (in_session w does t o) k (came_in comes o)
      inside t first None there = stays w k (came_in comes None) refl refl
      inside t first (Some s) there = each t s first there

      by : (o : Option ℕ) → session_place w.sessions k ≡ o → Steps w (at_place w does o) k (came_in comes (session_at w o))
      by None first = stays w k (came_in comes None) refl refl
      by (Some t) first = inside t first (slice_get w.sessions t) refl

-- a packet that reaches nobody
lost_steps : (set : Setting) (w : Net) (told : ToldEvent) (k : ℕ) (at' : End) (y : Option SentPacket) → Steps w (delivered set w at' told None) k (came_delivered set w at' told y None)
lost_steps set w told k at' None = stays w k (came_delivered set w at' told None None) refl refl
lost_steps set w told k at' (Some sent) = stays w k (came_delivered set w at' told (Some sent) None) refl refl

delivery_steps : (set : Setting) → AcceptedIsOfTheContext → (w : Net) (told : ToldEvent) (k : ℕ) (at' : End) (packet : ℕ)
    → Steps w (delivered set w at' told (delivery_at w packet (session_place w.sessions k))) k
    (came_delivered set w at' told (packet_at w.packets packet) (delivery_at w packet (session_place w.sessions k)))
delivery_steps set own w told k at' packet = by (session_place w.sessions k) refl
  where
    inside : (t : ℕ) → session_place w.sessions k ≡ Some t → (x : Option Session) (y : Option SentPacket) → slice_get w.sessions t ≡ x → (e : End)
        → Steps w (delivered set w e told (delivery_of packet t x y)) k (came_delivered set w e told y (delivery_of packet t x y))
    inside t first (Some s) (Some sent) there end.Server =
        to_server_steps set own w told k t s first there (record { place = t; session = s; bytes = sent.bytes; packet = packet }) refl refl s.server refl
    inside t first (Some s) (Some sent) there end.Peer =
        to_peer_steps set own w told k t s first there (record { place = t; session = s; bytes = sent.bytes; packet = packet }) refl refl (slice_get w.devices s.device)
    inside t first (Some s) None there e = lost_steps set w told k e None
    inside t first None (Some sent) there e = lost_steps set w told k e (Some sent)
    inside t first None None there e = lost_steps set w told k e None

    by : (o : Option ℕ) → session_place w.sessions k ≡ o
        → Steps w (delivered set w at' told (delivery_at w packet o)) k (came_delivered set w at' told (packet_at w.packets packet) (delivery_at w packet o))
    by None first = lost_steps set w told k at' (packet_at w.packets packet)
    by (Some t) first = inside t first (slice_get w.sessions t) (packet_at w.packets packet) refl at'

-- ---- a session that is opened

open_steps : (w : Net) (opening : SessionLine) (first place : Option ℕ) → session_place w.sessions opening.session ≡ first → Steps w (opened w opening first place) opening.session (came_opened first place)
open_steps w opening (Some one) place e = stays w opening.session (came_opened (Some one) place) refl refl
open_steps w opening None None e = stays w opening.session (came_opened None None) refl refl
open_steps w opening None (Some place) e =
    let new = new_session opening place in
    opened_steps w (opened w opening None (Some place)) opening.session new e refl refl (came_opened None (Some place)) refl refl
    (record { taken_up = refl; taken = refl; fits = tt; quiet = new_is_quiet new.peer.options })

-- ---- an event

-- what changes nothing in the sessions after some steps
steps_on : (w v x : Net) → x.sessions ≡ v.sessions → (k : ℕ) (c : Came) → Steps w v k c → Steps w x k c
steps_on w v x e k c m =
    let same = same_found v x e in
    record {
      others = λ n apart. same n ∙ m.others n apart;
      own = λ r a g. subst (Agrees (r ++ resumed_noted c) (a ++ accepted_noted c)) (sym (same k)) (m.own r a g);
      unique = λ u. subst (λ (l : List Session). (i : ℕ) (s : Session) → slice_get l i ≡ Some s → session_place l s.number ≡ Some i) (sym e) (m.unique u);
    }

-- a changed packet tells of no counters
changed_steps : (w v : Net) → v.sessions ≡ w.sessions → (k : ℕ) (e : Happens) (sent : Option SentPacket) → Steps w v k (came_changed w.packets sent (changed_in w.packets e))
changed_steps w v same k e sent =
    let c = came_changed w.packets sent (changed_in w.packets e) in
    steps_on w w v same k c
    (stays w k c (change_holds (λ c. resumed_noted c ≡ []) (λ why. refl) (λ packets bytes. refl) w.packets sent (changed_in w.packets e))
    (change_holds (λ c. accepted_noted c ≡ []) (λ why. refl) (λ packets bytes. refl) w.packets sent (changed_in w.packets e)))

moved_steps : (set : Setting) → AcceptedIsOfTheContext → (w : Net) (e : Happens) (told : ToldEvent) → StepsIn w (moved set w e told) (session_in e) (came set w e told)
moved_steps set own w (event.Open opening) told = open_steps w opening (session_place w.sessions opening.session) (device_place set.rows w.devices opening.sub) refl
moved_steps set own w (event.Start session) told =
    at_steps w session (λ t s. start w t s s.server) (λ s. came_started w s.options s.server) (λ t s first there. start_steps set own w told session t s first there s.server refl)
moved_steps set own w (event.Deliver session at' packet) told = delivery_steps set own w told session at' packet
moved_steps set own w (event.Repeat session) told =
    at_steps w session (λ t s. repeat w t s s.server) (λ s. came_repeated w s.server) (λ t s first there. repeat_steps set own w told session t s first there s.server refl)
moved_steps set own w (event.GiveUp session at') told =
    at_steps w session (give_up w at') (came_given_up w at') (λ t s first there. give_up_steps set own w told session t s first there at')
moved_steps set own w (event.Tamper packet place byte) told =
    λ k. changed_steps w (moved set w (event.Tamper packet place byte) told) refl k (event.Tamper packet place byte) (packet_at w.packets packet)
moved_steps set own w (event.Cut packet count) told =
    λ k. changed_steps w (moved set w (event.Cut packet count) told) refl k (event.Cut packet count) (packet_at w.packets packet)

-- what is known of a breach is no matter
pub event_steps : (set : Setting) → AcceptedIsOfTheContext → (w : Net) (e : Happens) (told : ToldEvent) → StepsIn w (happened set w e told) (session_in e) (came set w e told)
event_steps set own w e told = by (session_in e) (moved_steps set own w e told)
  where
    by : (o : Option ℕ) → StepsIn w (moved set w e told) o (came set w e told) → StepsIn w (happened set w e told) o (came set w e told)
    by None steps = λ k. steps_on w (moved set w e told) (happened set w e told) refl k (came set w e told) (steps k)
    by (Some k) steps = steps_on w (moved set w e told) (happened set w e told) refl k (came set w e told) steps
