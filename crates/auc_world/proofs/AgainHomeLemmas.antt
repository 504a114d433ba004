-- For runs of jobs: each context of a home can be sent, whatever befell the network.
use Rattle.std.proofs.Common.{◌≡◌, ℕ, List, [], ◌∷◌, Option, Some, None, slice_get, slice_set, refl, ap, ◌∙◌, subst, ⊎_elim}
use Rattle.auc_hmac.specs.declared.keys.KeySet.{KeySet}
use Rattle.auc_lines.specs.declared.part.End.{End}
use Rattle.auc_lines.specs.declared.part.End.TheVariants as end
use Rattle.auc_lines.specs.declared.part.SessionLine.{SessionLine}
use Rattle.auc_peer.specs.Subscription.{Subscription}
use Rattle.auc_peer.specs.declared.peer.Peer.{Peer}
use Rattle.auc_server.proofs.Facts.{each_turn_fits, given_up_fits, started_fits}
use Rattle.auc_server.specs.Laws.{Fits}
use Rattle.auc_server.specs.Server.{ServerEnd, resumed_of, started}
use Rattle.auc_subs.specs.Setting.{Setting}
use Rattle.auc_server.specs.State.{last_of}
use Rattle.auc_server.specs.Table.{gave_up}
use Rattle.auc_server.specs.declared.options.ServerOptions.{ServerOptions}
use Rattle.auc_server.specs.declared.server.Challenged.{Challenged}
use Rattle.auc_server.specs.declared.server.Resumed.{Resumed}
use Rattle.auc_server.specs.declared.server.ServerState.{ServerState}
use Rattle.auc_server.specs.declared.server.ServerState.TheVariants as state
use Rattle.auc_server.specs.declared.setting.HomeRow.{HomeRow}
use Rattle.auc_vector.specs.declared.why.ServerWhy.TheVariants as why
use Rattle.auc_vector.specs.declared.turn.Outcome.TheVariants as outcome
use Rattle.auc_world.specs.Agreement.{AreSized, Happening, IsFresh, IsSized, Noted, Occurs, after, after_one}
use Rattle.auc_world.specs.Happened.{Delivery, ToldEvent, at_place, at_session, delivered, delivery_at, delivery_of, give_up, in_session, moved, new_session, opened, repeat, server_gives_up, server_turn, start, to_peer, to_server}
use Rattle.auc_world.specs.Net.{Net, device_place, packet_at, session_place}
use Rattle.auc_record.specs.declared.event.Event.{Event}
use Rattle.auc_record.specs.declared.event.Event.TheVariants as event
use Rattle.auc_world.specs.declared.net.SentPacket.{SentPacket}
use Rattle.auc_world.specs.declared.net.Session.{Session}
use Rattle.auc_world.proofs.AgainLemmas.{none_there, some_one, with_end, with_peer_in}
use Rattle.auc_world.proofs.AgainListLemmas.{push_cases, set_cases}
use Rattle.auc_world.proofs.AgainTextLemmas.{ServerAgain, over_again, turn_again, turn_sized}

-- a server's keys are those of its inputs, and what it took up again can be sent
abbrev pub IsFit : Setting → ServerEnd → Type 0
IsFit set s = Fits s × ServerAgain set s

pub record AreFit (set : Setting) (sessions : List Session) (homes : List HomeRow) : Type 0 where
  pub sized : AreSized homes
  pub each : (place : ℕ) (a : Session) (s : ServerEnd) → slice_get sessions place ≡ Some a → a.server ≡ Some s → IsFit set s

abbrev pub FitOf : Setting → Net → Type 0
FitOf set w = AreFit set w.sessions w.homes

abbrev NextFit : Setting → Net → Net → Type 0
NextFit set w next = FitOf set w → FitOf set next

-- ---- steps

server_fit : (set : Setting) (sessions : List Session) (homes later : List HomeRow) (place : ℕ) (session : Session) (t : ServerEnd) → AreFit set sessions homes → IsFit set t → AreSized later
    → AreFit set (slice_set sessions place (with_end session t)) later
server_fit set sessions homes later place session t f fit sized = record {
  sized = sized;
  each = λ other a s there is.
      ⊎_elim
      (λ (same : with_end session t ≡ a). subst (IsFit set) (some_one (Some t) t s refl (ap (λ (v : Session). v.server) same ∙ is)) fit)
      (λ was. f.each other a s was is)
      (set_cases sessions place other (with_end session t) a there);
}

peer_fit : (set : Setting) (sessions : List Session) (homes : List HomeRow) (place : ℕ) (session : Session) (p : Peer) (won : Option KeySet) → slice_get sessions place ≡ Some session
    → AreFit set sessions homes → AreFit set (slice_set sessions place (with_peer_in session p won)) homes
peer_fit set sessions homes place session p won there f = record {
  sized = f.sized;
  each = λ other a s here is.
      ⊎_elim
      (λ (same : with_peer_in session p won ≡ a). f.each place session s there (ap (λ (v : Session). v.server) same ∙ is))
      (λ was. f.each other a s was is)
      (set_cases sessions place other (with_peer_in session p won) a here);
}

-- ---- servers

no_sent : (sent : Challenged) → ◌≡◌ {A = Option Challenged} None (Some sent) → ⊥
no_sent sent e = cc

no_resumed : (r : Resumed) → ◌≡◌ {A = Option Resumed} None (Some r) → ⊥
no_resumed r e = cc

started_fit : (set : Setting) (o : ServerOptions) → IsFit set (started o)
started_fit set o = (started_fits o, record { taken = λ r e. absurd (no_resumed r e); last = λ r e none. absurd (no_resumed r e) })

ended_fit : (set : Setting) (s : ServerEnd) → IsFit set s → IsFit set (record s { state = state.Ended (outcome.Failure why.GivenUp) (last_of s.state) })
ended_fit set s (fits, again) = (given_up_fits s fits, over_again set s (state.Ended (outcome.Failure why.GivenUp) (last_of s.state)) refl again)

gave_fit : (set : Setting) (s : ServerEnd) (now : ServerState) → IsFit set s → IsFit set (gave_up s now).0
gave_fit set s (state.Ended r last) f = f
gave_fit set s state.AwaitIdentity f = ended_fit set s f
gave_fit set s (state.Await kind) f = ended_fit set s f
gave_fit set s (state.AwaitChallenge sent before) f = ended_fit set s f
gave_fit set s (state.AwaitReauth sent) f = ended_fit set s f
gave_fit set s (state.Notifying cause last) f = ended_fit set s f

-- ---- events

to_server_fit : (set : Setting) (w : Net) (d : Delivery) (told : ToldEvent) (o : Option ServerEnd) → d.session.server ≡ o → slice_get w.sessions d.place ≡ Some d.session
    → NextFit set w (to_server set w d told o)
to_server_fit set w d told None is there f = f
to_server_fit set w d told (Some s) is there f =
    let (fits, again) = f.each d.place d.session s there is in
    server_fit set w.sessions w.homes _ d.place d.session (server_turn set w s told).0 f
    (each_turn_fits set w.homes s told.seen told.reply told.notes fits, (turn_again set w.homes s told.seen told.reply told.notes fits f.sized again).server)
    (turn_sized set w.homes s told.seen told.reply told.notes fits again f.sized)

to_peer_fit : (set : Setting) (w : Net) (d : Delivery) (told : ToldEvent) (o : Option Subscription) → slice_get w.sessions d.place ≡ Some d.session → NextFit set w (to_peer set w d told o)
to_peer_fit set w d told None there f = f
to_peer_fit set w d told (Some device) there f = peer_fit set w.sessions w.homes d.place d.session _ _ there f

delivered_fit : (set : Setting) (w : Net) (at' : End) (told : ToldEvent) (packet : ℕ) (o : Option ℕ) → NextFit set w (delivered set w at' told (delivery_at w packet o))
delivered_fit set w at' told packet None f = f
delivered_fit set w at' told packet (Some place) f = by at' (slice_get w.sessions place) (packet_at w.packets packet) refl
  where
    by : (at' : End) (x : Option Session) (y : Option SentPacket) → slice_get w.sessions place ≡ x → FitOf set (delivered set w at' told (delivery_of packet place x y))
    by end.Server (Some session) (Some sent) e = to_server_fit set w (record { place = place; session = session; bytes = sent.bytes; packet = packet }) told session.server refl e f
    by end.Peer (Some session) (Some sent) e =
        to_peer_fit set w (record { place = place; session = session; bytes = sent.bytes; packet = packet }) told (slice_get w.devices session.device) e f
    by at' (Some session) None e = f
    by at' None (Some sent) e = f
    by at' None None e = f

session_fit : (set : Setting) (w : Net) (session : ℕ) (does : ℕ → Session → Net) → ((place : ℕ) (s : Session) → slice_get w.sessions place ≡ Some s → NextFit set w (does place s))
    → NextFit set w (at_session w session does)
session_fit set w session does each f = by (session_place w.sessions session)
  where
    found_one : (place : ℕ) (x : Option Session) → slice_get w.sessions place ≡ x → FitOf set (in_session w does place x)
    found_one place None e = f
    found_one place (Some s) e = each place s e f

    by : (o : Option ℕ) → FitOf set (at_place w does o)
    by None = f
    by (Some place) = found_one place (slice_get w.sessions place) refl

start_fit : (set : Setting) (w : Net) (place : ℕ) (session : Session) (o : Option ServerEnd) → NextFit set w (start w place session o)
start_fit set w place session None f = server_fit set w.sessions w.homes w.homes place session (started session.options) f (started_fit set session.options) f.sized
start_fit set w place session (Some s) f = f

repeat_fit : (set : Setting) (w : Net) (place : ℕ) (session : Session) (o : Option ServerEnd) → session.server ≡ o → slice_get w.sessions place ≡ Some session → NextFit set w (repeat w place session o)
repeat_fit set w place session None is there f = f
repeat_fit set w place session (Some s) is there f = server_fit set w.sessions w.homes w.homes place session s f (f.each place session s there is) f.sized

gives_fit : (set : Setting) (w : Net) (place : ℕ) (session : Session) (o : Option ServerEnd) → session.server ≡ o → slice_get w.sessions place ≡ Some session
    → NextFit set w (server_gives_up w place session o)
gives_fit set w place session None is there f = f
gives_fit set w place session (Some s) is there f =
    server_fit set w.sessions w.homes w.homes place session (gave_up s s.state).0 f (gave_fit set s s.state (f.each place session s there is)) f.sized

give_up_fit : (set : Setting) (w : Net) (at' : End) (place : ℕ) (session : Session) → slice_get w.sessions place ≡ Some session → NextFit set w (give_up w at' place session)
give_up_fit set w end.Server place session there f = gives_fit set w place session session.server refl there f
give_up_fit set w end.Peer place session there f = peer_fit set w.sessions w.homes place session _ _ there f

no_end : (s : ServerEnd) → ◌≡◌ {A = Option ServerEnd} None (Some s) → ⊥
no_end s e = cc

opened_fit : (set : Setting) (w : Net) (opening : SessionLine) (old o : Option ℕ) → NextFit set w (opened w opening old o)
opened_fit set w opening (Some first) o f = f
opened_fit set w opening None None f = f
opened_fit set w opening None (Some place) f = record {
  sized = f.sized;
  each = λ other a s there is.
      ⊎_elim
      (λ (same : new_session opening place ≡ a). absurd (no_end s (ap (λ (v : Session). v.server) same ∙ is)))
      (λ was. f.each other a s was is)
      (push_cases w.sessions other (new_session opening place) a there);
}

moved_fit : (set : Setting) (w : Net) (e : Event) (told : ToldEvent) → NextFit set w (moved set w e told)
moved_fit set w (event.Open opening) told = opened_fit set w opening (session_place w.sessions opening.session) (device_place set.rows w.devices opening.sub)
moved_fit set w (event.Start session) told = session_fit set w session (λ place s. start w place s s.server) (λ place s there. start_fit set w place s s.server)
moved_fit set w (event.Deliver session at' packet) told = delivered_fit set w at' told packet (session_place w.sessions session)
moved_fit set w (event.Repeat session) told = session_fit set w session (λ place s. repeat w place s s.server) (λ place s there. repeat_fit set w place s s.server refl there)
moved_fit set w (event.GiveUp session at') told = session_fit set w session (give_up w at') (λ place s there. give_up_fit set w at' place s there)
moved_fit set w (event.Tamper packet place byte) told = λ f. f
moved_fit set w (event.Cut packet count) told = λ f. f

-- ---- a run

run_fits : (set : Setting) (w : Net) (hs : List Happening) → FitOf set w → FitOf set (after set w hs)
run_fits set w [] f = f
run_fits set w (Occurs e told ∷ hs) f = run_fits set (after_one set w (Occurs e told)) hs (moved_fit set w e told f)
run_fits set w (Noted number ∷ hs) f = run_fits set (after_one set w (Noted number)) hs f

-- whatever befalls a network from its beginning
fits_later : (set : Setting) (w : Net) (hs : List Happening) → AreSized w.homes → IsFresh w → FitOf set (after set w hs)
fits_later set w hs sized new = run_fits set w hs (record { sized = sized; each = λ place a s there is. absurd (none_there w.sessions place a new.sessions there) })

pub run_is_sized : (set : Setting) (w : Net) (hs : List Happening) → AreSized w.homes → IsFresh w → AreSized (after set w hs).homes
run_is_sized set w hs sized new = (fits_later set w hs sized new).sized

-- and what a server took up again can be sent
pub run_resumes_sized : (set : Setting) (w : Net) (hs : List Happening) (place : ℕ) (a : Session) (s : ServerEnd) (r : Resumed) → AreSized w.homes → IsFresh w
    → slice_get (after set w hs).sessions place ≡ Some a → a.server ≡ Some s → resumed_of s ≡ Some r → IsSized r.context
run_resumes_sized set w hs place a s r sized new there is has = (((fits_later set w hs sized new).each place a s there is).1.taken r has).fits.context
