-- For the law of contexts: an event is a turn of one server, or leaves what the servers would put into their homes.
use Rattle.std.proofs.Common.{◌≡◌, ◌≢◌, ◌⊎◌, ℕ, zero, suc, ◌==◌, Bool, true, false, cond, List, [], ◌∷◌, ◌++◌, length, All, Option, Some, None, slice_get, slice_set, refl, sym, ap, ◌∙◌, subst, arith, inl, inr, ⊎_elim}
use Rattle.std.proofs.lemmas.Bool.Decides.{nat_tests}
use Rattle.std.proofs.lemmas.List.{length-set}
use Rattle.std.proofs.lemmas.List.Elements.{All-push, All-set}
use Rattle.std.proofs.lemmas.Option.{get_or_from_slice_get, slice_get_within}
use Rattle.auc_hmac.specs.declared.method.Method.{Method}
use Rattle.auc_lines.specs.declared.part.End.{End}
use Rattle.auc_lines.specs.declared.part.End.TheVariants as end
use Rattle.auc_lines.specs.declared.part.SessionLine.{SessionLine}
use Rattle.auc_peer.specs.Subscription.{Subscription}
use Rattle.auc_peer.specs.Table.{gave_up as peer_gave_up}
use Rattle.auc_reauth.specs.declared.context.Context.{Context}
use Rattle.auc_server.specs.Server.{ServerEnd, resumed_of, started}
use Rattle.auc_subs.specs.Setting.{Setting}
use Rattle.auc_server.specs.Table.{gave_up, homes_after}
use Rattle.auc_server.specs.declared.server.ServerState.{ServerState}
use Rattle.auc_server.specs.declared.server.ServerState.TheVariants as state
use Rattle.auc_server.specs.declared.setting.HomeRow.{HomeRow}
use Rattle.auc_record.specs.Event.{Came}
use Rattle.auc_world.specs.Came.{came, came_at_server, came_delivered}
use Rattle.auc_world.specs.Happened.{Delivery, ToldEvent, at_place, at_session, delivered, delivery_at, delivery_of, give_up, happened, in_session, kept_after, keys_won, moved, new_session, opened, peer_turn, repeat, server_gives_up, server_turn, start, to_peer, to_server}
use Rattle.auc_world.specs.Net.{Net, device_place, keeps_at, packet_at, same_method, session_place}
use Rattle.auc_world.specs.Places.{server_at, server_leaves}
use Rattle.auc_record.specs.declared.event.Event.{Event}
use Rattle.auc_record.specs.declared.event.Event.TheVariants as event
use Rattle.auc_world.specs.declared.net.SentPacket.{SentPacket}
use Rattle.auc_world.specs.declared.net.Session.{Session}
use Rattle.auc_transcript.proofs.HomeTurnLemmas.{IsOfAnother}

-- ---- lists

pub set_here : {X : Type 0} (xs : List X) (i : ℕ) (x y : X) → slice_get xs i ≡ Some x → slice_get (slice_set xs i y) i ≡ Some y
set_here [] i x y e = absurd cc
set_here (z ∷ xs) zero x y e = refl
set_here (z ∷ xs) (suc i) x y e = set_here xs i x y e

pub set_elsewhere : {X : Type 0} (xs : List X) (i j : ℕ) (y : X) → j ≢ i → slice_get (slice_set xs i y) j ≡ slice_get xs j
set_elsewhere [] i j y e = refl
set_elsewhere (z ∷ xs) zero zero y e = absurd (e refl)
set_elsewhere (z ∷ xs) zero (suc j) y e = refl
set_elsewhere (z ∷ xs) (suc i) zero y e = refl
set_elsewhere (z ∷ xs) (suc i) (suc j) y e = set_elsewhere xs i j y (λ same. e (ap (λ (n : ℕ). suc n) same))

pub same_place : (m n : ℕ) → (m == n) ≡ true → m ≡ n
same_place m n = grind (arith, nat_tests)

pub other_place : (m n : ℕ) → (m == n) ≡ false → m ≢ n
other_place m n = grind (arith, nat_tests)

holds_at : {X : Type 0} (P : X → Type 0) (xs : List X) (i : ℕ) (x : X) → All P xs → slice_get xs i ≡ Some x → P x
holds_at P xs i x all there = subst P (get_or_from_slice_get xs i x x there) (all i x (slice_get_within xs i x there))

-- ---- what an event is

-- what the server of a session resumed, if it did, isn't of the subscriber
abbrev pub ResumesAnother : ℕ → Option ServerEnd → Type 0
ResumesAnother sub None = Unit {0}
ResumesAnother sub (Some s) = IsOfAnother sub (resumed_of s)

-- no server resumed a context of the subscriber
abbrev pub ResumeOthers : ℕ → List Session → Type 0
ResumeOthers sub sessions = All (λ session. ResumesAnother sub session.server) sessions

-- the server of a session takes a turn
pub record TakesTurn (set : Setting) (w next : Net) (told : ToldEvent) (result : Came) : Type 0 where
  pub place : ℕ
  pub session : Session
  pub server : ServerEnd
  pub there : slice_get w.sessions place ≡ Some session
  pub is : session.server ≡ Some server
  pub sessions : next.sessions ≡ slice_set w.sessions place (record session { server = Some (server_turn set w server told).0 })
  pub homes : next.homes ≡ homes_after set w.homes server told.seen told.reply told.notes
  pub stores : length next.stores ≡ length w.stores
  pub comes : result ≡ came_at_server set w told (Some server)

-- homes stay, each server leaves nothing that it didn't leave before, and none takes a context up
pub record IsQuiet (w next : Net) : Type 0 where
  pub homes : next.homes ≡ w.homes
  pub stores : length next.stores ≡ length w.stores
  pub leaves : (m : Method) (place t : ℕ) (c : Context) → server_at m place w.homes (slice_get next.sessions t) ≡ Some c
      → server_at m place w.homes (slice_get w.sessions t) ≡ Some c
  pub resumes : (sub : ℕ) → ResumeOthers sub w.sessions → ResumeOthers sub next.sessions

abbrev pub Changes : Setting → Net → ToldEvent → Net → Came → Type 0
Changes set w told next result = TakesTurn set w next told result ⊎ IsQuiet w next

stays : (w : Net) → IsQuiet w w
stays w = record { homes = refl; stores = refl; leaves = λ m place t c e. e; resumes = λ sub all. all }

-- a session changes, whose server leaves nothing new
session_changes : (w next : Net) (t : ℕ) (session changed : Session) → slice_get w.sessions t ≡ Some session → next.sessions ≡ slice_set w.sessions t changed → next.homes ≡ w.homes
    → length next.stores ≡ length w.stores
    → ((m : Method) (place : ℕ) (c : Context) → server_leaves m place w.homes changed.server ≡ Some c → server_leaves m place w.homes session.server ≡ Some c)
    → ((sub : ℕ) → ResumesAnother sub session.server → ResumesAnother sub changed.server) → IsQuiet w next
session_changes w next t session changed there now homes stores leaves resumes = record {
  homes = homes;
  stores = stores;
  leaves = λ m place i c e. by m place i c (i == t) refl (ap (λ (l : List Session). server_at m place w.homes (slice_get l i)) (sym now) ∙ e);
  resumes = λ sub all. subst (ResumeOthers sub) (sym now)
      (All-set (λ (s : Session). ResumesAnother sub s.server) w.sessions t changed (resumes sub (holds_at (λ (s : Session). ResumesAnother sub s.server) w.sessions t session all there)) all);
}
  where
    by : (m : Method) (place i : ℕ) (c : Context) (b : Bool) → (i == t) ≡ b → server_at m place w.homes (slice_get (slice_set w.sessions t changed) i) ≡ Some c
        → server_at m place w.homes (slice_get w.sessions i) ≡ Some c
    by m place i c true same e =
        let at = same_place i t same in
        let here = ap (server_at m place w.homes) (sym (set_here w.sessions t session changed there)) ∙ ap (λ (j : ℕ). server_at m place w.homes (slice_get (slice_set w.sessions t changed) j)) (sym at) ∙ e in
        ap (λ (j : ℕ). server_at m place w.homes (slice_get w.sessions j)) at ∙ ap (server_at m place w.homes) there ∙ leaves m place c here
    by m place i c false other e = ap (server_at m place w.homes) (sym (set_elsewhere w.sessions t i changed (other_place i t other))) ∙ e

-- its server stays
server_stays : (w next : Net) (t : ℕ) (session changed : Session) → slice_get w.sessions t ≡ Some session → next.sessions ≡ slice_set w.sessions t changed → next.homes ≡ w.homes
    → length next.stores ≡ length w.stores → changed.server ≡ session.server → IsQuiet w next
server_stays w next t session changed there now homes stores same =
    session_changes w next t session changed there now homes stores (λ m place c e. ap (server_leaves m place w.homes) (sym same) ∙ e)
    (λ sub is. subst (ResumesAnother sub) (sym same) is)

no_context : (b : Bool) (c : Context) → cond b None None ≡ Some c → ⊥
no_context true c e = cc
no_context false c e = cc

-- ---- deliveries

at_server : (set : Setting) (w : Net) (d : Delivery) (told : ToldEvent) (o : Option ServerEnd) → d.session.server ≡ o → slice_get w.sessions d.place ≡ Some d.session
    → Changes set w told (to_server set w d told o) (came_at_server set w told o)
at_server set w d told None is there = inr (stays w)
at_server set w d told (Some s) is there =
    inl (record { place = d.place; session = d.session; server = s; there = there; is = is; sessions = refl; homes = refl; stores = refl; comes = refl })

at_peer : (set : Setting) (w : Net) (d : Delivery) (told : ToldEvent) (o : Option Subscription) → slice_get w.sessions d.place ≡ Some d.session → IsQuiet w (to_peer set w d told o)
at_peer set w d told None there = stays w
at_peer set w d told (Some device) there =
    let turn = peer_turn set device (keeps_at w d.session.device) d.session told in
    server_stays w (to_peer set w d told (Some device)) d.place d.session (record d.session { peer = turn.0; peer_keys = keys_won d.session.peer_keys turn.1.step }) there refl refl
    (length-set w.stores d.session.device (kept_after (keeps_at w d.session.device) d.session told turn.1)) refl

server_delivered : (set : Setting) (w : Net) (told : ToldEvent) (packet : ℕ) (o : Option ℕ)
    → Changes set w told (delivered set w end.Server told (delivery_at w packet o)) (came_delivered set w end.Server told (packet_at w.packets packet) (delivery_at w packet o))
server_delivered set w told packet None = inr (stays w)
server_delivered set w told packet (Some place) = by (slice_get w.sessions place) (packet_at w.packets packet) refl
  where
    by : (x : Option Session) (y : Option SentPacket) → slice_get w.sessions place ≡ x
        → Changes set w told (delivered set w end.Server told (delivery_of packet place x y)) (came_delivered set w end.Server told y (delivery_of packet place x y))
    by (Some session) (Some sent) e = at_server set w (record { place = place; session = session; bytes = sent.bytes; packet = packet }) told session.server refl e
    by (Some session) None e = inr (stays w)
    by None (Some sent) e = inr (stays w)
    by None None e = inr (stays w)

peer_delivered : (set : Setting) (w : Net) (told : ToldEvent) (packet : ℕ) (o : Option ℕ) → IsQuiet w (delivered set w end.Peer told (delivery_at w packet o))
peer_delivered set w told packet None = stays w
peer_delivered set w told packet (Some place) = by (slice_get w.sessions place) (packet_at w.packets packet) refl
  where
    by : (x : Option Session) (y : Option SentPacket) → slice_get w.sessions place ≡ x → IsQuiet w (delivered set w end.Peer told (delivery_of packet place x y))
    by (Some session) (Some sent) e =
        at_peer set w (record { place = place; session = session; bytes = sent.bytes; packet = packet }) told (slice_get w.devices session.device) e
    by (Some session) None e = stays w
    by None (Some sent) e = stays w
    by None None e = stays w

-- ---- the other events

start_quiet : (w : Net) (t : ℕ) (session : Session) (o : Option ServerEnd) → session.server ≡ o → slice_get w.sessions t ≡ Some session → IsQuiet w (start w t session o)
start_quiet w t session (Some s) is there = stays w
start_quiet w t session None is there =
    session_changes w (start w t session None) t session (record session { server = Some (started session.options) }) there refl refl refl
    (λ m place c e. absurd (no_context (same_method session.options.method m) c e)) (λ sub apart. tt)

repeat_quiet : (w : Net) (t : ℕ) (session : Session) (o : Option ServerEnd) → session.server ≡ o → slice_get w.sessions t ≡ Some session → IsQuiet w (repeat w t session o)
repeat_quiet w t session None is there = stays w
repeat_quiet w t session (Some s) is there = server_stays w (repeat w t session (Some s)) t session (record session { server = Some s }) there refl refl refl (sym is)

-- a server that gives up leaves nothing
ends_empty : (m : Method) (place : ℕ) (homes : List HomeRow) (s : ServerEnd) (now : ServerState) (c : Context) → s.state ≡ now
    → server_leaves m place homes (Some (gave_up s now).0) ≡ Some c → server_leaves m place homes (Some s) ≡ Some c
ends_empty m place homes s (state.Ended result last) c is e = e
ends_empty m place homes s state.AwaitIdentity c is e = absurd (no_context (same_method s.options.method m) c e)
ends_empty m place homes s (state.Await kind) c is e = absurd (no_context (same_method s.options.method m) c e)
ends_empty m place homes s (state.AwaitChallenge sent before) c is e = absurd (no_context (same_method s.options.method m) c e)
ends_empty m place homes s (state.AwaitReauth sent) c is e = absurd (no_context (same_method s.options.method m) c e)
ends_empty m place homes s (state.Notifying cause last) c is e = absurd (no_context (same_method s.options.method m) c e)

ends_apart : (sub : ℕ) (s : ServerEnd) (now : ServerState) → IsOfAnother sub (resumed_of s) → IsOfAnother sub (resumed_of (gave_up s now).0)
ends_apart sub s (state.Ended result last) apart = apart
ends_apart sub s state.AwaitIdentity apart = apart
ends_apart sub s (state.Await kind) apart = apart
ends_apart sub s (state.AwaitChallenge sent before) apart = apart
ends_apart sub s (state.AwaitReauth sent) apart = apart
ends_apart sub s (state.Notifying cause last) apart = apart

server_over : (w : Net) (t : ℕ) (session : Session) (o : Option ServerEnd) → session.server ≡ o → slice_get w.sessions t ≡ Some session → IsQuiet w (server_gives_up w t session o)
server_over w t session None is there = stays w
server_over w t session (Some s) is there =
    session_changes w (server_gives_up w t session (Some s)) t session (record session { server = Some (gave_up s s.state).0 }) there refl refl refl
    (λ m place c e. ap (server_leaves m place w.homes) is ∙ ends_empty m place w.homes s s.state c refl e)
    (λ sub apart. ends_apart sub s s.state (subst (ResumesAnother sub) is apart))

over_quiet : (w : Net) (at' : End) (t : ℕ) (session : Session) → slice_get w.sessions t ≡ Some session → IsQuiet w (give_up w at' t session)
over_quiet w end.Server t session there = server_over w t session session.server refl there
over_quiet w end.Peer t session there =
    let gave = peer_gave_up session.peer session.peer.state in
    server_stays w (give_up w end.Peer t session) t session (record session { peer = gave.0; peer_keys = keys_won session.peer_keys gave.1 }) there refl refl refl refl

session_quiet : (w : Net) (session : ℕ) (does : ℕ → Session → Net) → ((t : ℕ) (s : Session) → slice_get w.sessions t ≡ Some s → IsQuiet w (does t s)) → IsQuiet w (at_session w session does)
session_quiet w session does each = by (session_place w.sessions session)
  where
    found_one : (place : ℕ) (x : Option Session) → slice_get w.sessions place ≡ x → IsQuiet w (in_session w does place x)
    found_one place None e = stays w
    found_one place (Some s) e = each place s e

    by : (o : Option ℕ) → IsQuiet w (at_place w does o)
    by None = stays w
    by (Some place) = found_one place (slice_get w.sessions place) refl

-- a new session has no server
new_leaves : (m : Method) (place : ℕ) (homes : List HomeRow) (sessions : List Session) (new : Session) (i : ℕ) (c : Context) → new.server ≡ None
    → server_at m place homes (slice_get (sessions ++ new ∷ []) i) ≡ Some c → server_at m place homes (slice_get sessions i) ≡ Some c
new_leaves m place homes [] new zero c none e = let no : ◌≡◌ {A = Option Context} None (Some c) = sym (ap (server_leaves m place homes) none) ∙ e in no
new_leaves m place homes [] new (suc i) c none e = e
new_leaves m place homes (session ∷ sessions) new zero c none e = e
new_leaves m place homes (session ∷ sessions) new (suc i) c none e = new_leaves m place homes sessions new i c none e

open_quiet : (w : Net) (opening : SessionLine) (first place : Option ℕ) → IsQuiet w (opened w opening first place)
open_quiet w opening (Some first) place = stays w
open_quiet w opening None None = stays w
open_quiet w opening None (Some place) = record {
  homes = refl;
  stores = refl;
  leaves = λ m at' t c e. new_leaves m at' w.homes w.sessions (new_session opening place) t c refl e;
  resumes = λ sub all. All-push (λ (s : Session). ResumesAnother sub s.server) w.sessions (new_session opening place) all tt;
}

moved_changes : (set : Setting) (w : Net) (e : Event) (told : ToldEvent) → Changes set w told (moved set w e told) (came set w e told)
moved_changes set w (event.Open opening) told = inr (open_quiet w opening (session_place w.sessions opening.session) (device_place set.rows w.devices opening.sub))
moved_changes set w (event.Start session) told = inr (session_quiet w session (λ t s. start w t s s.server) (λ t s there. start_quiet w t s s.server refl there))
moved_changes set w (event.Deliver session end.Server packet) told = server_delivered set w told packet (session_place w.sessions session)
moved_changes set w (event.Deliver session end.Peer packet) told = inr (peer_delivered set w told packet (session_place w.sessions session))
moved_changes set w (event.Repeat session) told = inr (session_quiet w session (λ t s. repeat w t s s.server) (λ t s there. repeat_quiet w t s s.server refl there))
moved_changes set w (event.GiveUp session at') told = inr (session_quiet w session (give_up w at') (λ t s there. over_quiet w at' t s there))
moved_changes set w (event.Tamper packet place byte) told = inr (record { homes = refl; stores = refl; leaves = λ m at' t c e. e; resumes = λ sub all. all })
moved_changes set w (event.Cut packet count) told = inr (record { homes = refl; stores = refl; leaves = λ m at' t c e. e; resumes = λ sub all. all })

-- an event is a turn of a server, or is quiet
pub event_changes : (set : Setting) (w : Net) (e : Event) (told : ToldEvent) → Changes set w told (happened set w e told) (came set w e told)
event_changes set w e told =
    ⊎_elim
    (λ (t : TakesTurn set w (moved set w e told) told (came set w e told)).
    inl (record { place = t.place; session = t.session; server = t.server; there = t.there; is = t.is; sessions = t.sessions; homes = t.homes; stores = t.stores; comes = t.comes }))
    (λ (q : IsQuiet w (moved set w e told)). inr (record { homes = q.homes; stores = q.stores; leaves = q.leaves; resumes = q.resumes })) (moved_changes set w e told)
