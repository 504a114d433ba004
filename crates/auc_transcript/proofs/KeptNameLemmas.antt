-- For plain sessions: each name that a device keeps has at most 255 bytes, through events, jobs and rounds.
use Rattle.std.proofs.Common.{◌≡◌, ℕ, List, [], ◌∷◌, ◌++◌, length, map, flat_map, All, Option, Some, None, slice_get, refl, sym, ◌∙◌, subst, arith}
use Rattle.std.proofs.lemmas.List.{length-set, length-append}
use Rattle.std.proofs.lemmas.List.Elements.{All-append, All-cons, All-head, All-nil, All-push, All-set, All-tail}
use Rattle.std.proofs.lemmas.Option.{get_or_from_slice_get, slice_get_within}
use Rattle.auc_lines.specs.Part.{held_subs}
use Rattle.auc_lines.specs.declared.part.End.{End}
use Rattle.auc_lines.specs.declared.part.End.TheVariants as end
use Rattle.auc_lines.specs.declared.part.Line.{Line}
use Rattle.auc_lines.specs.declared.part.SessionLine.{SessionLine}
use Rattle.auc_peer.specs.Rows.{peer_row}
use Rattle.auc_peer.specs.Subscription.{Subscription}
use Rattle.auc_peer.specs.Table.{gave_up as peer_gave_up}
use Rattle.auc_peer.specs.declared.peer.Peer.{Peer}
use Rattle.auc_peer.specs.declared.peer.PeerState.{PeerState}
use Rattle.auc_peer.specs.declared.peer.PeerState.TheVariants as state
use Rattle.auc_vector.specs.declared.why.PeerWhy.{PeerWhy}
use Rattle.auc_reauth.specs.Device.{Keeps}
use Rattle.auc_released.specs.declared.numbers.Number.{Number}
use Rattle.auc_server.specs.Rows.{server_row}
use Rattle.auc_server.specs.Server.{ServerEnd, started}
use Rattle.auc_subs.specs.Setting.{Setting}
use Rattle.auc_server.specs.Steps.{asking}
use Rattle.auc_server.specs.Table.{gave_up as server_gave_up, repeated}
use Rattle.auc_server.specs.declared.setting.HomeRow.{HomeRow}
use Rattle.auc_vector.specs.declared.why.ServerWhy.{ServerWhy}
use Rattle.auc_subs.specs.declared.row.Row.{Row}
use Rattle.auc_vector.specs.declared.turn.Step.{Step}
use Rattle.auc_vector.specs.declared.turn.Step.TheVariants as step
use Rattle.auc_world.specs.Came.{presented_at, presented_by, presented_in}
use Rattle.auc_world.specs.Given.{Before, EventGives, IsUsimAsked, JobGives, JobsGive, LineGives, PlainGives, RelayGives, behind, packet_of}
use Rattle.auc_world.specs.Happened.{Delivery, ToldEvent, at_place, delivered, delivery_at, delivery_of, give_up, happened, in_session, kept_after, keys_won, moved, new_session, opened, peer_turn, drawn_in_turn, repeat, server_gives_up, server_turn, start, to_peer, to_server, with_peer, with_server}
use Rattle.auc_world.specs.Net.{Net, device_place, keeps_at, keeps_or, other, packet_at, session_place}
use Rattle.auc_world.specs.Start.{Kept, fresh_kept, keeps_by, keeps_of, kept_by_jobs, kept_now, kept_of, kept_or, kept_with, put_back, start_of, subscription_at, subscription_by}
use Rattle.auc_record.specs.declared.event.Event.{Event}
use Rattle.auc_record.specs.declared.event.Event.TheVariants as event
use Rattle.auc_world.specs.declared.net.SentPacket.{SentPacket}
use Rattle.auc_world.specs.declared.net.Session.{Session}
use Rattle.auc_record.specs.declared.record.LineRecord.{LineRecord}
use Rattle.auc_transcript.proofs.KindLemmas.{by_kind, event_gives}
use Rattle.auc_transcript.proofs.NameLemmas.{AreNames, HasNames, kept_named, nothing_named, row_named}

-- what holds of all elements of a list holds of the one at a place
all_at : {X : Type 0} (P : X → Type 0) (xs : List X) (i : ℕ) (x : X) → All P xs → slice_get xs i ≡ Some x → P x
all_at P xs i x all there = subst P (get_or_from_slice_get xs i x x there) (all i x (slice_get_within xs i x there))

-- ---- a network

-- each device has a place for what it keeps, and each name there, or of a peer, has at most 255 bytes
pub record KeepsNames (w : Net) : Type 0 where
  pub stores : All AreNames w.stores
  pub peers : All (λ s. HasNames s.peer) w.sessions
  pub sizes : length w.stores ≡ length w.devices

server_has : (w : Net) (place : ℕ) (s : Session) (more : List Number) (q : ServerEnd) (did : Step ServerWhy) → KeepsNames w → HasNames s.peer
    → KeepsNames (with_server w place s more q did)
server_has w place s more q did all own = record {
  stores = all.stores;
  peers = All-set (λ (x : Session). HasNames x.peer) w.sessions place (record s { server = Some q }) own all.peers;
  sizes = all.sizes;
}

peer_has : (w : Net) (place : ℕ) (s : Session) (p : Peer) (did : Step PeerWhy) → KeepsNames w → HasNames p → KeepsNames (with_peer w place s p did)
peer_has w place s p did all own = record {
  stores = all.stores;
  peers = All-set (λ (x : Session). HasNames x.peer) w.sessions place (record s { peer = p; peer_keys = keys_won s.peer_keys did }) own all.peers;
  sizes = all.sizes;
}

-- ---- events

starting_has : (w : Net) (place : ℕ) (s : Session) (o : Option ServerEnd) → KeepsNames w → HasNames s.peer → KeepsNames (start w place s o)
starting_has w place s None all own = server_has w place s [] (started s.options) (step.Sent (started s.options).last) all own
starting_has w place s (Some q) all own = all

repeat_has : (w : Net) (place : ℕ) (s : Session) (o : Option ServerEnd) → KeepsNames w → HasNames s.peer → KeepsNames (repeat w place s o)
repeat_has w place s None all own = all
repeat_has w place s (Some q) all own = server_has w place s [] q (repeated q q.state) all own

server_over_has : (w : Net) (place : ℕ) (s : Session) (o : Option ServerEnd) → KeepsNames w → HasNames s.peer → KeepsNames (server_gives_up w place s o)
server_over_has w place s None all own = all
server_over_has w place s (Some q) all own = server_has w place s [] (server_gave_up q q.state).0 (server_gave_up q q.state).1 all own

peer_over : (p : Peer) (s : PeerState) → HasNames p → HasNames (peer_gave_up p s).0
peer_over p state.Ended own = own
peer_over p state.Waiting own = own
peer_over p (state.Answered keys) own = own
peer_over p (state.Refusing cause) own = own

over_has : (w : Net) (at' : End) (place : ℕ) (s : Session) → KeepsNames w → HasNames s.peer → KeepsNames (give_up w at' place s)
over_has w end.Server place s all own = server_over_has w place s s.server all own
over_has w end.Peer place s all own = peer_has w place s (peer_gave_up s.peer s.peer.state).0 (peer_gave_up s.peer s.peer.state).1 all (peer_over s.peer s.peer.state own)

in_has : (w : Net) (does : ℕ → Session → Net) (place : ℕ) (o : Option Session) → slice_get w.sessions place ≡ o → KeepsNames w
    → ((s : Session) → HasNames s.peer → KeepsNames (does place s)) → KeepsNames (in_session w does place o)
in_has w does place None there all each = all
in_has w does place (Some s) there all each = each s (all_at (λ (x : Session). HasNames x.peer) w.sessions place s all.peers there)

at_has : (w : Net) (does : ℕ → Session → Net) (o : Option ℕ) → KeepsNames w → ((place : ℕ) (s : Session) → HasNames s.peer → KeepsNames (does place s))
    → KeepsNames (at_place w does o)
at_has w does None all each = all
at_has w does (Some place) all each = in_has w does place (slice_get w.sessions place) refl all (each place)

opened_has : (w : Net) (opening : SessionLine) (first place : Option ℕ) → KeepsNames w → KeepsNames (opened w opening first place)
opened_has w opening (Some first) place all = all
opened_has w opening None None all = all
opened_has w opening None (Some place) all = record {
  stores = all.stores;
  peers = All-push (λ (x : Session). HasNames x.peer) w.sessions (new_session opening place) all.peers (tt, tt);
  sizes = all.sizes;
}

to_server_has : (set : Setting) (w : Net) (d : Delivery) (told : ToldEvent) (o : Option ServerEnd) → KeepsNames w → HasNames d.session.peer → KeepsNames (to_server set w d told o)
to_server_has set w d told None all own = all
to_server_has set w d told (Some q) all own =
    let turn = server_turn set w q told in
    let is = server_has w d.place d.session (drawn_in_turn (asking (server_row set w.homes q told.seen told.reply)) turn.1.notes.number) turn.0 turn.1.step all own in
    record { stores = is.stores; peers = is.peers; sizes = is.sizes }

-- what the device of a place keeps
keeps_named : (w : Net) (place : ℕ) → KeepsNames w → AreNames (keeps_at w place)
keeps_named w place all = by (slice_get w.stores place) refl
  where
    by : (o : Option Keeps) → slice_get w.stores place ≡ o → AreNames (keeps_or o)
    by None there = nothing_named
    by (Some keeps) there = all_at AreNames w.stores place keeps all.stores there

to_peer_has : (set : Setting) (before : Before) (w : Net) (d : Delivery) (told : ToldEvent) (o : Option Subscription) → KeepsNames w → HasNames d.session.peer
    → IsUsimAsked set before (presented_at w d told o) told → KeepsNames (to_peer set w d told o)
to_peer_has set before w d told None all own is = all
to_peer_has set before w d told (Some device) all own is =
    let keeps = keeps_at w d.session.device in
    let turn = peer_turn set device keeps d.session told in
    let named = keeps_named w d.session.device all in
    let next = peer_has w d.place d.session turn.0 turn.1.step all
    (row_named set.key device keeps d.session.peer told.seen (peer_row d.session.peer told.seen) told.notes.usim told.inner own is.decrypts) in
    record {
      stores = All-set AreNames w.stores d.session.device (kept_after keeps d.session told turn.1) (kept_named (peer_row d.session.peer told.seen) d.session.peer turn.1.notes.counter keeps own named) all.stores;
      peers = next.peers;
      sizes = length-set w.stores d.session.device (kept_after keeps d.session told turn.1) ∙ all.sizes;
    }

delivered_has : (set : Setting) (before : Before) (w : Net) (at' : End) (told : ToldEvent) (packet : ℕ) (o : Option ℕ) → KeepsNames w
    → IsUsimAsked set before (presented_in w at' told (delivery_at w packet o)) told → KeepsNames (delivered set w at' told (delivery_at w packet o))
delivered_has set before w at' told packet None all is = all
delivered_has set before w at' told packet (Some place) all is = by (slice_get w.sessions place) (packet_at w.packets packet) refl at' is
  where
    by : (x : Option Session) (y : Option SentPacket) → slice_get w.sessions place ≡ x → (e : End) → IsUsimAsked set before (presented_in w e told (delivery_of packet place x y)) told
        → KeepsNames (delivered set w e told (delivery_of packet place x y))
    by (Some s) (Some sent) there end.Server is =
        to_server_has set w (record { place = place; session = s; bytes = sent.bytes; packet = packet }) told s.server all
        (all_at (λ (x : Session). HasNames x.peer) w.sessions place s all.peers there)
    by (Some s) (Some sent) there end.Peer is =
        to_peer_has set before w (record { place = place; session = s; bytes = sent.bytes; packet = packet }) told (slice_get w.devices s.device) all
        (all_at (λ (x : Session). HasNames x.peer) w.sessions place s all.peers there) is
    by (Some s) None there e is = all
    by None y there e is = all

moved_has : (set : Setting) (before : Before) (w : Net) (e : Event) (told : ToldEvent) → KeepsNames w → IsUsimAsked set before (presented_by w e told) told → KeepsNames (moved set w e told)
moved_has set before w (event.Open opening) told all is = opened_has w opening (session_place w.sessions opening.session) (device_place set.rows w.devices opening.sub) all
moved_has set before w (event.Start session) told all is =
    at_has w (λ place s. start w place s s.server) (session_place w.sessions session) all (λ place s own. starting_has w place s s.server all own)
moved_has set before w (event.Deliver session at' packet) told all is = delivered_has set before w at' told packet (session_place w.sessions session) all is
moved_has set before w (event.Repeat session) told all is =
    at_has w (λ place s. repeat w place s s.server) (session_place w.sessions session) all (λ place s own. repeat_has w place s s.server all own)
moved_has set before w (event.GiveUp session at') told all is =
    at_has w (give_up w at') (session_place w.sessions session) all (λ place s own. over_has w at' place s all own)
moved_has set before w (event.Tamper packet place byte) told all is = record { stores = all.stores; peers = all.peers; sizes = all.sizes }
moved_has set before w (event.Cut packet count) told all is = record { stores = all.stores; peers = all.peers; sizes = all.sizes }

-- ---- lines and jobs

event_has : (set : Setting) (before : Before) (w next : Net) (e : Event) (lines : List LineRecord) → EventGives set before w e lines next → KeepsNames w → KeepsNames next
event_has set before w next e lines gives all =
    let is = moved_has set before w e gives.told all gives.usim in
    let here : KeepsNames (happened set w e gives.told) = record { stores = is.stores; peers = is.peers; sizes = is.sizes } in
    subst KeepsNames (sym gives.leads) here

relay_has : (set : Setting) (before : Before) (w next : Net) (session : ℕ) (at' : End) (o : Option ℕ) (lines : List LineRecord) → RelayGives set before w session at' o lines next
    → KeepsNames w → KeepsNames next
relay_has set before w next session at' None [] gives all = subst KeepsNames (sym gives) all
relay_has set before w next session at' None (l ∷ lines) gives all = absurd gives
relay_has set before w next session at' (Some packet) [] gives all = absurd gives
relay_has set before w next session at' (Some packet) (l ∷ lines) (mid, first, more) all =
    relay_has set (behind before (l ∷ [])) mid next session (other at') (packet_of l) lines more (event_has set before w mid (event.Deliver session at' packet) (l ∷ []) first all)

plain_has : (set : Setting) (before : Before) (w next : Net) (session : ℕ) (lines : List LineRecord) → PlainGives set before w session lines next → KeepsNames w → KeepsNames next
plain_has set before w next session [] gives all = absurd gives
plain_has set before w next session (l ∷ lines) (mid, first, more) all =
    relay_has set (behind before (l ∷ [])) mid next session end.Peer (packet_of l) lines more (event_has set before w mid (event.Start session) (l ∷ []) first all)

pub line_has : (set : Setting) (before : Before) (w next : Net) (l : Line) (lines : List LineRecord) → LineGives set before w l lines next → KeepsNames w → KeepsNames next
line_has set before w next l lines = by_kind (λ x. LineGives set before w x lines next → KeepsNames w → KeepsNames next)
    (λ x is gives all. subst KeepsNames (sym (is.gives set before w next lines gives).1) all)
    (λ e gives all. event_has set before w next e lines (event_gives set before w next e lines gives) all)
    (λ session gives all. plain_has set before w next session lines gives all) l

job_has : (set : Setting) (before : Before) (w last : Net) (job : List Line) (lines : List LineRecord) → JobGives set before w job lines last → KeepsNames w → KeepsNames last
job_has set before w last [] lines (none, same) all = subst KeepsNames (sym same) all
job_has set before w last (l ∷ job) lines (front, rest, next, cut, gives, more) all =
    job_has set (behind before front) next last job rest more (line_has set before w next l front gives all)

-- ---- rounds

-- what is kept of each subscriber
abbrev pub AreKept : List Kept → Type 0
AreKept kept = All (λ k. AreNames k.device) kept

kept_of_named : (kept : List Kept) (sub : ℕ) → AreKept kept → AreNames (kept_of kept sub).device
kept_of_named kept sub all = by (slice_get kept sub) refl
  where
    by : (o : Option Kept) → slice_get kept sub ≡ o → AreNames (kept_or o).device
    by None there = nothing_named
    by (Some k) there = all_at (λ (k : Kept). AreNames k.device) kept sub k all there

one_store : (set : Setting) (keeps : Keeps) (o : Option Row) → AreNames keeps → All AreNames (keeps_by o keeps) × (length (keeps_by o keeps) ≡ length (subscription_by set o))
one_store set keeps None is = (All-nil AreNames, refl)
one_store set keeps (Some row) is = (All-cons AreNames keeps [] is (All-nil AreNames), refl)

all_stores : (set : Setting) (kept : List Kept) (subs : List ℕ) → AreKept kept
    → All AreNames (flat_map (keeps_of set kept) subs) × (length (flat_map (keeps_of set kept) subs) ≡ length (flat_map (subscription_at set) subs))
all_stores set kept [] all = (All-nil AreNames, refl)
all_stores set kept (sub ∷ subs) all =
    let (first, one) = one_store set (kept_of kept sub).device (slice_get set.rows sub) (kept_of_named kept sub all) in
    let (rest, more) = all_stores set kept subs all in
    let stores = length-append (keeps_of set kept sub) (flat_map (keeps_of set kept) subs) in
    let devices = length-append (subscription_at set sub) (flat_map (subscription_at set) subs) in
    (All-append AreNames (keeps_of set kept sub) (flat_map (keeps_of set kept) subs) first rest, omega (arith, one, more, stores, devices))

-- the network with which a job begins
pub start_has : (set : Setting) (kept : List Kept) (job : List Line) → AreKept kept → KeepsNames (start_of set kept job)
start_has set kept job all =
    let (stores, sizes) = all_stores set kept (held_subs job) all in
    record { stores = stores; peers = All-nil (λ (s : Session). HasNames s.peer); sizes = sizes }

put_named : (kept : List Kept) (homes : List HomeRow) (stores : List Keeps) → AreKept kept → All AreNames stores → AreKept (put_back kept homes stores)
put_named kept [] stores all each = all
put_named kept (home ∷ homes) [] all each = all
put_named kept (home ∷ homes) (keeps ∷ stores) all each =
    All-set (λ (k : Kept). AreNames k.device) (put_back kept homes stores) home.sub (kept_now home keeps) (All-head AreNames keeps stores each)
    (put_named kept homes stores all (All-tail AreNames keeps stores each))

-- after the jobs of a round
jobs_named : (set : Setting) (early : List LineRecord) (first kept : List Kept) (beside : List LineRecord) (jobs : List (List Line)) (records : List (List LineRecord)) (nets : List Net)
    → AreKept first → AreKept kept → JobsGive set early first beside jobs records nets → AreKept (kept_by_jobs kept nets)
jobs_named set early first kept beside [] records nets began all (none, is) = subst (λ (ns : List Net). AreKept (kept_by_jobs kept ns)) (sym is) all
jobs_named set early first kept beside (job ∷ jobs) [] nets began all gives = absurd gives
jobs_named set early first kept beside (job ∷ jobs) (lines ∷ records) [] began all gives = absurd gives
jobs_named set early first kept beside (job ∷ jobs) (lines ∷ records) (net ∷ nets) began all (gives, more) =
    let here = job_has set (record { early = early; beside = beside; own = [] }) (start_of set first job) net job lines gives (start_has set first job began) in
    jobs_named set early first (kept_with kept net) (beside ++ lines) jobs records nets began (put_named kept net.homes net.stores all here.stores) more

pub round_named : (set : Setting) (early : List LineRecord) (kept : List Kept) (jobs : List (List Line)) (records : List (List LineRecord)) (nets : List Net)
    → AreKept kept → JobsGive set early kept [] jobs records nets → AreKept (kept_by_jobs kept nets)
round_named set early kept jobs records nets all gives = jobs_named set early kept kept [] jobs records nets all all gives

-- before the first round nothing is kept
pub first_named : (rows : List Row) → AreKept (map (λ r. fresh_kept) rows)
first_named [] = All-nil (λ (k : Kept). AreNames k.device)
first_named (r ∷ rows) = All-cons (λ (k : Kept). AreNames k.device) fresh_kept (map (λ (x : Row). fresh_kept) rows) nothing_named (first_named rows)
