-- For the runs of jobs: the numbers that an event adds to a network's released ones are those of its line.
use Rattle.std.proofs.Common.{◌≡◌, ℕ, ◌<◌, ◌==◌, Bool, true, false, List, [], ◌∷◌, ◌++◌, length, Option, Some, None, All, slice_get, refl, sym, ap, ◌∙◌, subst, append-nil}
use Rattle.std.specs.Prelude.{if◌then◌else◌, flat_map}
use Rattle.std.proofs.lemmas.List.Concat.{flat_map-append}
use Rattle.std.proofs.lemmas.List.Elements.{All-cons, All-nil}
use Rattle.auc_lines.specs.declared.part.SessionLine.{SessionLine}
use Rattle.auc_lines.specs.Part.{is_that}
use Rattle.auc_lines.specs.declared.part.End.{End}
use Rattle.auc_lines.specs.declared.part.End.TheVariants as end
use Rattle.auc_peer.specs.Subscription.{Subscription}
use Rattle.auc_released.specs.declared.numbers.Number.{Number}
use Rattle.auc_server.specs.Server.{ServerEnd}
use Rattle.auc_vector.specs.Notes.{Asking}
use Rattle.auc_vector.specs.declared.notes.Notes.{Notes}
use Rattle.auc_vector.specs.declared.notes.NumberNote.{NumberNote}
use Rattle.auc_vector.specs.declared.notes.NumberNote.TheVariants as number
use Rattle.auc_record.specs.Event.{Came, asked_in, number_in, number_released, number_with}
use Rattle.auc_world.specs.Came.{asked_sub, asking_at, asking_in, asking_of, came, came_at_peer, came_at_server, came_delivered, came_given_up, came_in, came_opened, came_repeated, came_started, server_came_to_give_up, session_at, came_changed}
use Rattle.auc_world.specs.Given.{IsCentreAsked}
use Rattle.auc_world.specs.Happened.{Delivery, ToldEvent, at_place, delivered, delivery_at, delivery_of, give_up, in_session, moved, opened, drawn_in_turn, repeat, server_gives_up, server_turn, start, to_peer, to_server, changed_in, with_copy}
use Rattle.auc_world.specs.Net.{Net, device_place, packet_at, session_place}
use Rattle.auc_subs.specs.Setting.{Setting}
use Rattle.auc_record.specs.declared.event.Event.{Event}
use Rattle.auc_record.specs.declared.event.Event.TheVariants as event
use Rattle.auc_world.specs.declared.net.SentPacket.{SentPacket}
use Rattle.auc_world.specs.declared.net.Session.{Session}
use Rattle.auc_world.proofs.CopyLemmas.{changed_is_silent}

-- ---- the number of an event

-- the number that an event releases, with the subscriber for whom it was drawn
abbrev pub event_number : Came → Option Number
event_number result = number_with (asked_in result) (number_in result)

-- a number, if there is one
abbrev pub numbers_in : Option Number → List Number
numbers_in None = []
numbers_in (Some x) = x ∷ []

-- the numbers of a subscriber
abbrev pub of_sub : ℕ → List Number → List ℕ
of_sub sub released = flat_map (λ (x : Number). if x.sub == sub then x.n ∷ [] else []) released

-- an event adds the number that its result names to the released ones; it is of a subscriber that there is
pub record Releases (set : Setting) (w next : Net) (result : Came) : Type 0 where
  pub grows : next.released ≡ w.released ++ numbers_in (event_number result)
  pub known : All (λ x. x.sub < length set.rows) (numbers_in (event_number result))

-- an event that draws nothing
none_known : (set : Setting) (result : Came) → event_number result ≡ None → All (λ (x : Number). x.sub < length set.rows) (numbers_in (event_number result))
none_known set result none = subst (λ (o : Option Number). All (λ (x : Number). x.sub < length set.rows) (numbers_in o)) (sym none) (All-nil (λ (x : Number). x.sub < length set.rows))

stays : (set : Setting) (w next : Net) (result : Came) → next.released ≡ w.released → event_number result ≡ None → Releases set w next result
stays set w next result same none = record {
  grows = same ∙ sym (append-nil w.released) ∙ ap (λ (o : Option Number). w.released ++ numbers_in o) (sym none);
  known = none_known set result none;
}

-- what a turn released is what its note names
turn_numbers : (asked : Option Asking) (note : Option NumberNote) → drawn_in_turn asked note ≡ numbers_in (number_with (asked_sub asked) note)
turn_numbers None drew = refl
turn_numbers (Some asked) None = refl
turn_numbers (Some asked) (Some (number.Drew n)) = refl
turn_numbers (Some asked) (Some (number.Exhausted word)) = refl
turn_numbers (Some asked) (Some (number.Withheld n stop)) = refl

turn_known : (set : Setting) (asked : Option Asking) (notes : Notes) (note : Option NumberNote) → IsCentreAsked set asked notes
    → All (λ x. x.sub < length set.rows) (numbers_in (number_with (asked_sub asked) note))
turn_known set None notes drew is = All-nil (λ (x : Number). x.sub < length set.rows)
turn_known set (Some asked) notes None is = All-nil (λ (x : Number). x.sub < length set.rows)
turn_known set (Some asked) notes (Some (number.Drew n)) is =
    All-cons (λ (x : Number). x.sub < length set.rows) (record { sub = asked.sub; n = n }) [] is.known (All-nil (λ (x : Number). x.sub < length set.rows))
turn_known set (Some asked) notes (Some (number.Exhausted word)) is = All-nil (λ (x : Number). x.sub < length set.rows)
turn_known set (Some asked) notes (Some (number.Withheld n stop)) is = All-nil (λ (x : Number). x.sub < length set.rows)

server_releases : (set : Setting) (w : Net) (d : Delivery) (told : ToldEvent) (o : Option ServerEnd) → IsCentreAsked set (asking_at set w told o) told.notes
    → Releases set w (to_server set w d told o) (came_at_server set w told o)
server_releases set w d told None is = stays set w w (came_at_server set w told None) refl refl
server_releases set w d told (Some s) is =
    let asked = asking_at set w told (Some s) in
    let note = (server_turn set w s told).1.notes.number in
    record { grows = ap (λ (more : List Number). w.released ++ more) (turn_numbers asked note); known = turn_known set asked told.notes note is }

peer_releases : (set : Setting) (w : Net) (d : Delivery) (told : ToldEvent) (o : Option Subscription) → Releases set w (to_peer set w d told o) (came_at_peer set w d told o)
peer_releases set w d told None = stays set w (to_peer set w d told None) (came_at_peer set w d told None) refl refl
peer_releases set w d told (Some device) = stays set w (to_peer set w d told (Some device)) (came_at_peer set w d told (Some device)) refl refl

none_releases : (set : Setting) (w : Net) (at' : End) (told : ToldEvent) (sent : Option SentPacket) → Releases set w (delivered set w at' told None) (came_delivered set w at' told sent None)
none_releases set w at' told None = stays set w w (came_delivered set w at' told None None) refl refl
none_releases set w at' told (Some sent) = stays set w w (came_delivered set w at' told (Some sent) None) refl refl

some_releases : (set : Setting) (w : Net) (at' : End) (told : ToldEvent) (sent : SentPacket) (d : Delivery) → IsCentreAsked set (asking_in set w at' told (Some d)) told.notes
    → Releases set w (delivered set w at' told (Some d)) (came_delivered set w at' told (Some sent) (Some d))
some_releases set w end.Server told sent d is = server_releases set w d told d.session.server is
some_releases set w end.Peer told sent d is = peer_releases set w d told (slice_get w.devices d.session.device)

delivery_releases : (set : Setting) (w : Net) (at' : End) (told : ToldEvent) (packet place : ℕ) (x : Option Session) (y : Option SentPacket)
    → IsCentreAsked set (asking_in set w at' told (delivery_of packet place x y)) told.notes
    → Releases set w (delivered set w at' told (delivery_of packet place x y)) (came_delivered set w at' told y (delivery_of packet place x y))
delivery_releases set w at' told packet place (Some session) (Some sent) is =
    some_releases set w at' told sent (record { place = place; session = session; bytes = sent.bytes; packet = packet }) is
delivery_releases set w at' told packet place (Some session) None is = none_releases set w at' told None
delivery_releases set w at' told packet place None (Some sent) is = none_releases set w at' told (Some sent)
delivery_releases set w at' told packet place None None is = none_releases set w at' told None

delivered_releases : (set : Setting) (w : Net) (at' : End) (told : ToldEvent) (packet : ℕ) (o : Option ℕ) → IsCentreAsked set (asking_in set w at' told (delivery_at w packet o)) told.notes
    → Releases set w (delivered set w at' told (delivery_at w packet o)) (came_delivered set w at' told (packet_at w.packets packet) (delivery_at w packet o))
delivered_releases set w at' told packet None is = none_releases set w at' told (packet_at w.packets packet)
delivered_releases set w at' told packet (Some place) is = delivery_releases set w at' told packet place (slice_get w.sessions place) (packet_at w.packets packet) is

-- in a session, if it is open
session_releases : (set : Setting) (w : Net) (does : ℕ → Session → Net) (comes : Session → Came) (o : Option ℕ) → ((place : ℕ) (s : Session) → Releases set w (does place s) (comes s))
    → Releases set w (at_place w does o) (came_in comes (session_at w o))
session_releases set w does comes None each = stays set w w (came_in comes None) refl refl
session_releases set w does comes (Some place) each = by (slice_get w.sessions place)
  where
    by : (x : Option Session) → Releases set w (in_session w does place x) (came_in comes x)
    by None = stays set w w (came_in comes None) refl refl
    by (Some s) = each place s

-- with nothing added
adds_none : (set : Setting) (w next : Net) (result : Came) → next.released ≡ w.released ++ [] → event_number result ≡ None → Releases set w next result
adds_none set w next result same none = stays set w next result (same ∙ append-nil w.released) none

start_releases : (set : Setting) (w : Net) (place : ℕ) (s : Session) (o : Option ServerEnd) → Releases set w (start w place s o) (came_started w s.options o)
start_releases set w place s None = adds_none set w (start w place s None) (came_started w s.options None) refl refl
start_releases set w place s (Some server) = stays set w w (came_started w s.options (Some server)) refl refl

repeat_releases : (set : Setting) (w : Net) (place : ℕ) (s : Session) (o : Option ServerEnd) → Releases set w (repeat w place s o) (came_repeated w o)
repeat_releases set w place s None = stays set w w (came_repeated w None) refl refl
repeat_releases set w place s (Some server) = adds_none set w (repeat w place s (Some server)) (came_repeated w (Some server)) refl refl

server_over_releases : (set : Setting) (w : Net) (place : ℕ) (s : Session) (o : Option ServerEnd) → Releases set w (server_gives_up w place s o) (server_came_to_give_up w o)
server_over_releases set w place s None = stays set w w (server_came_to_give_up w None) refl refl
server_over_releases set w place s (Some server) = adds_none set w (server_gives_up w place s (Some server)) (server_came_to_give_up w (Some server)) refl refl

give_up_releases : (set : Setting) (w : Net) (at' : End) (place : ℕ) (s : Session) → Releases set w (give_up w at' place s) (came_given_up w at' s)
give_up_releases set w end.Server place s = server_over_releases set w place s s.server
give_up_releases set w end.Peer place s = stays set w (give_up w end.Peer place s) (came_given_up w end.Peer s) refl refl

open_releases : (set : Setting) (w : Net) (opening : SessionLine) (first place : Option ℕ) → Releases set w (opened w opening first place) (came_opened first place)
open_releases set w opening (Some first) place = stays set w w (came_opened (Some first) place) refl refl
open_releases set w opening None None = stays set w w (came_opened None None) refl refl
open_releases set w opening None (Some place) = stays set w (opened w opening None (Some place)) (came_opened None (Some place)) refl refl

copy_releases : (set : Setting) (w : Net) (sent : Option SentPacket) (copy : Option (List ℕ)) → Releases set w (with_copy w copy) (came_changed w.packets sent copy)
copy_releases set w sent copy =
    let result = came_changed w.packets sent copy in
    stays set w (with_copy w copy) result refl (ap (λ (asked : Option ℕ). number_with asked (number_in result)) (changed_is_silent w.packets sent copy).asked)

pub moved_releases : (set : Setting) (w : Net) (e : Event) (told : ToldEvent) → IsCentreAsked set (asking_of set w e told) told.notes → Releases set w (moved set w e told) (came set w e told)
moved_releases set w (event.Open opening) told is = open_releases set w opening (session_place w.sessions opening.session) (device_place set.rows w.devices opening.sub)
moved_releases set w (event.Start session) told is =
    session_releases set w (λ place s. start w place s s.server) (λ s. came_started w s.options s.server) (session_place w.sessions session) (λ place s. start_releases set w place s s.server)
moved_releases set w (event.Deliver session at' packet) told is = delivered_releases set w at' told packet (session_place w.sessions session) is
moved_releases set w (event.Repeat session) told is =
    session_releases set w (λ place s. repeat w place s s.server) (λ s. came_repeated w s.server) (session_place w.sessions session) (λ place s. repeat_releases set w place s s.server)
moved_releases set w (event.GiveUp session at') told is =
    session_releases set w (give_up w at') (came_given_up w at') (session_place w.sessions session) (λ place s. give_up_releases set w at' place s)
moved_releases set w (event.Tamper packet place byte) told is = copy_releases set w (packet_at w.packets packet) (changed_in w.packets (event.Tamper packet place byte))
moved_releases set w (event.Cut packet count) told is = copy_releases set w (packet_at w.packets packet) (changed_in w.packets (event.Cut packet count))

-- ---- the numbers of lines

-- the numbers of a subscriber in two lists
pub of_sub-append : (sub : ℕ) (xs ys : List Number) → of_sub sub (xs ++ ys) ≡ of_sub sub xs ++ of_sub sub ys
of_sub-append sub xs ys = flat_map-append (λ (x : Number). if x.sub == sub then x.n ∷ [] else []) xs ys

-- a subscriber's numbers of an event are those of its line
pub number_of_line : (sub : ℕ) (asked : Option ℕ) (note : Option NumberNote) → of_sub sub (numbers_in (number_with asked note)) ≡ number_released (if is_that sub asked then note else None)
number_of_line sub None drew = refl
number_of_line sub (Some s) None = by (s == sub)
  where
    by : (b : Bool) → ◌≡◌ {A = List ℕ} [] (number_released (if b then None else None))
    by true = refl
    by false = refl
number_of_line sub (Some s) (Some (number.Drew n)) = by (s == sub)
  where
    by : (b : Bool) → (if b then n ∷ [] else []) ++ [] ≡ number_released (if b then Some (number.Drew n) else None)
    by true = refl
    by false = refl
number_of_line sub (Some s) (Some (number.Exhausted word)) = by (s == sub)
  where
    by : (b : Bool) → ◌≡◌ {A = List ℕ} [] (number_released (if b then Some (number.Exhausted word) else None))
    by true = refl
    by false = refl
number_of_line sub (Some s) (Some (number.Withheld n stop)) = by (s == sub)
  where
    by : (b : Bool) → ◌≡◌ {A = List ℕ} [] (number_released (if b then Some (number.Withheld n stop) else None))
    by true = refl
    by false = refl
