-- For plain sessions: a session stays as it is through the events of other sessions, and one without an event stays new.
use Rattle.std.proofs.Common.{◌≡◌, ◌≢◌, ◌⊎◌, ℕ, suc, ◌==◌, Bool, true, false, List, [], ◌∷◌, length, map, All, Option, Some, None, slice_get, slice_set, refl, sym, ap, ◌∙◌, subst, arith, inl, inr, ⊎_elim}
use Rattle.std.proofs.lemmas.Bool.{cond-true, eq-eqb, eqb-true}
use Rattle.std.proofs.lemmas.List.Elements.{All-push, All-set}
use Rattle.std.proofs.lemmas.List.Quantifiers.{position-Some}
use Rattle.std.proofs.lemmas.Option.{slice_get-get_or}
use Rattle.auc_lines.specs.declared.part.End.{End}
use Rattle.auc_lines.specs.declared.part.End.TheVariants as end
use Rattle.auc_lines.specs.declared.part.Line.{Line}
use Rattle.auc_lines.specs.declared.part.Line.TheVariants as line
use Rattle.auc_lines.specs.declared.part.SessionLine.{SessionLine}
use Rattle.auc_peer.specs.Subscription.{Subscription}
use Rattle.auc_peer.specs.Table.{gave_up as peer_gave_up}
use Rattle.auc_peer.specs.declared.peer.Peer.{Peer}
use Rattle.auc_vector.specs.declared.why.PeerWhy.{PeerWhy}
use Rattle.auc_released.specs.declared.numbers.Number.{Number}
use Rattle.auc_server.specs.Rows.{server_row}
use Rattle.auc_server.specs.Server.{ServerEnd, started}
use Rattle.auc_subs.specs.Setting.{Setting}
use Rattle.auc_server.specs.Steps.{asking}
use Rattle.auc_server.specs.Table.{gave_up as server_gave_up, repeated}
use Rattle.auc_server.specs.declared.setting.HomeRow.{HomeRow}
use Rattle.auc_vector.specs.declared.why.ServerWhy.{ServerWhy}
use Rattle.auc_subs.specs.declared.row.Row.{Row}
use Rattle.auc_vector.specs.declared.turn.Step.{Step}
use Rattle.auc_vector.specs.declared.turn.Step.TheVariants as step
use Rattle.auc_world.specs.Came.{session_at, session_of}
use Rattle.auc_world.specs.Given.{Before, EventGives, LineGives, PlainGives, RelayGives, behind, packet_of}
use Rattle.auc_world.specs.Happened.{Delivery, ToldEvent, at_place, delivered, delivery_at, delivery_of, give_up, happened, in_session, keys_won, moved, new_session, opened, peer_turn, drawn_in_turn, repeat, server_gives_up, server_turn, start, to_peer, to_server, with_peer, with_server}
use Rattle.auc_world.specs.Net.{Net, device_place, keeps_at, other as other_end, packet_at, session_place}
use Rattle.auc_world.specs.World.{AreOfSame}
use Rattle.auc_record.specs.declared.event.Event.{Event}
use Rattle.auc_record.specs.declared.event.Event.TheVariants as event
use Rattle.auc_world.specs.declared.net.SentPacket.{SentPacket}
use Rattle.auc_world.specs.declared.net.Session.{Session}
use Rattle.auc_record.specs.declared.record.LineRecord.{LineRecord}
use Rattle.auc_world.proofs.Facts.{turn_subs}
use Rattle.auc_transcript.specs.Completeness.{opening_by, session_in, session_named}
use Rattle.auc_transcript.proofs.FirstLemmas.{StaysFirst, first_after_push, first_after_set, passes_first, pushed_is_first}
use Rattle.auc_transcript.proofs.KindLemmas.{by_kind, line_of}

-- ---- a session of a number

abbrev pub has_number : ℕ → Session → Bool
has_number number s = s.number == number

-- it is found at the first place
found_first : (w : Net) (number : ℕ) (s : Session) → session_of w number ≡ Some s → (i : ℕ) × StaysFirst (has_number number) w.sessions i s
found_first w number s found = by (session_place w.sessions number) refl found
  where
    by : (o : Option ℕ) → session_place w.sessions number ≡ o → session_at w o ≡ Some s → (i : ℕ) × StaysFirst (has_number number) w.sessions i s
    by None first is = absurd cc
    by (Some i) first is = (i, record { first = first; there = is })

first_found : (w : Net) (number i : ℕ) (s : Session) → StaysFirst (has_number number) w.sessions i s → session_of w number ≡ Some s
first_found w number i s is = ap (session_at w) is.first ∙ is.there

-- the session that is found has the number
pub found_has_number : (w : Net) (number : ℕ) (s : Session) → session_of w number ≡ Some s → (i : ℕ) × (slice_get w.sessions i ≡ Some s) × (has_number number s ≡ true)
found_has_number w number s found =
    let (i, is) = found_first w number s found in (i, is.there, passes_first (has_number number) w.sessions i s is)

-- another number is not that of a session
differs : (s : Session) (number another : ℕ) → has_number another s ≡ true → another ≢ number → has_number number s ≡ false
differs s number another has apart = by (s.number == number) refl
  where
    by : (b : Bool) → (s.number == number) ≡ b → b ≡ false
    by true is = absurd (apart (sym (eqb-true s.number another has) ∙ eqb-true s.number number is))
    by false is = refl

-- ---- what an event does to sessions

-- a session of a number became another one of this number
pub record IsTurn (xs ys : List Session) (number : ℕ) : Type 0 where
  pub place : ℕ
  pub old : Session
  pub new : Session
  pub there : slice_get xs place ≡ Some old
  pub numbered : has_number number old ≡ true
  pub same : new.number ≡ old.number
  pub is : ys ≡ slice_set xs place new

-- an event of a session: at most a session of its number changes
pub record IsMove (w next : Net) (number : ℕ) : Type 0 where
  pub sessions : (next.sessions ≡ w.sessions) ⊎ IsTurn w.sessions next.sessions number
  pub devices : next.devices ≡ w.devices
  pub homes : AreOfSame w.homes next.homes

nothing_moves : (w : Net) (number : ℕ) → IsMove w w number
nothing_moves w number = record { sessions = inl refl; devices = refl; homes = refl }

-- a session stands at a place under a number
pub record Stands (w : Net) (number place : ℕ) (s : Session) : Type 0 where
  pub there : slice_get w.sessions place ≡ Some s
  pub numbered : has_number number s ≡ true

server_moves : (w : Net) (number place : ℕ) (s : Session) (more : List Number) (q : ServerEnd) (did : Step ServerWhy) → Stands w number place s → IsMove w (with_server w place s more q did) number
server_moves w number place s more q did st = record {
  sessions = inr (record { place = place; old = s; new = record s { server = Some q }; there = st.there; numbered = st.numbered; same = refl; is = refl });
  devices = refl;
  homes = refl;
}

peer_moves : (w : Net) (number place : ℕ) (s : Session) (p : Peer) (did : Step PeerWhy) → Stands w number place s → IsMove w (with_peer w place s p did) number
peer_moves w number place s p did st = record {
  sessions = inr (record { place = place; old = s; new = record s { peer = p; peer_keys = keys_won s.peer_keys did }; there = st.there; numbered = st.numbered; same = refl; is = refl });
  devices = refl;
  homes = refl;
}

pub start_moves : (w : Net) (number place : ℕ) (s : Session) (o : Option ServerEnd) → Stands w number place s → IsMove w (start w place s o) number
start_moves w number place s None st = server_moves w number place s [] (started s.options) (step.Sent (started s.options).last) st
start_moves w number place s (Some q) st = nothing_moves w number

repeat_moves : (w : Net) (number place : ℕ) (s : Session) (o : Option ServerEnd) → Stands w number place s → IsMove w (repeat w place s o) number
repeat_moves w number place s None st = nothing_moves w number
repeat_moves w number place s (Some q) st = server_moves w number place s [] q (repeated q q.state) st

server_over_moves : (w : Net) (number place : ℕ) (s : Session) (o : Option ServerEnd) → Stands w number place s → IsMove w (server_gives_up w place s o) number
server_over_moves w number place s None st = nothing_moves w number
server_over_moves w number place s (Some q) st = server_moves w number place s [] (server_gave_up q q.state).0 (server_gave_up q q.state).1 st

over_moves : (w : Net) (number : ℕ) (at' : End) (place : ℕ) (s : Session) → Stands w number place s → IsMove w (give_up w at' place s) number
over_moves w number end.Server place s st = server_over_moves w number place s s.server st
over_moves w number end.Peer place s st = peer_moves w number place s (peer_gave_up s.peer s.peer.state).0 (peer_gave_up s.peer s.peer.state).1 st

-- the session at the first place of a number
at_first : (w : Net) (number place : ℕ) (s : Session) → session_place w.sessions number ≡ Some place → slice_get w.sessions place ≡ Some s → Stands w number place s
at_first w number place s first there = record { there = there; numbered = passes_first (has_number number) w.sessions place s (record { first = first; there = there }) }

pub at_moves : (w : Net) (number : ℕ) (does : ℕ → Session → Net) → ((place : ℕ) (s : Session) → Stands w number place s → IsMove w (does place s) number)
    → IsMove w (at_place w does (session_place w.sessions number)) number
at_moves w number does each = by (session_place w.sessions number) refl
  where
    inside : (place : ℕ) → session_place w.sessions number ≡ Some place → (o : Option Session) → slice_get w.sessions place ≡ o → IsMove w (in_session w does place o) number
    inside place first None there = nothing_moves w number
    inside place first (Some s) there = each place s (at_first w number place s first there)

    by : (o : Option ℕ) → session_place w.sessions number ≡ o → IsMove w (at_place w does o) number
    by None first = nothing_moves w number
    by (Some place) first = inside place first (slice_get w.sessions place) refl

pub delivery_moves : (set : Setting) (w : Net) (number : ℕ) (at' : End) (told : ToldEvent) (packet : ℕ) → IsMove w (delivered set w at' told (delivery_at w packet (session_place w.sessions number))) number
delivery_moves set w number at' told packet = by (session_place w.sessions number) refl
  where
    to_server_moves : (d : Delivery) (o : Option ServerEnd) → Stands w number d.place d.session → IsMove w (to_server set w d told o) number
    to_server_moves d None st = nothing_moves w number
    to_server_moves d (Some q) st =
        let turn = server_turn set w q told in
        let m = server_moves w number d.place d.session (drawn_in_turn (asking (server_row set w.homes q told.seen told.reply)) turn.1.notes.number) turn.0 turn.1.step st in
        record { sessions = m.sessions; devices = m.devices; homes = turn_subs set w.homes q told.seen told.reply told.notes }

    to_peer_moves : (d : Delivery) (o : Option Subscription) → Stands w number d.place d.session → IsMove w (to_peer set w d told o) number
    to_peer_moves d None st = nothing_moves w number
    to_peer_moves d (Some device) st =
        let turn = peer_turn set device (keeps_at w d.session.device) d.session told in
        let m = peer_moves w number d.place d.session turn.0 turn.1.step st in record { sessions = m.sessions; devices = m.devices; homes = m.homes }

    nowhere : (e : End) → IsMove w (delivered set w e told None) number
    nowhere e = nothing_moves w number

    inside : (place : ℕ) → session_place w.sessions number ≡ Some place → (x : Option Session) (y : Option SentPacket) → slice_get w.sessions place ≡ x → (e : End)
        → IsMove w (delivered set w e told (delivery_of packet place x y)) number
    inside place first (Some s) (Some sent) there end.Server =
        to_server_moves (record { place = place; session = s; bytes = sent.bytes; packet = packet }) s.server (at_first w number place s first there)
    inside place first (Some s) (Some sent) there end.Peer =
        to_peer_moves (record { place = place; session = s; bytes = sent.bytes; packet = packet }) (slice_get w.devices s.device) (at_first w number place s first there)
    inside place first (Some s) None there e = nowhere e
    inside place first None y there e = nowhere e

    by : (o : Option ℕ) → session_place w.sessions number ≡ o → IsMove w (delivered set w at' told (delivery_at w packet o)) number
    by None first = nowhere at'
    by (Some place) first = inside place first (slice_get w.sessions place) (packet_at w.packets packet) refl at'

-- ---- sessions that stay

-- a session that a line opened at its subscriber's device, and in which nothing has happened
pub record IsNew (rows : List Row) (devices : List Subscription) (opening : SessionLine) (s : Session) : Type 0 where
  pub is : s ≡ new_session opening s.device
  pub placed : device_place rows devices s.sub ≡ Some s.device

-- each session of the number that a line names is the one that this line opened
abbrev pub AreNew : List Row → List Subscription → SessionLine → List Session → Type 0
AreNew rows devices opening sessions = All (λ s. has_number opening.session s ≡ true → IsNew rows devices opening s) sessions

-- a session of the number that a line names stays as it is; and sessions of the number stay such, if while there is none no
-- other line opens one
pub record Leaves (rows : List Row) (opening : SessionLine) (w next : Net) (Suits : Type 0) : Type 0 where
  pub stays : (s : Session) → session_of w opening.session ≡ Some s → session_of next opening.session ≡ Some s
  pub new : (session_of w opening.session ≡ None → Suits) → AreNew rows w.devices opening w.sessions → AreNew rows next.devices opening next.sessions
  pub devices : next.devices ≡ w.devices
  pub homes : AreOfSame w.homes next.homes

pub leaves_itself : (rows : List Row) (opening : SessionLine) (w next : Net) (Suits : Type 0) → next ≡ w → Leaves rows opening w next Suits
leaves_itself rows opening w next Suits same = record {
  stays = λ s found. ap (λ (n : Net). session_of n opening.session) same ∙ found;
  new = λ suits all. subst (λ (n : Net). AreNew rows n.devices opening n.sessions) (sym same) all;
  devices = ap (λ (n : Net). n.devices) same;
  homes = ap (λ (n : Net). map (λ (home : HomeRow). home.sub) n.homes) same;
}

-- there was none before
none_before : (x y : Option Session) → ((s : Session) → x ≡ Some s → y ≡ Some s) → y ≡ None → x ≡ None
none_before None y stays none = refl
none_before (Some s) y stays none = let some = stays s refl in let no : ⊥ = cc in absurd no

pub leaves_on : (rows : List Row) (opening : SessionLine) (w mid next : Net) (First Second Suits : Type 0) → (Suits → First) → (Suits → Second) → Leaves rows opening w mid First
    → Leaves rows opening mid next Second → Leaves rows opening w next Suits
leaves_on rows opening w mid next First Second Suits here there first second = record {
  stays = λ s found. second.stays s (first.stays s found);
  new = λ suits all.
      second.new (λ none. there (suits (none_before (session_of w opening.session) (session_of mid opening.session) first.stays none)))
      (first.new (λ none. here (suits none)) all);
  devices = second.devices ∙ first.devices;
  homes = second.homes ∙ first.homes;
}

-- an event of another session
another_leaves : (rows : List Row) (opening : SessionLine) (w next : Net) (another : ℕ) → another ≢ opening.session → IsMove w next another → Leaves rows opening w next (Unit {0})
another_leaves rows opening w next another apart m = record {
  stays = λ s found. ⊎_elim (same_stays s found) (turn_stays s found) m.sessions;
  new = λ suits all. ⊎_elim (same_new all) (turn_new all) m.sessions;
  devices = m.devices;
  homes = m.homes;
}
  where
    number : ℕ
    number = opening.session

    fails : (t : IsTurn w.sessions next.sessions another) → has_number number t.new ≡ false
    fails t = ap (λ (n : ℕ). n == number) t.same ∙ differs t.old number another t.numbered apart

    same_stays : (s : Session) → session_of w number ≡ Some s → next.sessions ≡ w.sessions → session_of next number ≡ Some s
    same_stays s found same =
        let (i, is) = found_first w number s found in
        first_found next number i s (subst (λ (l : List Session). StaysFirst (has_number number) l i s) (sym same) is)

    turn_stays : (s : Session) → session_of w number ≡ Some s → IsTurn w.sessions next.sessions another → session_of next number ≡ Some s
    turn_stays s found t =
        let (i, is) = found_first w number s found in
        first_found next number i s (subst (λ (l : List Session). StaysFirst (has_number number) l i s) (sym t.is)
        (first_after_set (has_number number) w.sessions i t.place s t.old t.new is t.there (differs t.old number another t.numbered apart) (fails t)))

    same_new : AreNew rows w.devices opening w.sessions → next.sessions ≡ w.sessions → AreNew rows next.devices opening next.sessions
    same_new all same =
        subst (λ (l : List Session). AreNew rows next.devices opening l) (sym same) (subst (λ (ds : List Subscription). AreNew rows ds opening w.sessions) (sym m.devices) all)

    turn_new : AreNew rows w.devices opening w.sessions → IsTurn w.sessions next.sessions another → AreNew rows next.devices opening next.sessions
    turn_new all t =
        let P : Session → Type 0 = λ (s : Session). has_number number s ≡ true → IsNew rows next.devices opening s in
        let before : All P w.sessions = subst (λ (ds : List Subscription). AreNew rows ds opening w.sessions) (sym m.devices) all in
        let own : P t.new = λ has. let fail = fails t in let no : ⊥ = cc in absurd no in
        subst (All P) (sym t.is) (All-set P w.sessions t.place t.new own before)

-- what leaves sessions, devices and homes as they are
packets_leave : (rows : List Row) (opening : SessionLine) (w next : Net) → next.sessions ≡ w.sessions → next.devices ≡ w.devices → AreOfSame w.homes next.homes → Leaves rows opening w next (Unit {0})
packets_leave rows opening w next sessions devices homes =
    another_leaves rows opening w next (suc opening.session) (λ same. absurd (omega (arith, same))) (record { sessions = inl sessions; devices = devices; homes = homes })

-- a line that opens a session under the number is the one
abbrev pub IsTheOne : SessionLine → SessionLine → Type 0
IsTheOne opening other = other.session ≡ opening.session → other ≡ opening

-- a session that is opened: one of its number stays the first, and if there was none it is new
opening_leaves : (rows : List Row) (opening : SessionLine) (w : Net) (other : SessionLine) (first place : Option ℕ) → session_place w.sessions other.session ≡ first
    → device_place rows w.devices other.sub ≡ place → Leaves rows opening w (opened w other first place) (IsTheOne opening other)
opening_leaves rows opening w other (Some one) place found placed = leaves_itself rows opening w w (IsTheOne opening other) refl
opening_leaves rows opening w other None None found placed = leaves_itself rows opening w w (IsTheOne opening other) refl
opening_leaves rows opening w other None (Some place) found placed =
    let own : Session = new_session other place in
    let number = opening.session in
    let next : Net = opened w other None (Some place) in
    record {
      stays = λ s is. let (i, first) = found_first w number s is in first_found next number i s (first_after_push (has_number number) w.sessions i s own first);
      new = λ suits all.
          All-push (λ (s : Session). has_number number s ≡ true → IsNew rows w.devices opening s) w.sessions own all
          (λ has.
          let same = eqb-true other.session number has in
          let none = ap (session_at w) (ap (session_place w.sessions) (sym same) ∙ found) in
          record { is = ap (λ (o : SessionLine). new_session o place) (suits none same); placed = placed });
      devices = refl;
      homes = refl;
    }

-- ---- events and lines

-- an event that opens a session, or is of another one
abbrev IsBeside : ℕ → Event → Type 0
IsBeside number (event.Open opening) = Unit {0}
IsBeside number e = session_in e ≢ Some number

-- an event that opens a session under the number of a line is by this line
abbrev SuitsIn : SessionLine → Event → Type 0
SuitsIn opening (event.Open other) = IsTheOne opening other
SuitsIn opening (event.Start session) = Unit {0}
SuitsIn opening (event.Deliver session at' packet) = Unit {0}
SuitsIn opening (event.Repeat session) = Unit {0}
SuitsIn opening (event.GiveUp session at') = Unit {0}
SuitsIn opening (event.Tamper packet place byte) = Unit {0}
SuitsIn opening (event.Cut packet count) = Unit {0}

named_apart : (session number : ℕ) → ◌≢◌ {A = Option ℕ} (Some session) (Some number) → session ≢ number
named_apart session number apart same = apart (ap Some same)

-- what changes sessions, devices and homes alike
rebroken : (rows : List Row) (opening : SessionLine) (set : Setting) (w : Net) (e : Event) (told : ToldEvent) (Suits : Type 0) → Leaves rows opening w (moved set w e told) Suits
    → Leaves rows opening w (happened set w e told) Suits
rebroken rows opening set w e told Suits k = record { stays = k.stays; new = k.new; devices = k.devices; homes = k.homes }

pub event_leaves : (set : Setting) (opening : SessionLine) (w : Net) (e : Event) (told : ToldEvent) → IsBeside opening.session e
    → Leaves set.rows opening w (happened set w e told) (SuitsIn opening e)
event_leaves set opening w (event.Open other) told beside =
    rebroken set.rows opening set w (event.Open other) told (SuitsIn opening (event.Open other))
    (opening_leaves set.rows opening w other (session_place w.sessions other.session) (device_place set.rows w.devices other.sub) refl refl)
event_leaves set opening w (event.Start session) told beside =
    rebroken set.rows opening set w (event.Start session) told (Unit {0})
    (another_leaves set.rows opening w _ session (named_apart session opening.session beside) (at_moves w session (λ place s. start w place s s.server) (λ place s st. start_moves w session place s s.server st)))
event_leaves set opening w (event.Deliver session at' packet) told beside =
    rebroken set.rows opening set w (event.Deliver session at' packet) told (Unit {0})
    (another_leaves set.rows opening w _ session (named_apart session opening.session beside) (delivery_moves set w session at' told packet))
event_leaves set opening w (event.Repeat session) told beside =
    rebroken set.rows opening set w (event.Repeat session) told (Unit {0})
    (another_leaves set.rows opening w _ session (named_apart session opening.session beside) (at_moves w session (λ place s. repeat w place s s.server) (λ place s st. repeat_moves w session place s s.server st)))
event_leaves set opening w (event.GiveUp session at') told beside =
    rebroken set.rows opening set w (event.GiveUp session at') told (Unit {0})
    (another_leaves set.rows opening w _ session (named_apart session opening.session beside) (at_moves w session (give_up w at') (λ place s st. over_moves w session at' place s st)))
event_leaves set opening w (event.Tamper packet place byte) told beside =
    rebroken set.rows opening set w (event.Tamper packet place byte) told (Unit {0}) (packets_leave set.rows opening w _ refl refl refl)
event_leaves set opening w (event.Cut packet count) told beside =
    rebroken set.rows opening set w (event.Cut packet count) told (Unit {0}) (packets_leave set.rows opening w _ refl refl refl)

gives_leaves : (set : Setting) (opening : SessionLine) (before : Before) (w next : Net) (e : Event) (lines : List LineRecord) → IsBeside opening.session e
    → EventGives set before w e lines next → Leaves set.rows opening w next (SuitsIn opening e)
gives_leaves set opening before w next e lines beside gives =
    subst (λ (n : Net). Leaves set.rows opening w n (SuitsIn opening e)) (sym gives.leads) (event_leaves set opening w e gives.told beside)

relay_leaves : (set : Setting) (opening : SessionLine) (before : Before) (w next : Net) (session : ℕ) (at' : End) (o : Option ℕ) (lines : List LineRecord)
    → ◌≢◌ {A = Option ℕ} (Some session) (Some opening.session)
    → RelayGives set before w session at' o lines next → Leaves set.rows opening w next (Unit {0})
relay_leaves set opening before w next session at' None [] apart gives = leaves_itself set.rows opening w next (Unit {0}) gives
relay_leaves set opening before w next session at' None (l ∷ lines) apart gives = absurd gives
relay_leaves set opening before w next session at' (Some packet) [] apart gives = absurd gives
relay_leaves set opening before w next session at' (Some packet) (l ∷ lines) apart (mid, first, more) =
    leaves_on set.rows opening w mid next (Unit {0}) (Unit {0}) (Unit {0}) (λ s. s) (λ s. s)
    (gives_leaves set opening before w mid (event.Deliver session at' packet) (l ∷ []) apart first)
    (relay_leaves set opening (behind before (l ∷ [])) mid next session (other_end at') (packet_of l) lines apart more)

plain_leaves : (set : Setting) (opening : SessionLine) (before : Before) (w next : Net) (session : ℕ) (lines : List LineRecord)
    → ◌≢◌ {A = Option ℕ} (Some session) (Some opening.session)
    → PlainGives set before w session lines next → Leaves set.rows opening w next (Unit {0})
plain_leaves set opening before w next session [] apart gives = absurd gives
plain_leaves set opening before w next session (l ∷ lines) apart (mid, first, more) =
    leaves_on set.rows opening w mid next (Unit {0}) (Unit {0}) (Unit {0}) (λ s. s) (λ s. s)
    (gives_leaves set opening before w mid (event.Start session) (l ∷ []) apart first)
    (relay_leaves set opening (behind before (l ∷ [])) mid next session end.Peer (packet_of l) lines apart more)

-- a line that opens a session under the number of another one is this one
abbrev pub SuitsAt : SessionLine → Line → Type 0
SuitsAt opening l = (other : SessionLine) → opening_by opening.session l ≡ Some other → other ≡ opening

-- what leaves a session, if less is asked for
leaves_if : (rows : List Row) (opening : SessionLine) (w next : Net) (First Suits : Type 0) → (Suits → First) → Leaves rows opening w next First → Leaves rows opening w next Suits
leaves_if rows opening w next First Suits here k =
    record { stays = k.stays; new = λ suits all. k.new (λ none. here (suits none)) all; devices = k.devices; homes = k.homes }

-- a line that is of no event in the session
pub line_leaves : (set : Setting) (opening : SessionLine) (before : Before) (w next : Net) (l : Line) (lines : List LineRecord) → session_named l ≢ Some opening.session
    → LineGives set before w l lines next → Leaves set.rows opening w next (SuitsAt opening l)
line_leaves set opening before w next l lines = by_kind LeavesBy
    (λ x is apart gives. leaves_itself set.rows opening w next (SuitsAt opening x) (is.gives set before w next lines gives).1) at_event
    (λ session apart gives. leaves_if set.rows opening w next (Unit {0}) (SuitsAt opening (line.Plain session)) (λ suits. tt)
    (plain_leaves set opening before w next session lines apart gives)) l
  where
    LeavesBy : Line → Type 0
    LeavesBy x = session_named x ≢ Some opening.session → LineGives set before w x lines next → Leaves set.rows opening w next (SuitsAt opening x)

    the_one : (other : SessionLine) → SuitsAt opening (line.Session other) → IsTheOne opening other
    the_one other suits same =
        suits other (cond-true (other.session == opening.session) (Some other) None (eq-eqb other.session opening.session same))

    by_event : (e : Event) → IsBeside opening.session e → EventGives set before w e lines next → (SuitsAt opening (line_of e) → SuitsIn opening e)
        → Leaves set.rows opening w next (SuitsAt opening (line_of e))
    by_event e beside gives suits =
        leaves_if set.rows opening w next (SuitsIn opening e) (SuitsAt opening (line_of e)) suits (gives_leaves set opening before w next e lines beside gives)

    at_event : (e : Event) → LeavesBy (line_of e)
    at_event (event.Open other) apart gives = by_event (event.Open other) tt gives (the_one other)
    at_event (event.Start session) apart gives = by_event (event.Start session) apart gives (λ suits. tt)
    at_event (event.Deliver session at' packet) apart gives = by_event (event.Deliver session at' packet) apart gives (λ suits. tt)
    at_event (event.Repeat session) apart gives = by_event (event.Repeat session) apart gives (λ suits. tt)
    at_event (event.GiveUp session at') apart gives = by_event (event.GiveUp session at') apart gives (λ suits. tt)
    at_event (event.Tamper packet place byte) apart gives = by_event (event.Tamper packet place byte) apart gives (λ suits. tt)
    at_event (event.Cut packet count) apart gives = by_event (event.Cut packet count) apart gives (λ suits. tt)

-- a line that opens a session, for a subscriber whose device there is
pub opens : (set : Setting) (before : Before) (w next : Net) (opening : SessionLine) (place : ℕ) (lines : List LineRecord) → device_place set.rows w.devices opening.sub ≡ Some place
    → LineGives set before w (line.Session opening) lines next → (s : Session) × (session_of next opening.session ≡ Some s)
opens set before w next opening place lines placed gives = by (session_place w.sessions opening.session) refl
  where
    leads : (first : Option ℕ) → session_place w.sessions opening.session ≡ first → (s : Session) → session_of (opened w opening first (Some place)) opening.session ≡ Some s
        → session_of next opening.session ≡ Some s
    leads first is s found =
        ap (λ (n : Net). session_of n opening.session) gives.leads
        ∙ ap (λ (o : Option ℕ). session_of (opened w opening (session_place w.sessions opening.session) o) opening.session) placed
        ∙ ap (λ (o : Option ℕ). session_of (opened w opening o (Some place)) opening.session) is ∙ found

    already : (i : ℕ) → session_place w.sessions opening.session ≡ Some i → (o : Option Session) → slice_get w.sessions i ≡ o → (s : Session) × (session_of next opening.session ≡ Some s)
    already i is None there =
        let own : Session = new_session opening place in
        let some = slice_get-get_or w.sessions i own (position-Some (has_number opening.session) w.sessions i own is).0 in
        let no : ⊥ = cc in
        absurd no
    already i is (Some s) there = (s, leads (Some i) is s (ap (session_at w) is ∙ there))

    by : (first : Option ℕ) → session_place w.sessions opening.session ≡ first → (s : Session) × (session_of next opening.session ≡ Some s)
    by None is =
        let own : Session = new_session opening place in (
          own,
          leads None is own (first_found (opened w opening None (Some place)) opening.session (length w.sessions) own
              (pushed_is_first (has_number opening.session) w.sessions own is (eq-eqb opening.session opening.session refl))),
        )
    by (Some i) is = already i is (slice_get w.sessions i) refl
