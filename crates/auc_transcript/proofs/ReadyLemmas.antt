-- For plain sessions: a session that a line of its job opened, and in which nothing has happened, is ready for its plain
-- line.
use Rattle.std.proofs.Common.{◌≡◌, ℕ, zero, suc, ◌==◌, ◌||◌, ◌<◌, nat_lt, Bool, true, false, List, [], ◌∷◌, ◌++◌, length, get_or, map, fold, flat_map, position, All, Contains, Option, Some, None, slice_get, refl, sym, ap, ◌∙◌, subst, arith}
use Rattle.std.specs.Prelude.{if◌then◌else◌}
use Rattle.std.specs.List.{list_any}
use Rattle.std.proofs.lemmas.Bool.{and_from, eq-eqb, eqb-true}
use Rattle.std.proofs.lemmas.Bool.Decides.{nat_tests}
use Rattle.std.proofs.lemmas.List.Elements.{All-append, All-cons, All-nil}
use Rattle.std.proofs.lemmas.List.Folds.{list_any-append, list_any_none}
use Rattle.std.proofs.lemmas.List.Quantifiers.{position-Some}
use Rattle.std.proofs.lemmas.Option.{get_or_from_slice_get, slice_get_within, slice_get-get_or}
use Rattle.auc_memory.specs.Identity.{Identity}
use Rattle.auc_lines.specs.Part.{held_by, held_subs, with_held}
use Rattle.auc_lines.specs.declared.part.Line.{Line}
use Rattle.auc_lines.specs.declared.part.Line.TheVariants as line
use Rattle.auc_lines.specs.declared.part.SessionLine.{SessionLine}
use Rattle.auc_peer.specs.Subscription.{Subscription}
use Rattle.auc_reauth.specs.Device.{nothing_kept}
use Rattle.auc_server.specs.Rows.{is_held}
use Rattle.auc_subs.specs.Setting.{Setting}
use Rattle.auc_server.specs.declared.setting.HomeRow.{HomeRow}
use Rattle.auc_subs.specs.Subscriber.{AreSubscribers, same_identity}
use Rattle.auc_subs.specs.declared.row.Row.{Row}
use Rattle.auc_world.specs.Agreement.{AreSized}
use Rattle.auc_world.specs.Came.{session_of}
use Rattle.auc_world.specs.Net.{Net, device_place, place_with}
use Rattle.auc_world.specs.Plain.{IsReady}
use Rattle.auc_world.specs.Start.{Kept, home_of, subscription_at, subscription_by}
use Rattle.auc_world.specs.declared.net.Session.{Session}
use Rattle.auc_transcript.specs.Completeness.{IsSuited}
use Rattle.auc_transcript.proofs.FirstLemmas.{none_passes}
use Rattle.auc_transcript.proofs.KeptNameLemmas.{KeepsNames}
use Rattle.auc_transcript.proofs.StayingLemmas.{AreNew, IsNew, found_has_number}

-- ---- the subscribers whose USIMs a job holds

-- a subscriber is among some
abbrev pub is_among : ℕ → List ℕ → Bool
is_among sub subs = list_any (λ x. x == sub) subs

or_left : (a b : Bool) → a ≡ true → (a || b) ≡ true
or_left true b is = refl
or_left false b is = absurd cc

or_right : (a b : Bool) → b ≡ true → (a || b) ≡ true
or_right true b is = refl
or_right false b is = is

-- those of an earlier line stay
held_stays : (sub : ℕ) (subs : List ℕ) (o : Option ℕ) → is_among sub subs ≡ true → is_among sub (with_held subs o) ≡ true
held_stays sub subs None among = among
held_stays sub subs (Some x) among = by (is_among x subs)
  where
    by : (b : Bool) → is_among sub (if b then subs else subs ++ x ∷ []) ≡ true
    by true = among
    by false = list_any-append (λ y. y == sub) subs (x ∷ []) ∙ or_left (is_among sub subs) (is_among sub (x ∷ [])) among

held_here : (sub : ℕ) (subs : List ℕ) → is_among sub (with_held subs (Some sub)) ≡ true
held_here sub subs = by (is_among sub subs) refl
  where
    by : (b : Bool) → is_among sub subs ≡ b → is_among sub (if b then subs else subs ++ sub ∷ []) ≡ true
    by true is = is
    by false is =
        list_any-append (λ y. y == sub) subs (sub ∷ [])
        ∙ or_right (is_among sub subs) (is_among sub (sub ∷ [])) (or_left (sub == sub) false (eq-eqb sub sub refl))

held_after : (sub : ℕ) (subs : List ℕ) (job : List Line) → is_among sub subs ≡ true → is_among sub (fold (λ all l. with_held all (held_by l)) subs job) ≡ true
held_after sub subs [] among = among
held_after sub subs (l ∷ job) among = held_after sub (with_held subs (held_by l)) job (held_stays sub subs (held_by l) among)

held_from : (opening : SessionLine) (subs : List ℕ) (job : List Line) (k : ℕ) → slice_get job k ≡ Some (line.Session opening)
    → is_among opening.sub (fold (λ all l. with_held all (held_by l)) subs job) ≡ true
held_from opening subs [] k there = absurd cc
held_from opening subs (l ∷ job) zero there =
    let is : l ≡ line.Session opening = cc in
    held_after opening.sub (with_held subs (held_by l)) job (ap (λ (x : Line). is_among opening.sub (with_held subs (held_by x))) is ∙ held_here opening.sub subs)
held_from opening subs (l ∷ job) (suc k) there = held_from opening (with_held subs (held_by l)) job k there

-- a job holds the USIM of a subscriber for which it opens a session
pub session_is_held : (opening : SessionLine) (job : List Line) → Contains job (line.Session opening) → is_among opening.sub (held_subs job) ≡ true
session_is_held opening job (k, inside, at') =
    held_from opening [] job k (slice_get-get_or job k (line.Session opening) inside ∙ ap Some at')

-- its network has a home of each
home_is_held : (sub : ℕ) (homes : List HomeRow) → is_held homes sub ≡ is_among sub (map (λ (home : HomeRow). home.sub) homes)
home_is_held sub [] = refl
home_is_held sub (home ∷ homes) = ap (λ (b : Bool). (home.sub == sub) || b) (home_is_held sub homes)

pub homes_are_of : (kept : List Kept) (subs : List ℕ) → map (λ (home : HomeRow). home.sub) (map (home_of kept) subs) ≡ subs
homes_are_of kept [] = refl
homes_are_of kept (sub ∷ subs) = ap (λ (xs : List ℕ). sub ∷ xs) (homes_are_of kept subs)

-- ---- devices

-- a device is the subscription of one of some subscribers
pub record IsCard (set : Setting) (subs : List ℕ) (d : Subscription) : Type 0 where
  pub sub : ℕ
  pub held : is_among sub subs ≡ true
  pub row : Row
  pub there : slice_get set.rows sub ≡ Some row
  pub is : subscription_at set sub ≡ d ∷ []
  pub imsi : d.imsi ≡ row.imsi
  pub realm : d.realm ≡ set.realm

card_of : (set : Setting) (subs : List ℕ) (sub : ℕ) → is_among sub subs ≡ true → All (IsCard set subs) (subscription_at set sub)
card_of set subs sub held = by (slice_get set.rows sub) refl
  where
    by : (o : Option Row) → slice_get set.rows sub ≡ o → All (IsCard set subs) (subscription_by set o)
    by None there = All-nil (IsCard set subs)
    by (Some row) there =
        let d : Subscription = record { imsi = row.imsi; realm = set.realm; secret = row.secret } in
        All-cons (IsCard set subs) d [] (record { sub = sub; held = held; row = row; there = there; is = ap (subscription_by set) there; imsi = refl; realm = refl }) (All-nil (IsCard set subs))

cards_from : (set : Setting) (all subs : List ℕ) → ((sub : ℕ) → is_among sub subs ≡ true → is_among sub all ≡ true) → All (IsCard set all) (flat_map (subscription_at set) subs)
cards_from set all [] each = All-nil (IsCard set all)
cards_from set all (x ∷ subs) each =
    All-append (IsCard set all) (subscription_at set x) (flat_map (subscription_at set) subs) (card_of set all x (each x (or_left (x == x) (is_among x subs) (eq-eqb x x refl))))
    (cards_from set all subs (λ sub among. each sub (or_right (x == sub) (is_among sub subs) among)))

-- each device of a job's network is one of a subscriber whose USIM the job holds
pub cards : (set : Setting) (subs : List ℕ) → All (IsCard set subs) (flat_map (subscription_at set) subs)
cards set subs = cards_from set subs subs (λ sub among. among)

-- a subscriber's own device has its identity
own_card : (set : Setting) (sub x : ℕ) (row : Row) → slice_get set.rows sub ≡ Some row → x ≡ sub → list_any (λ d. same_identity d.imsi row.imsi) (subscription_at set x) ≡ true
own_card set sub x row there same =
    ap (λ (n : ℕ). list_any (λ d. same_identity d.imsi row.imsi) (subscription_at set n)) same ∙ ap (λ (o : Option Row). list_any (λ d. same_identity d.imsi row.imsi) (subscription_by set o)) there
    ∙ or_left (same_identity row.imsi row.imsi) false
    (and_from (row.imsi.digits == row.imsi.digits) (row.imsi.number == row.imsi.number) (eq-eqb row.imsi.digits row.imsi.digits refl) (eq-eqb row.imsi.number row.imsi.number refl))

-- it is the first one's or a later one's
card_here_or_later : (set : Setting) (x sub : ℕ) (row : Row) (later found : Bool) → slice_get set.rows sub ≡ Some row → ((x == sub) || later) ≡ true → (later ≡ true → found ≡ true)
    → (list_any (λ d. same_identity d.imsi row.imsi) (subscription_at set x) || found) ≡ true
card_here_or_later set x sub row later found there among more = by (x == sub) refl among
  where
    by : (b : Bool) → (x == sub) ≡ b → (b || later) ≡ true → (list_any (λ d. same_identity d.imsi row.imsi) (subscription_at set x) || found) ≡ true
    by true is among = or_left _ found (own_card set sub x row there (eqb-true x sub is))
    by false is among = or_right (list_any (λ d. same_identity d.imsi row.imsi) (subscription_at set x)) found (more among)

-- a subscriber that is among them has a device
has_card : (set : Setting) (subs : List ℕ) (sub : ℕ) (row : Row) → slice_get set.rows sub ≡ Some row → is_among sub subs ≡ true
    → list_any (λ d. same_identity d.imsi row.imsi) (flat_map (subscription_at set) subs) ≡ true
has_card set [] sub row there among = absurd cc
has_card set (x ∷ subs) sub row there among =
    let test : Subscription → Bool = λ (d : Subscription). same_identity d.imsi row.imsi in
    list_any-append test (subscription_at set x) (flat_map (subscription_at set) subs) ∙ card_here_or_later set x sub row (is_among sub subs) _ there among (has_card set subs sub row there)

-- so it has a place
pub device_is_there : (set : Setting) (subs : List ℕ) (sub : ℕ) (row : Row) → slice_get set.rows sub ≡ Some row → is_among sub subs ≡ true
    → (place : ℕ) × (device_place set.rows (flat_map (subscription_at set) subs) sub ≡ Some place)
device_is_there set subs sub row there among =
    by (position (λ (d : Subscription). same_identity d.imsi row.imsi) (flat_map (subscription_at set) subs)) refl
  where
    by : (o : Option ℕ) → position (λ (d : Subscription). same_identity d.imsi row.imsi) (flat_map (subscription_at set) subs) ≡ o
        → (place : ℕ) × (device_place set.rows (flat_map (subscription_at set) subs) sub ≡ Some place)
    by None none =
        let devices = flat_map (subscription_at set) subs in
        let test : Subscription → Bool = λ (d : Subscription). same_identity d.imsi row.imsi in
        let some = has_card set subs sub row there among in
        let no : list_any test devices ≡ false = list_any_none test devices (λ k d inside. none_passes test devices none k d inside) in
        let bad : ⊥ = cc in
        absurd bad
    by (Some place) is = (place, ap (place_with (flat_map (subscription_at set) subs)) there ∙ is)

-- ---- rows

same_is : (a b : Identity) → same_identity a b ≡ true → a ≡ b
same_is a b same =
    let digits : a.digits ≡ b.digits = grind (arith, nat_tests) in
    let number : a.number ≡ b.number = grind (arith, nat_tests) in
    λ j. record { digits = digits j; number = number j }

-- two subscribers with one identity are one
one_subscriber : (rows : List Row) (i j : ℕ) (a b : Row) → AreSubscribers rows → slice_get rows i ≡ Some a → slice_get rows j ≡ Some b → a.imsi ≡ b.imsi → i ≡ j
one_subscriber rows i j a b are here there same = by (nat_lt i j) refl (nat_lt j i) refl
  where
    at_i : get_or rows i a ≡ a
    at_i = get_or_from_slice_get rows i a a here

    at_j : get_or rows j a ≡ b
    at_j = get_or_from_slice_get rows j b a there

    by : (less : Bool) → nat_lt i j ≡ less → (more : Bool) → nat_lt j i ≡ more → i ≡ j
    by true is more was =
        absurd (are.differ i j a (grind (arith, nat_tests)) (slice_get_within rows j b there) (ap (λ (r : Row). r.imsi) at_i ∙ same ∙ ap (λ (r : Row). r.imsi) (sym at_j)))
    by false is true was =
        absurd (are.differ j i a (grind (arith, nat_tests)) (slice_get_within rows i a here) (ap (λ (r : Row). r.imsi) at_j ∙ sym same ∙ ap (λ (r : Row). r.imsi) (sym at_i)))
    by false is false was = grind (arith, nat_tests)

-- ---- readiness

-- a session that is ready is that of its line's subscriber
pub record IsReadyFor (set : Setting) (net : Net) (opening : SessionLine) : Type 0 where
  pub ready : IsReady set net opening.session
  pub own : ready.own.sub ≡ opening.sub

-- a network that has the devices and the homes of some subscribers
pub record IsOfSubs (set : Setting) (subs : List ℕ) (net : Net) : Type 0 where
  pub devices : net.devices ≡ flat_map (subscription_at set) subs
  pub homes : map (λ home. home.sub) net.homes ≡ subs
  pub names : KeepsNames net
  pub sized : AreSized net.homes

-- a new session of such a network
new_is_ready : (set : Setting) (net : Net) (subs : List ℕ) (opening : SessionLine) (s : Session) → AreSubscribers set.rows → IsSuited set.rows opening → IsOfSubs set subs net
    → session_of net opening.session ≡ Some s → IsNew set.rows net.devices opening s → IsReadyFor set net opening
new_is_ready set net subs opening s are suited of found new = by (slice_get set.rows s.sub) refl new.placed
  where
    with_card : (row : Row) → slice_get set.rows s.sub ≡ Some row → (d : Subscription) → slice_get net.devices s.device ≡ Some d → same_identity d.imsi row.imsi ≡ true
        → IsCard set subs d → IsReadyFor set net opening
    with_card row there d at' same card =
        let one : card.sub ≡ s.sub = one_subscriber set.rows card.sub s.sub card.row row are card.there there (sym card.imsi ∙ same_is d.imsi row.imsi same) in
        let sizes = of.names.sizes in
        let place = slice_get_within net.devices s.device d at' in
        let inside : s.device < length net.stores = omega arith in
        let keeps = get_or net.stores s.device nothing_kept in
        record {
          ready = record {
            own = s;
            is = found;
            opening = opening;
            row = suited.row;
            listed = ap (λ (x : Session). slice_get set.rows x.sub) new.is ∙ suited.known;
            suits = suited.suits;
            options = ap (λ (x : Session). x.options) new.is;
            server = ap (λ (x : Session). x.server) new.is;
            peer = ap (λ (x : Session). x.peer) new.is;
            device = d;
            there = at';
            subscribed = ap (subscription_at set) (sym one) ∙ card.is;
            keeps = keeps;
            stored = slice_get-get_or net.stores s.device nothing_kept inside;
            pseudonym = (of.names.stores s.device nothing_kept inside opening.method).0;
            context = (of.names.stores s.device nothing_kept inside opening.method).1;
            held = home_is_held s.sub net.homes ∙ ap (is_among s.sub) of.homes ∙ ap (λ (n : ℕ). is_among n subs) (sym one) ∙ card.held;
            sized = of.sized;
          };
          own = ap (λ (x : Session). x.sub) new.is;
        }

    placed : (row : Row) → slice_get set.rows s.sub ≡ Some row → position (λ d. same_identity d.imsi row.imsi) net.devices ≡ Some s.device → IsReadyFor set net opening
    placed row there first =
        let d0 : Subscription = record { imsi = row.imsi; realm = set.realm; secret = row.secret } in
        let at' = position-Some (λ (d : Subscription). same_identity d.imsi row.imsi) net.devices s.device d0 first in
        let d = get_or net.devices s.device d0 in
        with_card row there d (slice_get-get_or net.devices s.device d0 at'.0) at'.1
        (subst (All (IsCard set subs)) (sym of.devices) (cards set subs) s.device d0 at'.0)

    by : (o : Option Row) → slice_get set.rows s.sub ≡ o → device_place set.rows net.devices s.sub ≡ Some s.device → IsReadyFor set net opening
    by None there first = let no = sym (ap (place_with net.devices) there) ∙ first in let bad : ⊥ = cc in absurd bad
    by (Some row) there first = placed row there (sym (ap (place_with net.devices) there) ∙ first)

-- an open session of a number whose sessions are new is new
pub found_is_new : (set : Setting) (net : Net) (opening : SessionLine) (s : Session) → session_of net opening.session ≡ Some s → AreNew set.rows net.devices opening net.sessions
    → IsNew set.rows net.devices opening s
found_is_new set net opening s found new =
    let (i, there, has) = found_has_number net opening.session s found in
    let inside = slice_get_within net.sessions i s there in
    let is = get_or_from_slice_get net.sessions i s s there in
    subst (λ (x : Session). IsNew set.rows net.devices opening x) is (new i s inside (ap (λ (x : Session). x.number == opening.session) is ∙ has))

-- so it is ready
pub open_is_ready : (set : Setting) (net : Net) (subs : List ℕ) (opening : SessionLine) (s : Session) → AreSubscribers set.rows → IsSuited set.rows opening → IsOfSubs set subs net
    → session_of net opening.session ≡ Some s → AreNew set.rows net.devices opening net.sessions → IsReadyFor set net opening
open_is_ready set net subs opening s are suited of found new = new_is_ready set net subs opening s are suited of found (found_is_new set net opening s found new)
