-- For a job's devices: at which place each subscriber's is.
use Rattle.std.proofs.Common.{◌≡◌, ◌≢◌, ℕ, zero, suc, ◌+◌, ◌<◌, ◌⊎◌, eqb, Bool, true, false, cond, List, [], ◌∷◌, ◌++◌, All, length, get_or, refl, sym, ◌∙◌, ap, subst, arith, inl, inr, eq-eqb}
use Rattle.std.specs.Prelude.{◌==◌, nat_lt, not, Option, Some, None, flat_map, map, position, slice_get, if◌then◌else◌}
use Rattle.std.specs.List.{position_or_len}
use Rattle.std.proofs.lemmas.Bool.{and_from, and_parts, eqb-true, false_from_ne_true}
use Rattle.std.proofs.lemmas.Bool.Decides.{eqb_tells, nat_tests}
use Rattle.std.proofs.lemmas.List.Elements.{All-cons, All-head, All-tail}
use Rattle.std.proofs.lemmas.List.Quantifiers.{position-Some}
use Rattle.std.proofs.lemmas.Option.{get_or_from_slice_get, slice_get_within}
use Rattle.auc_cards.specs.Devices.{usim_among}
use Rattle.auc_memory.specs.Identity.{Identity}
use Rattle.auc_peer.specs.Subscription.{Subscription}
use Rattle.auc_peer.specs.declared.device.Device.{Device}
use Rattle.auc_server.specs.declared.setting.HomeRow.{HomeRow}
use Rattle.auc_subs.specs.Subscriber.{AreSubscribers, same_identity}
use Rattle.auc_subs.specs.declared.row.Row.{Row}
use Rattle.auc_usim.specs.Usim.{Memory}
use Rattle.auc_world.specs.Net.{device_place, place_with}
use Rattle.auc_subs.specs.Setting.{Setting}
use Rattle.auc_world.specs.Start.{Kept, home_of, subscription_at, subscription_by}
use Rattle.auc_world.specs.World.{AreOfSame, WorldState, memory_of, usim_at, usim_of}
use Rattle.auc_jobs.proofs.LineLemmas.{some_at}

-- ---- identities

one_identity : (a b : Identity) → same_identity a b ≡ true → a ≡ b
one_identity a b e =
    let (digits, number) = and_parts (a.digits == b.digits) (a.number == b.number) e in
    fields a.digits b.digits a.number b.number (eqb-true a.digits b.digits digits) (eqb-true a.number b.number number)
  where
    fields : (d e n m : ℕ) → d ≡ e → n ≡ m → ◌≡◌ {A = Identity} (record { digits = d; number = n }) (record { digits = e; number = m })
    fields d e n m f g = cc

identity_itself : (a : Identity) → same_identity a a ≡ true
identity_itself a = and_from (a.digits == a.digits) (a.number == a.number) (eq-eqb a.digits a.digits refl) (eq-eqb a.number a.number refl)

-- rows at two places differ
differ_at : (rows : List Row) (i j : ℕ) (a b : Row) → AreSubscribers rows → slice_get rows i ≡ Some a → slice_get rows j ≡ Some b → i < j → a.imsi ≢ b.imsi
differ_at rows i j a b are at_i at_j below same =
    are.differ i j a below (slice_get_within rows j b at_j)
    (ap (λ (r : Row). r.imsi) (get_or_from_slice_get rows i a a at_i) ∙ same ∙ sym (ap (λ (r : Row). r.imsi) (get_or_from_slice_get rows j b a at_j)))

order : (i j : ℕ) → i ≢ j → (i < j) ⊎ (j < i)
order zero zero other = absurd (other refl)
order zero (suc j) other = inl (omega arith)
order (suc i) zero other = inr (omega arith)
order (suc i) (suc j) other = by (order i j (λ e. other (omega (arith, e))))
  where
    by : (i < j) ⊎ (j < i) → (suc i < suc j) ⊎ (suc j < suc i)
    by (inl low) = inl (omega (arith, low))
    by (inr high) = inr (omega (arith, high))

-- the test of two rows' identities is that of their places
identity_test : (rows : List Row) (i j : ℕ) (a b : Row) → AreSubscribers rows → slice_get rows i ≡ Some a → slice_get rows j ≡ Some b → same_identity a.imsi b.imsi ≡ eqb i j
identity_test rows i j a b are at_i at_j = by (eqb_tells i j)
  where
    just : (x y : Row) → Some x ≡ Some y → x ≡ y
    just x y e = cc

    apart : (i < j) ⊎ (j < i) → same_identity a.imsi b.imsi ≡ true → ⊥
    apart (inl low) e = differ_at rows i j a b are at_i at_j low (one_identity a.imsi b.imsi e)
    apart (inr high) e = differ_at rows j i b a are at_j at_i high (sym (one_identity a.imsi b.imsi e))

    by : ((eqb i j ≡ true) × (i ≡ j)) ⊎ ((eqb i j ≡ false) × (i ≢ j)) → same_identity a.imsi b.imsi ≡ eqb i j
    by (inl (e, same)) =
        let one : a ≡ b = just a b (sym at_i ∙ ap (slice_get rows) same ∙ at_j) in
        ap (λ (r : Row). same_identity r.imsi b.imsi) one ∙ identity_itself b.imsi ∙ sym e
    by (inr (e, other)) = false_from_ne_true (same_identity a.imsi b.imsi) (apart (order i j other)) ∙ sym e

-- ---- places

-- no two subscribers have their devices at one place
pub one_place : (rows : List Row) (devices : List Subscription) (i j place : ℕ) → AreSubscribers rows → device_place rows devices i ≡ Some place → device_place rows devices j ≡ Some place → i ≡ j
one_place rows devices i j place are first second = by (slice_get rows i) (slice_get rows j) refl refl first second
  where
    no_place : ◌≡◌ {A = Option ℕ} None (Some place) → ⊥
    no_place e = cc

    by : (a b : Option Row) → slice_get rows i ≡ a → slice_get rows j ≡ b → place_with devices a ≡ Some place → place_with devices b ≡ Some place → i ≡ j
    by None b at_i at_j e f = absurd (no_place e)
    by (Some a) None at_i at_j e f = absurd (no_place f)
    by (Some a) (Some b) at_i at_j e f =
        let d : Subscription = record { imsi = a.imsi; realm = []; secret = a.secret } in
        let p = position-Some (λ (s : Subscription). same_identity s.imsi a.imsi) devices place d e in
        let q = position-Some (λ (s : Subscription). same_identity s.imsi b.imsi) devices place d f in
        let same : a.imsi ≡ b.imsi = sym (one_identity (get_or devices place d).imsi a.imsi p.1) ∙ one_identity (get_or devices place d).imsi b.imsi q.1 in
        let test : eqb i j ≡ true = sym (identity_test rows i j a b are at_i at_j) ∙ ap (λ (x : Identity). same_identity x b.imsi) same ∙ identity_itself b.imsi in
        eqb-true i j test

-- the subscriber of a device has a row
pub placed_row : (rows : List Row) (devices : List Subscription) (sub place : ℕ) → device_place rows devices sub ≡ Some place → (row : Row) × (slice_get rows sub ≡ Some row)
placed_row rows devices sub place is = by (slice_get rows sub) refl is
  where
    no_place : ◌≡◌ {A = Option ℕ} None (Some place) → ⊥
    no_place e = cc

    by : (o : Option Row) → slice_get rows sub ≡ o → place_with devices o ≡ Some place → (row : Row) × (slice_get rows sub ≡ Some row)
    by None at e = absurd (no_place e)
    by (Some row) at e = (row, at)

-- what the USIM of a list's first device keeps
first_usim : (devices : List Device) (d : Device) (p : Subscription → Bool) (s : Subscription) (ss : List Subscription)
    → usim_at (d ∷ devices) (position p (s ∷ ss)) ≡ (if p s then Some d.usim else usim_at devices (position p ss))
first_usim devices d p s ss = by (p s) (position_or_len p ss) (length ss)
  where
    at_next : (n : ℕ) (b : Bool) → usim_at (d ∷ devices) (cond b (Some (1 + n)) None) ≡ usim_at devices (cond b (Some n) None)
    at_next n false = refl
    at_next n true = let next : ◌≡◌ {A = ℕ} (1 + n) (suc n) = omega arith in ap (λ (k : ℕ). memory_of (slice_get (d ∷ devices) k)) next

    less : (n len : ℕ) → nat_lt (1 + n) (suc len) ≡ nat_lt n len
    less n len = grind (arith, nat_tests)

    some : (len : ℕ) → nat_lt 0 (suc len) ≡ true
    some len = grind (arith, nat_tests)

    by : (b : Bool) (n len : ℕ)
        → usim_at (d ∷ devices) (cond (nat_lt (cond (not b) (1 + n) 0) (suc len)) (Some (cond (not b) (1 + n) 0)) None) ≡ (if b then Some d.usim else usim_at devices (cond (nat_lt n len) (Some n) None))
    by true n len = ap (λ (t : Bool). usim_at (d ∷ devices) (cond t (Some 0) None)) (some len)
    by false n len = ap (λ (t : Bool). usim_at (d ∷ devices) (cond t (Some (1 + n)) None)) (less n len) ∙ at_next n (nat_lt n len)

no_usim : (o : Option ℕ) → usim_at [] o ≡ None
no_usim None = refl
no_usim (Some place) = refl

-- the USIM of a subscriber's device is found by its home
found_usim : (set : Setting) (stores : List Kept) (subs : List ℕ) (devices : List Device) (sub : ℕ) (row : Row) → AreSubscribers set.rows → slice_get set.rows sub ≡ Some row → All (λ s. s < length set.rows) subs
    → usim_at devices (place_with (flat_map (subscription_at set) subs) (Some row)) ≡ usim_among (map (home_of stores) subs) devices sub
found_usim set stores [] [] sub row are at known = refl
found_usim set stores [] (d ∷ devices) sub row are at known = refl
found_usim set stores (s ∷ subs) [] sub row are at known = no_usim (place_with (flat_map (subscription_at set) (s ∷ subs)) (Some row))
found_usim set stores (s ∷ subs) (d ∷ devices) sub row are at known =
    let (first, here) = some_at set.rows s (All-head (λ (n : ℕ). n < length set.rows) s subs known) in
    let more = flat_map (subscription_at set) subs in
    ap (λ (o : Option Row). usim_at (d ∷ devices) (place_with (subscription_by set o ++ more) (Some row))) here
    ∙ first_usim devices d (λ (x : Subscription). same_identity x.imsi row.imsi) (record { imsi = first.imsi; realm = set.realm; secret = first.secret }) more
    ∙ ap (λ (b : Bool). if b then Some d.usim else usim_at devices (place_with more (Some row))) (identity_test set.rows s sub first row are here at)
    ∙ ap (λ (o : Option Memory). if eqb s sub then Some d.usim else o) (found_usim set stores subs devices sub row are at (All-tail (λ (n : ℕ). n < length set.rows) s subs known))

-- a subscriber without a row has no home
no_home : (set : Setting) (stores : List Kept) (subs : List ℕ) (devices : List Device) (sub : ℕ) → slice_get set.rows sub ≡ None → All (λ s. s < length set.rows) subs → usim_among (map (home_of stores) subs) devices sub ≡ None
no_home set stores [] devices sub none known = refl
no_home set stores (s ∷ subs) [] sub none known = refl
no_home set stores (s ∷ subs) (d ∷ devices) sub none known = by (eqb_tells s sub) (no_home set stores subs devices sub none (All-tail (λ (n : ℕ). n < length set.rows) s subs known))
  where
    there : (x : Row) → slice_get set.rows s ≡ Some x → s ≡ sub → ⊥
    there x at same = nothing x (sym (sym at ∙ ap (slice_get set.rows) same ∙ none))
      where
        nothing : (y : Row) → ◌≡◌ {A = Option Row} None (Some y) → ⊥
        nothing y e = cc

    by : ((eqb s sub ≡ true) × (s ≡ sub)) ⊎ ((eqb s sub ≡ false) × (s ≢ sub)) → usim_among (map (home_of stores) subs) devices sub ≡ None
        → (if eqb s sub then Some d.usim else usim_among (map (home_of stores) subs) devices sub) ≡ None
    by (inl (e, same)) rest = let (x, at) = some_at set.rows s (All-head (λ (n : ℕ). n < length set.rows) s subs known) in absurd (there x at same)
    by (inr (e, other)) rest = rw e rest

pub usim_found : (set : Setting) (stores : List Kept) (subs : List ℕ) (w : WorldState) (sub : ℕ) → AreSubscribers set.rows → w.net.devices ≡ flat_map (subscription_at set) subs → All (λ s. s < length set.rows) subs
    → usim_of set.rows w sub ≡ usim_among (map (home_of stores) subs) w.devices sub
usim_found set stores subs w sub are same known = ap (λ (ds : List Subscription). usim_at w.devices (device_place set.rows ds sub)) same ∙ by (slice_get set.rows sub) refl
  where
    by : (o : Option Row) → slice_get set.rows sub ≡ o → usim_at w.devices (place_with (flat_map (subscription_at set) subs) o) ≡ usim_among (map (home_of stores) subs) w.devices sub
    by None at = sym (no_home set stores subs w.devices sub at known)
    by (Some row) at = found_usim set stores subs w.devices sub row are at known

-- ---- homes of the same subscribers

-- their USIMs are found alike
pub same_usims : (old new : List HomeRow) (devices : List Device) (sub : ℕ) → AreOfSame old new → usim_among new devices sub ≡ usim_among old devices sub
same_usims [] [] devices sub same = refl
same_usims [] (home ∷ new) devices sub same = let no : ⊥ = cc in absurd no
same_usims (home ∷ old) [] devices sub same = let no : ⊥ = cc in absurd no
same_usims (home ∷ old) (other ∷ new) [] sub same = refl
same_usims (home ∷ old) (other ∷ new) (device ∷ devices) sub same =
    let first : other.sub ≡ home.sub = cc in
    let rest : AreOfSame old new = cc in
    ap (λ (n : ℕ). if n == sub then Some device.usim else usim_among new devices sub) first
    ∙ ap (λ (o : Option Memory). if home.sub == sub then Some device.usim else o) (same_usims old new devices sub rest)

-- and they are known alike
pub same_known : (count : ℕ) (old new : List HomeRow) → AreOfSame old new → All (λ home. home.sub < count) old → All (λ home. home.sub < count) new
same_known count [] [] same known = known
same_known count [] (home ∷ new) same known = let no : ⊥ = cc in absurd no
same_known count (home ∷ old) [] same known = let no : ⊥ = cc in absurd no
same_known count (home ∷ old) (other ∷ new) same known =
    let first : other.sub ≡ home.sub = cc in
    let rest : AreOfSame old new = cc in
    All-cons (λ (h : HomeRow). h.sub < count) other new (subst (λ (n : ℕ). n < count) (sym first) (All-head (λ (h : HomeRow). h.sub < count) home old known))
    (same_known count old new rest (All-tail (λ (h : HomeRow). h.sub < count) home old known))
