-- For `world`: a USIM that is challenged, at the first device with its subscriber's identity.
use Rattle.std.proofs.Common.{◌≡◌, ◌≢◌, ℕ, ◌<◌, nat_lt, Bool, true, false, List, [], ◌∷◌, length, map, zero, suc, get_or, Option, Some, None, refl, sym, ap, subst, ◌∙◌, arith}
use Rattle.std.specs.Prelude.{is_some, slice_get, slice_set}
use Rattle.std.proofs.lemmas.Bool.Decides.{nat_tests}
use Rattle.std.proofs.lemmas.List.Quantifiers.{position-Some}
use Rattle.std.proofs.lemmas.Option.{get_or_from_slice_get, slice_get_within}
use Rattle.auc_memory.specs.Identity.{Identity}
use Rattle.auc_peer.specs.Subscription.{Subscription, subscription_of}
use Rattle.auc_peer.specs.declared.device.Device.{Device}
use Rattle.auc_sqn.specs.Past.{Past, Remembers}
use Rattle.auc_subs.specs.Subscriber.{AreSubscribers, same_identity}
use Rattle.auc_subs.specs.declared.row.Row.{Row}
use Rattle.auc_usim.specs.Usim.{IsAnswer, past_after_answer}
use Rattle.auc_usim.specs.declared.answer.Answer.{Answer}
use Rattle.auc_world.proofs.WorldLemmas.{map_same}
use Rattle.auc_world.specs.InnerWorld.{device_with}
use Rattle.auc_world.specs.Net.{device_place, place_with}
use Rattle.auc_world.specs.World.{Challenges, WorldState, memory_of, usim_at, usim_of}

-- ---- lists

-- an item that was put, and the others
pub get_here : {A : Type 0} (xs : List A) (place : ℕ) (x y : A) → slice_get xs place ≡ Some x → slice_get (slice_set xs place y) place ≡ Some y
get_here [] place x y there = absurd cc
get_here (z ∷ xs) zero x y there = refl
get_here (z ∷ xs) (suc place) x y there = get_here xs place x y there

pub get_other : {A : Type 0} (xs : List A) (place other : ℕ) (y : A) → other ≢ place → slice_get (slice_set xs place y) other ≡ slice_get xs other
get_other [] place other y differ = refl
get_other (z ∷ xs) zero zero y differ = absurd (differ refl)
get_other (z ∷ xs) zero (suc other) y differ = refl
get_other (z ∷ xs) (suc place) zero y differ = refl
get_other (z ∷ xs) (suc place) (suc other) y differ = get_other xs place other y (λ same. differ (ap suc same))

-- a USIM that is there is that of a device
pub usim_within : (devices : List Device) (place : ℕ) → is_some (usim_at devices (Some place)) ≡ true → place < length devices
usim_within [] place own = absurd cc
usim_within (d ∷ ds) zero own = omega arith
usim_within (d ∷ ds) (suc place) own = omega (arith, usim_within ds place own)

-- so a subscriber's USIM that is there is that of a device
pub own_place : (rows : List Row) (w v : WorldState) (sub place : ℕ) → v ≡ w → is_some (usim_of rows w sub) ≡ true → Some place ≡ device_place rows w.net.devices sub
    → place < length v.devices
own_place rows w v sub place same own is =
    usim_within v.devices place
    (subst (λ (o : Option ℕ). is_some (usim_at v.devices o) ≡ true) (ap (λ (x : WorldState). device_place rows x.net.devices sub) same ∙ sym is)
    (subst (λ (x : WorldState). is_some (usim_of rows x sub) ≡ true) (sym same) own))

-- ---- rows and places

same_is : (a b : Identity) → same_identity a b ≡ true → a ≡ b
same_is a b same =
    let digits : a.digits ≡ b.digits = grind (arith, nat_tests) in
    let number : a.number ≡ b.number = grind (arith, nat_tests) in
    λ j. record { digits = digits j; number = number j }

rows_differ : (rows : List Row) (i j : ℕ) (a b : Row) → AreSubscribers rows → slice_get rows i ≡ Some a → slice_get rows j ≡ Some b → i ≢ j → a.imsi ≢ b.imsi
rows_differ rows i j a b are here there other = by (nat_lt i j) refl
  where
    at_i : get_or rows i a ≡ a
    at_i = get_or_from_slice_get rows i a a here

    at_j : get_or rows j a ≡ b
    at_j = get_or_from_slice_get rows j b a there

    by : (less : Bool) → nat_lt i j ≡ less → a.imsi ≢ b.imsi
    by true is same = are.differ i j a (grind (arith, nat_tests)) (slice_get_within rows j b there) (ap (λ (r : Row). r.imsi) at_i ∙ same ∙ ap (λ (r : Row). r.imsi) (sym at_j))
    by false is same = are.differ j i a (grind (arith, nat_tests, other)) (slice_get_within rows i a here) (ap (λ (r : Row). r.imsi) at_j ∙ sym same ∙ ap (λ (r : Row). r.imsi) (sym at_i))

-- the row of a subscriber whose device is at a place
pub record HasRow (rows : List Row) (devices : List Subscription) (sub place : ℕ) : Type 0 where
  pub row : Row
  pub there : slice_get rows sub ≡ Some row
  pub first : device_with devices row.imsi ≡ Some place

has_row : (rows : List Row) (devices : List Subscription) (sub place : ℕ) → device_place rows devices sub ≡ Some place → HasRow rows devices sub place
has_row rows devices sub place found = by (slice_get rows sub) refl found
  where
    by : (r : Option Row) → slice_get rows sub ≡ r → place_with devices r ≡ Some place → HasRow rows devices sub place
    by None is none = absurd cc
    by (Some row) is some = record { row = row; there = is; first = some }

-- the devices of two subscribers are at two places
places_differ : (rows : List Row) (devices : List Subscription) (sub other place : ℕ) → AreSubscribers rows → device_place rows devices sub ≡ Some place → other ≢ sub
    → device_place rows devices other ≡ Some place → ⊥
places_differ rows devices sub other place are found differ found_too =
    let a = has_row rows devices sub place found in
    let b = has_row rows devices other place found_too in
    let d : Subscription = record { imsi = a.row.imsi; realm = []; secret = a.row.secret } in
    let first = position-Some (λ (device : Subscription). same_identity device.imsi a.row.imsi) devices place d a.first in
    let second = position-Some (λ (device : Subscription). same_identity device.imsi b.row.imsi) devices place d b.first in
    rows_differ rows other sub b.row a.row are b.there a.there differ
    (sym (same_is (get_or devices place d).imsi b.row.imsi second.1) ∙ same_is (get_or devices place d).imsi a.row.imsi first.1)

-- ---- a challenge

module _ (rows : List Row) (devices : List Device) (place sub : ℕ) (device card : Device) (rand autn : List ℕ) (answer : Answer)
    (are : AreSubscribers rows) (there : slice_get devices place ≡ Some device) (found : device_place rows (map subscription_of devices) sub ≡ Some place)
    (same : subscription_of card ≡ subscription_of device)
    (answers : (past : Past) → Remembers device.usim.array past → IsAnswer device.usim.secret device.usim.array.bits device.usim.array.age past rand autn answer)
    (past : (past : Past) → Remembers device.usim.array past → Remembers card.usim.array (past_after_answer device.usim.array.bits past answer))
    (bits : card.usim.array.bits ≡ device.usim.array.bits) (age : card.usim.array.age ≡ device.usim.array.age) where
  alike : map subscription_of (slice_set devices place card) ≡ map subscription_of devices
  alike = map_same subscription_of devices place device card there same

  other_at : (other : ℕ) → other ≢ sub → (q : Option ℕ) → device_place rows (map subscription_of devices) other ≡ q → usim_at (slice_set devices place card) q ≡ usim_at devices q
  other_at other differ None is = refl
  other_at other differ (Some q) is = ap memory_of (get_other devices place q card (λ (at' : q ≡ place). places_differ rows (map subscription_of devices) sub other place are found differ (is ∙ ap (λ (n : ℕ). Some n) at')))

  pub challenged : Challenges (λ i. usim_at devices (device_place rows (map subscription_of devices) i)) sub rand autn answer
      (λ i. usim_at (slice_set devices place card) (device_place rows (map subscription_of (slice_set devices place card)) i))
  challenged = record {
    before = device.usim;
    there = ap (usim_at devices) found ∙ ap memory_of there;
    after = card.usim;
    here = ap (λ (subs : List Subscription). usim_at (slice_set devices place card) (device_place rows subs sub)) alike ∙ ap (usim_at (slice_set devices place card)) found
        ∙ ap memory_of (get_here devices place device card there);
    others = λ other differ. ap (λ (subs : List Subscription). usim_at (slice_set devices place card) (device_place rows subs other)) alike
        ∙ other_at other differ (device_place rows (map subscription_of devices) other) refl;
    answers = answers;
    past = past;
    secret = ap (λ (s : Subscription). s.secret) same;
    bits = bits;
    age = age;
  }
