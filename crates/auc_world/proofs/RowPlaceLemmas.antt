-- The devices of two subscribers are at two places.
use Rattle.std.proofs.Common.{◌≡◌, ◌≢◌, ℕ, nat_lt, Bool, true, false, List, [], get_or, Option, Some, None, refl, sym, ap, ◌∙◌, arith}
use Rattle.std.specs.Prelude.{position, slice_get}
use Rattle.std.proofs.lemmas.Bool.Decides.{nat_tests}
use Rattle.std.proofs.lemmas.List.Quantifiers.{position-Some}
use Rattle.std.proofs.lemmas.Option.{get_or_from_slice_get, slice_get_within}
use Rattle.auc_memory.specs.Identity.{Identity}
use Rattle.auc_peer.specs.Subscription.{Subscription}
use Rattle.auc_subs.specs.Subscriber.{AreSubscribers, same_identity}
use Rattle.auc_subs.specs.declared.row.Row.{Row}
use Rattle.auc_world.specs.Net.{device_place, place_with}

same_is : (a b : Identity) → same_identity a b ≡ true → a ≡ b
same_is a b same =
    let digits : a.digits ≡ b.digits = grind (arith, nat_tests) in
    let number : a.number ≡ b.number = grind (arith, nat_tests) in
    λ j. record { digits = digits j; number = number j }

rows_differ : (rows : List Row) (i j : ℕ) (a b : Row) → AreSubscribers rows → slice_get rows i ≡ Some a → slice_get rows j ≡ Some b → i ≢ j → a.imsi ≢ b.imsi
rows_differ rows i j a b are here there other = by (nat_lt i j) refl
  where
    at_i : get_or rows i a ≡ a
    at_i = get_or_from_slice_get rows i a a here

    at_j : get_or rows j a ≡ b
    at_j = get_or_from_slice_get rows j b a there

    by : (less : Bool) → nat_lt i j ≡ less → a.imsi ≢ b.imsi
    by true is same = are.differ i j a (grind (arith, nat_tests)) (slice_get_within rows j b there) (ap (λ (r : Row). r.imsi) at_i ∙ same ∙ ap (λ (r : Row). r.imsi) (sym at_j))
    by false is same = are.differ j i a (grind (arith, nat_tests, other)) (slice_get_within rows i a here) (ap (λ (r : Row). r.imsi) at_j ∙ sym same ∙ ap (λ (r : Row). r.imsi) (sym at_i))

-- the row of a subscriber whose device is at a place
pub record HasRow (rows : List Row) (devices : List Subscription) (sub place : ℕ) : Type 0 where
  pub row : Row
  pub there : slice_get rows sub ≡ Some row
  pub first : position (λ (device : Subscription). same_identity device.imsi row.imsi) devices ≡ Some place

has_row : (rows : List Row) (devices : List Subscription) (sub place : ℕ) → device_place rows devices sub ≡ Some place → HasRow rows devices sub place
has_row rows devices sub place found = by (slice_get rows sub) refl found
  where
    by : (r : Option Row) → slice_get rows sub ≡ r → place_with devices r ≡ Some place → HasRow rows devices sub place
    by None is none = absurd cc
    by (Some row) is some = record { row = row; there = is; first = some }

-- the devices of two subscribers are at two places
pub places_differ : (rows : List Row) (devices : List Subscription) (sub other place : ℕ) → AreSubscribers rows → device_place rows devices sub ≡ Some place → other ≢ sub
    → device_place rows devices other ≡ Some place → ⊥
places_differ rows devices sub other place are found differ found_too =
    let a = has_row rows devices sub place found in
    let b = has_row rows devices other place found_too in
    let d : Subscription = record { imsi = a.row.imsi; realm = []; secret = a.row.secret } in
    let first = position-Some (λ (device : Subscription). same_identity device.imsi a.row.imsi) devices place d a.first in
    let second = position-Some (λ (device : Subscription). same_identity device.imsi b.row.imsi) devices place d b.first in
    rows_differ rows other sub b.row a.row are b.there a.there differ
    (sym (same_is (get_or devices place d).imsi b.row.imsi second.1) ∙ same_is (get_or devices place d).imsi a.row.imsi first.1)
