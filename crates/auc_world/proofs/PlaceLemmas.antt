-- For `places`: the first device with an identity, by the places from one on.
use Rattle.std.proofs.Common.{◌≡◌, ℕ, suc, ◌+◌, ◌<◌, nat_lt, Bool, true, false, List, ◌∷◌, [], length, Option, Some, None, refl, sym, ap, ◌∙◌, map, drop, drop-cons, get_or, if◌then◌else◌, arith}
use Rattle.std.specs.List.{position_or_len}
use Rattle.auc_memory.specs.Identity.{Identity}
use Rattle.auc_peer.specs.Subscription.{Subscription, subscription_of}
use Rattle.auc_peer.specs.declared.device.Device.{Device}
use Rattle.auc_subs.specs.Subscriber.{same_identity}
use Rattle.auc_world.specs.InnerWorld.{device_with}

abbrev pub first_from : ℕ → List Subscription → Identity → Option ℕ
first_from base [] imsi = None
first_from base (device ∷ devices) imsi = if same_identity device.imsi imsi then Some base else first_from (suc base) devices imsi

-- the place, counted from a base
abbrev pub counted : ℕ → ℕ → ℕ → Option ℕ
counted base place count = if nat_lt place count then Some (base + place) else None

one_later : (base place count : ℕ) → counted (suc base) place count ≡ counted base (1 + place) (suc count)
one_later base place count = by (nat_lt place count) refl
  where
    by : (b : Bool) → nat_lt place count ≡ b → counted (suc base) place count ≡ counted base (1 + place) (suc count)
    by true is = rw is grind arith
    by false is = rw is grind arith

pub first_is_counted : (base : ℕ) (devices : List Subscription) (imsi : Identity)
    → first_from base devices imsi ≡ counted base (position_or_len (λ device. same_identity device.imsi imsi) devices) (length devices)
first_is_counted base [] imsi = refl
first_is_counted base (device ∷ devices) imsi = by (same_identity device.imsi imsi) refl (first_is_counted (suc base) devices imsi)
  where
    place : ℕ
    place = position_or_len (λ device. same_identity device.imsi imsi) devices

    by : (b : Bool) → same_identity device.imsi imsi ≡ b → first_from (suc base) devices imsi ≡ counted (suc base) place (length devices)
        → first_from base (device ∷ devices) imsi ≡ counted base (position_or_len (λ device. same_identity device.imsi imsi) (device ∷ devices)) (length (device ∷ devices))
    by true is later = rw is grind arith
    by false is later = rw is (later ∙ one_later base place (length devices))

counted_from_none : (place count : ℕ) → counted 0 place count ≡ (if nat_lt place count then Some place else None)
counted_from_none place count = ap (λ (n : ℕ). if nat_lt place count then Some n else None) (omega arith)

pub first_is : (devices : List Subscription) (imsi : Identity) → first_from 0 devices imsi ≡ device_with devices imsi
first_is devices imsi = first_is_counted 0 devices imsi ∙ counted_from_none (position_or_len (λ device. same_identity device.imsi imsi) devices) (length devices)

-- one device more, in front of those that stand behind it
pub one_before : (devices : List Device) (place : ℕ) (device : Device) (imsi : Identity) → place < length devices → device ≡ get_or devices place device
    → first_from place (map subscription_of (drop place devices)) imsi
    ≡ (if same_identity device.imsi imsi then Some place else first_from (suc place) (map subscription_of (drop (suc place) devices)) imsi)
one_before devices place device imsi within is =
    ap (λ (ds : List Device). first_from place (map subscription_of ds) imsi) (drop-cons devices place device within
    ∙ ap (λ (d : Device). d ∷ drop (suc place) devices) (sym is))
