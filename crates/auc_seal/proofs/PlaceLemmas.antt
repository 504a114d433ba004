-- For the place of the value of AT_MAC.
use Rattle.std.proofs.Common.{◌≡◌, ℕ, List, Some, None}
use Rattle.auc_attr.specs.Mac.{IsMacPlace}
use Rattle.auc_attr.proofs.Facts.{one_place, some_is}

-- two places that a packet's value has are one
pub same_place : (packet : List ℕ) (place other : ℕ) → IsMacPlace packet (Some place) → IsMacPlace packet (Some other) → place ≡ other
same_place packet place other p q = some_is place other (one_place packet (Some place) (Some other) p q)

none_or_some : (place : ℕ) → Some place ≡ None → ⊥
none_or_some place e = cc

-- a packet whose value has a place isn't without
pub no_place : (packet : List ℕ) (place : ℕ) → IsMacPlace packet (Some place) → IsMacPlace packet None → ⊥
no_place packet place p q = none_or_some place (one_place packet (Some place) None p q)
