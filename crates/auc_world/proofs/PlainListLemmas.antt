-- For plain sessions: the first place at which a test passes, and what stands last in a list.
use Rattle.std.proofs.Common.{◌≡◌, ℕ, ◌+◌, ◌<◌, Bool, true, false, List, [], ◌∷◌, ◌++◌, length, Some, None, slice_get, slice_set, get_or, suc, refl, ap, ◌∙◌, arith, cond, ltb}
use Rattle.std.specs.Prelude.{position}
use Rattle.std.proofs.lemmas.Bool.{lt-ltb}
use Rattle.std.proofs.lemmas.List.{get_or-set_other, get_or-set_same, get_or_push, length-set, length_push}
use Rattle.std.proofs.lemmas.List.Quantifiers.{position-Some}
use Rattle.std.proofs.lemmas.List.Sums.{position_or_len_is}
use Rattle.std.proofs.lemmas.Option.{get_or_from_slice_get, slice_get-get_or, slice_get_within}
use Rattle.auc_world.specs.Net.{packet_at}
use Rattle.auc_world.specs.declared.net.SentPacket.{SentPacket}

-- the first place at which a test passes
pub position_is : {X : Type 0} (p : X → Bool) (xs : List X) (i : ℕ) (x : X) → slice_get xs i ≡ Some x → p x ≡ true → ((k : ℕ) → k < i → p (get_or xs k x) ≡ false)
    → position p xs ≡ Some i
position_is p xs i x there passes before =
    let within = slice_get_within xs i x there in
    let first = position_or_len_is p xs i x (omega arith) before (λ h. ap p (get_or_from_slice_get xs i x x there) ∙ passes) in
    ap (λ (k : ℕ). cond (ltb k (length xs)) (Some k) None) first ∙ ap (λ (b : Bool). cond b (Some i) None) (lt-ltb i (length xs) within)

no_less : (i k : ℕ) → k < i → k ≡ i → ⊥
no_less i k lt e = omega (arith, lt, e)

pub set_there : {X : Type 0} (xs : List X) (i : ℕ) (y : X) → i < length xs → slice_get (slice_set xs i y) i ≡ Some y
set_there xs i y within =
    let long = length-set xs i y in slice_get-get_or (slice_set xs i y) i y (omega arith) ∙ ap Some (get_or-set_same xs i y y within)

-- it stays the first if what stands there is replaced by what passes too
pub position_stays : {X : Type 0} (p : X → Bool) (xs : List X) (i : ℕ) (y : X) → position p xs ≡ Some i → p y ≡ true → position p (slice_set xs i y) ≡ Some i
position_stays p xs i y at' passes =
    let first = position-Some p xs i y at' in
    position_is p (slice_set xs i y) i y (set_there xs i y first.0) passes (λ k lt. ap p (get_or-set_other xs i k y y (no_less i k lt)) ∙ first.2 k lt)

push_there : {X : Type 0} (xs : List X) (y : X) → slice_get (xs ++ y ∷ []) (length xs) ≡ Some y
push_there xs y =
    let long = length_push xs y in slice_get-get_or (xs ++ y ∷ []) (length xs) y (omega arith) ∙ ap Some (get_or_push xs y y (length xs) refl)

-- the packet that was sent last
pub last_packet : (packets : List SentPacket) (p : SentPacket) → packet_at (packets ++ p ∷ []) (length packets + 1) ≡ Some p
last_packet packets p =
    let next : length packets + 1 ≡ suc (length packets) = omega arith in ap (packet_at (packets ++ p ∷ [])) next ∙ push_there packets p
