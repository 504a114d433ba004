-- For the input: numbers in a row, and identities that differ.
use Rattle.std.proofs.Common.{◌≡◌, ℕ, zero, suc, ◌+◌, ◌<◌, true, List, [], ◌∷◌, ◌++◌, map, Option, None, Some, refl, ap, subst, add-one, arith}
use Rattle.std.specs.List.{range_with_len}
use Rattle.std.proofs.lemmas.Bool.Decides.{nat_tests}
use Rattle.std.proofs.lemmas.List.FromFn.{get_or-map-range_with_len, length-map-range_with_len}
use Rattle.std.proofs.lemmas.List.Quantifiers.{position-Some}
use Rattle.auc_load.specs.Input.{row_at}
use Rattle.auc_subs.specs.declared.row.Row.{Row}
use Rattle.auc_subs.specs.Subscriber.{place_of, same_identity}

-- one number more
range_suc : (a n j : ℕ) → a + n ≡ j → range_with_len a (suc n) ≡ range_with_len a n ++ j ∷ []
range_suc a zero j e = let same : a ≡ j = omega (arith, e) in ap (λ k. k ∷ []) same
range_suc a (suc n) j e = ap (λ ks. a ∷ ks) (range_suc (a + 1) n j (omega (arith, e)))

pub range_more : (a n j : ℕ) → a + n ≡ j → range_with_len a (n + 1) ≡ range_with_len a n ++ j ∷ []
range_more a n j e = rw add-one (range_suc a n j e)

-- no earlier subscriber has the identity of the next one
is_other : (key : List ℕ) (i n : ℕ) → same_identity (row_at key i).imsi (row_at key n).imsi ≡ true → i ≡ n
is_other key i n same = grind (arith, nat_tests)

pub place_is_new : (key : List ℕ) (n : ℕ) → place_of (map (row_at key) (range_with_len 0 n)) (row_at key n).imsi ≡ None
place_is_new key n = cases (place_of (map (row_at key) (range_with_len 0 n)) (row_at key n).imsi) refl
  where
    cases : (found : Option ℕ) → place_of (map (row_at key) (range_with_len 0 n)) (row_at key n).imsi ≡ found → found ≡ None
    cases None e = refl
    cases (Some i) e =
        let found = position-Some (λ (row : Row). same_identity row.imsi (row_at key n).imsi) (map (row_at key) (range_with_len 0 n)) i (row_at key 0) e in
        let many = length-map-range_with_len (row_at key) 0 n in
        let within = found.0 in
        let less : i < n = omega (arith, within, many) in
        let row = get_or-map-range_with_len (row_at key) 0 n i i (row_at key 0) less (omega arith) in
        let same = subst (λ (row : Row). same_identity row.imsi (row_at key n).imsi ≡ true) row found.1 in
        let equal = is_other key i n same in
        absurd (omega (arith, equal, less))
