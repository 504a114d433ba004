-- What stays true of the rows of subscribers, for `Subscribers`.
use Rattle.std.proofs.Common.{◌⊎◌, inl, inr, slice_get, ℕ, ◌≡◌, ◌≢◌, ◌<◌, ◌≤◌, true, false, List, ◌++◌, ◌∷◌, [], length, get_or, Some, None, is_some, arith}
use Rattle.std.specs.Prelude.{Ok, nat_le, refl}
use Rattle.std.specs.List.{All}
use Rattle.std.proofs.lemmas.Bool.Decides.{nat_tests}
use Rattle.std.proofs.lemmas.Grind.{common_steps}
use Rattle.std.proofs.lemmas.List.Sums.{fails_before_first}
use Rattle.std.proofs.lemmas.List.Quantifiers.{all_pairs_push, position-Some}
use Rattle.std.proofs.lemmas.Option.{slice_get_cases}
use Rattle.std.proofs.lemmas.List.Elements.{All-append}
use Rattle.auc_memory.specs.Identity.{Identity}
use Rattle.auc_subs.specs.declared.row.Row.{Row}
use Rattle.auc_subs.specs.Subscriber.{most_subscribers, HasIdentity, same_identity, place_of, rows_with, IsRow, AreSubscribers}

-- an identity is itself
same_identity_refl : (a : Identity) → same_identity a a ≡ true
same_identity_refl a = grind (arith, nat_tests)

-- where no row has an identity, each row's is another
others : (rows : List Row) (imsi : Identity) → is_some (place_of rows imsi) ≡ false
    → (k : ℕ) (d : Row) → k < length rows → same_identity (get_or rows k d).imsi imsi ≡ false
others rows imsi none k d within = fails_before_first (λ row. same_identity row.imsi imsi) rows k d (grind (arith, nat_tests))

-- two identities of which the test fails differ
differs : (a b : Identity) → same_identity a b ≡ false → a ≢ b
differs a b fails same = absurd (cc (same_identity_refl b))

-- one more row, of a new identity and where there is room
pub one_more : (rows : List Row) (row : Row) → AreSubscribers rows → IsRow row → is_some (place_of rows row.imsi) ≡ false
    → length rows < most_subscribers → AreSubscribers (rows ++ row ∷ [])
one_more rows row before is_row none room = record {
  limit = grind (arith, common_steps);
  differ = all_pairs_push (λ a b. a.imsi ≢ b.imsi) rows row before.differ (λ k d within. differs _ _ (others rows row.imsi none k d within));
  each = All-append IsRow rows (row ∷ []) before.each (λ k d within. search (arith));
}

-- a row of a new identity is put behind the last where there is room
pub rows_with_new : (rows : List Row) (row : Row) → is_some (place_of rows row.imsi) ≡ false → length rows < most_subscribers
    → rows_with rows row ≡ Ok (rows ++ row ∷ [])
rows_with_new rows row none room = let fits : nat_le most_subscribers (length rows) ≡ false = grind (arith, nat_tests) in rw (none, fits) refl

-- identities of one number of digits and one number are one
one_identity : (digits number d n : ℕ) → digits ≡ d → number ≡ n
    → (let a : Identity = record { digits = digits; number = number } in a) ≡ (let b : Identity = record { digits = d; number = n } in b)
one_identity digits number d n same_digits same_number = cc

-- two identities of which the test holds are one
same : (a b : Identity) → same_identity a b ≡ true → a ≡ b
same a b holds =
    let digits : a.digits ≡ b.digits = grind (arith, nat_tests) in
    let number : a.number ≡ b.number = grind (arith, nat_tests) in
    one_identity a.digits a.number b.digits b.number digits number

-- the row at the place that is found has the identity
pub found : (rows : List Row) (imsi : Identity) (sub : ℕ) → place_of rows imsi ≡ Some sub → sub < length rows → HasIdentity rows sub imsi
found rows imsi sub place within = from_row (slice_get_cases rows sub).1
  where
    at : (d : Row) → (sub < length rows) × (same_identity (get_or rows sub d).imsi imsi ≡ true)
        × ((k : ℕ) → k < sub → same_identity (get_or rows k d).imsi imsi ≡ false)
    at d = position-Some (λ row. same_identity row.imsi imsi) rows sub d place

    from_row : ((row : Row) × (sub < length rows) × (slice_get rows sub ≡ Some row) × (get_or rows sub row ≡ row))
        ⊎ ((length rows ≤ sub) × (slice_get rows sub ≡ None)) → HasIdentity rows sub imsi
    from_row (inl h) = (h.0, h.2, same _ _ (rw h.3 at (at h.0).1))
    from_row (inr h) = absurd (omega arith)

-- where none is found each row has another identity
pub not_found : (rows : List Row) (imsi : Identity) → place_of rows imsi ≡ None → All (λ row. row.imsi ≢ imsi) rows
not_found rows imsi none k d within = differs _ _ (others rows imsi (grind (arith, nat_tests)) k d within)
