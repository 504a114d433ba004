-- The IMSI of a known subscriber determines the subscriber, for the lemmas on lines.
use Rattle.std.proofs.Common.{ℕ, zero, suc, ◌+◌, ◌/◌, ◌%◌, ◌<◌, ◌≤◌, ◌≡◌, ◌∙◌, refl, sym, List, [], ◌∷◌, ◌++◌, length, slice_index_or, ◌⊎◌, inl, inr, arith}
use Rattle.std.proofs.lemmas.Bool.{cases_order}
use Rattle.auc_memory.specs.Identity.{Identity, last_digits}
use Rattle.auc_memory.proofs.Facts.{digits_of_injective}
use Rattle.auc_print.specs.Text.{imsi_of}
use Rattle.auc_print.specs.OneText.{AreIdentities}
use Rattle.auc_print.proofs.SpacedLemmas.{IsWord, last_digits_word}

-- an identity has digits
some_digits : (count n : ℕ) → 0 < count → last_digits count n ≡ [] → ⊥
some_digits zero n some e = omega arith
some_digits (suc count) n some e = in_front (last_digits count (n / 10)) (48 + n % 10) e
  where
    in_front : (xs : List ℕ) (x : ℕ) → xs ++ x ∷ [] ≡ [] → ⊥
    in_front [] x e = cc
    in_front (y ∷ xs) x e = cc

-- past the last subscriber there is no IMSI
no_imsi : (identities : List Identity) (t : ℕ) → length identities ≤ t → imsi_of identities t ≡ []
no_imsi [] t above = refl
no_imsi (identity ∷ identities) zero above = absurd (omega arith)
no_imsi (identity ∷ identities) (suc t) above = no_imsi identities t (omega arith)

known_or_past : (t n : ℕ) → (t < n) ⊎ (n ≤ t)
known_or_past t n =
    elim (cases_order t n) [
      | inl equal ↦ inr (omega arith)
      | inr apart ↦ elim apart [
        | inl below ↦ inl below
        | inr above ↦ inr (omega arith)
      ]
    ]

-- a known subscriber and one with the same IMSI are the same
pub imsi_injective : (identities : List Identity) (s t : ℕ) → AreIdentities identities → s < length identities → imsi_of identities s ≡ imsi_of identities t → s ≡ t
imsi_injective identities s t are a e = by (known_or_past t (length identities))
  where
    none : Identity
    none = record { digits = 0; number = 0 }

    by : (t < length identities) ⊎ (length identities ≤ t) → s ≡ t
    by (inl b) =
        let same : slice_index_or identities s none ≡ slice_index_or identities t none
        = digits_of_injective _ _ (are.each s none a) (are.each t none b) e in
        elim (cases_order s t) [
          | inl equal ↦ equal
          | inr apart ↦ elim apart [
            | inl below ↦ absurd (are.differ s t none below b same)
            | inr above ↦ absurd (are.differ t s none above a (sym same))
          ]
        ]
    by (inr past) =
        let here : Identity = slice_index_or identities s none in
        let some = (are.each s none a).least in
        let enough : 0 < here.digits = omega (arith, some) in
        absurd (some_digits here.digits here.number enough (e ∙ no_imsi identities t past))

-- an IMSI is a word
pub imsi_word : (identities : List Identity) (s : ℕ) → IsWord (imsi_of identities s)
imsi_word identities s =
    let identity : Identity = slice_index_or identities s (record { digits = 0; number = 0 }) in last_digits_word identity.digits identity.number
