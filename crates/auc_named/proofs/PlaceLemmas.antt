-- Places that rise, each of some subscriber: which subscribers have one, and the words of all after those at places became others.
use Rattle.std.proofs.Common.{◌≡◌, ℕ, zero, suc, ◌<◌, ◌==◌, ◌≢◌, ◌⊎◌, false, List, [], ◌∷◌, length, All, AllPairs, slice_index, slice_set, refl, sym, ap, ◌∙◌, inl, inr, ⊎_elim, arith, length-set, eq-eqb, ne_eqb}
use Rattle.std.proofs.lemmas.Bool.{cases_eq, cases_order}
use Rattle.std.proofs.lemmas.List.{get_or-set_other, get_or-set_same}
use Rattle.std.proofs.lemmas.List.Elements.{All-cons, All-head, All-nil, All-tail, All-weaker}
use Rattle.auc_history.proofs.Facts.{AllPairs-head, AllPairs-tail}
use Rattle.auc_named.specs.Named.{put_words}

-- ---- who has a place

-- no place is a subscriber's
abbrev pub IsUnnamed : List ℕ → ℕ → Type 0
IsUnnamed places sub = All (λ place. place ≢ sub) places

-- some place is
abbrev pub HasPlace : List ℕ → ℕ → Type 0
HasPlace places sub = (i : ℕ) × (i < length places) × (slice_index places i ≡ sub)

-- a subscriber has a place, or none is its
pub place_or_none : (places : List ℕ) (sub : ℕ) → HasPlace places sub ⊎ IsUnnamed places sub
place_or_none [] sub = inr (All-nil (λ (place : ℕ). place ≢ sub))
place_or_none (place ∷ places) sub =
    ⊎_elim
    (λ (is : place ≡ sub). inl (zero, omega arith, is))
    (λ (isnt : place ≢ sub). ⊎_elim
    (λ (later : HasPlace places sub). inl (suc later.0, omega (arith, later.1), later.2))
    (λ (none : IsUnnamed places sub). inr (All-cons (λ (p : ℕ). p ≢ sub) place places isnt none))
    (place_or_none places sub))
    (cases_eq place sub)

-- two places are equal just where their numbers are
pub same_place : (places : List ℕ) (a b : ℕ) → AllPairs ◌<◌ places → a < length places → b < length places → (slice_index places a == slice_index places b) ≡ (a == b)
same_place places a b rising in_a in_b =
    ⊎_elim
    (λ (same : a ≡ b). eq-eqb (slice_index places a) (slice_index places b) (ap (slice_index places) same) ∙ sym (eq-eqb a b same))
    (λ (apart : (a < b) ⊎ (b < a)). ⊎_elim
    (λ (less : a < b). let rises = rising a b 0 less in_b in
    ne_eqb (slice_index places a) (slice_index places b) (λ is. omega (arith, is, rises)) ∙ sym (ne_eqb a b (λ is. omega (arith, is, less))))
    (λ (more : b < a). let rises = rising b a 0 more in_a in
    ne_eqb (slice_index places a) (slice_index places b) (λ is. omega (arith, is, rises)) ∙ sym (ne_eqb a b (λ is. omega (arith, is, more))))
    apart)
    (cases_order a b)

-- no place is that of a subscriber without one
pub other_place : (places : List ℕ) (a sub : ℕ) → IsUnnamed places sub → a < length places → (slice_index places a == sub) ≡ false
other_place places a sub none inside = ne_eqb (slice_index places a) sub (none a 0 inside)

-- ---- the words of all

-- there are as many words as before
pub length-put_words : (words places own : List ℕ) → length (put_words words places own) ≡ length words
length-put_words words [] own = refl
length-put_words words (place ∷ places) [] = refl
length-put_words words (place ∷ places) (word ∷ own) = length-put_words (slice_set words place word) places own ∙ length-set words place word

-- a subscriber without a place keeps its word
pub put_elsewhere : (words places own : List ℕ) (sub : ℕ) → IsUnnamed places sub → slice_index (put_words words places own) sub ≡ slice_index words sub
put_elsewhere words [] own sub none = refl
put_elsewhere words (place ∷ places) [] sub none = refl
put_elsewhere words (place ∷ places) (word ∷ own) sub none =
    put_elsewhere (slice_set words place word) places own sub (All-tail (λ (p : ℕ). p ≢ sub) place places none)
    ∙ get_or-set_other words place sub word 0 (λ is. All-head (λ (p : ℕ). p ≢ sub) place places none (sym is))

-- the word of each other is the one at its place
pub put_at : (words places own : List ℕ) (sub : ℕ) → AllPairs ◌<◌ places → All (λ place. place < length words) places → length own ≡ length places → sub < length places
    → slice_index (put_words words places own) (slice_index places sub) ≡ slice_index own sub
put_at words [] own sub rising within size inside = absurd (omega arith)
put_at words (place ∷ places) [] sub rising within size inside = absurd (omega arith)
put_at words (place ∷ places) (word ∷ own) zero rising within size inside =
    put_elsewhere (slice_set words place word) places own place
    (All-weaker (λ (p : ℕ). place < p) (λ (p : ℕ). p ≢ place) (λ p above is. omega (arith, above, is)) places (AllPairs-head ◌<◌ place places rising))
    ∙ get_or-set_same words place word 0 (All-head (λ (p : ℕ). p < length words) place places within)
put_at words (place ∷ places) (word ∷ own) (suc sub) rising within size inside =
    let wide = length-set words place word in
    put_at (slice_set words place word) places own sub (AllPairs-tail ◌<◌ place places rising)
    (All-weaker (λ (p : ℕ). p < length words) (λ (p : ℕ). p < length (slice_set words place word)) (λ p is. omega (arith, is, wide)) places (All-tail (λ (p : ℕ). p < length words) place places within))
    (omega (arith, size)) (omega (arith, inside))
