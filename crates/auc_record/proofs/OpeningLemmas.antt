-- The words at which the next round opens the subscribers.
use Rattle.std.proofs.Common.{◌≡◌, ℕ, zero, suc, ◌+◌, ◌<◌, ◌≤◌, min, List, [], ◌∷◌, ◌++◌, drop, length, get_or, Some, slice_get, refl, sym, ◌∙◌, ap, append_assoc, append-nil, arith}
use Rattle.std.proofs.Math.Seq.{drop-cons}
use Rattle.std.proofs.lemmas.List.{drop_all}
use Rattle.std.proofs.lemmas.Option.{get_or_from_slice_get, slice_get_within}
use Rattle.auc_sqn.specs.Number.{top_of}
use Rattle.auc_subs.proofs.Facts.{length-tops_of}
use Rattle.auc_subs.specs.Subscriber.{top_at, tops_of}
use Rattle.auc_subs.specs.declared.row.Row.{Row}
use Rattle.auc_record.specs.Openings.{lesser, reopened}

-- the lesser ones of two lists are as many as the first list has
pub length-lesser : (numbers others : List ℕ) → length (lesser numbers others) ≡ length numbers
length-lesser [] others = refl
length-lesser (n ∷ numbers) [] = ap suc (length-lesser numbers [])
length-lesser (n ∷ numbers) (m ∷ others) = ap suc (length-lesser numbers others)

-- each is the lesser of the two at its place, if both are there
pub get_or-lesser : (numbers others : List ℕ) (i : ℕ) → i < length numbers → i < length others → get_or (lesser numbers others) i 0 ≡ min (get_or numbers i 0) (get_or others i 0)
get_or-lesser [] others i inside also = absurd (omega arith)
get_or-lesser (n ∷ numbers) [] i inside also = absurd (omega arith)
get_or-lesser (n ∷ numbers) (m ∷ others) zero inside also = refl
get_or-lesser (n ∷ numbers) (m ∷ others) (suc i) inside also = get_or-lesser numbers others i (omega arith) (omega arith)

-- none is above the one of the first list
pub lesser_within : (numbers others : List ℕ) (i : ℕ) → get_or (lesser numbers others) i 0 ≤ get_or numbers i 0
lesser_within [] others i = omega arith
lesser_within (n ∷ numbers) [] zero = omega arith
lesser_within (n ∷ numbers) [] (suc i) = lesser_within numbers [] i
lesser_within (n ∷ numbers) (m ∷ others) zero = omega arith
lesser_within (n ∷ numbers) (m ∷ others) (suc i) = lesser_within numbers others i

-- the next round opens each subscriber at a word
pub length-reopened : (rows : List Row) (words : List ℕ) → length (reopened rows words) ≡ length rows
length-reopened rows words = length-lesser (tops_of rows) words ∙ length-tops_of rows

-- at most at the greatest number
pub reopened_within : (rows : List Row) (words : List ℕ) (sub : ℕ) → get_or (reopened rows words) sub 0 ≤ top_at rows sub
reopened_within rows words sub = lesser_within (tops_of rows) words sub

-- the word at which the next round opens a subscriber
pub get_or-reopened : (rows : List Row) (words : List ℕ) (sub : ℕ) → sub < length rows → sub < length words
    → get_or (reopened rows words) sub 0 ≡ min (top_at rows sub) (get_or words sub 0)
get_or-reopened rows words sub inside there = let tops = length-tops_of rows in get_or-lesser (tops_of rows) words sub (omega (arith, inside, tops)) there

-- the next subscriber is opened at its word
reopened_next : (rows : List Row) (words : List ℕ) (sub : ℕ) (row : Row) → slice_get rows sub ≡ Some row → sub < length words
    → reopened (drop sub rows) (drop sub words) ≡ min (top_of row.bits) (get_or words sub 0) ∷ reopened (drop (suc sub) rows) (drop (suc sub) words)
reopened_next rows words sub row there inside =
    ap (λ (ws : List ℕ). reopened (drop sub rows) ws) (drop-cons words sub 0 inside)
    ∙ ap (λ (rs : List Row). reopened rs (get_or words sub 0 ∷ drop (suc sub) words)) (drop-cons rows sub row (slice_get_within rows sub row there))
    ∙ ap (λ (r : Row). min (top_of r.bits) (get_or words sub 0) ∷ reopened (drop (suc sub) rows) (drop (suc sub) words)) (get_or_from_slice_get rows sub row row there)

-- some openings, and those of the subscribers behind them, are all openings; so it is with the next one
pub reopened_grows : (rows : List Row) (words openings : List ℕ) (sub : ℕ) (row : Row) → slice_get rows sub ≡ Some row → sub < length words
    → openings ++ reopened (drop sub rows) (drop sub words) ≡ reopened rows words
    → (openings ++ min (top_of row.bits) (get_or words sub 0) ∷ []) ++ reopened (drop (sub + 1) rows) (drop (sub + 1) words) ≡ reopened rows words
reopened_grows rows words openings sub row there inside all =
    let word = min (top_of row.bits) (get_or words sub 0) in
    let next : sub + 1 ≡ suc sub = omega arith in
    append_assoc openings (word ∷ []) (reopened (drop (sub + 1) rows) (drop (sub + 1) words))
    ∙ ap (λ (n : ℕ). openings ++ word ∷ reopened (drop n rows) (drop n words)) next
    ∙ ap (λ (rest : List ℕ). openings ++ rest) (sym (reopened_next rows words sub row there inside)) ∙ all

-- and behind the last there is none
pub reopened_last : (rows : List Row) (words openings : List ℕ) (n : ℕ) → length rows ≤ n → openings ++ reopened (drop n rows) (drop n words) ≡ reopened rows words → openings ≡ reopened rows words
reopened_last rows words openings n last all =
    sym (append-nil openings) ∙ ap (λ (rs : List Row). openings ++ reopened rs (drop n words)) (sym (drop_all n rows last)) ∙ all
