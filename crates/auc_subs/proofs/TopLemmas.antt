-- The greatest numbers of subscribers.
use Rattle.std.proofs.Common.{ℕ, zero, suc, ◌≡◌, ◌≤◌, ◌+◌, List, [], ◌∷◌, ◌++◌, length, map, take, get_or, Some, arith, ap, sym, slice_get, ◌∙◌}
use Rattle.std.specs.Prelude.{All}
use Rattle.std.proofs.lemmas.List.{length-map, get_or-map, map_more}
use Rattle.std.proofs.lemmas.List.Elements.{All-map}
use Rattle.std.proofs.lemmas.Option.{get_or_from_slice_get, slice_get_within}
use Rattle.auc_sqn.specs.Number.{max_seq, top_of}
use Rattle.auc_subs.specs.declared.row.Row.{Row}
use Rattle.auc_subs.specs.Subscriber.{AreSubscribers, IsRow, top_at, tops_of}

-- there is one greatest number for each row
pub length-tops_of : (rows : List Row) → length (tops_of rows) ≡ length rows
length-tops_of rows = length-map rows (λ (row : Row). top_of row.bits)

-- the greatest number at a place is that of the row there
pub top_at-row : (rows : List Row) (sub : ℕ) (row : Row) → slice_get rows sub ≡ Some row → top_at rows sub ≡ top_of row.bits
top_at-row rows sub row here =
    get_or-map (λ (row : Row). top_of row.bits) rows sub row 0 (slice_get_within rows sub row here)
    ∙ ap (λ (row : Row). top_of row.bits) (get_or_from_slice_get rows sub row row here)

-- each greatest number is at most that of all
pub tops_within : (rows : List Row) → All (λ top. top ≤ max_seq) (tops_of rows)
tops_within rows = All-map (λ top. top ≤ max_seq) (λ (row : Row). top_of row.bits) rows (λ k d within. omega arith)

-- each row's number is at most its greatest
pub drawn_within : (rows : List Row) → AreSubscribers rows → (sub : ℕ) (row : Row) → slice_get rows sub ≡ Some row → row.seq ≤ top_at rows sub
drawn_within rows subscribers sub row here =
    let within = slice_get_within rows sub row here in
    let same : get_or rows sub row ≡ row = get_or_from_slice_get rows sub row row here in
    let is_row : IsRow row = rw same at (subscribers.each sub row within) in
    rw (top_at-row rows sub row here) is_row.drawn

-- so is the one at a place, and 0 past the last row
pub top_at-within : (rows : List Row) (sub : ℕ) → top_at rows sub ≤ max_seq
top_at-within [] sub = omega arith
top_at-within (row ∷ rows) zero = omega arith
top_at-within (row ∷ rows) (suc sub) = top_at-within rows sub

-- one greatest number more
pub tops_more : (rows : List Row) (sub : ℕ) (row : Row) (tops : List ℕ) → tops ≡ map (λ row. top_of row.bits) (take sub rows) → slice_get rows sub ≡ Some row
    → tops ++ top_of row.bits ∷ [] ≡ map (λ row. top_of row.bits) (take (sub + 1) rows)
tops_more rows sub row tops so_far here =
    let top : Row → ℕ = λ row. top_of row.bits in
    ap (λ (ts : List ℕ). ts ++ top row ∷ []) so_far
    ∙ sym (map_more top rows sub row (slice_get_within rows sub row here)
    ∙ ap (λ (r : Row). map top (take sub rows) ++ top r ∷ []) (get_or_from_slice_get rows sub row row here))
