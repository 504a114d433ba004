-- For the USIMs of the rows, each of which is opened at its row, and for what is kept beside them.
use Rattle.std.proofs.Common.{◌≡◌, ℕ, zero, suc, ◌+◌, ◌<◌, ◌⊎◌, List, [], ◌∷◌, ◌++◌, length, map, take, get_or, refl, sym, ◌∙◌, ap, subst, arith, inl, inr}
use Rattle.std.specs.Prelude.{Some, slice_get}
use Rattle.std.proofs.lemmas.List.{map-append, take_more}
use Rattle.auc_sqn.specs.Past.{Remembers, opening_past}
use Rattle.auc_subs.specs.declared.row.Row.{Row}
use Rattle.auc_usim.specs.Usim.{Memory}
use Rattle.auc_cards.specs.Stores.{Kept, fresh_kept}
use Rattle.auc_cards.specs.Usims.{AreFresh, AreOfRows, IsOfRow}
use Rattle.auc_cards.proofs.DeviceLemmas.{some_at}

-- ---- a list with one more element

-- an element of a list with one more is one of the list's, or the last
pub pushed_cases : {X : Type 0} (xs : List X) (x y : X) (k : ℕ) → slice_get (xs ++ x ∷ []) k ≡ Some y
    → (slice_get xs k ≡ Some y) ⊎ ((k ≡ length xs) × (x ≡ y))
pushed_cases [] x y zero there = inr (refl, cc)
pushed_cases [] x y (suc k) there = absurd (cc)
pushed_cases (z ∷ xs) x y zero there = inl there
pushed_cases (z ∷ xs) x y (suc k) there =
    elim (pushed_cases xs x y k there) [ inl old ↦ inl old | inr (at, is) ↦ inr (omega arith, is) ]

-- ---- the USIMs of the rows

-- the USIMs of the first rows, each opened at its row
pub record AreOpened (rows : List Row) (usims : List Memory) : Type 0 where
  pub opened : (k : ℕ) (row : Row) (usim : Memory) → slice_get rows k ≡ Some row → slice_get usims k ≡ Some usim
      → IsOfRow row usim × Remembers usim.array (opening_past row.bits row.usim)

pub opened_none : (rows : List Row) → AreOpened rows []
opened_none rows = record { opened = λ k row usim at there. absurd (cc) }

-- one more
pub opened_push : (rows : List Row) (usims : List Memory) (usim : Memory) (row : Row) → slice_get rows (length usims) ≡ Some row
    → IsOfRow row usim → Remembers usim.array (opening_past row.bits row.usim) → AreOpened rows usims → AreOpened rows (usims ++ usim ∷ [])
opened_push rows usims usim row here of past are = record { opened = λ k other found at there. step k other found at (pushed_cases usims usim found k there) }
  where
    some_is : (a b : Row) → Some a ≡ Some b → a ≡ b
    some_is a b e = cc

    step : (k : ℕ) (other : Row) (found : Memory) → slice_get rows k ≡ Some other → (slice_get usims k ≡ Some found) ⊎ ((k ≡ length usims) × (usim ≡ found))
        → IsOfRow other found × Remembers found.array (opening_past other.bits other.usim)
    step k other found at (inl old) = are.opened k other found at old
    step k other found at (inr (is, same)) =
        let one : row ≡ other = some_is row other (sym here ∙ subst (λ (i : ℕ). slice_get rows i ≡ Some other) is at) in
        subst (λ (m : Memory). IsOfRow other m × Remembers m.array (opening_past other.bits other.usim)) same
        (subst (λ (r : Row). IsOfRow r usim × Remembers usim.array (opening_past r.bits r.usim)) one (of, past))

pub opened_rows : (rows : List Row) (usims : List Memory) → length usims ≡ length rows → AreOpened rows usims → AreOfRows rows usims
opened_rows rows usims size are = record { sizes = size; secrets = λ sub row usim at there. (are.opened sub row usim at there).0 }

pub opened_behind : (rows : List Row) (usims : List Memory) → AreOpened rows usims → AreFresh rows usims
opened_behind rows usims are sub row usim at there = (are.opened sub row usim at there).1

-- ---- what is kept of the rows before the first round

-- nothing was given to one more
pub fresh_more : (rows : List Row) (n : ℕ) (old new : List Kept) (one : Kept) → n < length rows → old ≡ map (λ row. fresh_kept) (take n rows) → one ≡ fresh_kept
    → new ≡ old ++ one ∷ [] → new ≡ map (λ row. fresh_kept) (take (n + 1) rows)
fresh_more rows n old new one inside was fresh is =
    let (row, there) = some_at rows n inside in
    is ∙ ap (λ (k : Kept). old ++ k ∷ []) fresh ∙ ap (λ (ks : List Kept). ks ++ fresh_kept ∷ []) was
    ∙ sym (ap (map (λ (r : Row). fresh_kept)) (take_more rows n row inside) ∙ map-append (λ (r : Row). fresh_kept) (take n rows) (get_or rows n row ∷ []))
