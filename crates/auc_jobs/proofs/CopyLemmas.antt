-- For a job's own USIMs: which they are.
use Rattle.std.proofs.Common.{◌≡◌, ℕ, zero, suc, ◌<◌, true, false, Bool, List, [], ◌∷◌, length, drop, refl, sym, ◌∙◌, ap, arith}
use Rattle.std.proofs.lemmas.Bool.{eqb-true, or_left, or_right}
use Rattle.std.proofs.lemmas.List.Elements.{All-head, All-tail}
use Rattle.std.specs.Prelude.{◌==◌, ◌||◌, Option, Some, None, All, is_some, slice_get}
use Rattle.std.specs.List.{list_any}
use Rattle.auc_lines.specs.declared.part.Line.{Line}
use Rattle.auc_lines.specs.Part.{held_subs, holds, is_held_by}
use Rattle.auc_subs.specs.declared.row.Row.{Row}
use Rattle.auc_usim.specs.Usim.{Memory}
use Rattle.auc_cards.proofs.Facts.{helds_known, holds_held}
use Rattle.auc_jobs.specs.InnerUsims.{AreCopies, has_usim}
use Rattle.auc_jobs.specs.Serving.{IsKnownLine}
use Rattle.auc_jobs.proofs.LineLemmas.{some_at}

-- a job whose lines are known holds the USIMs of known subscribers
pub holds_known : (rows : List Row) (sub : ℕ) (job : List Line) → All (IsKnownLine rows) job → holds sub job ≡ true → sub < length rows
holds_known rows sub job known is = any_below (held_subs job) (helds_known rows job known) (holds_held sub job ∙ is)
  where
    any_below : (subs : List ℕ) → All (λ s. s < length rows) subs → list_any (λ s. s == sub) subs ≡ true → sub < length rows
    any_below [] all any = absurd (cc)
    any_below (s ∷ subs) all any = by (s == sub) refl any (any_below subs (All-tail (λ s. s < length rows) s subs all))
      where
        by : (b : Bool) → (s == sub) ≡ b → (b || list_any (λ s. s == sub) subs) ≡ true → (list_any (λ s. s == sub) subs ≡ true → sub < length rows) → sub < length rows
        by true e any more = let same = eqb-true s sub e in let here = All-head (λ s. s < length rows) s subs all in omega (arith, same, here)
        by false e any more = more any

-- a copy is the subscriber's USIM
pub copies_found : (usims : List Memory) (job : List Line) (own : ℕ → Option Memory) (sub : ℕ) (usim : Memory) → AreCopies usims job own → own sub ≡ Some usim
    → (holds sub job ≡ true) × (slice_get usims sub ≡ Some usim)
copies_found usims job own sub usim are there = step (holds sub job) refl
  where
    step : (b : Bool) → holds sub job ≡ b → (holds sub job ≡ true) × (slice_get usims sub ≡ Some usim)
    step true e = (e, sym (are sub ∙ rw e refl) ∙ there)
    step false e = absurd (nothing (sym (are sub ∙ rw e refl) ∙ there))
      where
        nothing : ◌≡◌ {A = Option Memory} None (Some usim) → ⊥
        nothing is = cc

-- there is one for each USIM that the job holds, and no other
pub copies_keyed : (rows : List Row) (usims : List Memory) (job : List Line) (own : ℕ → Option Memory) (sub : ℕ) → length usims ≡ length rows → All (IsKnownLine rows) job
    → AreCopies usims job own → has_usim own sub ≡ holds sub job
copies_keyed rows usims job own sub size known are = step (holds sub job) refl
  where
    step : (b : Bool) → holds sub job ≡ b → has_usim own sub ≡ holds sub job
    step true e =
        let inside = holds_known rows sub job known e in
        let there = some_at usims sub (omega (arith, inside, size)) in
        let is : own sub ≡ Some there.0 = are sub ∙ rw e there.1 in
        ap (λ (m : Option Memory). is_some m) is ∙ sym e
    step false e = let is : own sub ≡ None = are sub ∙ rw e refl in ap (λ (m : Option Memory). is_some m) is ∙ sym e

-- a line holds no USIM that its job doesn't
pub holds_in_drop : (sub i : ℕ) (job next : List Line) (l : Line) → drop i job ≡ l ∷ next → is_held_by sub l ≡ true → holds sub job ≡ true
holds_in_drop sub zero job next l cut held = ap (holds sub) cut ∙ or_left (is_held_by sub l) (holds sub next) held
holds_in_drop sub (suc i) [] next l cut held = absurd (cc)
holds_in_drop sub (suc i) (x ∷ job) next l cut held = or_right (is_held_by sub x) (holds sub job) (holds_in_drop sub i job next l cut held)
