-- AT_RAND among attributes, for the function that finds it.
use Rattle.std.proofs.Common.{ℕ, zero, suc, ◌-◌, ◌*◌, ◌<◌, ◌≤◌, ◌≡◌, ◌≢◌, ◌==◌, ◌∙◌, refl, ap, false, List, length, drop, slice_index, arith, le-ltb}
use Rattle.std.proofs.lemmas.Bool.Decides.{nat_tests}
use Rattle.auc_print.specs.AutsText.{rand_among}

-- numbers that differ are told apart
other_eqb : (m n : ℕ) → m ≢ n → (m == n) ≡ false
other_eqb m n other = grind (arith, nat_tests)

-- behind a first attribute that isn't AT_RAND the search goes on
pub rand_behind : (left : ℕ) (rest : List ℕ) → 0 < left → 20 ≤ length rest → slice_index rest 0 ≢ 1
    → rand_among (left - 1) (drop (4 * slice_index rest 1) rest) ≡ rand_among left rest
rand_behind zero rest some long is = absurd (omega arith)
rand_behind (suc left) rest some long is =
    let one : suc left - 1 ≡ left = omega arith in
    ap (λ n. rand_among n (drop (4 * slice_index rest 1) rest)) one
    ∙ rw (le-ltb (length rest) 20 long, other_eqb (slice_index rest 0) 1 is) refl
