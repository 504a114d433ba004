-- The array against the past: an array that remembers a past gives its verdict.
use Rattle.std.proofs.Common.{◌≡◌, ℕ, zero, suc, ◌%◌, ◌<◌, ◌≤◌, ◌≢◌, ◌⊎◌, ◌==◌, ◌&&◌, ◌||◌, nat_le, max, Bool, true, false, if◌then◌else◌, List, [], ◌∷◌, length, get_or, slice_index, Option, slice_set, arith, ap, sym, ◌∙◌, subst, refl, inl, inr, Contains}
use Rattle.std.specs.List.{IsFirstMaxByKey}
use Rattle.std.proofs.lemmas.Bool.{leb-true, leb-false, cases_eq}
use Rattle.std.proofs.lemmas.Bool.Decides.{nat_tests}
use Rattle.std.proofs.lemmas.List.{get_or-set_same, get_or-set_other}
use Rattle.std.proofs.lemmas.List.Elements.{Contains-get_or, Contains-append_left, Contains-append_right, Contains-append_cases}
use Rattle.auc_sqn.specs.declared.verdict.Verdict.{Verdict}
use Rattle.auc_sqn.specs.declared.verdict.Verdict.TheVariants.{Fresh, Old, Far, Aged}
use Rattle.auc_sqn.specs.Number.{indices, most_bits}
use Rattle.auc_sqn.specs.Past.{ArrayValue, Past, zeros, numbers_to, opening_past, is_old, entry_of, greatest_of, verdict_of, past_after, IsHighest, Remembers}
use Rattle.auc_sqn.proofs.BitLemmas.{remainder_within}
use Rattle.auc_sqn.specs.Inner.{verdict_at, IsLastNumber}

-- an element of a list with a head is the head or one of the others
Contains-cases : {X : Type 0} (x y : X) (xs : List X) → Contains (x ∷ xs) y → (x ≡ y) ⊎ Contains xs y
Contains-cases x y xs (zero, k<n, at) = inl at
Contains-cases x y xs (suc k, k<n, at) = inr (k, omega arith, at)

-- the head is one
Contains-head : {X : Type 0} (x : X) (xs : List X) → Contains (x ∷ xs) x
Contains-head x xs = (zero, omega arith, refl)

-- and so is each of the others
Contains-later : {X : Type 0} (x y : X) (xs : List X) → Contains xs y → Contains (x ∷ xs) y
Contains-later x y xs (k, k<n, at) = (suc k, omega arith, at)

-- one step of the greatest SEQ with an IND
entry_here : (a i ind seq e : ℕ) → i ≡ ind → a ≡ seq → seq ≤ (if i == ind then max a e else e)
entry_here a i ind seq e = grind (arith, nat_tests)

entry_later : (a i ind seq e : ℕ) → seq ≤ e → seq ≤ (if i == ind then max a e else e)
entry_later a i ind seq e = grind (arith, nat_tests)

entry_below : (a i ind e m : ℕ) → (i ≡ ind → a ≤ m) → e ≤ m → (if i == ind then max a e else e) ≤ m
entry_below a i ind e m = grind (arith, nat_tests)

-- no SEQ of an IND is greater than the greatest
entry_least : (ind seq : ℕ) (past : Past) → Contains past (seq, ind) → seq ≤ entry_of ind past
entry_least ind seq [] (k, k<n, at) = absurd (omega arith)
entry_least ind seq (pair ∷ past) in_past =
    elim (Contains-cases pair (seq, ind) past in_past) [
      | inl here ↦ entry_here pair.0 pair.1 ind seq (entry_of ind past) (ap (λ (p : ℕ × ℕ). p.1) here) (ap (λ (p : ℕ × ℕ). p.0) here)
      | inr later ↦ entry_later pair.0 pair.1 ind seq (entry_of ind past) (entry_least ind seq past later)
    ]

-- the greatest is no greater than what no SEQ of the IND exceeds
entry_most : (ind m : ℕ) (past : Past) → ((seq : ℕ) → Contains past (seq, ind) → seq ≤ m) → entry_of ind past ≤ m
entry_most ind m [] below = omega arith
entry_most ind m (pair ∷ past) below =
    entry_below pair.0 pair.1 ind (entry_of ind past) m
    (λ same. below pair.0 (subst (λ (i : ℕ). Contains (pair ∷ past) (pair.0, i)) same (Contains-head pair past)))
    (entry_most ind m past (λ seq in_past. below seq (Contains-later pair (seq, ind) past in_past)))

-- no SEQ is greater than the greatest
greatest_least : (ind seq : ℕ) (past : Past) → Contains past (seq, ind) → seq ≤ greatest_of past
greatest_least ind seq [] (k, k<n, at) = absurd (omega arith)
greatest_least ind seq (pair ∷ past) in_past =
    elim (Contains-cases pair (seq, ind) past in_past) [
      | inl here ↦ let same : pair.0 ≡ seq = ap (λ (p : ℕ × ℕ). p.0) here in omega arith
      | inr later ↦ let rest = greatest_least ind seq past later in omega arith
    ]

-- the greatest is no greater than what no SEQ exceeds
greatest_most : (m : ℕ) (past : Past) → ((seq ind : ℕ) → Contains past (seq, ind) → seq ≤ m) → greatest_of past ≤ m
greatest_most m [] below = omega arith
greatest_most m (pair ∷ past) below =
    let first = below pair.0 pair.1 (Contains-head pair past) in
    let rest = greatest_most m past (λ seq ind in_past. below seq ind (Contains-later pair (seq, ind) past in_past)) in
    omega arith

-- one step of the test for a SEQ that is as great
old_here : (a i ind seq : ℕ) (b : Bool) → i ≡ ind → seq ≤ a → ((i == ind) && nat_le seq a || b) ≡ true
old_here a i ind seq b = grind (arith, nat_tests)

old_later : (a i ind seq : ℕ) (b : Bool) → b ≡ true → ((i == ind) && nat_le seq a || b) ≡ true
old_later a i ind seq b = grind (arith, nat_tests)

old_nowhere : (a i ind seq : ℕ) (b : Bool) → (i ≡ ind → a < seq) → b ≡ false → ((i == ind) && nat_le seq a || b) ≡ false
old_nowhere a i ind seq b = grind (arith, nat_tests)

-- a SEQ is old if one as great has its IND
old_if : (seq ind other : ℕ) (past : Past) → Contains past (other, ind) → seq ≤ other → is_old past seq ind ≡ true
old_if seq ind other [] (k, k<n, at) low = absurd (omega arith)
old_if seq ind other (pair ∷ past) in_past low =
    elim (Contains-cases pair (other, ind) past in_past) [
      | inl here ↦ let same : pair.0 ≡ other = ap (λ (p : ℕ × ℕ). p.0) here in
          old_here pair.0 pair.1 ind seq (is_old past seq ind) (ap (λ (p : ℕ × ℕ). p.1) here) (omega arith)
      | inr later ↦ old_later pair.0 pair.1 ind seq (is_old past seq ind) (old_if seq ind other past later low)
    ]

-- and is not if there is none
not_old_if : (seq ind : ℕ) (past : Past) → ((other : ℕ) → Contains past (other, ind) → other < seq) → is_old past seq ind ≡ false
not_old_if seq ind [] below = refl
not_old_if seq ind (pair ∷ past) below =
    old_nowhere pair.0 pair.1 ind seq (is_old past seq ind)
    (λ same. below pair.0 (subst (λ (i : ℕ). Contains (pair ∷ past) (pair.0, i)) same (Contains-head pair past)))
    (not_old_if seq ind past (λ other in_past. below other (Contains-later pair (other, ind) past in_past)))

-- the index of the greatest entry, and of the first of these
greatest_entry : (entries : List ℕ) (many top ind : ℕ) → IsFirstMaxByKey (λ (entry : ℕ). entry) entries many top → ind < many
    → slice_index entries ind ≤ slice_index entries top
greatest_entry entries many top ind first inside = first.1 ind 0 inside

-- an array that remembers a past gives its verdict
pub verdict_at-remembered : (array : ArrayValue) (past : Past) (seq ind top : ℕ) → Remembers array past
    → IsFirstMaxByKey (λ (entry : ℕ). entry) array.entries (indices array.bits) top → ind < indices array.bits
    → verdict_at array.age (slice_index array.entries ind) (slice_index array.entries top) seq ≡ verdict_of array.age past seq ind
verdict_at-remembered array past seq ind top remembers first inside =
    let entry = slice_index array.entries ind in
    let greatest = slice_index array.entries top in
    let entry_is : entry_of ind past ≡ entry =
    (let least = entry_least ind entry past (remembers.there ind inside) in
    let most = entry_most ind entry past (λ s in_past. (remembers.above s ind in_past).1) in omega arith) in
    let greatest_is : greatest_of past ≡ greatest =
    (let least = greatest_least top greatest past (remembers.there top first.0) in
    let most = greatest_most greatest past (λ s i in_past. let (i_inside, low) = remembers.above s i in_past in
    let high = greatest_entry array.entries (indices array.bits) top i first i_inside in omega arith) in omega arith) in
    let old_is : is_old past seq ind ≡ nat_le seq entry = is_old_at (nat_le seq entry) past seq ind entry
    (remembers.there ind inside) (λ s in_past. (remembers.above s ind in_past).1) refl in
    rw (entry_is, greatest_is, old_is) refl
  where
    is_old_at : (b : Bool) (past : Past) (seq ind entry : ℕ) → Contains past (entry, ind) → ((s : ℕ) → Contains past (s, ind) → s ≤ entry)
        → nat_le seq entry ≡ b → is_old past seq ind ≡ b
    is_old_at true past seq ind entry there above is = old_if seq ind entry past there (leb-true seq entry is)
    is_old_at false past seq ind entry there above is = let high = leb-false seq entry is in
        not_old_if seq ind past (λ s in_past. let low = above s in_past in omega arith)

-- an array with another entry
abbrev pub with_entry : ArrayValue → ℕ → ℕ → ArrayValue
with_entry array ind seq = record { bits = array.bits; age = array.age; entries = slice_set array.entries ind seq }

-- an array that accepts a fresh SEQ remembers it
pub Remembers-fresh : (array : ArrayValue) (past : Past) (seq ind : ℕ) → indices array.bits ≤ length array.entries → Remembers array past → ind < indices array.bits
    → slice_index array.entries ind < seq → Remembers (with_entry array ind seq) ((seq, ind) ∷ past)
Remembers-fresh array past seq ind size remembers inside up =
    let entries = array.entries in
    let set_here : slice_index (slice_set entries ind seq) ind ≡ seq = get_or-set_same entries ind seq 0 (omega arith) in
    record {
      there = λ i i_inside. elim (cases_eq i ind) [
        | inl same ↦ subst (λ (s : ℕ). Contains ((seq, ind) ∷ past) (s, i)) (sym (ap (slice_index (slice_set entries ind seq)) same ∙ set_here))
            (subst (λ (j : ℕ). Contains ((seq, ind) ∷ past) (seq, j)) (sym same) (Contains-head (seq, ind) past))
        | inr other ↦ subst (λ (s : ℕ). Contains ((seq, ind) ∷ past) (s, i)) (sym (get_or-set_other entries ind i seq 0 other))
            (Contains-later (seq, ind) (slice_index entries i, i) past (remembers.there i i_inside))
      ];
      above = λ s i in_past. elim (Contains-cases (seq, ind) (s, i) past in_past) [
        | inl here ↦ let same_seq : seq ≡ s = ap (λ (p : ℕ × ℕ). p.0) here in let same_ind : ind ≡ i = ap (λ (p : ℕ × ℕ). p.1) here in
            let at_i : slice_index (slice_set entries ind seq) i ≡ seq = ap (slice_index (slice_set entries ind seq)) (sym same_ind) ∙ set_here in
            (subst (λ (j : ℕ). j < indices array.bits) same_ind inside, omega arith)
        | inr later ↦ let (i_inside, low) = remembers.above s i later in (
          i_inside,
          elim (cases_eq i ind) [
            | inl same ↦ let at_i : slice_index (slice_set entries ind seq) i ≡ seq = ap (slice_index (slice_set entries ind seq)) same ∙ set_here in
                let at_old : slice_index entries i ≡ slice_index entries ind = ap (slice_index entries) same in omega arith
            | inr other ↦ let at_i = get_or-set_other entries ind i seq 0 other in omega (arith, at_i, low)
          ],
        )
      ];
    }

-- no lesser index has an entry as great as the first of the greatest
no_lesser : (i top entry greatest seq : ℕ) → (i < top → entry < greatest) → seq ≤ entry → seq ≡ greatest → top ≤ i
no_lesser i top entry greatest seq = grind arith

-- the first of the greatest entries is SQN_MS
pub IsHighest-remembered : (array : ArrayValue) (past : Past) (top : ℕ) → Remembers array past
    → IsFirstMaxByKey (λ (entry : ℕ). entry) array.entries (indices array.bits) top → IsHighest past (slice_index array.entries top) top
IsHighest-remembered array past top remembers first = record {
  accepted = remembers.there top first.0;
  greatest = λ k d k<n.
      let pair = get_or past k d in
      let (inside, low) = remembers.above pair.0 pair.1 (Contains-get_or past k d k<n) in
      let high = greatest_entry array.entries (indices array.bits) top pair.1 first inside in omega arith;
  least = λ k d k<n same.
      let pair = get_or past k d in
      let (inside, low) = remembers.above pair.0 pair.1 (Contains-get_or past k d k<n) in
      no_lesser pair.1 top (slice_index array.entries pair.1) (slice_index array.entries top) pair.0 (first.2 pair.1 0) low same;
}

-- the last number with a remainder is a number of the past, or SEQ 0
unfolding_numbers : (bits v m : ℕ) → 0 < m → m ≤ v → Contains (numbers_to bits v) (m, m % indices bits)
unfolding numbers_to
unfolding_numbers bits zero m some within = absurd (omega arith)
unfolding_numbers bits (suc v) m some within =
    elim (cases_eq m (suc v)) [
      | inl same ↦ subst (λ (n : ℕ). Contains ((suc v, suc v % indices bits) ∷ numbers_to bits v) (n, n % indices bits)) (sym same) (Contains-head (suc v, suc v % indices bits) (numbers_to bits v))
      | inr other ↦ Contains-later (suc v, suc v % indices bits) (m, m % indices bits) (numbers_to bits v) (unfolding_numbers bits v m some (let ne : m ≢ suc v = other in omega arith))
    ]

-- each number of the past is at most the opening, with its remainder
numbers_are : (bits v seq ind : ℕ) → Contains (numbers_to bits v) (seq, ind) → (seq ≤ v) × (ind ≡ seq % indices bits)
unfolding numbers_to
numbers_are bits zero seq ind (k, k<n, at) = absurd (omega arith)
numbers_are bits (suc v) seq ind in_past =
    elim (Contains-cases (suc v, suc v % indices bits) (seq, ind) (numbers_to bits v) in_past) [
      | inl here ↦ let same : suc v ≡ seq = ap (λ (p : ℕ × ℕ). p.0) here in let rest : suc v % indices bits ≡ ind = ap (λ (p : ℕ × ℕ). p.1) here in
          (omega arith, sym rest ∙ ap (λ (n : ℕ). n % indices bits) same)
      | inr later ↦ let (within, rest) = numbers_are bits v seq ind later in (omega arith, rest)
    ]

-- SEQ 0 stands with each IND below the bound
zeros_have : (bound ind : ℕ) → ind < bound → Contains (zeros bound) (0, ind)
unfolding zeros
zeros_have zero ind below = absurd (omega arith)
zeros_have (suc bound) ind below =
    elim (cases_eq ind bound) [
      | inl same ↦ subst (λ (i : ℕ). Contains ((0, bound) ∷ zeros bound) (0, i)) (sym same) (Contains-head (0, bound) (zeros bound))
      | inr other ↦ Contains-later (0, bound) (0, ind) (zeros bound) (zeros_have bound ind (let ne : ind ≢ bound = other in omega arith))
    ]

-- and nothing else does
zeros_are : (bound seq ind : ℕ) → Contains (zeros bound) (seq, ind) → (seq ≡ 0) × (ind < bound)
unfolding zeros
zeros_are zero seq ind (k, k<n, at) = absurd (omega arith)
zeros_are (suc bound) seq ind in_past =
    elim (Contains-cases (0, bound) (seq, ind) (zeros bound) in_past) [
      | inl here ↦ let same : 0 ≡ seq = ap (λ (p : ℕ × ℕ). p.0) here in let rest : bound ≡ ind = ap (λ (p : ℕ × ℕ). p.1) here in (sym same, omega arith)
      | inr later ↦ let (none, below) = zeros_are bound seq ind later in (none, omega arith)
    ]

-- an entry that is the last number with its remainder was accepted
last_is_there : (bits v ind number : ℕ) → ind < indices bits → IsLastNumber bits v ind number → Contains (opening_past bits v) (number, ind)
unfolding opening_past
last_is_there bits v ind zero below last = Contains-append_right (numbers_to bits v) (zeros (indices bits)) (0, ind) (zeros_have (indices bits) ind below)
last_is_there bits v ind (suc n) below last =
    let within = last.within in
    Contains-append_left (numbers_to bits v) (zeros (indices bits)) (suc n, ind)
    (subst (λ (i : ℕ). Contains (numbers_to bits v) (suc n, i)) (last.remainder (omega arith)) (unfolding_numbers bits v (suc n) (omega arith) within))

-- an array of the last numbers remembers the past of an opening
pub Remembers-opening : (array : ArrayValue) (v : ℕ) → array.bits ≤ most_bits → ((k : ℕ) → k < indices array.bits → IsLastNumber array.bits v k (slice_index array.entries k))
    → Remembers array (opening_past array.bits v)
unfolding opening_past
Remembers-opening array v few last = record {
  there = λ ind inside. last_is_there array.bits v ind (slice_index array.entries ind) inside (last ind inside);
  above = λ seq ind in_past. elim (Contains-append_cases (numbers_to array.bits v) (zeros (indices array.bits)) (seq, ind) in_past) [
    | inl number ↦ let (within, rest) = numbers_are array.bits v seq ind number in
        let below : ind < indices array.bits = subst (λ (i : ℕ). i < indices array.bits) (sym rest) (remainder_within array.bits seq few) in (below, (last ind below).last seq within (sym rest))
    | inr zero_seq ↦ let (none, below) = zeros_are (indices array.bits) seq ind zero_seq in (below, omega arith)
  ];
}

-- the verdict by the entries, with whichever index has the greatest
abbrev pub Judges : ArrayValue → ℕ → ℕ → Verdict → Type 0
Judges array seq ind verdict = (top : ℕ) × IsFirstMaxByKey (λ (entry : ℕ). entry) array.entries (indices array.bits) top
    × (verdict ≡ verdict_at array.age (slice_index array.entries ind) (slice_index array.entries top) seq)

-- the verdict by the entries is the verdict by the past
pub judged : (array : ArrayValue) (past : Past) (s i seq ind : ℕ) (verdict : Verdict) → Judges array s i verdict → i < indices array.bits → s ≡ seq → i ≡ ind
    → Remembers array past → verdict ≡ verdict_of array.age past seq ind
judged array past s i seq ind verdict (top, first, is) inside same_seq same_ind remembers =
    rw (← same_seq, ← same_ind) (is ∙ verdict_at-remembered array past s i top remembers first inside)

-- a fresh SEQ is above its entry
fresh_is_above : (age : Option ℕ) (entry greatest seq : ℕ) → verdict_at age entry greatest seq ≡ Fresh → entry < seq
fresh_is_above age entry greatest seq = fresh_at (nat_le seq entry) age entry greatest seq refl
  where
    fresh_at : (b : Bool) (age : Option ℕ) (entry greatest seq : ℕ) → nat_le seq entry ≡ b → verdict_at age entry greatest seq ≡ Fresh → entry < seq
    fresh_at true age entry greatest seq is fresh = absurd (let no : Old entry ≡ Fresh = rw is at fresh in let never : ⊥ = cc in never)
    fresh_at false age entry greatest seq is fresh = leb-false seq entry is

-- an array that accepts remembers what it accepted
pub accepted : (array : ArrayValue) (past : Past) (s i seq ind : ℕ) (verdict : Verdict) → Judges array s i verdict → i < indices array.bits
    → indices array.bits ≤ length array.entries → s ≡ seq → i ≡ ind → verdict ≡ Fresh → Remembers array past → Remembers (with_entry array i s) (past_after past seq ind verdict)
accepted array past s i seq ind verdict (top, first, is) inside size same_seq same_ind fresh remembers =
    let up = fresh_is_above array.age (slice_index array.entries i) (slice_index array.entries top) s (sym is ∙ fresh) in
    rw (← same_seq, ← same_ind, fresh) (Remembers-fresh array past s i size remembers inside up)

-- an array that refuses remembers what it did
pub refused : (array : ArrayValue) (past : Past) (seq ind : ℕ) (verdict : Verdict) → (verdict ≡ Fresh → ⊥)
    → Remembers array past → Remembers array (past_after past seq ind verdict)
refused array past seq ind Fresh other remembers = absurd (other refl)
refused array past seq ind (Old entry) other remembers = remembers
refused array past seq ind (Far greatest) other remembers = remembers
refused array past seq ind (Aged greatest) other remembers = remembers
