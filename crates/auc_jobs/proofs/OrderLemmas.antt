-- For the jobs that all workers served: their order by the places of the jobs.
use Rattle.std.proofs.Common.{◌≡◌, ◌≢◌, ℕ, zero, suc, ◌+◌, ◌<◌, ◌≤◌, ◌==◌, Bool, true, false, cond, List, [], ◌∷◌, ◌++◌, map, All, AllPairs, IsPermutation, flat_map, arith, refl, sym, ap, ◌∙◌, subst, eq-eqb}
use Rattle.std.proofs.lemmas.Bool.{eqb-true}
use Rattle.std.proofs.lemmas.Grind.{flat_map-append}
use Rattle.std.proofs.lemmas.List.{append-nil, append_assoc, map-append}
use Rattle.std.proofs.lemmas.List.Elements.{All-append, All-cons, All-head, All-nil, All-tail}
use Rattle.std.proofs.lemmas.List.Sorted.{IsPermutation-refl, IsPermutation-trans, IsPermutation-append_left, IsPermutation-append_right, IsPermutation-append_comm}
use Rattle.auc_history.specs.declared.entry.Entry.{Entry}
use Rattle.auc_history.specs.Split.{times}
use Rattle.auc_history.proofs.Facts.{times-cons, times-append, AllPairs-head, AllPairs-tail}
use Rattle.auc_jobs.specs.declared.claiming.ClaimedJob.{ClaimedJob}
use Rattle.auc_jobs.specs.InnerClaims.{ServedTurn}

-- so many numbers from one on
abbrev pub up : ℕ → ℕ → List ℕ
up from zero = []
up from (suc count) = from ∷ up (from + 1) count

up_push : (from count : ℕ) → up from (suc count) ≡ up from count ++ (from + count) ∷ []
up_push from zero = ap (λ (k : ℕ). k ∷ []) (let same : from ≡ from + 0 = omega arith in same)
up_push from (suc count) = ap (λ (ks : List ℕ). from ∷ ks) (up_push (from + 1) count ∙ ap (λ (k : ℕ). up (from + 1) count ++ k ∷ []) (let same : from + 1 + count ≡ from + suc count = omega arith in same))

abbrev pub places_of : List ServedTurn → List ℕ
places_of ts = map (λ t. t.claimed.job) ts

-- a turn taken out
record Cut (n : ℕ) (ts : List ServedTurn) : Type 0 where
  pub front : List ServedTurn
  pub turn : ServedTurn
  pub back : List ServedTurn
  pub is : ts ≡ front ++ turn ∷ back
  pub key : turn.claimed.job ≡ n

cut : (n : ℕ) (ts : List ServedTurn) → 1 ≤ times n (places_of ts) → Cut n ts
cut n [] some = absurd (omega (arith, some))
cut n (t ∷ ts) some = by (λ k. cut n ts k) (t.claimed.job == n) refl
  where
    by : (1 ≤ times n (places_of ts) → Cut n ts) → (b : Bool) → (t.claimed.job == n) ≡ b → Cut n (t ∷ ts)
    by go true same = record { front = []; turn = t; back = ts; is = refl; key = eqb-true t.claimed.job n same }
    by go false other =
        let rest : Cut n ts = go (omega (arith, some, times-cons n t.claimed.job (places_of ts), ap {B = ℕ} (λ b. cond b 1 0) other)) in
        record { front = t ∷ rest.front; turn = rest.turn; back = rest.back; is = ap (λ (us : List ServedTurn). t ∷ us) rest.is; key = rest.key }

-- tasks of the first jobs, each once, in the jobs' order
pub record Placed (n : ℕ) (ts : List ServedTurn) : Type 0 where
  pub ordered : List ServedTurn
  pub same : IsPermutation ts ordered
  pub flat : (f : ServedTurn → List Entry) → IsPermutation (flat_map f ts) (flat_map f ordered)
  pub keyed : places_of ordered ≡ up 0 n

none_there : (n : ℕ) (ts : List ServedTurn) → times n (places_of ts) ≡ 0 → All (λ t. t.claimed.job ≢ n) ts
none_there n [] none = All-nil (λ t. t.claimed.job ≢ n)
none_there n (t ∷ ts) none =
    All-cons (λ u. u.claimed.job ≢ n) t ts (λ same. omega (arith, none, times-cons n t.claimed.job (places_of ts), ap {B = ℕ} (λ b. cond b 1 0) (eq-eqb t.claimed.job n same)))
    (none_there n ts (omega (arith, none, times-cons n t.claimed.job (places_of ts))))

all_join : {X : Type 0} (P Q R : X → Type 0) (xs : List X) → ((x : X) → P x → Q x → R x) → All P xs → All Q xs → All R xs
all_join P Q R xs f p q k d within = f _ (p k d within) (q k d within)

pub all_front : {X : Type 0} (P : X → Type 0) (xs ys : List X) → All P (xs ++ ys) → All P xs
all_front P [] ys each = All-nil P
all_front P (x ∷ xs) ys each = All-cons P x xs (All-head P x (xs ++ ys) each) (all_front P xs ys (All-tail P x (xs ++ ys) each))

pub all_back : {X : Type 0} (P : X → Type 0) (xs ys : List X) → All P (xs ++ ys) → All P ys
all_back P [] ys each = each
all_back P (x ∷ xs) ys each = all_back P xs ys (All-tail P x (xs ++ ys) each)

-- one element behind the others
moved_last : {X : Type 0} (a es b : List X) → IsPermutation (a ++ (es ++ b)) ((a ++ b) ++ es)
moved_last a es b =
    subst (λ xs. IsPermutation (a ++ (es ++ b)) xs) (sym (append_assoc a b es)) (IsPermutation-append_right a (es ++ b) (b ++ es) (IsPermutation-append_comm es b))

-- what is left behind one that was taken out
record Fewer (n : ℕ) (ts : List ServedTurn) (c : Cut n ts) : Type 0 where
  pub once : (j : ℕ) → j < n → times j (places_of (c.front ++ c.back)) ≡ 1
  pub below : All (λ t. t.claimed.job < n) (c.front ++ c.back)

fewer : (n : ℕ) (ts : List ServedTurn) (c : Cut n ts) → ((j : ℕ) → j < suc n → times j (places_of ts) ≡ 1) → All (λ t. t.claimed.job < suc n) ts → Fewer n ts c
fewer n ts c once below = record {
  once = λ j low. omega (arith, split j, once j (omega (arith, low)), differs j low);
  below = all_join (λ u. u.claimed.job < suc n) (λ u. u.claimed.job ≢ n) (λ u. u.claimed.job < n) (a ++ b) (λ u low apart. omega (arith, low, apart)) rest (none_there n (a ++ b) gone);
}
  where
    a : List ServedTurn
    a = c.front

    t : ServedTurn
    t = c.turn

    b : List ServedTurn
    b = c.back

    split : (j : ℕ) → times j (places_of ts) ≡ times j (places_of (a ++ b)) + cond (t.claimed.job == j) 1 0
    split j =
        let whole = ap (λ (us : List ServedTurn). times j (places_of us)) c.is ∙ ap (times j) (map-append (λ u. u.claimed.job) a (t ∷ b)) ∙ times-append j (places_of a) (t.claimed.job ∷ places_of b) in
        let part = ap (times j) (map-append (λ u. u.claimed.job) a b) ∙ times-append j (places_of a) (places_of b) in
        omega (arith, whole, part, times-cons j t.claimed.job (places_of b))

    parts : All (λ u. u.claimed.job < suc n) (a ++ t ∷ b)
    parts = subst (λ (us : List ServedTurn). All (λ u. u.claimed.job < suc n) us) c.is below

    rest : All (λ u. u.claimed.job < suc n) (a ++ b)
    rest = All-append (λ u. u.claimed.job < suc n) a b (all_front (λ u. u.claimed.job < suc n) a (t ∷ b) parts) (All-tail (λ u. u.claimed.job < suc n) t b (all_back (λ u. u.claimed.job < suc n) a (t ∷ b) parts))

    gone : times n (places_of (a ++ b)) ≡ 0
    gone = omega (arith, split n, once n (omega arith), ap {B = ℕ} (λ x. cond x 1 0) (eq-eqb t.claimed.job n c.key))

    differs : (j : ℕ) → j < n → ◌≡◌ {A = ℕ} (cond (t.claimed.job == j) 1 0) 0
    differs j low = apart (t.claimed.job == j) refl
      where
        apart : (x : Bool) → (t.claimed.job == j) ≡ x → ◌≡◌ {A = ℕ} (cond x 1 0) 0
        apart true same = absurd (omega (arith, low, c.key, eqb-true t.claimed.job j same))
        apart false other = refl

put_last : (n : ℕ) (ts : List ServedTurn) (c : Cut n ts) → Placed n (c.front ++ c.back) → Placed (suc n) ts
put_last n ts c rest = record {
  ordered = rest.ordered ++ t ∷ [];
  same = subst (λ (us : List ServedTurn). IsPermutation us (rest.ordered ++ t ∷ [])) (sym c.is)
      (IsPermutation-trans (a ++ t ∷ b) ((a ++ b) ++ t ∷ []) (rest.ordered ++ t ∷ []) (moved_last a (t ∷ []) b) (IsPermutation-append_left (t ∷ []) (a ++ b) rest.ordered rest.same));
  flat = λ f. subst (λ (us : List ServedTurn). IsPermutation (flat_map f us) (flat_map f (rest.ordered ++ t ∷ []))) (sym c.is)
      (subst (λ (es : List Entry). IsPermutation es (flat_map f (rest.ordered ++ t ∷ []))) (sym (flat_map-append f a (t ∷ b)))
      (subst (λ (es : List Entry). IsPermutation (flat_map f a ++ (f t ++ flat_map f b)) es) (sym (flat_map-append f rest.ordered (t ∷ []) ∙ ap (λ es. flat_map f rest.ordered ++ es) (append-nil (f t))))
      (IsPermutation-trans (flat_map f a ++ (f t ++ flat_map f b)) ((flat_map f a ++ flat_map f b) ++ f t) (flat_map f rest.ordered ++ f t) (moved_last (flat_map f a) (f t) (flat_map f b))
      (IsPermutation-append_left (f t) (flat_map f a ++ flat_map f b) (flat_map f rest.ordered)
      (subst (λ (es : List Entry). IsPermutation es (flat_map f rest.ordered)) (flat_map-append f a b) (rest.flat f))))));
  keyed = map-append (λ u. u.claimed.job) rest.ordered (t ∷ []) ∙ ap (λ (ks : List ℕ). ks ++ t.claimed.job ∷ []) rest.keyed ∙ ap (λ (k : ℕ). up 0 n ++ k ∷ []) (c.key ∙ (let same : n ≡ 0 + n = omega arith in same)) ∙ sym (up_push 0 n);
}
  where
    a : List ServedTurn
    a = c.front

    t : ServedTurn
    t = c.turn

    b : List ServedTurn
    b = c.back

pub placed : (n : ℕ) (ts : List ServedTurn) → ((j : ℕ) → j < n → times j (places_of ts) ≡ 1) → All (λ t. t.claimed.job < n) ts → Placed n ts
placed zero [] once below = record { ordered = []; same = IsPermutation-refl []; flat = λ f. IsPermutation-refl []; keyed = refl }
placed zero (t ∷ ts) once below = absurd (omega (arith, All-head (λ u. u.claimed.job < 0) t ts below))
placed (suc n) ts once below =
    let c = cut n ts (omega (arith, once n (omega arith))) in
    let less = fewer n ts c once below in
    put_last n ts c (placed n (c.front ++ c.back) less.once less.below)

-- ---- sorted jobs

abbrev pub places : List ClaimedJob → List ℕ
places done = map (λ w. w.job) done

least : (k c : ℕ) (done : List ClaimedJob) → All (λ w. c ≤ w.job) done → 1 ≤ times k (places done) → c ≤ k
least k c [] low some = absurd (omega (arith, some))
least k c (w ∷ done) low some = by (λ more. least k c done (All-tail (λ v. c ≤ v.job) w done low) more) (w.job == k) refl
  where
    by : (1 ≤ times k (places done) → c ≤ k) → (b : Bool) → (w.job == k) ≡ b → c ≤ k
    by go true same = omega (arith, eqb-true w.job k same, All-head (λ v. c ≤ v.job) w done low)
    by go false other = go (omega (arith, some, times-cons k w.job (places done), ap {B = ℕ} (λ b. cond b 1 0) other))

places_none : (n : ℕ) (done : List ClaimedJob) → times n (places done) ≡ 0 → All (λ w. w.job ≢ n) done
places_none n [] none = All-nil (λ w. w.job ≢ n)
places_none n (w ∷ done) none =
    All-cons (λ v. v.job ≢ n) w done (λ same. omega (arith, none, times-cons n w.job (places done), ap {B = ℕ} (λ b. cond b 1 0) (eq-eqb w.job n same)))
    (places_none n done (omega (arith, none, times-cons n w.job (places done))))

pub sorted_up : (from count : ℕ) (done : List ClaimedJob) → AllPairs (λ v w. v.job ≤ w.job) done → ((j : ℕ) → from ≤ j → j < from + count → times j (places done) ≡ 1)
    → All (λ w. (from ≤ w.job) × (w.job < from + count)) done → places done ≡ up from count
sorted_up from zero [] sorted once within = refl
sorted_up from zero (w ∷ done) sorted once within = let here = All-head (λ v. (from ≤ v.job) × (v.job < from + 0)) w done within in absurd (omega (arith, here.0, here.1))
sorted_up from (suc count) [] sorted once within = absurd (omega (arith, once from (omega arith) (omega arith)))
sorted_up from (suc count) (w ∷ done) sorted once within =
    let here = All-head (λ v. (from ≤ v.job) × (v.job < from + suc count)) w done within in
    let top : w.job ≤ from = least from w.job (w ∷ done) (All-cons (λ v. w.job ≤ v.job) w done (omega arith) (AllPairs-head (λ u v. u.job ≤ v.job) w done sorted)) (omega (arith, once from (omega arith) (omega arith))) in
    let first : w.job ≡ from = omega (arith, top, here.0) in
    let gone : times from (places done) ≡ 0 = omega (arith, once from (omega arith) (omega arith), times-cons from w.job (places done), ap {B = ℕ} (λ b. cond b 1 0) (eq-eqb w.job from first)) in
    ap (λ (k : ℕ). k ∷ places done) first ∙ ap (λ (ks : List ℕ). from ∷ ks)
    (sorted_up (from + 1) count done (AllPairs-tail (λ u v. u.job ≤ v.job) w done sorted)
    (λ j low high. omega (arith, once j (omega (arith, low)) (omega (arith, high)), times-cons j w.job (places done), differs j low first))
    (all_join (λ v. (from ≤ v.job) × (v.job < from + suc count)) (λ v. v.job ≢ from) (λ v. (from + 1 ≤ v.job) × (v.job < from + 1 + count)) done
    (λ v range apart. (omega (arith, range.0, apart), omega (arith, range.1))) (All-tail (λ v. (from ≤ v.job) × (v.job < from + suc count)) w done within) (places_none from done gone)))
  where
    differs : (j : ℕ) → from + 1 ≤ j → w.job ≡ from → ◌≡◌ {A = ℕ} (cond (w.job == j) 1 0) 0
    differs j low first = apart (w.job == j) refl
      where
        apart : (x : Bool) → (w.job == j) ≡ x → ◌≡◌ {A = ℕ} (cond x 1 0) 0
        apart true same = absurd (omega (arith, low, first, eqb-true w.job j same))
        apart false other = refl
