-- For the laws on places: what holds of all contexts while one of them is put, cleared or used. A context and a counter
-- that was used have a key, an origin or an identity.
use Rattle.std.proofs.Common.{◌≡◌, ◌≢◌, ℕ, ◌==◌, ◌⊎◌, inl, inr, subst, Bool, true, false, cond, List, [], ◌∷◌, Option, None, Some, refl, sym, ap, ◌∙◌, arith, All}
use Rattle.std.specs.Prelude.{AllPairs}
use Rattle.std.proofs.lemmas.Bool.Decides.{nat_tests}
use Rattle.std.proofs.lemmas.List.Elements.{All-nil, All-cons, All-tail}
use Rattle.std.proofs.lemmas.List.Kept.{AllPairs-cons}
use Rattle.auc_reauth.specs.Machine.{IsNew, Places, Used, with_place}
use Rattle.auc_reauth.specs.declared.context.Context.{Context}

-- ---- a place

same_number : (m n : ℕ) → (m == n) ≡ true → m ≡ n
same_number m n = grind (arith, nat_tests)

other_number : (m n : ℕ) → (m == n) ≡ false → m ≢ n
other_number m n = grind (arith, nat_tests)

one_context : (x y : Context) → ◌≡◌ {A = Option Context} (Some x) (Some y) → x ≡ y
one_context x y e = cc

pub nothing : (x : Context) → ◌≡◌ {A = Option Context} None (Some x) → ⊥
nothing x e = cc

-- what is at a place after a context was put at one
abbrev pub Found : ℕ → Option Context → Places → ℕ → Context → Type 0
Found p c places i x = ((i ≡ p) × (c ≡ Some x)) ⊎ ((i ≢ p) × (places i ≡ Some x))

found_by : (p : ℕ) (c : Option Context) (places : Places) (i : ℕ) (x : Context) (b : Bool) → (i == p) ≡ b → cond b c (places i) ≡ Some x → Found p c places i x
found_by p c places i x true e is = inl (same_number i p e, is)
found_by p c places i x false e is = inr (other_number i p e, is)

pub found_at : (p : ℕ) (c : Option Context) (places : Places) (i : ℕ) (x : Context) → with_place p c places i ≡ Some x → Found p c places i x
found_at p c places i x is = found_by p c places i x (i == p) refl is

again_by : (c d : Option Context) (x : Option Context) (b : Bool) → cond b c (cond b d x) ≡ cond b c x
again_by c d x true = refl
again_by c d x false = refl

-- the second of two contexts that are put at a place is there
pub again : (p : ℕ) (c d : Option Context) (places : Places) (i : ℕ) → with_place p c (with_place p d places) i ≡ with_place p c places i
again p c d places i = again_by c d (places i) (i == p)

-- ---- all contexts, by their keys

module _ {K : Type 0} (key : Context → K) (key_used : Used → K) (Before : Used → Context → Type 0) (Differ : Used → Used → Type 0)
    (apart : (u : Used) (x : Context) → key_used u ≢ key x → Before u x) where
  -- no two contexts have one key; what was used was used before each of them; a new key is none of theirs and none of what was
  -- used; and what was used differs
  pub record Holds (places : Places) (used : List Used) (seen : List K) : Type 0 where
    pub one : (i j : ℕ) (x y : Context) → places i ≡ Some x → places j ≡ Some y → key x ≡ key y → i ≡ j
    pub before : (i : ℕ) (x : Context) → places i ≡ Some x → All (λ u. Before u x) used
    pub new : (i : ℕ) (x : Context) → places i ≡ Some x → (k : K) → IsNew k seen → key x ≢ k
    pub past : (k : K) → IsNew k seen → All (λ u. key_used u ≢ k) used
    pub differ : AllPairs Differ used

  pub holds_empty : Holds (λ i. None) [] []
  holds_empty = record {
    one = λ i j x y e f same. absurd (nothing x e);
    before = λ i x e. absurd (nothing x e);
    new = λ i x e. absurd (nothing x e);
    past = λ k new. All-nil _;
    differ = λ i j d before within. absurd (omega arith);
  }

  -- places that are alike
  pub holds_alike : (f g : Places) (used : List Used) (seen : List K) → ((i : ℕ) → g i ≡ f i) → Holds f used seen → Holds g used seen
  holds_alike f g used seen same h = record {
    one = λ i j x y e d is. h.one i j x y (sym (same i) ∙ e) (sym (same j) ∙ d) is;
    before = λ i x e. h.before i x (sym (same i) ∙ e);
    new = λ i x e. h.new i x (sym (same i) ∙ e);
    past = h.past;
    differ = h.differ;
  }

  -- a further key is seen
  pub holds_seen : (places : Places) (used : List Used) (seen : List K) (k : K) → Holds places used seen → Holds places used (k ∷ seen)
  holds_seen places used seen k h = record {
    one = h.one;
    before = h.before;
    new = λ i x e l new. h.new i x e l (All-tail (λ (y : K). y ≢ l) k seen new);
    past = λ l new. h.past l (All-tail (λ (y : K). y ≢ l) k seen new);
    differ = h.differ;
  }

  from_cleared : (p : ℕ) (places : Places) (i : ℕ) (x : Context) → Found p None places i x → (i ≢ p) × (places i ≡ Some x)
  from_cleared p places i x (inl there) = absurd (nothing x there.1)
  from_cleared p places i x (inr there) = there

  -- what is at a place after one was cleared was there before
  pub was_there : (p : ℕ) (places : Places) (i : ℕ) (x : Context) → with_place p None places i ≡ Some x → (i ≢ p) × (places i ≡ Some x)
  was_there p places i x e = from_cleared p places i x (found_at p None places i x e)

  -- a place is cleared
  pub holds_cleared : (p : ℕ) (places : Places) (used : List Used) (seen : List K) → Holds places used seen → Holds (with_place p None places) used seen
  holds_cleared p places used seen h = record {
    one = λ i j x y e f same. h.one i j x y (was_there p places i x e).1 (was_there p places j y f).1 same;
    before = λ i x e. h.before i x (was_there p places i x e).1;
    new = λ i x e. h.new i x (was_there p places i x e).1;
    past = h.past;
    differ = h.differ;
  }

  -- after the place of a context was cleared, no other has its key
  pub no_other : (p : ℕ) (places : Places) (used : List Used) (seen : List K) (c : Context) → Holds places used seen → places p ≡ Some c → (i : ℕ) (x : Context)
      → with_place p None places i ≡ Some x → key x ≢ key c
  no_other p places used seen c h there i x e same =
      let was = was_there p places i x e in was.0 (h.one i p x c was.1 there same)

  -- what may be put beside other contexts
  pub record MayStand (places : Places) (used : List Used) (seen : List K) (y : Context) : Type 0 where
    pub own : (i : ℕ) (x : Context) → places i ≡ Some x → key x ≢ key y
    pub later : All (λ u. Before u y) used
    pub known : (k : K) → IsNew k seen → key y ≢ k

  one_by : (p : ℕ) (y : Context) (places : Places) (used : List Used) (seen : List K) → Holds places used seen → MayStand places used seen y
      → (i j : ℕ) (x z : Context) → Found p (Some y) places i x → Found p (Some y) places j z → key x ≡ key z → i ≡ j
  one_by p y places used seen h may i j x z (inl here) (inl there) same = here.0 ∙ sym there.0
  one_by p y places used seen h may i j x z (inl here) (inr there) same = absurd (may.own j z there.1 (sym (ap key (one_context y x here.1) ∙ same)))
  one_by p y places used seen h may i j x z (inr here) (inl there) same = absurd (may.own i x here.1 (same ∙ sym (ap key (one_context y z there.1))))
  one_by p y places used seen h may i j x z (inr here) (inr there) same = h.one i j x z here.1 there.1 same

  by_found : (P : Context → Type 0) (p : ℕ) (y : Context) (places : Places) (i : ℕ) (x : Context) → P y → (places i ≡ Some x → P x) → Found p (Some y) places i x → P x
  by_found P p y places i x this others (inl here) = subst P (one_context y x here.1) this
  by_found P p y places i x this others (inr here) = others here.1

  -- a context is put
  pub holds_put : (p : ℕ) (y : Context) (places : Places) (used : List Used) (seen : List K) → Holds places used seen → MayStand places used seen y
      → Holds (with_place p (Some y) places) used seen
  holds_put p y places used seen h may = record {
    one = λ i j x z e f same. one_by p y places used seen h may i j x z (found_at p (Some y) places i x e) (found_at p (Some y) places j z f) same;
    before = λ i x e. by_found (λ c. All (λ u. Before u c) used) p y places i x may.later (h.before i x) (found_at p (Some y) places i x e);
    new = λ i x e. by_found (λ c. (k : K) → IsNew k seen → key c ≢ k) p y places i x may.known (h.new i x) (found_at p (Some y) places i x e);
    past = h.past;
    differ = h.differ;
  }

  -- the context of a place is used and leaves it
  pub holds_used : (p : ℕ) (c : Context) (u : Used) (places : Places) (used : List Used) (seen : List K) → places p ≡ Some c → key_used u ≡ key c → All (Differ u) used
      → Holds places used seen → Holds (with_place p None places) (u ∷ used) seen
  holds_used p c u places used seen there is differs h =
      let cleared = holds_cleared p places used seen h in record {
        one = cleared.one;
        before = λ i x e.
            All-cons (λ v. Before v x) u used (apart u x (λ same. no_other p places used seen c h there i x e (sym same ∙ is))) (cleared.before i x e);
        new = cleared.new;
        past = λ k new. All-cons (λ v. key_used v ≢ k) u used (λ same. h.new p c there k new (sym is ∙ same)) (h.past k new);
        differ = AllPairs-cons Differ u used differs h.differ;
      }
