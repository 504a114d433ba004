-- For the law on identities: contexts that are taken once have different identities if those that were put have.
use Rattle.std.proofs.Common.{◌≡◌, ◌≢◌, ℕ, suc, ◌+◌, ◌≤◌, Bool, true, false, cond, List, [], ◌∷◌, ◌++◌, refl, sym, ap, ◌∙◌, arith, All}
use Rattle.std.specs.Prelude.{AllPairs, count_by}
use Rattle.std.specs.Str.{bytes_eq}
use Rattle.std.proofs.lemmas.List.Elements.{All-nil, All-cons, All-head, All-tail}
use Rattle.std.proofs.lemmas.List.Kept.{AllPairs-cons}
use Rattle.std.proofs.lemmas.List.Sums.{sum_by-append, sum_by-cons}
use Rattle.std.proofs.lemmas.Slice.Eq.{bytes_eq-Decides}
use Rattle.auc_reauth.specs.Server.{Contexts}
use Rattle.auc_reauth.specs.Laws.{ServerCall, taken, put, held, AreApart, IdentitiesAreTakenOnce}
use Rattle.auc_reauth.specs.declared.context.Context.{Context}
use Rattle.auc_reauth.proofs.ServerLemmas.{contexts_are_taken_once}

-- the head of such a list is apart from each other one
AllPairs-head : (c : Context) (cs : List Context) → AllPairs AreApart (c ∷ cs) → All (AreApart c) cs
AllPairs-head c cs apart k d within = apart 0 (suc k) d (omega arith) (omega arith)

-- and the others from each other
AllPairs-tail : (c : Context) (cs : List Context) → AllPairs AreApart (c ∷ cs) → AllPairs AreApart cs
AllPairs-tail c cs apart i j d before within = apart (suc i) (suc j) d (omega arith) (omega arith)

-- how many contexts of a list have an identity
module _ (identity : List ℕ) where
  named : List Context → ℕ
  named cs = count_by (λ c. bytes_eq c.identity identity) cs

  named-nil : named [] ≡ 0
  unfolding named
  named-nil = refl

  named-cons : (c : Context) (cs : List Context) → named (c ∷ cs) ≡ cond (bytes_eq c.identity identity) 1 0 + named cs
  unfolding named
  named-cons c cs = sum_by-cons (λ d. cond (bytes_eq d.identity identity) 1 0) c cs

  named-append : (cs ds : List Context) → named (cs ++ ds) ≡ named cs + named ds
  unfolding named
  named-append cs ds = sum_by-append (λ c. cond (bytes_eq c.identity identity) 1 0) cs ds

  -- the test of one context
  same : (c : Context) → bytes_eq c.identity identity ≡ true → c.identity ≡ identity
  same c e = (bytes_eq-Decides c.identity identity).0 e

  named-same : (c : Context) (cs : List Context) → c.identity ≡ identity → named (c ∷ cs) ≡ 1 + named cs
  named-same c cs e = named-cons c cs ∙ ap (λ (b : Bool). cond b 1 0 + named cs) ((bytes_eq-Decides c.identity identity).1 e)

  named-other : (c : Context) (cs : List Context) → bytes_eq c.identity identity ≡ false → named (c ∷ cs) ≡ named cs
  named-other c cs e = omega (arith, named-cons c cs ∙ ap (λ (b : Bool). cond b 1 0 + named cs) e)

  -- none has it if each has another one
  none : (cs : List Context) → All (λ c. c.identity ≢ identity) cs → named cs ≡ 0
  none [] apart = named-nil
  none (c ∷ cs) apart = by (bytes_eq c.identity identity) refl (none cs (All-tail (λ (d : Context). d.identity ≢ identity) c cs apart))
    where
      by : (b : Bool) → bytes_eq c.identity identity ≡ b → named cs ≡ 0 → named (c ∷ cs) ≡ 0
      by true e rest = absurd (All-head (λ (d : Context). d.identity ≢ identity) c cs apart (same c e))
      by false e rest = named-other c cs e ∙ rest

  -- each has another one if none has it
  each_other : (cs : List Context) → named cs ≡ 0 → All (λ c. identity ≢ c.identity) cs
  each_other [] zero_named = All-nil (λ (c : Context). identity ≢ c.identity)
  each_other (c ∷ cs) zero_named =
      All-cons (λ (d : Context). identity ≢ d.identity) c cs (λ e. absurd (omega (arith, named-same c cs (sym e)))) (each_other cs (omega (arith, named-cons c cs)))

  -- contexts that are apart from one that has it have another one
  others : (c : Context) → c.identity ≡ identity → (ds : List Context) → All (AreApart c) ds → All (λ d. d.identity ≢ identity) ds
  others c e [] all = All-nil (λ (d : Context). d.identity ≢ identity)
  others c e (d ∷ ds) all =
      All-cons (λ (x : Context). x.identity ≢ identity) d ds (λ other. All-head (AreApart c) d ds all (e ∙ sym other)) (others c e ds (All-tail (AreApart c) d ds all))

  -- at most one has it if all have different ones
  one : (cs : List Context) → AllPairs AreApart cs → named cs ≤ 1
  one [] apart = omega (arith, named-nil)
  one (c ∷ cs) apart = by (bytes_eq c.identity identity) refl (one cs (AllPairs-tail c cs apart))
    where
      by : (b : Bool) → bytes_eq c.identity identity ≡ b → named cs ≤ 1 → named (c ∷ cs) ≤ 1
      by true e rest = omega (arith, named-same c cs (same c e), none cs (others c (same c e) cs (AllPairs-head c cs apart)))
      by false e rest = omega (arith, named-other c cs e)

-- all have different identities if no identity stands twice
all_apart : (cs : List Context) → ((identity : List ℕ) → named identity cs ≤ 1) → AllPairs AreApart cs
all_apart [] most = λ i j d before within. absurd (omega arith)
all_apart (c ∷ cs) most =
    AllPairs-cons AreApart c cs (each_other c.identity cs (omega (arith, most c.identity, named-same c.identity c cs refl)))
    (all_apart cs (λ identity. omega (arith, most identity, named-cons identity c cs)))

taken_named : (identity : List ℕ) (contexts : Contexts) (calls : List ServerCall)
    → named identity (taken contexts calls) ≤ named identity (held contexts) + named identity (put calls)
unfolding named
taken_named identity contexts calls = contexts_are_taken_once (λ c. bytes_eq c.identity identity) contexts calls

pub identities_are_taken_once : IdentitiesAreTakenOnce
identities_are_taken_once contexts calls apart =
    all_apart (taken contexts calls) (λ identity.
    omega (arith, taken_named identity contexts calls, named-append identity (held contexts) (put calls), one identity (held contexts ++ put calls) apart))
