-- For Agreement: a session of a list is set or added; and an identity that was resumed once has one session.
use Rattle.std.proofs.Common.{◌≡◌, ◌⊎◌, ℕ, zero, suc, List, [], ◌∷◌, ◌++◌, Option, Some, None, slice_get, slice_set, Contains, arith, refl, sym, ap, ◌∙◌, subst, inl, inr}
use Rattle.std.proofs.lemmas.List.Elements.{Contains-append_left, Contains-append_right}
use Rattle.std.specs.Option.{option_to_list}
use Rattle.auc_server.specs.Server.{ServerEnd, resumed_of}
use Rattle.auc_server.specs.declared.server.Resumed.{Resumed}
use Rattle.auc_world.specs.Resumption.{AreApart, AreResumedOnce, resumed_in, resumptions}
use Rattle.auc_world.specs.declared.net.Session.{Session}

-- ---- a place of a list

-- what stands in a list of which a place was set
pub set_cases : {X : Type 0} (xs : List X) (place other : ℕ) (new x : X) → slice_get (slice_set xs place new) other ≡ Some x → (new ≡ x) ⊎ (slice_get xs other ≡ Some x)
set_cases [] place other new x e = inr e
set_cases (y ∷ xs) zero zero new x e = inl (same new x e)
  where
    same : {X : Type 0} (a b : X) → ◌≡◌ {A = Option X} (Some a) (Some b) → a ≡ b
    same a b e = cc
set_cases (y ∷ xs) zero (suc other) new x e = inr e
set_cases (y ∷ xs) (suc place) zero new x e = inr e
set_cases (y ∷ xs) (suc place) (suc other) new x e = set_cases xs place other new x e

-- what stood in it stands there still, or is the one that was set
pub set_stays : {X : Type 0} (xs : List X) (place other : ℕ) (old new x : X) → slice_get xs place ≡ Some old → slice_get xs other ≡ Some x
    → (slice_get (slice_set xs place new) other ≡ Some x) ⊎ ((slice_get (slice_set xs place new) other ≡ Some new) × (old ≡ x))
set_stays [] place other old new x there e = absurd cc
set_stays (y ∷ xs) zero zero old new x there e = inr (refl, same (Some y) old x there e)
  where
    same : {X : Type 0} (o : Option X) (a b : X) → o ≡ Some a → o ≡ Some b → a ≡ b
    same o a b e f = cc
set_stays (y ∷ xs) zero (suc other) old new x there e = inl e
set_stays (y ∷ xs) (suc place) zero old new x there e = inl e
set_stays (y ∷ xs) (suc place) (suc other) old new x there e = set_stays xs place other old new x there e

-- the one that was set stands at its place
pub set_there : {X : Type 0} (xs : List X) (place : ℕ) (old new : X) → slice_get xs place ≡ Some old → slice_get (slice_set xs place new) place ≡ Some new
set_there [] place old new there = absurd cc
set_there (y ∷ xs) zero old new there = refl
set_there (y ∷ xs) (suc place) old new there = set_there xs place old new there

-- what stands in a list that got one more
pub push_cases : {X : Type 0} (xs : List X) (place : ℕ) (new x : X) → slice_get (xs ++ new ∷ []) place ≡ Some x → (new ≡ x) ⊎ (slice_get xs place ≡ Some x)
push_cases [] zero new x e = inl (same new x e)
  where
    same : {X : Type 0} (a b : X) → ◌≡◌ {A = Option X} (Some a) (Some b) → a ≡ b
    same a b e = cc
push_cases [] (suc place) new x e = inr e
push_cases (y ∷ xs) zero new x e = inr e
push_cases (y ∷ xs) (suc place) new x e = push_cases xs place new x e

pub push_stays : {X : Type 0} (xs : List X) (place : ℕ) (new x : X) → slice_get xs place ≡ Some x → slice_get (xs ++ new ∷ []) place ≡ Some x
push_stays [] place new x e = absurd cc
push_stays (y ∷ xs) zero new x e = e
push_stays (y ∷ xs) (suc place) new x e = push_stays xs place new x e

-- ---- the sessions that resumed

-- a session whose server resumed, and what it resumed
pub record Resumes (sessions : List Session) (place : ℕ) (s : ServerEnd) (r : Resumed) : Type 0 where
  pub session : Session
  pub there : slice_get sessions place ≡ Some session
  pub is : session.server ≡ Some s
  pub has : resumed_of s ≡ Some r

-- it is one of those that were resumed
pub is_resumed : (sessions : List Session) (place : ℕ) (s : ServerEnd) (r : Resumed) → Resumes sessions place s r → Contains (resumptions sessions) r
is_resumed [] place s r is = absurd (none is.there)
  where
    none : {a : Session} → ◌≡◌ {A = Option Session} None (Some a) → ⊥
    none e = cc
is_resumed (a ∷ sessions) zero s r is =
    let same : a ≡ is.session = one a is.session is.there in
    let here : resumed_in a.server ≡ r ∷ [] = ap (λ (x : Session). resumed_in x.server) same ∙ ap resumed_in is.is ∙ ap option_to_list is.has in
    Contains-append_left (resumed_in a.server) (resumptions sessions) r (subst (λ (list : List Resumed). Contains list r) (sym here) (0, omega arith, refl))
  where
    one : (a b : Session) → ◌≡◌ {A = Option Session} (Some a) (Some b) → a ≡ b
    one a b e = cc
is_resumed (a ∷ sessions) (suc place) s r is =
    Contains-append_right (resumed_in a.server) (resumptions sessions) r (is_resumed sessions place s r (record { session = is.session; there = is.there; is = is.is; has = is.has }))

-- the first of pairs isn't among the others
apart_from : (r u : Resumed) (rest : List Resumed) → AreResumedOnce (r ∷ rest) → Contains rest u → AreApart r u
apart_from r u rest once (place, within, is) = subst (AreApart r) is (once 0 (suc place) u (omega arith) (omega (arith, within)))

later_pairs : (pre : Option Resumed) (rest : List Resumed) → AreResumedOnce (option_to_list pre ++ rest) → AreResumedOnce rest
later_pairs None rest once = once
later_pairs (Some r) rest once = λ i j d less within. once (suc i) (suc j) d (omega (arith, less)) (omega (arith, within))

rest_once : (o : Option ServerEnd) (rest : List Resumed) → AreResumedOnce (resumed_in o ++ rest) → AreResumedOnce rest
rest_once None rest once = once
rest_once (Some s) rest once = later_pairs (resumed_of s) rest once

first_apart : (a : Session) (sessions : List Session) (place : ℕ) (s t : ServerEnd) (r u : Resumed) → AreResumedOnce (resumptions (a ∷ sessions)) → Resumes (a ∷ sessions) 0 s r
    → Resumes sessions place t u → AreApart r u
first_apart a sessions place s t r u once is other =
    let same : a ≡ is.session = one a is.session is.there in
    let here : resumed_in a.server ≡ r ∷ [] = ap (λ (x : Session). resumed_in x.server) same ∙ ap resumed_in is.is ∙ ap option_to_list is.has in
    apart_from r u (resumptions sessions) (subst (λ (list : List Resumed). AreResumedOnce (list ++ resumptions sessions)) here once) (is_resumed sessions place t u other)
  where
    one : (a b : Session) → ◌≡◌ {A = Option Session} (Some a) (Some b) → a ≡ b
    one a b e = cc

tail_of : (a : Session) (sessions : List Session) (place : ℕ) (s : ServerEnd) (r : Resumed) → Resumes (a ∷ sessions) (suc place) s r → Resumes sessions place s r
tail_of a sessions place s r is = record { session = is.session; there = is.there; is = is.is; has = is.has }

-- one identity of a subscriber is resumed in one session
pub one_place : (sessions : List Session) (x y : ℕ) (s t : ServerEnd) (r u : Resumed) → AreResumedOnce (resumptions sessions) → Resumes sessions x s r → Resumes sessions y t u
    → r.sub ≡ u.sub → r.context.identity ≡ u.context.identity → x ≡ y
one_place [] x y s t r u once is other sub same = absurd (none is.there)
  where
    none : {a : Session} → ◌≡◌ {A = Option Session} None (Some a) → ⊥
    none e = cc
one_place (a ∷ sessions) zero zero s t r u once is other sub same = refl
one_place (a ∷ sessions) zero (suc y) s t r u once is other sub same =
    absurd (first_apart a sessions y s t r u once is (tail_of a sessions y t u other) sub same)
one_place (a ∷ sessions) (suc x) zero s t r u once is other sub same =
    absurd (first_apart a sessions x t s u r once other (tail_of a sessions x s r is) (sym sub) (sym same))
one_place (a ∷ sessions) (suc x) (suc y) s t r u once is other sub same =
    ap suc (one_place sessions x y s t r u (rest_once a.server (resumptions sessions) once) (tail_of a sessions x s r is) (tail_of a sessions y t u other) sub same)
