-- For the law on counters: none is used twice under the keys of one full authentication.
use Rattle.std.proofs.Common.{◌≡◌, ◌≢◌, ℕ, zero, suc, ◌+◌, ◌<◌, ◌≤◌, ◌==◌, Bool, true, false, cond, leb, List, [], ◌∷◌, ◌++◌, Option, None, Some, refl, sym, ◌∙◌, arith, All}
use Rattle.std.proofs.lemmas.Bool.{leb-true}
use Rattle.std.proofs.lemmas.List.Elements.{All-cons, All-head, All-weaker}
use Rattle.auc_reauth.specs.Device.{accepting, advanced, is_open}
use Rattle.auc_reauth.specs.Machine.{Accept, Adopt, AreDifferent, Challenge, EachCounterOnce, EachIsFresh, HomePast, IsFresh, IsNew, Lose, Move, Places, Resume, Used, Win, accepted_in, after, empty_home, moved, next_in, renamed, used_by, used_in, with_place}
use Rattle.auc_reauth.specs.declared.context.Context.{Context}
use Rattle.auc_reauth.proofs.PlaceLemmas.{Holds, again, holds_alike, holds_cleared, holds_empty, holds_put, holds_seen, holds_used, no_other}

-- a counter that was used under the origin of a context is below the context's
abbrev IsBelow : Used → Context → Type 0
IsBelow u x = u.origin ≡ x.origin → u.counter < x.counter

abbrev origin_of : Context → ℕ
origin_of x = x.origin

abbrev origin_used : Used → ℕ
origin_used u = u.origin

others_are_below : (u : Used) (x : Context) → u.origin ≢ x.origin → IsBelow u x
others_are_below u x other same = absurd (other same)

abbrev Fine : Places → List Used → List ℕ → Type 0
Fine places used seen = Holds origin_of origin_used IsBelow AreDifferent others_are_below places used seen

-- ---- a counter that is used

-- it differs from those that were used before, if it is at least the context's
differs : (c : Context) (counter : ℕ) (used : List Used) → c.counter ≤ counter → All (λ u. IsBelow u c) used → All (AreDifferent (used_by counter c)) used
differs c counter used least all =
    All-weaker (λ u. IsBelow u c) (AreDifferent (used_by counter c)) (λ u below same e. absurd (omega (arith, below (sym same), e, least))) used all

-- and it is below the next one of the context
below_next : (c y : Context) (counter : ℕ) (used : List Used) → y.origin ≡ c.origin → c.counter ≤ counter → counter < y.counter → All (λ u. IsBelow u c) used
    → All (λ u. IsBelow u y) (used_by counter c ∷ used)
below_next c y counter used same least next all =
    All-cons (λ u. IsBelow u y) (used_by counter c) used (λ e. next)
    (All-weaker (λ u. IsBelow u c) (λ u. IsBelow u y) (λ u below e. omega (arith, below (e ∙ same), least, next)) used all)

-- ---- the moves

challenged : (t : ℕ) (c : Context) (places : Places) (used : List Used) (seen : List ℕ) → IsNew c.origin seen → Fine places used seen
    → Fine (with_place (suc t) (Some c) places) used (c.origin ∷ seen)
challenged t c places used seen fresh h =
    holds_put origin_of origin_used IsBelow AreDifferent others_are_below (suc t) c places used (c.origin ∷ seen)
    (holds_seen origin_of origin_used IsBelow AreDifferent others_are_below places used seen c.origin h)
    (record {
      own = λ i x e. h.new i x e c.origin fresh;
      later = All-weaker (λ u. u.origin ≢ c.origin) (λ u. IsBelow u c) (λ u other same. absurd (other same)) used (h.past c.origin fresh);
      known = λ k new. All-head (λ y. y ≢ k) c.origin seen new;
    })

cleared : (p : ℕ) (places : Places) (used : List Used) (seen : List ℕ) → Fine places used seen → Fine (with_place p None places) used seen
cleared p places used seen h = holds_cleared origin_of origin_used IsBelow AreDifferent others_are_below p places used seen h

-- the store's context leaves it, and its counter is used
used_up : (c : Context) (counter : ℕ) (places : Places) (used : List Used) (seen : List ℕ) → places zero ≡ Some c → c.counter ≤ counter → Fine places used seen
    → Fine (with_place zero None places) (used_by counter c ∷ used) seen
used_up c counter places used seen there least h =
    holds_used origin_of origin_used IsBelow AreDifferent others_are_below zero c (used_by counter c) places used seen there refl
    (differs c counter used least (h.before zero c there)) h

-- a context of the same origin with a later counter comes to a place
comes : (p : ℕ) (c y : Context) (counter : ℕ) (places : Places) (used : List Used) (seen : List ℕ) → places zero ≡ Some c → y.origin ≡ c.origin → c.counter ≤ counter → counter < y.counter
    → Fine places used seen → Fine (with_place p (Some y) (with_place zero None places)) (used_by counter c ∷ used) seen
comes p c y counter places used seen there same least next h =
    holds_put origin_of origin_used IsBelow AreDifferent others_are_below p y (with_place zero None places) (used_by counter c ∷ used) seen
    (used_up c counter places used seen there least h)
    (record {
      own = λ i x e is. no_other origin_of origin_used IsBelow AreDifferent others_are_below zero places used seen c h there i x e (is ∙ same);
      later = below_next c y counter used same least next (h.before zero c there);
      known = λ k new e. h.new zero c there k new (sym same ∙ e);
    })

resumed : (t : ℕ) (identity : Option (List ℕ)) (c : Option Context) (places : Places) (used : List Used) (seen : List ℕ) → places zero ≡ c → Fine places used seen
    → Fine (with_place (suc t) (next_in identity c) (with_place zero None places)) (used_in c ++ used) seen
resumed t identity None places used seen there h = cleared (suc t) (with_place zero None places) used seen (cleared zero places used seen h)
resumed t None (Some c) places used seen there h =
    cleared (suc t) (with_place zero None places) (used_by c.counter c ∷ used) seen (used_up c c.counter places used seen there (omega arith) h)
resumed t (Some identity) (Some c) places used seen there h =
    comes (suc t) c (record c { identity = identity; counter = c.counter + 1 }) c.counter places used seen there refl (omega arith) (omega arith) h

-- a context comes to the store, from which another left
comes_back : (y : Context) (places : Places) (used : List Used) (seen : List ℕ) → Fine (with_place zero (Some y) (with_place zero None places)) used seen
    → Fine (with_place zero (Some y) places) used seen
comes_back y places used seen h =
    holds_alike origin_of origin_used IsBelow AreDifferent others_are_below (with_place zero (Some y) (with_place zero None places)) (with_place zero (Some y) places) used seen
    (λ i. sym (again zero (Some y) None places i)) h

advanced_is : (b : Bool) (c : Context) (counter : ℕ) (places : Places) (used : List Used) (seen : List ℕ) → places zero ≡ Some c → c.counter ≤ counter → Fine places used seen
    → Fine (with_place zero (cond b None (Some (record c { counter = counter + 1 }))) places) (used_by counter c ∷ used) seen
advanced_is true c counter places used seen there least h = used_up c counter places used seen there least h
advanced_is false c counter places used seen there least h =
    let y : Context = record c { counter = counter + 1 } in
    comes_back y places (used_by counter c ∷ used) seen (comes zero c y counter places used seen there refl least (omega arith) h)

opened : (b : Bool) (c : Context) (counter : ℕ) (places : Places) (used : List Used) (seen : List ℕ) → leb c.counter counter ≡ b → b ≡ true → places zero ≡ Some c → Fine places used seen
    → Fine (with_place zero (cond b (advanced counter c) (Some c)) places) (used_by counter c ∷ used) seen
opened true c counter places used seen e is there h = advanced_is (counter == 65535) c counter places used seen there (leb-true c.counter counter e) h
opened false c counter places used seen e is there h = absurd cc

accepted : (counter : ℕ) (c : Option Context) (places : Places) (used : List Used) (seen : List ℕ) → places zero ≡ c → is_open counter c ≡ true → Fine places used seen
    → Fine (with_place zero (accepting counter c) places) (accepted_in counter c ++ used) seen
accepted counter None places used seen there is h = absurd cc
accepted counter (Some c) places used seen there is h = opened (leb c.counter counter) c counter places used seen refl is there h

-- a context goes on from a place to the store
goes : (p : ℕ) (c y : Context) (places : Places) (used : List Used) (seen : List ℕ) → places p ≡ Some c → y.origin ≡ c.origin → y.counter ≡ c.counter → Fine places used seen
    → Fine (with_place zero (Some y) (with_place p None places)) used seen
goes p c y places used seen there same counter h =
    holds_put origin_of origin_used IsBelow AreDifferent others_are_below zero y (with_place p None places) used seen (cleared p places used seen h)
    (record {
      own = λ i x e is. no_other origin_of origin_used IsBelow AreDifferent others_are_below p places used seen c h there i x e (is ∙ same);
      later = All-weaker (λ u. IsBelow u c) (λ u. IsBelow u y) (λ u below e. omega (arith, below (e ∙ same), counter)) used (h.before p c there);
      known = λ k new e. h.new p c there k new (sym same ∙ e);
    })

won : (t : ℕ) (c : Option Context) (places : Places) (used : List Used) (seen : List ℕ) → places (suc t) ≡ c → Fine places used seen
    → Fine (with_place zero c (with_place (suc t) None places)) used seen
won t None places used seen there h = cleared zero (with_place (suc t) None places) used seen (cleared (suc t) places used seen h)
won t (Some c) places used seen there h = goes (suc t) c c places used seen there refl refl h

adopted : (identity : Option (List ℕ)) (c : Option Context) (places : Places) (used : List Used) (seen : List ℕ) → places zero ≡ c → Fine places used seen
    → Fine (with_place zero (renamed identity c) places) used seen
adopted None c places used seen there h = cleared zero places used seen h
adopted (Some identity) None places used seen there h = cleared zero places used seen h
adopted (Some identity) (Some c) places used seen there h =
    let y : Context = record c { identity = identity } in comes_back y places used seen (goes zero c y places used seen there refl refl h)

-- ---- all moves

abbrev IsFine : HomePast → Type 0
IsFine w = Fine w.place w.used w.origins

stays_fine : (m : Move) (w : HomePast) → IsFresh m w → IsFine w → IsFine (moved m w)
stays_fine (Challenge t c) w fresh h = challenged t c w.place w.used w.origins fresh h
stays_fine (Resume t identity) w fresh h = resumed t identity (w.place zero) w.place w.used w.origins refl h
stays_fine (Accept counter) w fresh h = accepted counter (w.place zero) w.place w.used w.origins refl fresh h
stays_fine (Win t) w fresh h = won t (w.place (suc t)) w.place w.used w.origins refl h
stays_fine (Lose t) w fresh h = cleared (suc t) w.place w.used w.origins h
stays_fine (Adopt identity) w fresh h = adopted identity (w.place zero) w.place w.used w.origins refl h

all_fine : (ms : List Move) (w : HomePast) → EachIsFresh ms w → IsFine w → IsFine (after ms w)
all_fine [] w fresh h = h
all_fine (m ∷ ms) w fresh h = all_fine ms (moved m w) fresh.1 (stays_fine m w fresh.0 h)

pub each_counter_once : EachCounterOnce
each_counter_once ms fresh = (all_fine ms empty_home fresh (holds_empty origin_of origin_used IsBelow AreDifferent others_are_below)).differ
