-- For the law on a device's store: over the life of a context the accepted counters rise.
use Rattle.std.proofs.Common.{◌≡◌, ℕ, ◌+◌, ◌<◌, ◌==◌, ◌&&◌, Bool, true, false, cond, leb, List, [], ◌∷◌, ◌++◌, Option, None, Some, refl, arith, All}
use Rattle.std.specs.Prelude.{AllPairs}
use Rattle.std.proofs.lemmas.Bool.{leb-true, le-leb, and_parts}
use Rattle.std.proofs.lemmas.List.Elements.{All-nil, All-cons, All-head, All-tail}
use Rattle.std.proofs.lemmas.List.Kept.{AllPairs-cons}
use Rattle.auc_hmac.specs.declared.method.Method.{Method}
use Rattle.auc_hmac.specs.declared.method.Method.TheVariants as methods
use Rattle.auc_reauth.specs.Store.{entry}
use Rattle.auc_reauth.specs.Device.{Keeps, accepting, advanced, is_open}
use Rattle.auc_reauth.specs.Laws.{DeviceCall, SetPseudonym, SetContext, AcceptCounter, keeps_after, is_same, accepted_by, accepted, OpensNone, GoesOn, EachGoesOn, AcceptedCountersRise}
use Rattle.auc_reauth.specs.declared.context.Context.{Context}

-- ---- one context

-- after the last counter none is open; else the open ones are above the accepted one
above_last : (b : Bool) (counter other : ℕ) (c : Context)
    → is_open other (cond b None (Some (record c { counter = counter + 1 }))) ≡ true → counter < other
above_last true counter other c is = absurd cc
above_last false counter other c is = omega (arith, leb-true (counter + 1) other is)

above_open : (b : Bool) (counter other : ℕ) (c : Context) → b ≡ true → is_open other (cond b (advanced counter c) (Some c)) ≡ true → counter < other
above_open true counter other c e is = above_last (counter == 65535) counter other c is
above_open false counter other c e is = absurd cc

-- a counter that is open after an open one was accepted is above it
above : (counter other : ℕ) (kept : Option Context) → is_open counter kept ≡ true → is_open other (accepting counter kept) ≡ true → counter < other
above counter other None is later = absurd cc
above counter other (Some c) is later = above_open (leb c.counter counter) counter other c is later

-- and it was open before
before_test : (b : Bool) (counter other : ℕ) (c : Context) → leb c.counter counter ≡ b → is_open other (cond b (advanced counter c) (Some c)) ≡ true → is_open other (Some c) ≡ true
before_test true counter other c e later =
    le-leb c.counter other (omega (arith, leb-true c.counter counter e, above_last (counter == 65535) counter other c later))
before_test false counter other c e later = later

open_before : (counter other : ℕ) (kept : Option Context) → is_open other (accepting counter kept) ≡ true → is_open other kept ≡ true
open_before counter other None later = later
open_before counter other (Some c) later = before_test (leb c.counter counter) counter other c refl later

-- ---- one call

-- what is open for a method after a call that sets no context that opens a counter was open before it
call_opens_none : (method : Method) (call : DeviceCall) (keeps : Keeps) → GoesOn method call keeps
    → OpensNone (entry method keeps.contexts) (entry method (keeps_after call keeps).contexts)
call_opens_none method (SetPseudonym other text) keeps on counter is = is
call_opens_none methods.Aka (SetContext methods.Aka c) keeps on counter is = on refl counter is
call_opens_none methods.Aka (SetContext methods.Prime c) keeps on counter is = is
call_opens_none methods.Prime (SetContext methods.Aka c) keeps on counter is = is
call_opens_none methods.Prime (SetContext methods.Prime c) keeps on counter is = on refl counter is
call_opens_none methods.Aka (AcceptCounter methods.Aka k) keeps on counter is = open_before k counter keeps.contexts.aka is
call_opens_none methods.Aka (AcceptCounter methods.Prime k) keeps on counter is = is
call_opens_none methods.Prime (AcceptCounter methods.Aka k) keeps on counter is = is
call_opens_none methods.Prime (AcceptCounter methods.Prime k) keeps on counter is = open_before k counter keeps.contexts.prime is

-- after a counter of the method was accepted, only those above it are open
later_above : (method other : Method) (k : ℕ) (keeps : Keeps) → is_same method other ≡ true → is_open k (entry method keeps.contexts) ≡ true → (later : ℕ)
    → is_open later (entry method (keeps_after (AcceptCounter other k) keeps).contexts) ≡ true → k < later
later_above methods.Aka methods.Aka k keeps same was later is = above k later keeps.contexts.aka was is
later_above methods.Aka methods.Prime k keeps same was later is = absurd cc
later_above methods.Prime methods.Aka k keeps same was later is = absurd cc
later_above methods.Prime methods.Prime k keeps same was later is = above k later keeps.contexts.prime was is

-- ---- many calls

-- the counters of a list are open in a context
abbrev EachIsOpen : Option Context → List ℕ → Type 0
EachIsOpen kept counters = All (λ counter. is_open counter kept ≡ true) counters

-- a fact about each counter follows from another one
each : (P Q : ℕ → Type 0) → ((k : ℕ) → P k → Q k) → (counters : List ℕ) → All P counters → All Q counters
each P Q from [] all = All-nil Q
each P Q from (k ∷ ks) all = All-cons Q k ks (from k (All-head P k ks all)) (each P Q from ks (All-tail P k ks all))

-- a counter that was tested, in front of others
first_open : (b : Bool) (kept : Option Context) (counter : ℕ) (rest : List ℕ) → (b ≡ true → is_open counter kept ≡ true) → EachIsOpen kept rest
    → EachIsOpen kept (cond b (counter ∷ []) [] ++ rest)
first_open true kept counter rest is all = All-cons (λ k. is_open k kept ≡ true) counter rest (is refl) all
first_open false kept counter rest is all = all

first_rises : (b : Bool) (counter : ℕ) (rest : List ℕ) → (b ≡ true → All (λ later. counter < later) rest) → AllPairs (λ earlier later. earlier < later) rest
    → AllPairs (λ earlier later. earlier < later) (cond b (counter ∷ []) [] ++ rest)
first_rises true counter rest below rises = AllPairs-cons (λ earlier later. earlier < later) counter rest (below refl) rises
first_rises false counter rest below rises = rises

-- the counters that calls accept for a method were open before them
each_was_open : (method : Method) (keeps : Keeps) (calls : List DeviceCall) → EachGoesOn method keeps calls
    → EachIsOpen (entry method keeps.contexts) (accepted method keeps calls)
each_was_open method keeps [] on = All-nil _
each_was_open method keeps (call ∷ calls) on =
    by call (accepted method (keeps_after call keeps) calls)
    (each (λ k. is_open k (entry method (keeps_after call keeps).contexts) ≡ true) (λ k. is_open k (entry method keeps.contexts) ≡ true)
    (call_opens_none method call keeps on.0) (accepted method (keeps_after call keeps) calls) (each_was_open method (keeps_after call keeps) calls on.1))
  where
    by : (call : DeviceCall) (rest : List ℕ) → EachIsOpen (entry method keeps.contexts) rest → EachIsOpen (entry method keeps.contexts) (accepted_by method call keeps ++ rest)
    by (SetPseudonym other text) rest all = all
    by (SetContext other c) rest all = all
    by (AcceptCounter other k) rest all =
        first_open (is_same method other && is_open k (entry method keeps.contexts)) (entry method keeps.contexts) k rest
        (λ both. (and_parts (is_same method other) (is_open k (entry method keeps.contexts)) both).1) all

-- ---- the counters rise

no_pairs : AllPairs (λ earlier later. earlier < later) []
no_pairs i j d before within = absurd (omega arith)

rise : (method : Method) (keeps : Keeps) (calls : List DeviceCall) → EachGoesOn method keeps calls
    → AllPairs (λ earlier later. earlier < later) (accepted method keeps calls)
rise method keeps [] on = no_pairs
rise method keeps (call ∷ calls) on =
    by call (accepted method (keeps_after call keeps) calls) (each_was_open method (keeps_after call keeps) calls on.1) (rise method (keeps_after call keeps) calls on.1)
  where
    by : (call : DeviceCall) (rest : List ℕ) → EachIsOpen (entry method (keeps_after call keeps).contexts) rest → AllPairs (λ earlier later. earlier < later) rest
        → AllPairs (λ earlier later. earlier < later) (accepted_by method call keeps ++ rest)
    by (SetPseudonym other text) rest all rises = rises
    by (SetContext other c) rest all rises = rises
    by (AcceptCounter other k) rest all rises =
        first_rises (is_same method other && is_open k (entry method keeps.contexts)) k rest
        (λ both.
        let parts = and_parts (is_same method other) (is_open k (entry method keeps.contexts)) both in
        each (λ later. is_open later (entry method (keeps_after (AcceptCounter other k) keeps).contexts) ≡ true) (λ later. k < later)
        (later_above method other k keeps parts.0 parts.1) rest all) rises

pub accepted_counters_rise : AcceptedCountersRise
accepted_counters_rise method keeps calls on = rise method keeps calls on
