-- Laws of the two stores, over every list of calls.
use Rattle.std.specs.Prelude.{◌≡◌, ◌≢◌, ℕ, ◌+◌, ◌<◌, ◌≤◌, ◌&&◌, Bool, true, false, List, [], ◌∷◌, ◌++◌, AllPairs, count_by, Option, Some, if◌then◌else◌}
use Rattle.std.specs.Option.{option_to_list}
use Rattle.auc_hmac.specs.declared.method.Method.{Method}
use Rattle.auc_hmac.specs.declared.method.Method.TheVariants as methods
use Rattle.auc_reauth.specs.Store.{entry, with_entry}
use Rattle.auc_reauth.specs.Server.{Contexts, entry_named, left}
use Rattle.auc_reauth.specs.Device.{Keeps, is_open, with_accepted, with_context, with_pseudonym}
use Rattle.auc_reauth.specs.declared.context.Context.{Context}

-- ---- a server's store

-- a call that changes a server's store
pub data ServerCall : Type 0 where
  Take : Method → List ℕ → ServerCall
  Put : Method → Context → ServerCall

-- the contexts after a call
abbrev pub contexts_after : ServerCall → Contexts → Contexts
contexts_after (Take method identity) contexts = left method identity contexts
contexts_after (Put method c) contexts = with_entry method (Some c) contexts

-- the context that a call takes
abbrev pub taken_by : ServerCall → Contexts → List Context
taken_by (Take method identity) contexts = option_to_list (entry_named method identity contexts)
taken_by (Put method c) contexts = []

-- the context that a call puts
abbrev pub put_by : ServerCall → List Context
put_by (Take method identity) = []
put_by (Put method c) = c ∷ []

-- the contexts that calls take, one call after the other
abbrev pub taken : Contexts → List ServerCall → List Context
taken contexts [] = []
taken contexts (call ∷ calls) = taken_by call contexts ++ taken (contexts_after call contexts) calls

-- the contexts that calls put
abbrev pub put : List ServerCall → List Context
put [] = []
put (call ∷ calls) = put_by call ++ put calls

-- the contexts of a store
abbrev pub held : Contexts → List Context
held contexts = option_to_list contexts.aka ++ option_to_list contexts.prime

-- of the contexts that pass a test, no more are taken than the store has and the calls put
abbrev pub ContextsAreTakenOnce : Type 0
ContextsAreTakenOnce = (test : Context → Bool) (contexts : Contexts) (calls : List ServerCall)
    → count_by test (taken contexts calls) ≤ count_by test (held contexts) + count_by test (put calls)

-- two contexts have different identities
abbrev pub AreApart : Context → Context → Type 0
AreApart c other = c.identity ≢ other.identity

-- if no identity stands twice in the store and in what the calls put, none is taken twice
abbrev pub IdentitiesAreTakenOnce : Type 0
IdentitiesAreTakenOnce = (contexts : Contexts) (calls : List ServerCall)
    → AllPairs AreApart (held contexts ++ put calls) → AllPairs AreApart (taken contexts calls)

-- ---- a device's store

-- a call that changes a device's store
pub data DeviceCall : Type 0 where
  SetPseudonym : Method → List ℕ → DeviceCall
  SetContext : Method → Option Context → DeviceCall
  AcceptCounter : Method → ℕ → DeviceCall

-- what is kept after a call
abbrev pub keeps_after : DeviceCall → Keeps → Keeps
keeps_after (SetPseudonym method text) keeps = with_pseudonym method text keeps
keeps_after (SetContext method c) keeps = with_context method c keeps
keeps_after (AcceptCounter method counter) keeps = with_accepted method counter keeps

-- whether two methods are one
abbrev pub is_same : Method → Method → Bool
is_same methods.Aka methods.Aka = true
is_same methods.Aka methods.Prime = false
is_same methods.Prime methods.Aka = false
is_same methods.Prime methods.Prime = true

-- the counter of a method that a call accepts
abbrev pub accepted_by : Method → DeviceCall → Keeps → List ℕ
accepted_by method (SetPseudonym other text) keeps = []
accepted_by method (SetContext other c) keeps = []
accepted_by method (AcceptCounter other counter) keeps =
    if is_same method other && is_open counter (entry method keeps.contexts) then counter ∷ [] else []

-- the counters of a method that calls accept, one call after the other
abbrev pub accepted : Method → Keeps → List DeviceCall → List ℕ
accepted method keeps [] = []
accepted method keeps (call ∷ calls) = accepted_by method call keeps ++ accepted method (keeps_after call keeps) calls

-- each counter that is open in one context is open in another
abbrev pub OpensNone : Option Context → Option Context → Type 0
OpensNone before after = (counter : ℕ) → is_open counter after ≡ true → is_open counter before ≡ true

-- a call sets no context of a method that opens a counter: it sets none, or one whose counter is no lower than that of
-- the context that is kept
abbrev pub GoesOn : Method → DeviceCall → Keeps → Type 0
GoesOn method (SetPseudonym other text) keeps = Unit {0}
GoesOn method (SetContext other c) keeps = is_same method other ≡ true → OpensNone (entry method keeps.contexts) c
GoesOn method (AcceptCounter other counter) keeps = Unit {0}

-- each of the calls does so
abbrev pub EachGoesOn : Method → Keeps → List DeviceCall → Type 0
EachGoesOn method keeps [] = Unit {0}
EachGoesOn method keeps (call ∷ calls) = GoesOn method call keeps × EachGoesOn method (keeps_after call keeps) calls

-- over the life of a context each accepted counter is above all that were accepted before
abbrev pub AcceptedCountersRise : Type 0
AcceptedCountersRise = (method : Method) (keeps : Keeps) (calls : List DeviceCall)
    → EachGoesOn method keeps calls → AllPairs (λ earlier later. earlier < later) (accepted method keeps calls)
