-- The contexts of one method of a subscriber or of a device, in the store and in the sessions side by side (RFC 4187 §5.1
-- and §5.3): the places where a context may be, the moves that sessions make, and which counters and identities are used.
use Rattle.std.specs.Prelude.{◌≡◌, ◌≢◌, ℕ, zero, suc, ◌+◌, ◌==◌, true, List, [], ◌∷◌, ◌++◌, All, AllPairs, Option, None, Some, if◌then◌else◌}
use Rattle.std.specs.Option.{option_to_list}
use Rattle.auc_reauth.specs.Device.{accepting, is_open}
use Rattle.auc_reauth.specs.declared.context.Context.{Context}

-- ---- places

-- what is at each place: place 0 is the store, and place t + 1 is what session t puts there if it succeeds
abbrev pub Places : Type 0
Places = ℕ → Option Context

-- with another context at a place, or none
abbrev pub with_place : ℕ → Option Context → Places → Places
with_place p c places i = if i == p then c else places i

-- a counter that was used: that of the context that a server resumed, or one that a device accepted
pub record Used : Type 0 where
  pub origin : ℕ
  pub identity : List ℕ
  pub counter : ℕ

-- the places, and what was there so far: the origins of full authentications, the identities that were given, and the
-- counters that were used
pub record HomePast : Type 0 where
  pub place : Places
  pub origins : List ℕ
  pub given : List (List ℕ)
  pub used : List Used

abbrev pub empty_home : HomePast
empty_home = record { place = λ i. None; origins = []; given = []; used = [] }

-- ---- moves

pub data Move : Type 0 where
  -- session t challenges, or answers a Challenge, with a next identity: the context of the new full authentication
  Challenge : ℕ → Context → Move
  -- session t of a server resumes the context of the store, with the next identity, if it gives one
  Resume : ℕ → Option (List ℕ) → Move
  -- a device accepts a counter
  Accept : ℕ → Move
  -- session t succeeds
  Win : ℕ → Move
  -- session t comes to nothing, or goes on without its context
  Lose : ℕ → Move
  -- a re-authentication succeeds at a device: the context gets the next identity, or without one it is dropped
  Adopt : Option (List ℕ) → Move

-- the counter of a context, as it is used
abbrev pub used_by : ℕ → Context → Used
used_by counter c = record { origin = c.origin; identity = c.identity; counter = counter }

-- a context under the next identity
abbrev pub renamed : Option (List ℕ) → Option Context → Option Context
renamed None c = None
renamed (Some identity) None = None
renamed (Some identity) (Some c) = Some (record c { identity = identity })

-- the context that a resumption leads to: the next counter under the next identity
abbrev pub next_of : Option (List ℕ) → Context → Option Context
next_of None c = None
next_of (Some identity) c = Some (record c { identity = identity; counter = c.counter + 1 })

-- the counters that a resumption uses
abbrev pub used_in : Option Context → List Used
used_in None = []
used_in (Some c) = used_by c.counter c ∷ []

abbrev pub next_in : Option (List ℕ) → Option Context → Option Context
next_in identity None = None
next_in identity (Some c) = next_of identity c

-- the counters that a device uses if it accepts one
abbrev pub accepted_in : ℕ → Option Context → List Used
accepted_in counter None = []
accepted_in counter (Some c) = used_by counter c ∷ []

abbrev pub moved : Move → HomePast → HomePast
moved (Challenge t c) w = record w {
  place = with_place (suc t) (Some c) w.place;
  origins = c.origin ∷ w.origins;
  given = c.identity ∷ w.given;
}
moved (Resume t identity) w = record w {
  place = with_place (suc t) (next_in identity (w.place zero)) (with_place zero None w.place);
  given = option_to_list identity ++ w.given;
  used = used_in (w.place zero) ++ w.used;
}
moved (Accept counter) w = record w {
  place = with_place zero (accepting counter (w.place zero)) w.place;
  used = accepted_in counter (w.place zero) ++ w.used;
}
moved (Win t) w = record w { place = with_place zero (w.place (suc t)) (with_place (suc t) None w.place) }
moved (Lose t) w = record w { place = with_place (suc t) None w.place }
moved (Adopt identity) w = record w { place = with_place zero (renamed identity (w.place zero)) w.place }

-- the home after moves
abbrev pub after : List Move → HomePast → HomePast
after [] w = w
after (m ∷ ms) w = after ms (moved m w)

-- ---- what moves may be

-- none of a list is this one
abbrev pub IsNew : {X : Type 0} → X → List X → Type 0
IsNew x xs = All (λ y. y ≢ x) xs

-- a full authentication has an origin of its own, and only an open counter is accepted
abbrev pub IsFresh : Move → HomePast → Type 0
IsFresh (Challenge t c) w = IsNew c.origin w.origins
IsFresh (Accept counter) w = is_open counter (w.place zero) ≡ true
IsFresh other w = Unit {0}

abbrev pub EachIsFresh : List Move → HomePast → Type 0
EachIsFresh [] w = Unit {0}
EachIsFresh (m ∷ ms) w = IsFresh m w × EachIsFresh ms (moved m w)

-- a server's move: each identity that is given is new, and no counter is accepted
abbrev pub GivesNew : Move → HomePast → Type 0
GivesNew (Challenge t c) w = IsNew c.identity w.given
GivesNew (Resume t None) w = Unit {0}
GivesNew (Resume t (Some identity)) w = IsNew identity w.given
GivesNew (Accept counter) w = ⊥
GivesNew (Adopt identity) w = ⊥
GivesNew other w = Unit {0}

abbrev pub EachGivesNew : List Move → HomePast → Type 0
EachGivesNew [] w = Unit {0}
EachGivesNew (m ∷ ms) w = GivesNew m w × EachGivesNew ms (moved m w)

-- ---- laws

-- two counters of one full authentication are different
abbrev pub AreDifferent : Used → Used → Type 0
AreDifferent u v = u.origin ≡ v.origin → u.counter ≢ v.counter

-- no counter is used twice under the keys of one full authentication, whatever sessions run side by side
abbrev pub EachCounterOnce : Type 0
EachCounterOnce = (ms : List Move) → EachIsFresh ms empty_home → AllPairs AreDifferent (after ms empty_home).used

-- two counters are used under different identities
abbrev pub HaveOwnNames : Used → Used → Type 0
HaveOwnNames u v = u.identity ≢ v.identity

-- a server resumes no identity twice
abbrev pub EachIdentityOnce : Type 0
EachIdentityOnce = (ms : List Move) → EachGivesNew ms empty_home → AllPairs HaveOwnNames (after ms empty_home).used
