-- Inner facts: what only private contracts of this crate cite. Places of the subscribers that plain lines name, and lines over places.
use Rattle.std.specs.Prelude.{◌≡◌, ◌<◌, ℕ, true, All, AllPairs, Contains, List}
use Rattle.auc_lines.specs.declared.part.Line.{Line}
use Rattle.auc_named.specs.Named.{is_plain, sub_of}

-- some places are these subscribers, each of them once
pub record ArePlacesOf (subs places : List ℕ) : Type 0 where
  pub rising : AllPairs ◌<◌ places
  pub each : All (Contains places) subs
  pub only : All (Contains subs) places

-- a plain line, whose subscriber has a place
pub record IsAtAPlace (places : List ℕ) (of : Line) : Type 0 where
  pub plain : is_plain of ≡ true
  pub there : Contains places (sub_of of)

-- a plain line about one of so many subscribers
pub record IsOwnLine (count : ℕ) (own : Line) : Type 0 where
  pub plain : is_plain own ≡ true
  pub within : sub_of own < count
