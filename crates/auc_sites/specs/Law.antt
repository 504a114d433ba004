-- What holds after every list of events: each number is handed out once, and an awaited grant is taken.
use Rattle.std.specs.Prelude.{◌≡◌, ◌≢◌, ℕ, false, List, All, AllPairs, Contains, flat_map, slice_get, Option, Some}
use Rattle.auc_vector.specs.declared.centre.CentreRefusal.{CentreRefusal}
use Rattle.auc_sites.specs.declared.grant.Grant.{Grant}
use Rattle.auc_sites.specs.Drawing.{Goes, KeptWords, Top}
use Rattle.auc_sites.specs.Lease.{IsRising}
use Rattle.auc_sites.specs.Master.{place_of}
use Rattle.auc_sites.specs.Network.{Network, Granting, Deliver, SitesTurn, after_event, after_turns, start}
use Rattle.auc_sites.specs.Run.{Runs}
use Rattle.auc_sites.specs.Site.{SiteState, outstanding}

-- the numbers that the centre gave in some turns
abbrev pub released : List SitesTurn → List ℕ
released turns = flat_map (λ t. t.numbers) turns

-- no number is given twice, and those that are given in one turn rise
pub record AreGivenOnce (turns : List SitesTurn) : Type 0 where
  pub differ : AllPairs ◌≢◌ (released turns)
  pub rise : All (λ t. IsRising t.numbers) turns

-- each number is handed out at most once
pub record HandsOutOnce (numbers : List ℕ) (w : Network) : Type 0 where
  -- two grants with a common number are equal
  pub one_grant : (g h : Grant) (n : ℕ) → Contains w.grants g → Contains w.grants h → Contains g.lease n → Contains h.lease n → g ≡ h
  -- no number is handed out by two draws, at one site or at two
  pub differ : AllPairs ◌≢◌ w.drawn
  -- each is one that the centre gave
  pub known : All (Contains numbers) w.drawn

-- so it is after every list of turns in which no number is given twice, wherever the numbers come from
abbrev pub EachNumberIsHandedOutOnce : Type 0
EachNumberIsHandedOutOnce =
    (boots : List ℕ) (turns : List SitesTurn) → AreGivenOnce turns → HandsOutOnce (released turns) (after_turns (start boots) turns)

-- and after every run over a centre, which gives no number twice
abbrev pub EachRunHandsOutOnce : {S : Type 0} → Goes S → KeptWords S → Top S → Type 0
EachRunHandsOutOnce {S = S} goes kept top =
    (sub : ℕ) (boots : List ℕ) (turns : List SitesTurn) (before after : S) → Runs goes kept top sub (start boots) before turns after
    → HandsOutOnce (released turns) (after_turns (start boots) turns)

-- a site with the numbers of a grant, which waits no more
abbrev pub holding : SiteState → Grant → SiteState
holding s g = record { id = s.id; boot = s.boot; asks = s.asks; waits = false; held = g.lease }

-- a site that waits for a request takes the first grant of it that is delivered
abbrev pub EachAwaitedGrantIsTaken : Type 0
EachAwaitedGrantIsTaken =
    (w : Network) (p : ℕ) (g : Grant) (s : SiteState) (numbers : List ℕ) (end : Option CentreRefusal)
    → slice_get w.packets p ≡ Some (Granting g) → slice_get w.sites (place_of g.request.site) ≡ Some s → outstanding s ≡ Some g.request
    → slice_get (after_event w (Deliver p) numbers end).sites (place_of g.request.site) ≡ Some (holding s g)
