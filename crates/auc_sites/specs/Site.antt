-- A site, and what each of its calls makes of it.
use Rattle.std.specs.Prelude.{ℕ, ◌+◌, ◌-◌, ◌^◌, ◌==◌, ◌&&◌, Bool, true, false, not, if◌then◌else◌, List, [], length, drop, slice_get, Option, Some, None}
use Rattle.auc_sites.specs.declared.grant.Grant.{Grant}
use Rattle.auc_sites.specs.declared.request.Request.{Request}
use Rattle.auc_sites.specs.declared.site.Taken.{Taken}
use Rattle.auc_sites.specs.declared.site.Taken.TheVariants as taken
use Rattle.auc_sites.specs.Request.{same_request}

-- a site: its number; its boot number, which rises at each start; how often it has asked since; whether it waits for
-- a grant of its last request; and the numbers that it holds, the least one first
pub record SiteState : Type 0 where
  pub id : ℕ
  pub boot : ℕ
  pub asks : ℕ
  pub waits : Bool
  pub held : List ℕ

-- a site that has just started: it has asked for nothing, and holds nothing
abbrev pub new_site : ℕ → ℕ → SiteState
new_site id boot = record { id = id; boot = boot; asks = 0; waits = false; held = [] }

-- ---- asking

-- its last request
abbrev pub last_request : SiteState → Request
last_request s = record { site = s.id; boot = s.boot; ask = s.asks }

-- the request that it waits for: the last one, or none
abbrev pub outstanding : SiteState → Option Request
outstanding s = if s.waits then Some (last_request s) else None

-- it has asked once more, and waits for that request alone
abbrev pub after_ask : SiteState → SiteState
after_ask s = record { id = s.id; boot = s.boot; asks = s.asks + 1; waits = true; held = s.held }

-- the greatest number of 32 bits, which is the last ask number and the last boot number
abbrev pub greatest_u32 : ℕ
greatest_u32 = 2 ^ 32 - 1

-- ---- a grant

-- whether a grant is for the request that the site waits for
abbrev pub is_awaited : SiteState → Grant → Bool
is_awaited s g = s.waits && same_request g.request (last_request s)

-- it takes the numbers of such a grant in the place of those that it held, and waits no more; no other grant changes it
abbrev pub after_grant : SiteState → Grant → SiteState
after_grant s g = if is_awaited s g then record { id = s.id; boot = s.boot; asks = s.asks; waits = false; held = g.lease } else s

-- its answer to a grant
abbrev pub answer_to : SiteState → Grant → Taken
answer_to s g = if is_awaited s g then taken.Taken (length g.lease) else taken.NotMine (outstanding s)

-- ---- a draw

-- the number that it hands out: the first that it holds, or none
abbrev pub next_number : SiteState → Option ℕ
next_number s = slice_get s.held 0

-- it holds that number no more
abbrev pub after_draw : SiteState → SiteState
after_draw s = record { id = s.id; boot = s.boot; asks = s.asks; waits = s.waits; held = drop 1 s.held }

-- ---- a restart

-- whether there is a further boot number
abbrev pub can_restart : SiteState → Bool
can_restart s = not (s.boot == greatest_u32)

-- it has started once more and forgotten the rest, if there is a further boot number
abbrev pub after_restart : SiteState → SiteState
after_restart s = if can_restart s then new_site s.id (s.boot + 1) else s
