-- What a master remembers: the grant that it made last for each of its sites. Site 1 stands first.
use Rattle.std.specs.Prelude.{ℕ, ◌-◌, ◌≤◌, if◌then◌else◌, List, length, replicate, slice_get, slice_set, Option, Some, None}
use Rattle.auc_sites.specs.declared.grant.Grant.{Grant}
use Rattle.auc_sites.specs.declared.master.Judged.{Judged}
use Rattle.auc_sites.specs.declared.master.Judged.TheVariants.{Again, Old, New}
use Rattle.auc_sites.specs.declared.request.Request.{Request}
use Rattle.auc_sites.specs.Request.{same_request, is_before}

-- a site is one of a master's
abbrev pub HasSite : List (Option Grant) → ℕ → Type 0
HasSite last site = (1 ≤ site) × (site ≤ length last)

-- the place of a site
abbrev pub place_of : ℕ → ℕ
place_of site = site - 1

-- what stands at a place, or none if it is past the end
abbrev pub or_none : Option (Option Grant) → Option Grant
or_none None = None
or_none (Some last) = last

-- the last grant for the site of a request
abbrev pub last_grant : List (Option Grant) → Request → Option Grant
last_grant last r = or_none (slice_get last (place_of r.site))

-- a master that has granted nothing
abbrev pub nothing_granted : ℕ → List (Option Grant)
nothing_granted sites = replicate sites None

-- it remembers a grant as the last one for its site
abbrev pub with_grant : List (Option Grant) → Grant → List (Option Grant)
with_grant last g = slice_set last (place_of g.request.site) (Some g)

-- what it makes of a request, by the last grant for the site: that grant again if it is for this request; the request is old
-- if it was made before the one of that grant; and otherwise it is new
abbrev pub judgement : Option Grant → Request → Judged
judgement None r = New
judgement (Some g) r = if same_request g.request r then Again g else if is_before r g.request then Old g.request else New
