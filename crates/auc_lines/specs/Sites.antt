-- Lines for sites that hand out the numbers that a master leases to them.
use Rattle.std.specs.Prelude.{ℕ, ◌≤◌, Bool, true, false, List, length, count_by, All}
use Rattle.auc_lines.specs.declared.sites.SiteEvent.{SiteEvent}
use Rattle.auc_lines.specs.declared.sites.SiteEvent.TheVariants.{Ask, Deliver, Draw, Restart, MasterRestart}

-- the subscriber; how many sites there are; how many numbers a lease has at most; and the events
pub record SitesValue : Type 0 where
  pub sub : ℕ
  pub sites : ℕ
  pub size : ℕ
  pub schedule : List SiteEvent

-- one of so many sites, numbered from 1
abbrev pub IsSite : ℕ → ℕ → Type 0
IsSite sites site = (1 ≤ site) × (site ≤ sites)

-- an event names one of so many sites, or none
abbrev pub IsOfSites : ℕ → SiteEvent → Type 0
IsOfSites sites (Ask site) = IsSite sites site
IsOfSites sites (Deliver packet) = Unit {0}
IsOfSites sites (Draw site) = IsSite sites site
IsOfSites sites (Restart site) = IsSite sites site
IsOfSites sites MasterRestart = Unit {0}

-- the limits of such a line
pub record IsSitesValue (l : SitesValue) : Type 0 where
  pub first_site : 1 ≤ l.sites
  pub last_site : l.sites ≤ 64
  pub least : 1 ≤ l.size
  pub most : l.size ≤ 32
  pub some : 1 ≤ length l.schedule
  pub few : length l.schedule ≤ 200
  pub named : All (IsOfSites l.sites) l.schedule

-- whether an event delivers a packet, and how many do
abbrev pub is_delivery : SiteEvent → Bool
is_delivery (Ask site) = false
is_delivery (Deliver packet) = true
is_delivery (Draw site) = false
is_delivery (Restart site) = false
is_delivery MasterRestart = false

abbrev pub deliveries_in : List SiteEvent → ℕ
deliveries_in schedule = count_by is_delivery schedule
