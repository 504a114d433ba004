-- The lines of a job that may be served for some subscribers.
use Rattle.std.specs.Prelude.{ℕ, ◌≤◌, ◌<◌, List, length, All}
use Rattle.auc_lines.specs.declared.part.FivegLine.{FivegLine}
use Rattle.auc_lines.specs.declared.part.Line.{Line}
use Rattle.auc_lines.specs.declared.part.Line.TheVariants as line
use Rattle.auc_lines.specs.Part.{IsReport, IsShortIdentity, IsStarBit}
use Rattle.auc_lines.specs.Sim.{IsSimValue}
use Rattle.auc_lines.specs.Sites.{IsSitesValue}
use Rattle.auc_sqn.specs.Number.{max_seq}
use Rattle.auc_subs.specs.Subscriber.{top_at}
use Rattle.auc_subs.specs.declared.row.Row.{Row}

-- the name of a serving network has 1 to 255 bytes
pub record IsName (name : List ℕ) : Type 0 where
  pub some : 1 ≤ length name
  pub short : length name ≤ 255

-- a line for 5G has such a subscriber, such names and such a bit
pub record IsKnownFiveg (subs : ℕ) (fiveg : FivegLine) : Type 0 where
  pub sub : fiveg.sub < subs
  pub home : IsName fiveg.home
  pub device : IsName fiveg.device
  pub bit : IsStarBit fiveg.bit

-- the subscriber of a line has a row, its numbers are within their ranges, the SEQ of a resynchronisation up to the subscriber's
-- greatest number, and names and identities aren't too long. An event of a session that isn't open is refused when it is served
abbrev pub IsKnownLine : List Row → Line → Type 0
IsKnownLine rows (line.Draw sub count) = sub < length rows
IsKnownLine rows (line.Sync sub report count) = (sub < length rows) × IsReport (top_at rows sub) report
IsKnownLine rows (line.Give sub n) = (sub < length rows) × (1 ≤ n) × (n ≤ max_seq)
IsKnownLine rows (line.Eps sub snid) = sub < length rows
IsKnownLine rows (line.Fiveg fiveg) = IsKnownFiveg (length rows) fiveg
IsKnownLine rows (line.Sites sites) = (sites.sub < length rows) × IsSitesValue sites
IsKnownLine rows (line.Sim sim) = (sim.sub < length rows) × IsSimValue sim
IsKnownLine rows (line.Session opening) = (opening.sub < length rows) × (length opening.name ≤ 255) × IsShortIdentity opening.identity
IsKnownLine rows (line.Start session) = Unit {0}
IsKnownLine rows (line.Deliver session end packet) = Unit {0}
IsKnownLine rows (line.Repeat session) = Unit {0}
IsKnownLine rows (line.GiveUp session end) = Unit {0}
IsKnownLine rows (line.Plain session) = Unit {0}
IsKnownLine rows (line.Tamper packet place byte) = Unit {0}
IsKnownLine rows (line.Cut packet length) = Unit {0}

-- the lines of a job
abbrev pub AreKnown : List Row → List Line → Type 0
AreKnown rows job = All (IsKnownLine rows) job
