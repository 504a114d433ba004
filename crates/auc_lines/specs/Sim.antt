-- Lines for sessions of EAP-SIM.
use Rattle.std.specs.Prelude.{ℕ, ◌≤◌, length}
use Rattle.auc_lines.specs.declared.sim.SimSchedule.{SimSchedule}
use Rattle.auc_lines.specs.declared.sim.SimSchedule.TheVariants.{Plain, Steps}

-- the subscriber; how many triplets the server challenges with; and which packets are delivered
pub record SimValue : Type 0 where
  pub sub : ℕ
  pub count : ℕ
  pub schedule : SimSchedule

-- a schedule has 1 to 200 deliveries, or is the plain one
abbrev pub IsSchedule : SimSchedule → Type 0
IsSchedule Plain = Unit {0}
IsSchedule (Steps deliveries) = (1 ≤ length deliveries) × (length deliveries ≤ 200)

-- the limits of such a line
pub record IsSimValue (l : SimValue) : Type 0 where
  pub least : 2 ≤ l.count
  pub most : l.count ≤ 3
  pub schedule : IsSchedule l.schedule
