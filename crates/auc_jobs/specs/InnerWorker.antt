-- Inner facts: what only private contracts of this crate cite. Here: a worker, and what its calls add to a job.
use Rattle.std.specs.Prelude.{◌≡◌, ℕ, ◌<◌, List, length, All, Option, Some}
use Rattle.auc_memory.specs.declared.stop.Stop.{Stop}
use Rattle.auc_history.specs.declared.entry.Entry.{Entry}
use Rattle.auc_lines.specs.declared.part.Line.{Line}
use Rattle.auc_subs.specs.Subscriber.{AreSubscribers, top_at}
use Rattle.auc_subs.specs.declared.row.Row.{Row}
use Rattle.auc_cards.specs.Devices.{job_devices}
use Rattle.auc_world.specs.Given.{Before}
use Rattle.auc_world.specs.Net.{Net, device_place}
use Rattle.auc_subs.specs.Setting.{Setting}
use Rattle.auc_world.specs.Start.{Kept, start_of}
use Rattle.auc_world.specs.World.{AreOfSame, WorldState}
use Rattle.auc_usim.specs.Usim.{Memory}
use Rattle.auc_record.specs.declared.record.LineRecord.{LineRecord}
use Rattle.auc_record.specs.Released.{Released}
use Rattle.auc_jobs.specs.Usims.{HaveSecrets}
use Rattle.auc_jobs.specs.InnerServing.{before_at, JobStands, ServesLine, ServesLines}
use Rattle.auc_jobs.specs.InnerUsims.{has_usim, usim_of}

-- what a worker has while it serves a job: its centre, the name of the borrow of it, what the job is served with, the numbers that were released in
-- earlier rounds, the job's network with its devices, and the job's lines so far
pub record WorkerState (C : Type 0) : Type 0 where
  pub centre : C
  pub lent : ℕ
  pub set : Setting
  pub released : Released
  pub world : WorldState
  pub lines : List LineRecord

-- a centre has a subscriber for each row, with the row's greatest number
pub record IsCentreOf (rows : List Row) (subs : ℕ) (top : ℕ → ℕ) : Type 0 where
  pub size : subs ≡ length rows
  pub greatest : (sub : ℕ) → top sub ≡ top_at rows sub

-- each session is at the device of its subscriber
abbrev pub AreAtDevices : List Row → Net → Type 0
AreAtDevices rows net = All (λ s. device_place rows net.devices s.sub ≡ Some s.device) net.sessions

-- a centre and a job's network with its devices are those of the rows
pub record AreForRows (rows : List Row) (subs : ℕ) (top : ℕ → ℕ) (world : WorldState) : Type 0 where
  pub is_centre : IsCentreOf rows subs top
  pub subscribers : AreSubscribers rows
  pub secrets : HaveSecrets rows (usim_of rows world)
  pub homes : All (λ home. home.sub < length rows) world.net.homes
  pub placed : AreAtDevices rows world.net

-- the network with which a job begins, with the devices of its subscribers
abbrev pub start_world : Setting → List Memory → List Kept → List Line → WorldState
start_world set usims stores job = record { net = start_of set stores job; devices = (job_devices set usims stores job).devices }

module _ {C : Type 0} where
  -- a worker goes on with the same borrow of its centre and with the borrow that the centre holds, by their names, and
  -- with its setting and released numbers
  pub record IsSameWorker (old_name name : ℕ) (old new : WorkerState C) : Type 0 where
    pub borrow : name ≡ old_name
    pub lent : new.lent ≡ old.lent
    pub set : new.set ≡ old.set
    pub released : new.released ≡ old.released

  -- within a job it also goes on with the devices of the same subscribers
  pub record GoesOnWith (old_name name : ℕ) (old new : WorkerState C) : Type 0 where
    pub worker : IsSameWorker old_name name old new
    pub keyed : (sub : ℕ) → has_usim (usim_of new.set.rows new.world) sub ≡ has_usim (usim_of old.set.rows old.world) sub
    pub homes : AreOfSame old.world.net.homes new.world.net.homes
    pub devices : new.world.net.devices ≡ old.world.net.devices

  -- for a line beside the sessions it goes on with the network as it is
  pub record GoesOnBeside (old_name name : ℕ) (old new : WorkerState C) : Type 0 where
    pub worker : IsSameWorker old_name name old new
    pub keyed : (sub : ℕ) → has_usim (usim_of new.set.rows new.world) sub ≡ has_usim (usim_of old.set.rows old.world) sub
    pub net : new.world.net ≡ old.world.net

  -- what stands after a worker's lines, with the lines of earlier rounds and of its earlier jobs before them
  abbrev pub WorkerStands : (C → ℕ → Option ℕ) → List LineRecord → List LineRecord → WorkerState C → Type 0
  WorkerStands kept early beside w = JobStands w.set.rows (before_at early beside w.lines) (kept w.centre) w.released (usim_of w.set.rows w.world)

  -- what a worker added for a request, by the lines before it, and what stands then
  abbrev pub WorkerServes : (C → ℕ → Option ℕ) → (C → ℕ → List Entry → List (ℕ × Stop) → C → Type 0) → WorkerState C → WorkerState C
      → (Before → List LineRecord → Type 0) → Type 0
  WorkerServes kept goes old new Gives = (early beside : List LineRecord) → WorkerStands kept early beside old
      → ServesLine (λ i es ws. goes old.centre i es ws new.centre) old.set.rows (before_at early beside old.lines)
      (kept new.centre) old.released (usim_of old.set.rows new.world) (Gives (before_at early beside old.lines)) new.lines

  -- what it gave for the lines of a job, which had none
  abbrev pub WorkerServesLines : (C → ℕ → Option ℕ) → (C → ℕ → List Entry → List (ℕ × Stop) → C → Type 0) → WorkerState C → WorkerState C → List Line → Type 0
  WorkerServesLines kept goes old new job = (early beside : List LineRecord) → WorkerStands kept early beside old
      → ServesLines (λ i es ws. goes old.centre i es ws new.centre) old.set early beside (kept new.centre) old.released (usim_of old.set.rows new.world) old.world.net job new.lines new.world.net
