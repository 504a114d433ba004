-- What passes from round to round.
use Rattle.std.specs.Prelude.{◌≡◌, ℕ, ◌<◌, ◌≤◌, List, [], length, slice_get, slice_index}
use Rattle.auc_subs.specs.Subscriber.{top_at}
use Rattle.auc_subs.specs.declared.row.Row.{Row}
use Rattle.auc_subs.specs.Setting.{Setting}
use Rattle.auc_world.specs.Start.{Kept}
use Rattle.auc_usim.specs.Usim.{Memory}
use Rattle.auc_record.specs.declared.record.LineRecord.{LineRecord}
use Rattle.auc_record.specs.Lines.{accepted}
use Rattle.auc_record.specs.Released.{Released, AreReleased}
use Rattle.auc_jobs.specs.Numbers.{AreNumbers}
use Rattle.auc_jobs.specs.Usims.{AreOfRows, AreBehind}

-- the words at which the next round opens the subscribers, the subscribers' USIMs, what their homes and devices keep of their
-- names, and the numbers whose vectors were released
pub record Standing : Type 0 where
  pub words : List ℕ
  pub usims : List Memory
  pub kept : List Kept
  pub released : Released

-- a state is one of the subscribers of some rows
pub record IsStateOf (rows : List Row) (state : Standing) : Type 0 where
  pub size : length state.words ≡ length rows
  pub numbers : (sub : ℕ) → sub < length rows → slice_index state.words sub ≤ top_at rows sub
  pub secrets : AreOfRows rows state.usims
  pub kept : length state.kept ≡ length rows

-- a state is the one after the lines of all rounds so far
pub record StandsAt (set : Setting) (early : List LineRecord) (state : Standing) : Type 0 where
  pub subscribers : IsStateOf set.rows state
  pub pasts : AreBehind set.rows early (slice_get state.usims)
  pub earlier : AreReleased state.released early
  pub numbers : AreNumbers set.rows early

-- by some lines no USIM accepted anything
abbrev pub AcceptNothing : List LineRecord → Type 0
AcceptNothing lines = (bits sub : ℕ) → accepted bits sub lines ≡ []
