-- The USIMs of the subscribers, in the subscribers' order.
use Rattle.std.specs.Prelude.{◌≡◌, ℕ, ◌<◌, List, [], ◌∷◌, length, Option, Some, None, slice_get}
use Rattle.auc_sqn.specs.Past.{Remembers, opening_past}
use Rattle.auc_subs.specs.declared.row.Row.{Row}
use Rattle.auc_usim.specs.Usim.{Memory}
use Rattle.auc_cards.specs.Devices.{usim_in}
use Rattle.auc_cards.specs.Own.{OwnDevices}

-- a USIM is a row's: it has the row's secret, index length and age limit
pub record IsOfRow (row : Row) (usim : Memory) : Type 0 where
  pub secret : usim.secret ≡ row.secret
  pub bits : usim.array.bits ≡ row.bits
  pub age : usim.array.age ≡ row.age

-- each USIM has the secret of its subscriber's row, and is the row's in all else that never changes
abbrev pub HaveSecrets : List Row → (ℕ → Option Memory) → Type 0
HaveSecrets rows usims = (sub : ℕ) (row : Row) (usim : Memory) → slice_get rows sub ≡ Some row → usims sub ≡ Some usim → IsOfRow row usim

-- there is a USIM for each row, which is the row's
pub record AreOfRows (rows : List Row) (usims : List Memory) : Type 0 where
  pub sizes : length usims ≡ length rows
  pub secrets : HaveSecrets rows (slice_get usims)

-- before the first round each USIM remembers its opening alone
abbrev pub AreFresh : List Row → List Memory → Type 0
AreFresh rows usims = (sub : ℕ) (row : Row) (usim : Memory) → slice_get rows sub ≡ Some row → slice_get usims sub ≡ Some usim → Remembers usim.array (opening_past row.bits row.usim)

-- what a place has after a job's own USIMs were put back: the job's, if it has one of the place
abbrev pub put_at : Option Memory → Option Memory → Option Memory
put_at None old = old
put_at (Some usim) old = Some usim

-- a job's own USIMs were put back in their places
pub record ArePut (old : List Memory) (own : ℕ → Option Memory) (new : List Memory) : Type 0 where
  pub sizes : length new ≡ length old
  pub each : (sub : ℕ) → sub < length old → slice_get new sub ≡ put_at (own sub) (slice_get old sub)

-- the same of the jobs of a round, one job after the other
abbrev pub ArePutBack : List Memory → List OwnDevices → List Memory → Type 0
ArePutBack old [] new = new ≡ old
ArePutBack old (own ∷ others) new = (mid : List Memory) × ArePut old (usim_in own) mid × ArePutBack mid others new
