-- The cards of all subscribers, and a job's own devices.
use Rattle.std.specs.Prelude.{List}
use Rattle.auc_peer.specs.declared.device.Device.{Device}
use Rattle.auc_reauth.specs.Kept.{Kept}
use Rattle.auc_server.specs.declared.setting.HomeRow.{HomeRow}
use Rattle.auc_usim.specs.Usim.{Memory}

-- what each USIM keeps, and what is kept of each subscriber's names, in the subscribers' order
pub record AllCards : Type 0 where
  pub usims : List Memory
  pub kept : List Kept

-- devices, and whose they are in the same order
pub record OwnDevices : Type 0 where
  pub homes : List HomeRow
  pub devices : List Device
