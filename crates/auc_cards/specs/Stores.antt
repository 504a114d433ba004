-- What homes and devices keep of the subscribers' names, in the subscribers' order.
use Rattle.std.specs.Prelude.{List, [], ◌∷◌, slice_set}
use Rattle.auc_peer.specs.declared.device.Device.{Device}
pub use Rattle.auc_reauth.specs.Kept.{Kept, fresh_kept, kept_or, kept_of}
use Rattle.auc_server.specs.declared.setting.HomeRow.{HomeRow}
use Rattle.auc_cards.specs.Own.{OwnDevices}

-- what is kept of a subscriber, by its home and its device
abbrev pub kept_now : HomeRow → Device → Kept
kept_now home device = record { ordinals = home.ordinals; home = home.store; device = device.store }

-- what homes and devices keep is put back in the places of their subscribers, the last one first
abbrev pub put_back : List Kept → List HomeRow → List Device → List Kept
put_back kept [] devices = kept
put_back kept (home ∷ homes) [] = kept
put_back kept (home ∷ homes) (device ∷ devices) = slice_set (put_back kept homes devices) home.sub (kept_now home device)

-- the same of a job's own
abbrev pub put_own : List Kept → OwnDevices → List Kept
put_own kept own = put_back kept own.homes own.devices
