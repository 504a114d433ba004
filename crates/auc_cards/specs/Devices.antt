-- The devices of a job: those of the subscribers whose USIMs it holds. A look-up gives what a subscriber's USIM keeps, if the
-- subscriber's is among some USIMs.
use Rattle.std.specs.Prelude.{ℕ, ◌==◌, Bool, List, [], ◌∷◌, flat_map, map, Option, Some, None, is_some, slice_get, if◌then◌else◌}
use Rattle.auc_lines.specs.Part.{held_subs}
use Rattle.auc_lines.specs.declared.part.Line.{Line}
use Rattle.auc_peer.specs.declared.device.Device.{Device}
use Rattle.auc_subs.specs.Setting.{Setting}
use Rattle.auc_server.specs.declared.setting.HomeRow.{HomeRow}
use Rattle.auc_subs.specs.declared.row.Row.{Row}
use Rattle.auc_reauth.specs.Device.{Keeps}
use Rattle.auc_usim.specs.Usim.{Memory}
pub use Rattle.auc_cards.specs.Own.{OwnDevices}
use Rattle.auc_cards.specs.Stores.{Kept, kept_of}

-- what a subscriber's USIM keeps, if its device is among them
abbrev pub usim_among : List HomeRow → List Device → ℕ → Option Memory
usim_among [] devices sub = None
usim_among (home ∷ homes) [] sub = None
usim_among (home ∷ homes) (device ∷ devices) sub = if home.sub == sub then Some device.usim else usim_among homes devices sub

abbrev pub usim_in : OwnDevices → ℕ → Option Memory
usim_in own sub = usim_among own.homes own.devices sub

-- whether a subscriber's USIM is among some
abbrev pub has_usim : (ℕ → Option Memory) → ℕ → Bool
has_usim usims sub = is_some (usims sub)

-- ---- the devices with which a job begins

abbrev pub home_of : List Kept → ℕ → HomeRow
home_of kept sub = record { sub = sub; ordinals = (kept_of kept sub).ordinals; store = (kept_of kept sub).home }

-- a subscriber's device, with its row's identity, the realm of the home network, its USIM as it stands, and what it keeps
abbrev pub device_with : Setting → Option Row → Option Memory → Keeps → List Device
device_with set None usim keeps = []
device_with set (Some row) None keeps = []
device_with set (Some row) (Some usim) keeps = record { imsi = row.imsi; usim = usim; store = keeps; realm = set.realm } ∷ []

abbrev pub device_of : Setting → List Memory → List Kept → ℕ → List Device
device_of set usims kept sub = device_with set (slice_get set.rows sub) (slice_get usims sub) (kept_of kept sub).device

abbrev pub devices_of : Setting → List Memory → List Kept → List ℕ → OwnDevices
devices_of set usims kept subs = record { homes = map (home_of kept) subs; devices = flat_map (device_of set usims kept) subs }

-- those of the subscribers whose USIMs a job holds
abbrev pub job_devices : Setting → List Memory → List Kept → List Line → OwnDevices
job_devices set usims kept job = devices_of set usims kept (held_subs job)
