-- The network with which a job begins: the subscribers whose USIMs it holds, with their devices, and no session.
use Rattle.std.specs.Prelude.{ℕ, List, [], ◌∷◌, flat_map, map, fold, Option, Some, None, slice_get, slice_set}
use Rattle.auc_lines.specs.Part.{held_subs}
use Rattle.auc_lines.specs.declared.part.Line.{Line}
use Rattle.auc_peer.specs.Subscription.{Subscription}
use Rattle.auc_reauth.specs.Device.{Keeps}
pub use Rattle.auc_reauth.specs.Kept.{Kept, fresh_kept, kept_or, kept_of}
use Rattle.auc_subs.specs.Setting.{Setting}
use Rattle.auc_server.specs.declared.setting.HomeRow.{HomeRow}
use Rattle.auc_subs.specs.declared.row.Row.{Row}
use Rattle.auc_world.specs.Net.{Net}

-- ---- what passes from job to job

-- what is kept of a subscriber, by its home and what its device keeps
abbrev pub kept_now : HomeRow → Keeps → Kept
kept_now home keeps = record { ordinals = home.ordinals; home = home.store; device = keeps }

-- what homes and devices keep is put back in the places of their subscribers; no two are of one
abbrev pub put_back : List Kept → List HomeRow → List Keeps → List Kept
put_back kept [] stores = kept
put_back kept (home ∷ homes) [] = kept
put_back kept (home ∷ homes) (keeps ∷ stores) = slice_set (put_back kept homes stores) home.sub (kept_now home keeps)

-- after a job, by its network after the last line
abbrev pub kept_with : List Kept → Net → List Kept
kept_with kept net = put_back kept net.homes net.stores

-- after the jobs of a round, no two of which hold one subscriber's
abbrev pub kept_by_jobs : List Kept → List Net → List Kept
kept_by_jobs kept nets = fold kept_with kept nets

-- ---- the network

abbrev pub home_of : List Kept → ℕ → HomeRow
home_of kept sub = record { sub = sub; ordinals = (kept_of kept sub).ordinals; store = (kept_of kept sub).home }

-- the subscription of a row, with the realm of the home network
abbrev pub subscription_by : Setting → Option Row → List Subscription
subscription_by set None = []
subscription_by set (Some row) = record { imsi = row.imsi; realm = set.realm; secret = row.secret } ∷ []

abbrev pub subscription_at : Setting → ℕ → List Subscription
subscription_at set sub = subscription_by set (slice_get set.rows sub)

-- what the device of a row keeps
abbrev pub keeps_by : Option Row → Keeps → List Keeps
keeps_by None keeps = []
keeps_by (Some row) keeps = keeps ∷ []

abbrev pub keeps_of : Setting → List Kept → ℕ → List Keeps
keeps_of set kept sub = keeps_by (slice_get set.rows sub) (kept_of kept sub).device

-- a network of the homes and the devices of some subscribers, in which nothing has happened
abbrev pub fresh_net : Setting → List Kept → List ℕ → Net
fresh_net set kept subs = record {
  packets = [];
  sessions = [];
  released = [];
  homes = map (home_of kept) subs;
  devices = flat_map (subscription_at set) subs;
  stores = flat_map (keeps_of set kept) subs;
  broken = None;
}

abbrev pub start_of : Setting → List Kept → List Line → Net
start_of set kept job = fresh_net set kept (held_subs job)
