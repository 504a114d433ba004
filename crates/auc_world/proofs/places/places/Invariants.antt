use Rattle.std.proofs.Common.{◌≡◌, ◌≤◌, ◌<◌, drop, length}
use Rattle.std.specs.Prelude.{map}
use Rattle.indexmap.specs.IndexMap.{get}
use Rattle.auc_memory.specs.Identity.{Identity}
use Rattle.auc_peer.specs.Subscription.{subscription_of}
use Rattle.auc_world.specs.InnerWorld.{is_key, key_of}
use Rattle.auc_world.proofs.PlaceLemmas.{first_from}
use Rattle.auc_world.proofs.places.places.Given as goal

abbrev pub invariant-loop-left : goal.invariant-loop-left
invariant-loop-left l = record {
  within : l.left ≤ length l.devices;
  small : l.left < 4294967296;
  placed : (imsi : Identity) → get is_key l.places (key_of imsi) ≡ first_from l.left (map subscription_of (drop l.left l.devices)) imsi;
}

abbrev pub decreases-loop-left : goal.decreases-loop-left
decreases-loop-left l = l.left
