use Rattle.std.proofs.Common.{◌≡◌, take}
use Rattle.auc_cards.specs.Devices.{devices_of}
use Rattle.auc_cards.proofs.devices.JobDevices.of_job.Given as goal

abbrev pub invariant-loop-sub : goal.invariant-loop-sub
invariant-loop-sub l = l.own ≡ devices_of l.set l.cards.usims l.cards.kept (take l.sub-index l.sub-items)
