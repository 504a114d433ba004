use Rattle.std.proofs.Common.{◌≡◌, take}
use Rattle.auc_lines.specs.Part.{held_subs}
use Rattle.auc_cards.proofs.devices.held.Given as goal

abbrev pub invariant-loop-line : goal.invariant-loop-line
invariant-loop-line l = l.subs.keys ≡ held_subs (take l.line-index l.job)
