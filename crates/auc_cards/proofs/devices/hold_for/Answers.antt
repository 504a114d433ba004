use Rattle.std.proofs.Common.{◌∙◌, ap}
use Rattle.auc_lines.specs.Part.{with_held}
use Rattle.auc_cards.proofs.DeviceLemmas.{inserted}
use Rattle.auc_cards.proofs.devices.hold_for.Goals as goal

pub returns-in_ok-insert : goal.returns-in_ok-insert
returns-in_ok-insert c = c.in_ok-insert.ensures.keys ∙ inserted c.in-Some.sub c.args.subs.now.keys ∙ ap (with_held c.args.subs.now.keys) c.in-Some.ensures
