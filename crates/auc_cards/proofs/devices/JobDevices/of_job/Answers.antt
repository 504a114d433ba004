use Rattle.std.proofs.Common.{◌∙◌, ◌<◌, sym, subst}
use Rattle.std.specs.Prelude.{All, List, ℕ, length}
use Rattle.auc_cards.proofs.DeviceLemmas.{helds_known}
use Rattle.auc_cards.proofs.devices.JobDevices.of_job.Goals as goal

pub add-requires-clause-known : goal.add-requires-clause-known
add-requires-clause-known c =
    subst (λ (subs : List ℕ). All (λ sub. sub < length c.args.set.now.rows) subs) (sym (c.as_slice-sub-items.ensures.keys ∙ c.in_ok-subs.ensures))
    (helds_known c.args.set.now.rows c.args.job.now c.requires.known) c.loop-sub.sub-index 0 c.loop-sub-test.true
