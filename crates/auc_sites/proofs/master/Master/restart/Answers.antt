use Rattle.std.proofs.Common.{None, rules}
use Rattle.auc_sites.proofs.ListLemmas.{fill_more}
use Rattle.auc_sites.proofs.master.Master.restart.Goals as goal

pub loop-last-preserved : goal.loop-last-preserved
loop-last-preserved c = record {
  size = search rules;
  front = fill_more None _ c.loop-last.last-items c.loop-last.last-index c.loop-last-test.true c.loop-last.invariant.front;
}
