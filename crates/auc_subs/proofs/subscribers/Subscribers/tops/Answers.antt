use Rattle.std.proofs.Common.{◌∙◌, ap, arith}
use Rattle.std.proofs.lemmas.List.{take_all}
use Rattle.auc_subs.specs.Subscriber.{tops_of}
use Rattle.auc_subs.proofs.TopLemmas.{tops_more}
use Rattle.auc_subs.proofs.subscribers.Subscribers.tops.Goals as goal

pub loop-sub-preserved : goal.loop-sub-preserved
loop-sub-preserved c = c.in_ok-push.ensures.pushed ∙ rw c.top.ensures (tops_more c.args.self.now c.loop-sub.sub c.row.result.now c.loop-sub.tops c.loop-sub.invariant c.row.ensures.place)

pub returns : goal.returns
returns c = c.loop-sub.invariant ∙ ap tops_of (take_all c.loop-sub.sub c.args.self.now (omega (arith, c.len-sub-end.ensures.count)))
