use Rattle.std.proofs.Common.{sym, ◌∙◌}
use Rattle.auc_record.proofs.CountLemmas.{counted_set}
use Rattle.auc_record.proofs.counting.add_line.Goals as goal

pub returns-then-sub-counts : goal.returns-then-sub-counts
returns-then-sub-counts c = λ before counted. rw c.count_line.ensures
    (counted_set before c.args.line.now c.args.counts.now _ c.in-Some.sub (sym c.subscriber.ensures ∙ c.in-Some.is) c.if-sub-counts.true counted)
