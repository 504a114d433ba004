use Rattle.std.proofs.Common.{◌++◌, ◌∷◌, [], subst, take}
use Rattle.std.proofs.lemmas.List.{take_more}
use Rattle.auc_record.proofs.CountLemmas.{counted_take}
use Rattle.auc_record.specs.Counts.{AreCounted}
use Rattle.auc_record.specs.declared.record.LineRecord.{LineRecord}
use Rattle.auc_record.proofs.counting.add_job.Goals as goal

pub loop-line-preserved : goal.loop-line-preserved
loop-line-preserved c = λ before are.
    let done = before ++ take c.loop-line.line-index c.args.lines.now in
    counted_take c.add_line.new.counts before c.args.lines.now c.loop-line.line-index _ (take_more _ _ c.line-item.result c.loop-line-test.true)
    (subst (λ (line : LineRecord). AreCounted (done ++ line ∷ []) c.add_line.new.counts) c.line-item.is (c.add_line.ensures done (c.loop-line.invariant before are)))
