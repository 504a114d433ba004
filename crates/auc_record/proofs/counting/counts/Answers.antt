use Rattle.std.proofs.Common.{◌≡◌, ◌+◌, ◌++◌, List, take, drop, length, arith, subst, sym, ◌∙◌}
use Rattle.std.proofs.lemmas.Grind.{common_steps}
use Rattle.std.proofs.lemmas.List.{take_more}
use Rattle.auc_record.specs.Lines.{all_lines}
use Rattle.auc_record.specs.declared.counting.Count.{Count}
use Rattle.auc_record.specs.Counts.{AreCounted}
use Rattle.auc_record.proofs.CountLemmas.{counted_job, counted_none}
use Rattle.auc_record.proofs.counting.counts.Goals as goal

pub loop-job-init : goal.loop-job-init
loop-job-init c = record {
  size = grind (arith, common_steps);
  counted = counted_none c.in_ok-counts.counts.items c.args.subs (c.in_ok-counts.ensures.items_if_clones_equal (λ y same. same));
}

pub loop-job-preserved : goal.loop-job-preserved
loop-job-preserved c =
    let same : take c.loop-job.counts.len (c.add_job.new.counts ++ drop (length c.add_job.new.counts) c.loop-job.counts.items) ≡ c.add_job.new.counts = grind (arith, common_steps) in
    record {
      size = grind (arith, common_steps);
      counted = subst (λ (counts : List Count). AreCounted (all_lines (take (c.loop-job.job-index + 1) c.args.records.now)) counts) (sym same)
          (counted_job c.add_job.new.counts c.args.records.now c.loop-job.job-index _ c.as_slice.result.now (take_more _ _ c.job-item.result c.loop-job-test.true)
          (c.as_slice.ensures ∙ c.job-item.is)
          (c.add_job.ensures (all_lines (take c.loop-job.job-index c.args.records.now)) (rw c.deref_mut.ensures.value c.loop-job.invariant.counted)));
    }
