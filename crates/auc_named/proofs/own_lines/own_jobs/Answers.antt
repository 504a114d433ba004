use Rattle.std.proofs.Common.{◌∙◌, All, List, length, map, subst, sym, arith}
use Rattle.std.proofs.lemmas.List.Elements.{All-push}
use Rattle.auc_lines.specs.declared.part.Line.{Line}
use Rattle.auc_named.specs.InnerNaming.{IsAtAPlace, IsOwnLine}
use Rattle.auc_named.specs.Named.{line_of}
use Rattle.auc_named.proofs.NamingLemmas.{at_item, became_more}
use Rattle.auc_named.proofs.own_lines.own_jobs.Goals as goal

pub own_job-requires-clause-there : goal.own_job-requires-clause-there
own_job-requires-clause-there c =
    at_item (λ job. All (IsAtAPlace c.args.places.now) job) c.args.jobs.now c.loop-job.job-index c.job-item.result c.as_slice.result.now c.requires.there (omega arith) c.job-item.is c.as_slice.ensures

pub loop-job-preserved : goal.loop-job-preserved
loop-job-preserved c = record {
  own = subst (All (λ job. All (IsOwnLine (length c.args.places.now)) job)) (sym c.in_ok-push.ensures.pushed)
      (All-push (λ job. All (IsOwnLine (length c.args.places.now)) job) c.loop-job.own _ c.loop-job.invariant.own c.in_ok-own_job.ensures.own);
  same = became_more (λ (job : List Line). map (line_of c.args.places.now) job) c.args.jobs.now c.loop-job.own _ c.loop-job.job-index c.job-item.result _ c.loop-job.invariant.same (omega arith) c.job-item.is (c.in_ok-own_job.ensures.same ∙ c.as_slice.ensures) c.in_ok-push.ensures.pushed;
}
