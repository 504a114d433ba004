use Rattle.std.proofs.Common.{◌∙◌, ◌++◌, ◌∷◌, [], List, sym, ap, arith}
use Rattle.std.proofs.lemmas.List.FromFn.{map-range_with_len_more}
use Rattle.auc_lines.specs.declared.part.Line.{Line}
use Rattle.auc_load.specs.Input.{job_at}
use Rattle.auc_load.proofs.input.jobs.Goals as goal

pub loop-j-preserved : goal.loop-j-preserved
loop-j-preserved c =
    let job = job_at c.args.load.now.subscribers in
    c.in_ok-push.ensures.pushed
    ∙ ap (λ (lines : List Line). c.loop-j.jobs ++ lines ∷ []) c.in_ok-job.ensures
    ∙ ap (λ (jobs : List (List Line)). jobs ++ job c.loop-j.j ∷ []) c.loop-j.invariant
    ∙ sym (map-range_with_len_more job 0 c.loop-j.j c.loop-j.j (omega arith))
