use Rattle.std.proofs.Common.{◌∙◌, ap, map, arith}
use Rattle.std.proofs.lemmas.List.{take_all}
use Rattle.auc_subs.specs.declared.row.Row.{Row}
use Rattle.auc_input.proofs.OpeningLemmas.{identities_more}
use Rattle.auc_input.proofs.opening.identities.Goals as goal

pub loop-sub-preserved : goal.loop-sub-preserved
loop-sub-preserved c =
    identities_more c.args.subs.now c.loop-sub.sub c.row.result.now c.loop-sub.imsis c.push.new.self c.row.ensures.place (omega (arith, c.len-sub-end.ensures.count)) c.loop-sub.invariant c.in_ok-push.ensures.pushed

pub returns : goal.returns
returns c = c.loop-sub.invariant ∙ ap (map (λ (row : Row). row.imsi)) (take_all c.loop-sub.sub c.args.subs.now (omega (arith, c.len-sub-end.ensures.count)))
