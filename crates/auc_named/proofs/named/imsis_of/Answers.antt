use Rattle.std.proofs.Common.{◌∙◌, ◌++◌, ◌∷◌, [], ap, sym}
use Rattle.auc_subs.specs.declared.row.Row.{Row}
use Rattle.auc_named.proofs.NamingLemmas.{map_next}
use Rattle.auc_named.proofs.named.imsis_of.Goals as goal

pub loop-sub-preserved : goal.loop-sub-preserved
loop-sub-preserved c = c.in_ok-push.ensures.items ∙ ap (λ is. is ++ c.row.result.now.imsi ∷ []) c.loop-sub.invariant ∙ sym (map_next (λ (row : Row). row.imsi) c.args.subs.now c.loop-sub.sub c.row.result.now c.row.ensures.place)
