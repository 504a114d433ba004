-- Behind an attribute that isn't AT_RAND the search goes on.
use Rattle.std.proofs.Common.{◌∙◌, ap, ◌-◌, ◌*◌, drop}
use Rattle.auc_print.specs.AutsText.{rand_among}
use Rattle.auc_print.proofs.AutsLemmas.{rand_behind}
use Rattle.auc_print.proofs.auts.rand_among.Goals as goal

pub loop-left-preserved : goal.loop-left-preserved
loop-left-preserved c =
    let l = c.loop-left in
    ap (λ rest. rand_among (l.left - 1) rest) (c.behind-rest.ensures ∙ ap (λ n. drop (4 * n) l.rest.now) c.from.ensures)
    ∙ rand_behind l.left l.rest.now c.loop-left-test.true c.if-rest-ge20.true c.if-rest-eq1.false ∙ l.invariant
