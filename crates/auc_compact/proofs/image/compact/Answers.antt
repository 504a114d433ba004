use Rattle.std.proofs.Common.{List, ℕ, arith, subst, sym}
use Rattle.auc_compact.specs.Compact.{IsAnew}
use Rattle.auc_compact.proofs.ImageLemmas.{is_anew}
use Rattle.auc_compact.proofs.image.compact.Goals as goal

pub returns-clause-anew : goal.returns-clause-anew
returns-clause-anew c = λ file reading read are.
    subst (λ (bytes : List ℕ). IsAnew file c.args.limits.now.written bytes) (sym c.in_ok-image.ensures)
    (is_anew file reading c.args.limits.now.written (omega (arith, c.len.ensures.count, c.from.ensures, c.if-from-gt-MOST.false)) read are)
