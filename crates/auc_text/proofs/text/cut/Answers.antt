use Rattle.std.proofs.Common.{◌==◌}
use Rattle.auc_text.proofs.TextLemmas.{cut_none, cut_at}
use Rattle.auc_text.proofs.text.cut.Goals as goal

pub returns-in_err-place-clause-cut : goal.returns-in_err-place-clause-cut
returns-in_err-place-clause-cut c = rw c.from_residual.ensures (cut_none (λ byte. byte == 10) c.args.text.now (cc c.in_err-place.ensures.place))

pub returns-clause-cut : goal.returns-clause-cut
returns-clause-cut c = cut_at (λ byte. byte == 10) c.args.text.now c.in_ok-place.place (cc c.in_ok-place.ensures.place) c.in_ok-place.ensures.within
