use Rattle.std.proofs.Common.{◌++◌, ◌∙◌, List, ℕ, ap, arith}
use Rattle.auc_compact.proofs.ImageLemmas.{frames_more}
use Rattle.auc_compact.proofs.image.image.Goals as goal

pub loop-place-preserved : goal.loop-place-preserved
loop-place-preserved c =
    c.in_ok-append.ensures.appended
    ∙ ap (λ (l : List ℕ). c.loop-place.bytes ++ l) c.frame.ensures
    ∙ frames_more c.args.limits.now.written c.loop-place.bytes c.loop-place.place (record { imsi = c.get-imsi.result.0; limit = c.get-imsi.result.1 }) c.loop-place.invariant c.get-imsi.ensures (omega (arith, c.loop-place-test.true, c.len-place-end.ensures.count))
