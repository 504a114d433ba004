use Rattle.std.proofs.Common.{subst}
use Rattle.std.proofs.lemmas.Result.{err_from_is_err_and}
use Rattle.auc_block.specs.InnerHearing.{IsGathered}
use Rattle.auc_block.specs.declared.blocks.Gathered.{Gathered}
use Rattle.auc_block.proofs.HearingLemmas.{long_next, long_trouble}
use Rattle.auc_block.proofs.blocks.hear_block.Goals as goal

pub returns-in_err-skip_block-in-Long-clause-heard : goal.returns-in_err-skip_block-in-Long-clause-heard
returns-in_err-skip_block-in-Long-clause-heard g c =
    let front = c.gather.new.waiting.items in
    let ended = g.W.Wire.ended c.gather.new.wire in
    let P : Gathered → Type 0 = λ found. IsGathered found front ended in
    let p = err_from_is_err_and c.from_residual-in_err-skip_block-in-Long.result c.from_residual-in_err-skip_block-in-Long.ensures.1 in
    rw (p.1, p.2) (long_trouble (g.W.Wire.turns c.args.wire.now) (g.W.Wire.turns c.gather.new.wire) (g.W.Wire.turns c.skip_block.new.wire) c.args.waiting.now.items front c.skip_block.new.waiting.items
    ended c.in_err-skip_block-in-Long.field-0.0 c.in-Long.begin (g.W.Wire.faults c.args.wire.now) (g.W.Wire.faults c.gather.new.wire) (g.W.Wire.faults c.skip_block.new.wire)
    c.in_ok-begin.ensures.heard (subst P c.in-Long.is c.in_ok-begin.ensures.gathered) c.in_ok-begin.ensures.quiet c.in_err-skip_block-in-Long.ensures.heard)

pub returns-in_ok-skip_block-in-Long-clause-heard : goal.returns-in_ok-skip_block-in-Long-clause-heard
returns-in_ok-skip_block-in-Long-clause-heard g c =
    let front = c.gather.new.waiting.items in
    let ended = g.W.Wire.ended c.gather.new.wire in
    let P : Gathered → Type 0 = λ found. IsGathered found front ended in
    long_next (g.W.Wire.turns c.args.wire.now) (g.W.Wire.turns c.gather.new.wire) (g.W.Wire.turns c.skip_block.new.wire) c.args.waiting.now.items front c.skip_block.new.waiting.items
    ended (g.W.Wire.ended c.skip_block.new.wire) c.in_ok-skip_block-in-Long.field-0 c.in-Long.begin c.in_ok-begin.ensures.heard (subst P c.in-Long.is c.in_ok-begin.ensures.gathered) c.in_ok-skip_block-in-Long.ensures.heard
