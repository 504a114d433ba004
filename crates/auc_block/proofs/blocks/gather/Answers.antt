use Rattle.std.proofs.Common.{◌∙◌, take, arith}
use Rattle.auc_block.proofs.HearingLemmas.{heard_next, searched_next}
use Rattle.auc_block.proofs.blocks.gather.Goals as goal

pub returns-then-branch-eq0-clause-heard : goal.returns-then-branch-eq0-clause-heard
returns-then-branch-eq0-clause-heard g c =
    heard_next (g.W.Wire.turns c.args.wire.now) (g.W.Wire.turns c.loop-begin.wire) (g.W.Wire.turns c.hear_more.new.wire) c.args.waiting.now.items c.loop-begin.waiting.items c.as_slice.result.now
    c.hear_more.new.waiting.items (take c.in_ok-hear_more.field-0 c.hear_more.new.room) c.as_slice.ensures.value c.in_ok-hear_more.ensures.waits c.loop-begin.invariant.heard c.in_ok-hear_more.ensures.turns c.in-Open.ensures.0

pub loop-begin-preserved : goal.loop-begin-preserved
loop-begin-preserved g c =
    let piece = take c.in_ok-hear_more.field-0 c.hear_more.new.room in
    record {
      heard = heard_next (g.W.Wire.turns c.args.wire.now) (g.W.Wire.turns c.loop-begin.wire) (g.W.Wire.turns c.hear_more.new.wire) c.args.waiting.now.items c.loop-begin.waiting.items c.as_slice.result.now
          c.hear_more.new.waiting.items piece c.as_slice.ensures.value c.in_ok-hear_more.ensures.waits c.loop-begin.invariant.heard c.in_ok-hear_more.ensures.turns c.in-Open.ensures.0;
      searched = searched_next c.as_slice.result.now c.loop-begin.waiting.items c.hear_more.new.waiting.items piece c.in-Open.line c.len-place.result c.as_slice.ensures.value c.in_ok-hear_more.ensures.waits (omega arith) c.in-Open.ensures.1;
      quiet = c.in_ok-hear_more.ensures.quiet ∙ c.loop-begin.invariant.quiet;
    }
