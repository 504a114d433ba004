use Rattle.std.proofs.Common.{◌≡◌, ◌≤◌, ◌+◌, ◌∙◌, ℕ, List, [], ◌∷◌, length, take, ap, subst, refl, arith, length-take}
use Rattle.auc_block.specs.Turns.{Turns}
use Rattle.auc_block.specs.declared.turn.Turn.TheVariants.{Heard}
use Rattle.auc_block.proofs.HearingLemmas.{skipping_end, skipping_ended, skipping_heard, skipping_less, skipping_more, skipping_none}
use Rattle.auc_block.proofs.blocks.skip_block.Goals as goal

pub loop-init : goal.loop-init
loop-init g c = record {
  skipping = skipping_none (g.W.Wire.turns c.args.wire.now) c.args.waiting.now.items c.keep_front.new.waiting.items c.args.begin c.requires.searched c.keep_front.ensures;
  quiet = refl;
}

pub returns-then-branch-eq0-clause-heard : goal.returns-then-branch-eq0-clause-heard
returns-then-branch-eq0-clause-heard g c =
    let mid = g.W.Wire.turns c.loop.wire in
    let new = g.W.Wire.turns c.hear_more.new.wire in
    let zero : c.in_ok-hear_more.field-0 ≡ 0 = c.if-branch-eq0.true in
    let P : List ℕ → Type 0 = λ piece. Turns mid new (Heard piece ∷ []) in
    let turns : P [] = subst P (ap (λ (n : ℕ). take n c.hear_more.new.room) zero) c.in_ok-hear_more.ensures.turns in
    let ended = skipping_ended (g.W.Wire.turns c.args.wire.now) mid new c.args.waiting.now.items c.loop.waiting.items c.loop.counter turns c.loop.invariant.skipping in
    (ended.0, ended.1, (ended.2, c.in_ok-hear_more.ensures.end.0 zero, c.clear.ensures.items))

pub returns-in-End-clause-heard : goal.returns-in-End-clause-heard
returns-in-End-clause-heard g c =
    let piece = take c.in_ok-hear_more.field-0 c.hear_more.new.room in
    let old = g.W.Wire.turns c.args.wire.now in
    let new = g.W.Wire.turns c.hear_more.new.wire in
    let grown = skipping_heard old (g.W.Wire.turns c.loop.wire) new c.args.waiting.now.items c.loop.waiting.items c.hear_more.new.waiting.items piece c.loop.counter
    c.in_ok-hear_more.ensures.waits c.in_ok-hear_more.ensures.turns c.loop.invariant.skipping in
    skipping_end old new c.args.waiting.now.items c.hear_more.new.waiting.items c.as_slice.result.now c.drop_front.new.waiting.items c.in-End.field-0 c.in-End.behind (c.loop.counter + length piece)
    c.as_slice.ensures.value c.drop_front.ensures grown c.in-End.ensures.0

pub loop-preserved : goal.loop-preserved
loop-preserved g c =
    let piece = take c.in_ok-hear_more.field-0 c.hear_more.new.room in
    let old = g.W.Wire.turns c.args.wire.now in
    let new = g.W.Wire.turns c.hear_more.new.wire in
    let kept = c.keep_front-in-Open.new.waiting.items in
    let count = c.loop.counter + length piece in
    let grown = skipping_heard old (g.W.Wire.turns c.loop.wire) new c.args.waiting.now.items c.loop.waiting.items c.hear_more.new.waiting.items piece c.loop.counter
    c.in_ok-hear_more.ensures.waits c.in_ok-hear_more.ensures.turns c.loop.invariant.skipping in
    let more = skipping_more old new c.args.waiting.now.items c.hear_more.new.waiting.items c.as_slice.result.now kept c.in-Open.line count
    c.as_slice.ensures.value c.keep_front-in-Open.ensures grown c.in-Open.ensures in
    let size : c.loop.counter + 1 ≤ count = omega (arith, length-take c.in_ok-hear_more.field-0 c.hear_more.new.room, c.in_ok-hear_more.ensures.bound) in
    record {
      skipping = skipping_less old new c.args.waiting.now.items kept count (c.loop.counter + 1) size more;
      quiet = c.in_ok-hear_more.ensures.quiet ∙ c.loop.invariant.quiet;
    }
