use Rattle.std.proofs.Common.{◌++◌, ◌-◌, length, take, drop, inl, ◌∙◌, arith}
use Rattle.auc_block.proofs.HearingLemmas.{rest_more, says_more}
use Rattle.auc_block.proofs.saying.say_whole.Goals as goal

pub returns-then-count-eq0-clause-front : goal.returns-then-count-eq0-clause-front
returns-then-count-eq0-clause-front g c =
    let before = c.loop-rest.invariant in
    let rest = c.loop-rest.rest.now in
    let count = c.in_ok-count.count in
    record {
      front = before.front.0 ++ take count rest;
      rest = take (length rest - count) (drop count rest);
      whole = rest_more before.front.0 rest c.args.bytes.now count before.front.1;
      said = says_more (g.W.Wire.turns c.args.wire.now) (g.W.Wire.turns c.loop-rest.wire) (g.W.Wire.turns c.say.new.self) before.front.0 (take count rest) before.front.2 c.in_ok-count.ensures.said;
    }

pub loop-rest-preserved : goal.loop-rest-preserved
loop-rest-preserved g c =
    let before = c.loop-rest.invariant in
    let rest = c.loop-rest.rest.now in
    let count = c.in_ok-count.count in
    record {
      front = (
        before.front.0 ++ take count rest,
        rest_more before.front.0 rest c.args.bytes.now count before.front.1,
        says_more (g.W.Wire.turns c.args.wire.now) (g.W.Wire.turns c.loop-rest.wire) (g.W.Wire.turns c.say.new.self) before.front.0 (take count rest) before.front.2 c.in_ok-count.ensures.said,
      );
      quiet = c.in_ok-count.ensures.quiet (inl (omega arith)) ∙ before.quiet;
      same = c.in_ok-count.ensures.same ∙ before.same;
    }
