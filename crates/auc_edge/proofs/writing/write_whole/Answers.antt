use Rattle.std.proofs.Common.{◌++◌, take, inl, ◌∙◌, arith}
use Rattle.auc_edge.proofs.SinkLemmas.{Appends-more, rest_more}
use Rattle.auc_edge.proofs.writing.write_whole.Goals as goal

pub loop-rest-preserved : goal.loop-rest-preserved
loop-rest-preserved g c =
    let before = c.loop-rest.invariant in
    let count = c.in_ok-count.count in
    record {
      front = (
        before.front.0 ++ take count c.loop-rest.rest.now,
        rest_more before.front.0 c.loop-rest.rest.now c.args.bytes.now count before.front.1,
        Appends-more (g.K.Sink.written c.args.out.now) (g.K.Sink.written c.loop-rest.out) (g.K.Sink.written c.write.new.self) before.front.0 (take count c.loop-rest.rest.now) before.front.2 c.in_ok-count.ensures.taken,
      );
      quiet = c.in_ok-count.ensures.quiet (inl (omega arith)) ∙ before.quiet;
    }
