use Rattle.std.proofs.Common.{◌∙◌}
use Rattle.auc_edge.proofs.ShelfLemmas.{IsReadSoFar-more}
use Rattle.auc_edge.proofs.reading.read_all.Goals as goal

pub loop-piece-preserved : goal.loop-piece-preserved
loop-piece-preserved g c =
    let before = c.loop-piece.invariant in
    record {
      same = c.in_ok-count.ensures.same ∙ before.same;
      quiet = λ other. c.in_ok-count.ensures.quiet other ∙ before.quiet other;
      front = IsReadSoFar-more (g.H.Shelf.files c.args.shelf.now) (g.H.Shelf.files c.loop-piece.shelf) c.args.name.now c.loop-piece.text c.append.new.self c.read.new.buf c.len-in-loop-piece.result c.in_ok-count.count
          before.same c.len-in-loop-piece.ensures c.in_ok-append.ensures.appended before.front c.in_ok-count.ensures.read;
    }
