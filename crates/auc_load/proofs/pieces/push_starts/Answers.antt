use Rattle.std.proofs.Common.{◌+◌, List, sym, subst, arith}
use Rattle.auc_load.specs.Pieces.{IsCut, vectors_of_piece}
use Rattle.auc_load.specs.declared.pieces.Place.{Place}
use Rattle.auc_load.proofs.PieceLemmas.{cut_more, cut_passed}
use Rattle.auc_load.proofs.pieces.push_starts.Goals as goal

pub loop-at-preserved : goal.loop-at-preserved
loop-at-preserved c =
    let test = c.loop-at-test.true in
    record {
      near = omega (arith, test);
      cut = λ source d known is begun.
          subst (λ (starts : List Place). IsCut source (record { closing = c.args.closing; before = c.loop-at.at + vectors_of_piece }) starts) (sym c.in_ok-push.ensures.pushed)
          (cut_more source c.args.closing c.loop-at.at c.args.last c.loop-at.starts d known is test (c.loop-at.invariant.cut source d known is begun));
    }

pub returns-clause-cut : goal.returns-clause-cut
returns-clause-cut c source d known is begun =
    let test = c.loop-at-test.false in
    cut_passed source c.args.closing c.loop-at.at c.args.last c.loop-at.starts d known is test (c.loop-at.invariant.cut source d known is begun)
