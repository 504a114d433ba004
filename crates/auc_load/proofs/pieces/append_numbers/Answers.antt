use Rattle.std.proofs.Common.{rules, ◌+◌, ◌++◌, ◌∙◌, List, ℕ, ap, arith}
use Rattle.std.specs.List.{concat}
use Rattle.auc_load.specs.Pieces.{numbers_bytes}
use Rattle.auc_load.proofs.VectorLemmas.{numbers_more}
use Rattle.auc_random.specs.Random.{Stream}
use Rattle.auc_load.proofs.pieces.append_numbers.Goals as goal

pub loop-done-preserved : goal.loop-done-preserved
loop-done-preserved c =
    let key = c.args.rands.now in
    let row = c.args.row.now in
    let group = c.min-group.result in
    let next = c.args.before + c.loop-done.done + 1 in
    record {
      within = search rules;
      same = c.append_group.ensures.kept ∙ c.loop-done.invariant.same;
      bytes = c.in_ok-append_group.ensures.bytes
          ∙ ap (λ (s : Stream). c.loop-done.bytes ++ concat (numbers_bytes s.key row s.sub next group)) c.loop-done.invariant.same
          ∙ ap (λ (bytes : List ℕ). bytes ++ concat (numbers_bytes key row c.args.sub next group)) c.loop-done.invariant.bytes
          ∙ numbers_more key row c.args.sub (c.args.before + 1) c.loop-done.done group next c.args.bytes.now (omega arith);
    }
