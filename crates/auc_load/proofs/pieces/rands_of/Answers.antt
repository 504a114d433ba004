use Rattle.std.proofs.Common.{◌≡◌, ◌+◌, ℕ, List, length, ap, ◌∙◌, arith}
use Rattle.std.proofs.lemmas.List.{length-set}
use Rattle.auc_random.specs.Random.{Stream, rand_of}
use Rattle.auc_load.proofs.VectorLemmas.{rands_more}
use Rattle.auc_load.proofs.pieces.rands_of.Goals as goal

pub loop-i-preserved : goal.loop-i-preserved
loop-i-preserved c =
    let rand : ℕ → List ℕ = rand_of c.args.stream.now.key c.args.stream.now.sub in
    let size : length c.loop-i.rands ≡ 16 = c.loop-i.invariant.size in
    record {
      size = length-set c.loop-i.rands c.loop-i.i c.rand_of.result ∙ size;
      kept = c.rand_of.ensures.kept ∙ c.loop-i.invariant.kept;
      made = rands_more rand c.loop-i.rands c.args.first c.loop-i.i c.rand_of.result (omega (arith, size)) c.loop-i.invariant.made
          (c.rand_of.ensures.value ∙ ap (λ (stream : Stream). rand_of stream.key stream.sub (c.args.first + c.loop-i.i)) c.loop-i.invariant.kept);
    }
