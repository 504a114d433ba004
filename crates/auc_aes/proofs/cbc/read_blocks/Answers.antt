use Rattle.std.proofs.Common.{◌≡◌, ◌+◌, ◌*◌, [], get_or, set, ◌∙◌, arith}
use Rattle.std.proofs.lemmas.List.{get_or-set_same, get_or-set_other, length-set}
use Rattle.auc_aes.specs.Bytes.{block_from}
use Rattle.auc_aes.proofs.cbc.read_blocks.Goals as goal
use borrow.Author.Count.{below_more}

pub loop-i-preserved : goal.loop-i-preserved
loop-i-preserved c = record {
  size = length-set c.loop-i.blocks c.loop-i.i c.block_at.result ∙ c.loop-i.invariant.size;
  read = below_more (λ j. get_or (set c.loop-i.blocks c.loop-i.i c.block_at.result) j [] ≡ block_from c.args.bytes.now (c.args.at + 16 * j)) c.loop-i.i
      (λ j under. get_or-set_other c.loop-i.blocks c.loop-i.i j c.block_at.result [] (λ same. omega arith) ∙ c.loop-i.invariant.read j under)
      (get_or-set_same c.loop-i.blocks c.loop-i.i c.block_at.result [] (omega (arith, c.loop-i.invariant.size)) ∙ c.block_at.ensures);
}

pub returns : goal.returns
returns c i under = c.loop-i.invariant.read i (omega (arith, c.loop-i.invariant.size))
