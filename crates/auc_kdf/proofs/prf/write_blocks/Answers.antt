use Rattle.std.proofs.Common.{◌≡◌, ◌+◌, refl, arith, rules}
use Rattle.auc_kdf.specs.Prime.{prf_block, prf_blocks}
use Rattle.auc_kdf.specs.Inner.{seed_bytes}
use Rattle.auc_kdf.proofs.BlockLemmas.{prf_block_next, written_next, last_next}
use Rattle.auc_kdf.proofs.prf.write_blocks.Goals as goal

pub loop-i-init : goal.loop-i-init
unfolding prf_block prf_blocks
loop-i-init c = record { size = refl; written = refl; last = refl }

pub loop-i-preserved : goal.loop-i-preserved
loop-i-preserved c =
    let is : c.block_after-block.result ≡ prf_block c.args.key.now (seed_bytes c.args.seed.now) (c.loop-i.i + 1) =
    rw (c.block_after-block.ensures, c.saturating_sub.ensures, prf_block_next, ← c.loop-i.invariant.last) refl in
    rw c.copy_from_slice.ensures.after (record {
      size = search rules;
      written = written_next c.args.key.now (seed_bytes c.args.seed.now) c.loop-i.out c.block_after-block.result c.loop-i.i (omega arith) (search rules) c.loop-i.invariant.written is;
      last = last_next c.args.key.now (seed_bytes c.args.seed.now) c.loop-i.out c.block_after-block.result c.loop-i.i (omega arith) (search rules) is;
    })
