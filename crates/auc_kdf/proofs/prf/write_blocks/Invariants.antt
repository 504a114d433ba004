use Rattle.std.proofs.Common.{◌≡◌, ◌-◌, ◌*◌, take, length}
use Rattle.std.specs.List.{between}
use Rattle.auc_kdf.specs.Prime.{prf_block, prf_blocks}
use Rattle.auc_kdf.specs.Inner.{seed_bytes}
use Rattle.auc_kdf.proofs.prf.write_blocks.Given as goal

-- the blocks so far are written, and the last of them ends them
abbrev pub invariant-loop-i : goal.invariant-loop-i
invariant-loop-i l = record {
  size : length l.out ≡ length l.initial.out;
  written : take (32 * l.i) l.out ≡ prf_blocks l.key (seed_bytes l.seed) l.i;
  last : between (32 * (l.i - 1)) (32 * l.i) l.out ≡ prf_block l.key (seed_bytes l.seed) l.i;
}
