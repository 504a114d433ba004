use Rattle.std.proofs.Common.{◌≡◌, ◌*◌, length, take}
use Rattle.sha1.specs.Sha1.{digest_bytes}
use Rattle.auc_prf.proofs.compression.bytes.Given as goal

-- the words so far are written
abbrev pub invariant-loop-i : goal.invariant-loop-i
invariant-loop-i l = (length l.out ≡ 20) × (take (4 * l.i) l.out ≡ digest_bytes l.hash l.i)
