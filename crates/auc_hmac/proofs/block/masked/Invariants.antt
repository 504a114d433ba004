use Rattle.std.proofs.Common.{◌≡◌, ◌++◌, take, drop, map, bit_xor}
use Rattle.auc_hmac.proofs.block.masked.Given as goal

-- the bytes before the index are masked, the others as they were
abbrev pub invariant-loop-byte : goal.invariant-loop-byte
invariant-loop-byte l = l.byte-items ≡ map (λ byte. bit_xor byte l.pad) (take l.byte-index l.fn.block) ++ drop l.byte-index l.fn.block
