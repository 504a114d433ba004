use Rattle.std.proofs.Common.{arith}
use Rattle.auc_aes.proofs.BytesLemmas.{xor_by_index}
use Rattle.auc_aes.proofs.block.xor.Goals as goal

pub returns : goal.returns
returns g c =
    xor_by_index c.args.string c.args.other c.loop-i.string (omega arith) (omega arith) (λ k l. c.loop-i.invariant.done k (omega arith))
