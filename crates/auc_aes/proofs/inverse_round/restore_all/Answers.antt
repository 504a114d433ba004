use Rattle.std.proofs.Common.{arith}
use Rattle.auc_aes.proofs.RoundLemmas.{inv_sub_bytes_by_index}
use Rattle.auc_aes.proofs.inverse_round.restore_all.Goals as goal

pub returns : goal.returns
returns c =
    inv_sub_bytes_by_index c.args.state c.loop-byte.byte-items (omega arith) (λ k l. c.loop-byte.invariant.done k (omega arith))
