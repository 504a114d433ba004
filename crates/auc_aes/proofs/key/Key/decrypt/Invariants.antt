use Rattle.std.proofs.Common.{◌≡◌}
use Rattle.auc_aes.specs.Cipher.{state_undone}
use Rattle.auc_aes.proofs.key.Key.decrypt.Given as goal

abbrev pub invariant-loop-round : goal.invariant-loop-round
invariant-loop-round l = l.state ≡ state_undone l.self l.fn.b l.round
