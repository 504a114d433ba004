use Rattle.std.proofs.Common.{refl}
use Rattle.auc_aes.specs.Cipher.{inv_shift_rows}
use Rattle.auc_aes.proofs.inverse_round.shift_back.Goals as goal

pub returns : goal.returns
unfolding inv_shift_rows
returns c = refl
