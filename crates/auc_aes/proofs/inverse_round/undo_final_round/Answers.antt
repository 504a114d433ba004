use Rattle.std.proofs.Common.{ap, ◌∙◌}
use Rattle.auc_aes.specs.Cipher.{inv_sub_bytes, inv_shift_rows, inv_final_round}
use Rattle.auc_aes.proofs.inverse_round.undo_final_round.Goals as goal

pub returns : goal.returns
unfolding inv_final_round
returns c =
    c.restore_all.ensures ∙ ap inv_sub_bytes (c.shift_back.ensures ∙ ap inv_shift_rows c.xor.ensures)
