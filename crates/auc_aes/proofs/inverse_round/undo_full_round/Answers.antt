use Rattle.std.proofs.Common.{ap, ◌∙◌}
use Rattle.auc_aes.specs.Cipher.{inv_sub_bytes, inv_shift_rows, inv_mix_columns, inv_full_round}
use Rattle.auc_aes.proofs.inverse_round.undo_full_round.Goals as goal

pub returns : goal.returns
unfolding inv_full_round
returns c =
    c.restore_all.ensures ∙ ap inv_sub_bytes (c.shift_back.ensures ∙ ap inv_shift_rows (c.unmix.ensures ∙ ap inv_mix_columns c.xor.ensures))
