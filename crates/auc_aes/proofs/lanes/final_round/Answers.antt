use Rattle.auc_aes.specs.Lanes.{substituted_byte}
use Rattle.auc_aes.proofs.LaneHalves.{last_both}
use Rattle.auc_aes.proofs.lanes.final_round.Goals as goal

pub returns : goal.returns
returns c a b k ea eb ek es ekk =
    last_both substituted_byte a b k c.args.state _ _ _ ea eb es c.substitute_last.ensures c.shift_rows.ensures ek ekk
