use Rattle.auc_aes.specs.Lanes.{substituted, doubled}
use Rattle.auc_aes.proofs.LaneHalves.{full_both}
use Rattle.auc_aes.proofs.lanes.full_round.Goals as goal

pub returns : goal.returns
returns c a b k ea eb ek es ekk =
    full_both substituted doubled a b k c.args.state _ _ _ _ _ _ ea eb es c.substitute.ensures.once c.substitute.ensures.twice
    c.opposite_row.ensures c.next_row.ensures c.shift_rows.ensures ek ekk
