use Rattle.auc_milenage.proofs.GiveLemmas.{inputs_are}
use Rattle.auc_milenage.proofs.lanes.inputs.Goals as goal

pub returns : goal.returns
returns c =
    inputs_are c.args.opc c.args.temp c.args.in1 _ _ _ _ _ _ _ _ _ _ _ c.sum-mixed.ensures c.sum.ensures c.turned_half.ensures c.sum-first.ensures
    c.turned_none.ensures c.turned_word.ensures c.turned_half-2.ensures c.input.ensures c.input-2.ensures c.input-3.ensures c.input-4.ensures
