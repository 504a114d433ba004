use Rattle.auc_milenage.proofs.GiveLemmas.{give_outs}
use Rattle.auc_milenage.proofs.lanes.MilenageLanes.inputs.Goals as goal

pub returns : goal.returns
returns c =
    rw (← c.self.view_is) (λ rand sqn amf et ei. give_outs c.self.inside.lanes c.self.inside.opc rand sqn amf c.args.temp c.args.in1 _ et ei c.inputs.ensures)
