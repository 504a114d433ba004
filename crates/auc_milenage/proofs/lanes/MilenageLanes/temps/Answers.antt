use Rattle.auc_milenage.proofs.GiveLemmas.{temps_are}
use Rattle.auc_milenage.proofs.lanes.MilenageLanes.temps.Goals as goal

pub returns : goal.returns
returns c =
    rw (← c.self.view_is) (temps_are c.self.inside.lanes c.self.inside.opc c.args.rands.now _ _ c.mask.ensures c.encrypt_many.ensures)
