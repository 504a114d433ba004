use Rattle.auc_aes.proofs.lanes.Lanes.encrypt_many.Goals as goal

pub returns : goal.returns
returns c =
    rw (← c.self.view_is) (c.encrypt_from.ensures c.args.blocks.now
    (c.encrypt_groups-done.ensures.done c.self.inside.key c.self.invariant.0 c.self.invariant.1))
