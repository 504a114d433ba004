use Rattle.auc_journal.proofs.places.Places.name_some.Goals as goal

pub invariant_of-self : goal.invariant_of-self
invariant_of-self c = rw (← c.self.view_is) at c.requires
