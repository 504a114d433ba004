use Rattle.auc_journal.proofs.places.Places.imsis.Goals as goal

pub returns-in-Some-clause-among : goal.returns-in-Some-clause-among
returns-in-Some-clause-among c = rw (← c.self.view_is) c.self.invariant

pub returns-in-None-clause-among : goal.returns-in-None-clause-among
returns-in-None-clause-among c = rw (← c.self.view_is) c.self.invariant
