use Rattle.auc_journal.proofs.journal.Journal.name_some.Goals as goal

pub name_some-requires : goal.name_some-requires
name_some-requires g c = rw (← c.self.view_is) at c.requires
