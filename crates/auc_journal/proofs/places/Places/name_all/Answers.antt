use Rattle.std.proofs.lemmas.List.Elements.{All-contains_itself}
use Rattle.auc_journal.proofs.places.Places.name_all.Goals as goal

pub invariant_of-self : goal.invariant_of-self
invariant_of-self c = All-contains_itself c.self.inside.all.items
