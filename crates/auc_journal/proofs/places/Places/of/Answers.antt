use Rattle.std.proofs.lemmas.List.Elements.{All-contains_itself}
use Rattle.auc_journal.proofs.places.Places.of.Goals as goal

pub invariant_of-result : goal.invariant_of-result
invariant_of-result c = All-contains_itself c.args.all.items
