use Rattle.std.specs.Prelude.{[]}
use Rattle.auc_attr.proofs.WalkLemmas.{one_walk_in}
use Rattle.auc_attr.proofs.law.bytes_have_one_reading_in_every_table.Goals as goal

pub returns : goal.returns
returns c = λ table. one_walk_in table []
