use Rattle.std.proofs.Common.{arith}
use Rattle.std.proofs.lemmas.Bool.Decides.{nat_tests}
use Rattle.auc_load.proofs.input.row.Goals as goal

pub new-requires : goal.new-requires
new-requires c = grind (arith, nat_tests)
