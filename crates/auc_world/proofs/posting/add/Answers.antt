use Rattle.std.proofs.Common.{arith}
use Rattle.auc_world.proofs.posting.add.Goals as goal

pub overflow_cast-result : goal.overflow_cast-result
overflow_cast-result c = omega (arith, c.len.ensures, c.push_reserved.ensures.len, c.requires.1)
