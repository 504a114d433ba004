use Rattle.std.proofs.Common.{arith}
use Rattle.auc_world.proofs.posting.make_place.Goals as goal

pub returns-clause-place : goal.returns-clause-place
returns-clause-place c = (omega (arith, c.in_ok-reserve.ensures.ok), omega (arith, c.if-len.false, c.len.ensures, c.reserve.ensures.len))
