use Rattle.std.proofs.Common.{length, ap, arith}
use Rattle.auc_draw.proofs.StopLemmas.{look_ok}
use Rattle.auc_draw.proofs.keeper.KeeperPass.look.Goals as goal

pub read_number-requires-clause-allowed : goal.read_number-requires-clause-allowed
read_number-requires-clause-allowed c = look_ok _ _ _ _ _ _ _ c.self.invariant.first (omega (arith, ap (λ k. length k.openings.items) c.book.invariant.key, ap (λ b. length b.openings) c.book.view_is, c.requires.sub))
