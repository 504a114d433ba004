use Rattle.std.proofs.Common.{length, Some, ap, ◌∙◌, arith}
use Rattle.auc_draw.proofs.StopLemmas.{stop_ok}
use Rattle.auc_draw.proofs.keeper.KeeperPass.stop.Goals as goal

pub store_stop-requires-clause-allowed : goal.store_stop-requires-clause-allowed
store_stop-requires-clause-allowed c = stop_ok _ _ _ _ _ _ _ (Some c.args.why) _ c.self.invariant.first
    (omega (arith, c.stop_place-place.ensures, c.len.ensures, ap (λ k. length k.openings.items) c.book.invariant.key)) c.word_of.ensures (ap (λ k. k.stop) c.self.view_is ∙ c.requires.running)
