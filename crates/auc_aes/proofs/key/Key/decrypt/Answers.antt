use Rattle.std.proofs.Common.{◌-◌, ap, ◌∙◌, arith}
use Rattle.auc_aes.specs.Cipher.{round_key}
use Rattle.auc_aes.proofs.KeyLemmas.{undone_first, undone_more, undone_last}
use Rattle.auc_aes.proofs.key.Key.decrypt.Goals as goal

pub loop-round-init : goal.loop-round-init
loop-round-init c =
    undone_first c.args.self.now c.args.b _ _ (c.block_of.ensures ∙ (c.self.invariant 10 (omega arith) ∙ ap (λ k. round_key k 10) c.self.view_is))
    c.undo_final_round-state.ensures

pub loop-round-preserved : goal.loop-round-preserved
loop-round-preserved c =
    undone_more c.args.self.now c.args.b c.loop-round.state _ _ c.loop-round.round c.loop-round.invariant
    (c.block_of-in-loop-round.ensures ∙ (c.self.invariant (9 - c.loop-round.round) (omega arith) ∙ ap (λ k. round_key k (9 - c.loop-round.round)) c.self.view_is)) c.undo_full_round-previous.ensures

pub returns : goal.returns
returns c =
    undone_last c.args.self.now c.args.b c.loop-round.state _ _ c.loop-round.round (omega arith) c.loop-round.invariant
    (c.block_of-2.ensures ∙ (c.self.invariant 0 (omega arith) ∙ ap (λ k. round_key k 0) c.self.view_is)) c.xor.ensures
