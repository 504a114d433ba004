use Rattle.std.proofs.Common.{◌≡◌, ℕ, ◌<◌, [], get_or, ap, ◌∙◌, arith}
use Rattle.auc_aes.specs.Bytes.{xor}
use Rattle.auc_aes.specs.Inner.{block_of_words}
use Rattle.auc_aes.specs.Cipher.{round_key}
use Rattle.auc_aes.proofs.KeyLemmas.{state_first, state_next, state_last}
use Rattle.auc_aes.proofs.key.Key.encrypt.Goals as goal

pub returns : goal.returns
returns c =
    let key : (i : ℕ) → i < 11 → block_of_words (get_or c.self.inside.round_keys i []) ≡ round_key c.args.self.now i =
    λ i inside. c.self.invariant i inside ∙ ap (λ k. round_key k i) c.self.view_is in
    let s0 = state_first c.args.self.now c.args.b _ _
    (c.add-state.ensures ∙ ap (λ b. xor b (block_of_words (get_or c.self.inside.round_keys 0 []))) c.words_of.ensures) (key 0 (omega arith)) in
    let s1 = state_next c.args.self.now c.args.b _ _ _ 0 s0 (key 1 (omega arith)) c.full_round-state.ensures in
    let s2 = state_next c.args.self.now c.args.b _ _ _ 1 s1 (key 2 (omega arith)) c.full_round-state-2.ensures in
    let s3 = state_next c.args.self.now c.args.b _ _ _ 2 s2 (key 3 (omega arith)) c.full_round-state-3.ensures in
    let s4 = state_next c.args.self.now c.args.b _ _ _ 3 s3 (key 4 (omega arith)) c.full_round-state-4.ensures in
    let s5 = state_next c.args.self.now c.args.b _ _ _ 4 s4 (key 5 (omega arith)) c.full_round-state-5.ensures in
    let s6 = state_next c.args.self.now c.args.b _ _ _ 5 s5 (key 6 (omega arith)) c.full_round-state-6.ensures in
    let s7 = state_next c.args.self.now c.args.b _ _ _ 6 s6 (key 7 (omega arith)) c.full_round-state-7.ensures in
    let s8 = state_next c.args.self.now c.args.b _ _ _ 7 s7 (key 8 (omega arith)) c.full_round-state-8.ensures in
    let s9 = state_next c.args.self.now c.args.b _ _ _ 8 s8 (key 9 (omega arith)) c.full_round-state-9.ensures in
    c.block_of.ensures ∙ state_last c.args.self.now c.args.b _ _ _ s9 (key 10 (omega arith)) c.final_round.ensures
