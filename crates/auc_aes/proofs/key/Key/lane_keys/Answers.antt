use Rattle.std.proofs.Common.{◌≡◌, ℕ, ◌<◌, [], get_or, ap, ◌∙◌}
use Rattle.std.proofs.Math.Path.{subst}
use Rattle.auc_aes.specs.Bytes.{IsBlock}
use Rattle.auc_aes.specs.Inner.{block_of_words}
use Rattle.auc_aes.specs.Cipher.{round_key}
use Rattle.auc_aes.proofs.InverseLemmas.{words_block}
use Rattle.auc_aes.proofs.key.Key.lane_keys.Goals as goal

pub returns-clause-block : goal.returns-clause-block
returns-clause-block c = subst IsBlock c.self.view_is (words_block (get_or c.self.inside.round_keys 0 []))

pub returns-clause-keys : goal.returns-clause-keys
returns-clause-keys c =
    let key : (i : ℕ) → i < 11 → block_of_words (get_or c.self.inside.round_keys i []) ≡ round_key c.args.self.now i =
    λ i inside. c.self.invariant i inside ∙ ap (λ k. round_key k i) c.self.view_is in
    c.lane_keys.ensures c.args.self.now key
