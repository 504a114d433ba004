use Rattle.std.proofs.Common.{rules, ◌≡◌, refl, sym, ap, ◌∙◌, arith, get_or, []}
use Rattle.auc_aes.specs.Inner.{block_of_words}
use Rattle.auc_aes.specs.Cipher.{round_constant, round_key}
use Rattle.auc_aes.proofs.KeyLemmas.{constant_after, key_after, keys_more, first_key}
use Rattle.auc_aes.proofs.key.Key.new.Goals as goal

pub loop-i-init : goal.loop-i-init
unfolding round_constant
loop-i-init c = record {
  size = refl;
  constant = refl;
  keys = λ j l. let first : j ≡ 0 = omega arith in rw first (first_key c.args.k _ c.words_of-round_keys.ensures);
}

pub loop-i-preserved : goal.loop-i-preserved
loop-i-preserved c = record {
  size = search rules;
  constant = c.double-constant.ensures ∙ constant_after _ _ (omega arith) c.loop-i.invariant.constant;
  keys = keys_more c.args.k c.next_key.result c.loop-i.round_keys c.loop-i.i (omega arith) c.loop-i.invariant.keys
      (c.next_key.ensures ∙ key_after _ _ _ _ (omega arith) (c.loop-i.invariant.keys _ (omega arith)) c.loop-i.invariant.constant);
}

-- the key that is kept first
kept_first : (c : goal.After-loop-i) → block_of_words (get_or c.loop-i.round_keys 0 []) ≡ c.args.k
unfolding round_key
kept_first c = c.loop-i.invariant.keys 0 (omega arith)

pub invariant_of-result : goal.invariant_of-result
invariant_of-result c = λ i l. c.loop-i.invariant.keys i (omega arith) ∙ sym (ap (λ k. round_key k i) (kept_first c))

pub returns : goal.returns
returns c = kept_first c
