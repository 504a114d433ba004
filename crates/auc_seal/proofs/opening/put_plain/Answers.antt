use Rattle.std.proofs.Common.{rules, ℕ, List, refl, ap, ◌∙◌}
use Rattle.auc_aes.specs.Bytes.{xor}
use Rattle.auc_seal.proofs.OpeningLemmas.{plain_goes_on, plain_ends}
use Rattle.auc_seal.proofs.opening.put_plain.Goals as goal

pub loop-at-preserved : goal.loop-at-preserved
loop-at-preserved c =
    plain_goes_on _ _ _ _ _ _ _ c.xor.result _ _ _ c.loop-at.invariant (search rules) c.block_at-block.ensures
    (c.xor.ensures ∙ ap (λ (b : List ℕ). xor b c.loop-at.last) c.decrypt.ensures) (search rules) c.put.ensures refl

pub returns : goal.returns
returns c = plain_ends _ _ _ _ _ _ _ c.loop-at.invariant (search rules)
