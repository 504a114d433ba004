-- The first of the greatest entries is SQN_MS.
use Rattle.std.proofs.Common.{◌≡◌, slice_index, ap, ◌∙◌}
use Rattle.auc_sqn.specs.Number.{sqn_with}
use Rattle.auc_sqn.specs.Past.{ArrayValue}
use Rattle.auc_sqn.proofs.PastLemmas.{IsHighest-remembered}
use Rattle.auc_sqn.proofs.sqn_array.SqnArray.highest.Goals as goal

pub returns : goal.returns
returns c past remembers = (
  slice_index c.args.self.now.entries c.top-ind.result,
  c.top-ind.result,
  IsHighest-remembered c.args.self.now past c.top-ind.result remembers c.top-ind.ensures.top,
  c.spell.ensures ∙ (λ i. sqn_with (bits_is i) (c.entry.ensures.value i) c.top-ind.result),
)
  where
    bits_is : c.self.inside.bits ≡ c.args.self.now.bits
    bits_is = ap (λ (a : ArrayValue). a.bits) c.self.view_is
