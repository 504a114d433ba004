use Rattle.std.proofs.Common.{rules, arith}
use Rattle.std.proofs.lemmas.List.Sorted.{IsNonDecreasingBy-from_sort_by_key}
use Rattle.auc_record.specs.declared.record.SessionVerdict.{SessionVerdict}
use Rattle.auc_world.proofs.verdicts.round_verdicts.Goals as goal

pub returns : goal.returns
returns c = record {
  same = rw (c.in_ok-listed.ensures, c.deref.ensures.value, ← c.in_ok-all.ensures) c.sort_by_key.ensures.permutation;
  rising = rw (c.in_ok-listed.ensures, c.deref.ensures.value) (λ i j d below within.
      IsNonDecreasingBy-from_sort_by_key (λ (verdict : SessionVerdict). verdict.session) _ c.in_ok-sort_by_key.ensures.sorted (λ a r q k. search rules) i j d (omega (arith, below)) within);
}
