use Rattle.std.proofs.Common.{◌≡◌, length, arith}
use Rattle.std.proofs.lemmas.Bool.Decides.{nat_tests}
use Rattle.auc_attr.proofs.ValueInLemmas.{value_faulty, value_goes_on, value_ended}
use Rattle.auc_attr.proofs.walking.value_in.Goals as goal

pub returns-in-Err : goal.returns-in-Err
returns-in-Err c = value_faulty _ _ _ _ _ _ _ c.loop-rest.invariant c.is_marked.ensures c.in-Err.ensures.fault

pub loop-rest-preserved : goal.loop-rest-preserved
loop-rest-preserved c =
    value_goes_on _ _ _ _ _ _ _ _ _ _ c.loop-rest.invariant c.is_marked.ensures c.in-Ok.ensures.found c.value_or-value.ensures c.mark.ensures

pub returns : goal.returns
returns c =
    let none : length c.loop-rest.rest.now ≡ 0 = grind (arith, nat_tests) in
    value_ended _ _ _ _ _ c.loop-rest.invariant none
