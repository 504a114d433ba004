use Rattle.std.proofs.Common.{◌≡◌, length, arith}
use Rattle.std.proofs.lemmas.Bool.Decides.{nat_tests}
use Rattle.auc_attr.proofs.WalkLemmas.{first_fault, goes_on, ended}
use Rattle.auc_attr.proofs.walking.first_fault.Goals as goal

pub returns-in-Err-clause-fault : goal.returns-in-Err-clause-fault
returns-in-Err-clause-fault c = first_fault _ _ _ _ _ _ _ c.loop-rest.invariant.1 c.is_marked.ensures c.in-Err.ensures.fault

pub loop-rest-preserved : goal.loop-rest-preserved
loop-rest-preserved c = (_, goes_on _ _ _ _ _ _ _ _ _ c.loop-rest.invariant.1 c.is_marked.ensures c.in-Ok.ensures.found c.mark.ensures)

pub returns-clause-none : goal.returns-clause-none
returns-clause-none c =
    let none : length c.loop-rest.rest.now ≡ 0 = grind (arith, nat_tests) in
    (c.loop-rest.invariant.0, ended _ _ _ _ _ c.loop-rest.invariant.1 none)
