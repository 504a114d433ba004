use Rattle.std.proofs.Common.{◌≡◌, length, arith}
use Rattle.std.proofs.lemmas.Bool.Decides.{nat_tests}
use Rattle.auc_attr.proofs.MacLemmas.{place_goes_on, place_faulty, place_ended, place_within}
use Rattle.auc_attr.proofs.mac.mac_among.Goals as goal

pub returns-in-Err-clause-place : goal.returns-in-Err-clause-place
returns-in-Err-clause-place c = place_faulty _ _ _ _ _ _ _ c.loop-rest.invariant c.is_marked.ensures c.in-Err.ensures.fault

pub loop-rest-preserved : goal.loop-rest-preserved
loop-rest-preserved c =
    place_goes_on _ _ _ _ _ _ _ _ _ _ c.loop-rest.invariant c.is_marked.ensures c.in-Ok.ensures.found c.place_or-place.ensures c.mark.ensures

pub returns-clause-place : goal.returns-clause-place
returns-clause-place c =
    let none : length c.loop-rest.rest.now ≡ 0 = grind (arith, nat_tests) in
    place_ended _ _ _ _ _ c.loop-rest.invariant none

pub returns-clause-within : goal.returns-clause-within
returns-clause-within c =
    let none : length c.loop-rest.rest.now ≡ 0 = grind (arith, nat_tests) in
    place_within _ _ _ _ _ c.loop-rest.invariant none
