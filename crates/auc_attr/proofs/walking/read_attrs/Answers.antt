use Rattle.std.proofs.Common.{◌≡◌, length, arith}
use Rattle.std.proofs.lemmas.Bool.Decides.{nat_tests}
use Rattle.std.proofs.lemmas.Result.{err_from_is_err_and}
use Rattle.auc_attr.proofs.WalkLemmas.{list_begins, list_goes_on, first_fault, ended}
use Rattle.auc_attr.proofs.walking.read_attrs.Goals as goal

pub loop-rest-init : goal.loop-rest-init
loop-rest-init c = list_begins c.args.bytes.now _ _ c.new-list.ensures c.new-seen.ensures

pub returns-in_err-found-clause-fault : goal.returns-in_err-found-clause-fault
returns-in_err-found-clause-fault c =
    let p = err_from_is_err_and c.from_residual.result c.from_residual.ensures.1 in
    rw (p.1, p.2) (first_fault _ _ _ _ _ _ _ c.loop-rest.invariant.read c.is_marked.ensures c.in_err-found.ensures.fault)

pub loop-rest-preserved : goal.loop-rest-preserved
loop-rest-preserved c =
    list_goes_on _ _ _ _ _ _ _ c.in_ok-attr.attr _ _ c.loop-rest.invariant c.is_marked.ensures c.in_ok-found.ensures.found
    c.in_ok-attr.ensures.value c.in_ok-attr.ensures.named c.in_ok-attr.ensures.values c.in_ok-push.ensures.pushed c.mark.ensures

pub returns-clause-read : goal.returns-clause-read
returns-clause-read c =
    let none : length c.loop-rest.rest.now ≡ 0 = grind (arith, nat_tests) in
    (ended _ _ _ _ _ c.loop-rest.invariant.read none, c.loop-rest.invariant.named)
