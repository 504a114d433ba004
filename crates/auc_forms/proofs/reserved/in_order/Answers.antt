use Rattle.std.proofs.Common.{◌≤◌, All, List, rules, subst}
use Rattle.std.specs.List.Sorted.{IsPermutation}
use Rattle.std.proofs.lemmas.List.Sorted.{IsNonDecreasingBy-from_sort_by_key}
use Rattle.auc_journal.specs.Image.{Frame}
use Rattle.auc_forms.proofs.ListedLemmas.{are_listed, rank_of}
use Rattle.auc_forms.proofs.reserved.in_order.Goals as goal

pub returns : goal.returns
returns c =
    let sorted = c.sort_by_key.new.self.items in
    are_listed c.args.limits.now.written sorted c.copied.ensures.single
    (subst (λ (limits : List Frame). All (λ limit. limit.imsi.digits ≤ 15) limits) c.in_ok-all.ensures.same c.in_ok-all.ensures.digits)
    (subst (λ (limits : List Frame). IsPermutation limits sorted) c.in_ok-all.ensures.same c.sort_by_key.ensures.permutation)
    (IsNonDecreasingBy-from_sort_by_key rank_of sorted c.in_ok-sort_by_key.ensures.sorted (λ a r q k. search rules))
