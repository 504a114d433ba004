use Rattle.std.proofs.Common.{nat_eq}
use Rattle.std.proofs.lemmas.List.Filters.{dedup_is}
use Rattle.auc_named.proofs.NamingLemmas.{places_are}
use Rattle.auc_named.proofs.places.each_once.Goals as goal

pub returns : goal.returns
returns c = places_are c.args.subs.items _ _ c.in_ok-sort.ensures.permutation c.in_ok-sort.ensures.sorted (dedup_is nat_eq _ _ c.dedup.ensures.filtered)
