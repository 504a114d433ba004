use Rattle.std.proofs.Common.{arith}
use Rattle.auc_named.proofs.NamingLemmas.{is_found, place_below}
use Rattle.auc_named.proofs.places.position.Goals as goal

pub overflow_cast-result : goal.overflow_cast-result
overflow_cast-result c =
    let within = c.in-Ok.ensures.bound in
    let least = place_below c.args.places.now c.requires.rising c.in-Ok.position within in
    let fits = c.type_inv.places c.in-Ok.position in
    omega (arith, least, fits)

pub unreachable-requires : goal.unreachable-requires
unreachable-requires c = is_found c.args.places.now c.args.sub c.in-Err.field-0 c.requires.rising c.in-Err.ensures.position c.requires.there
