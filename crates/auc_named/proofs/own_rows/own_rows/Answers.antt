use Rattle.std.proofs.Common.{arith}
use Rattle.auc_named.proofs.NamingLemmas.{first_more, is_new, is_room}
use Rattle.auc_named.proofs.own_rows.own_rows.Goals as goal

pub push-requires-clause-new : goal.push-requires-clause-new
push-requires-clause-new c =
    is_new c.args.subs.now c.args.places.now c.loop-place.place-index c.loop-place.own c.row.result.now c.len.ensures.subscribers c.requires.rising c.requires.within c.loop-place.invariant (omega arith) c.row.ensures.place

pub push-requires-clause-room : goal.push-requires-clause-room
push-requires-clause-room c =
    is_room c.args.subs.now c.args.places.now c.loop-place.place-index c.loop-place.own c.len.ensures.subscribers c.requires.rising c.requires.within c.loop-place.invariant (omega arith)

pub loop-place-preserved : goal.loop-place-preserved
loop-place-preserved c =
    first_more c.args.subs.now c.args.places.now c.loop-place.place-index c.loop-place.own _ c.row.result.now c.loop-place.invariant c.row.ensures.place c.in_ok-push.ensures.added
