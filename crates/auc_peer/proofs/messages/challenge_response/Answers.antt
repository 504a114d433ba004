use Rattle.auc_peer.proofs.MessageLemmas.{with_list, with_short_of, without_list, without_short_of}
use Rattle.auc_peer.proofs.messages.challenge_response.Goals as goal

pub sealed_response-requires-clause-short : goal.sealed_response-requires-clause-short
sealed_response-requires-clause-short c =
    with_short_of c.args.heading.method c.args.heading.id c.args.res c.args.own.value _ c.requires.res c.requires.own
    (with_list c.args.places c.put.new.self c.put-then-has.new.self _ c.args.res c.args.own.value c.requires.places.empty c.put.ensures c.put-then-has.ensures c.from_places.ensures)

pub sealed_response-requires-2-clause-short : goal.sealed_response-requires-2-clause-short
sealed_response-requires-2-clause-short c =
    without_short_of c.args.heading.method c.args.heading.id c.args.res _ c.requires.res
    (without_list c.args.places c.put.new.self _ c.args.res c.requires.places.empty c.put.ensures c.from_places-2.ensures)
