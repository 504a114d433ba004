use Rattle.auc_world.proofs.EndingLemmas.{delivery_leaves, plain_ends, start_leaves}
use Rattle.auc_world.proofs.agreement.each_plain_session_ends.Goals as goal

pub returns-clause-start : goal.returns-clause-start
returns-clause-start c = start_leaves

pub returns-clause-delivery : goal.returns-clause-delivery
returns-clause-delivery c = delivery_leaves c.each_turn_leaves_fewer_packets.ensures.turn

pub returns-clause-lines : goal.returns-clause-lines
returns-clause-lines c = plain_ends c.each_turn_leaves_fewer_packets.ensures.turn
