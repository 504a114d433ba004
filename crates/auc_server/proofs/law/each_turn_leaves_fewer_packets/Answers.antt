use Rattle.auc_server.proofs.EndingLemmas.{each_turn_leaves}
use Rattle.auc_server.proofs.law.each_turn_leaves_fewer_packets.Goals as goal

pub returns-clause-turn : goal.returns-clause-turn
returns-clause-turn c = each_turn_leaves
