use Rattle.auc_server.proofs.MakeLemmas.{each_turn_makes_one_move}
use Rattle.auc_server.proofs.law.each_turn_makes_at_most_one_move.Goals as goal

pub returns : goal.returns
returns c = each_turn_makes_one_move
