use Rattle.auc_server.proofs.MoveLemmas.{each_turn_moves}
use Rattle.auc_server.proofs.law.each_turn_keeps_the_challenge_or_sends_one.Goals as goal

pub returns : goal.returns
returns c = each_turn_moves
