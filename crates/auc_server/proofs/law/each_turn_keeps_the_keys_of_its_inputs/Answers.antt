use Rattle.auc_server.proofs.FitsLemmas.{each_turn_fits}
use Rattle.auc_server.proofs.law.each_turn_keeps_the_keys_of_its_inputs.Goals as goal

pub returns : goal.returns
returns c = each_turn_fits
