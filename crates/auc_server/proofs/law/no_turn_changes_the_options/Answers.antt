use Rattle.auc_server.proofs.OptionsLemmas.{options_stay}
use Rattle.auc_server.proofs.law.no_turn_changes_the_options.Goals as goal

pub returns : goal.returns
returns c = options_stay
