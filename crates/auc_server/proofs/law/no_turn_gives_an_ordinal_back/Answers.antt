use Rattle.auc_server.proofs.OrdinalLemmas.{ordinals_rise}
use Rattle.auc_server.proofs.law.no_turn_gives_an_ordinal_back.Goals as goal

pub returns : goal.returns
returns c = ordinals_rise
