-- The law is a lemma on the USIM's answer.
use Rattle.auc_5g.proofs.AgreeLemmas.{accepting_agrees}
use Rattle.auc_5g.proofs.law.each_accepting_device_agrees.Goals as goal

pub returns : goal.returns
returns c = accepting_agrees
