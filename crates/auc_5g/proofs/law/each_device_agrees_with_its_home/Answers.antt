-- The law is a lemma on SQN XOR AK.
use Rattle.auc_5g.proofs.AgreeLemmas.{device_agrees}
use Rattle.auc_5g.proofs.law.each_device_agrees_with_its_home.Goals as goal

pub returns : goal.returns
returns c = device_agrees
