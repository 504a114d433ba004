-- The law is a lemma on rounds.
use Rattle.auc_named.proofs.RoundLemmas.{each_named_round_is_lawful}
use Rattle.auc_named.proofs.law.each_named_round_is_lawful.Goals as goal

pub returns : goal.returns
returns c = each_named_round_is_lawful
