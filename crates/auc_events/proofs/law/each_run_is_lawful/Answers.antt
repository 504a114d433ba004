-- The law is a lemma on runs.
use Rattle.auc_events.proofs.LawfulLemmas.{each_run_is_lawful}
use Rattle.auc_events.proofs.law.each_run_is_lawful.Goals as goal

pub returns : goal.returns
returns c = each_run_is_lawful
