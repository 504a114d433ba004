-- The law is a lemma on pieces.
use Rattle.auc_world.proofs.ApartLemmas.{jobs_give_after_all_lines}
use Rattle.auc_world.proofs.law.jobs_give_after_all_lines.Goals as goal

pub returns : goal.returns
returns c = jobs_give_after_all_lines
