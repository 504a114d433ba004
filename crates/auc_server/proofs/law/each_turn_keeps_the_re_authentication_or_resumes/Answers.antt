use Rattle.auc_server.proofs.ResumeLemmas.{each_turn_renews}
use Rattle.auc_server.proofs.law.each_turn_keeps_the_re_authentication_or_resumes.Goals as goal

pub returns : goal.returns
returns c = each_turn_renews
