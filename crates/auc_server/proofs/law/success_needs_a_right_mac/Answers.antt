use Rattle.auc_server.proofs.LawLemmas.{success_is_proved}
use Rattle.auc_server.proofs.law.success_needs_a_right_mac.Goals as goal

pub returns : goal.returns
returns c = success_is_proved
