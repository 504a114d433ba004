use Rattle.auc_peer.proofs.LawLemmas.{success_needs}
use Rattle.auc_peer.proofs.law.success_needs_a_right_mac.Goals as goal

pub returns : goal.returns
returns c = success_needs
