use Rattle.auc_attr.proofs.AkaLemmas.{found_is_framed}
use Rattle.auc_attr.proofs.law.found_frames_stand_there.Goals as goal

pub returns : goal.returns
returns c = found_is_framed
