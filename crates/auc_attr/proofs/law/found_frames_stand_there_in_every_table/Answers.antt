use Rattle.auc_attr.proofs.LawLemmas.{found_is_framed_in}
use Rattle.auc_attr.proofs.law.found_frames_stand_there_in_every_table.Goals as goal

pub returns : goal.returns
returns c = found_is_framed_in
