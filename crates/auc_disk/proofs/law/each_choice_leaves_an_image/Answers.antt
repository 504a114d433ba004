use Rattle.auc_disk.proofs.CrashLemmas.{chosen_is_image}
use Rattle.auc_disk.proofs.law.each_choice_leaves_an_image.Goals as goal

pub returns : goal.returns
returns c = chosen_is_image
