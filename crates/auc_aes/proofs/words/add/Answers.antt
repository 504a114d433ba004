use Rattle.auc_aes.proofs.WordLemmas.{added_is}
use Rattle.auc_aes.proofs.words.add.Goals as goal

pub returns : goal.returns
returns c = added_is c.args.words c.args.other
