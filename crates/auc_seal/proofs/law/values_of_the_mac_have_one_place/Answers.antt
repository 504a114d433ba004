use Rattle.auc_attr.proofs.Facts.{one_place}
use Rattle.auc_seal.proofs.law.values_of_the_mac_have_one_place.Goals as goal

pub returns : goal.returns
returns c = one_place
