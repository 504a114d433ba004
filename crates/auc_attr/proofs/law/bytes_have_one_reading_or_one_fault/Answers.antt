use Rattle.std.specs.Prelude.{[]}
use Rattle.auc_attr.proofs.AkaLemmas.{one_walk}
use Rattle.auc_attr.proofs.law.bytes_have_one_reading_or_one_fault.Goals as goal

pub returns : goal.returns
returns c = one_walk []
