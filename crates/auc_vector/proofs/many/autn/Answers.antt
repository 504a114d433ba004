use Rattle.std.proofs.Common.{arith}
use Rattle.auc_vector.proofs.ManyLemmas.{autn_is}
use Rattle.auc_vector.proofs.many.autn.Goals as goal

pub returns : goal.returns
returns c sqn amf six two is = autn_is c.args.in1 c.args.out1 c.args.out2 sqn amf (omega arith) (omega arith) six two is
