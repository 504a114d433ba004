use Rattle.std.proofs.Common.{arith}
use Rattle.auc_vector.specs.Many.{keyed_by}
use Rattle.auc_vector.proofs.ManyLemmas.{mapped}
use Rattle.auc_vector.proofs.many.key_all.Goals as goal

pub returns : goal.returns
returns c =
    mapped (keyed_by c.args.method c.args.name.now) c.args.out.now c.loop-made.out c.loop-made.invariant.size (λ k l. c.loop-made.invariant.done k (omega arith))
