use Rattle.std.proofs.Common.{[], ap, arith}
use Rattle.std.specs.List.{concat}
use Rattle.auc_load.proofs.digest.make_all.Goals as goal

pub loop-hashing-init : goal.loop-hashing-init
loop-hashing-init g c = record {
  within = omega arith;
  hashing = ([], c.new.ensures, ap concat c.new-2.ensures);
}
