use Rattle.std.proofs.Common.{◌≡◌, map, take}
use Rattle.auc_record.specs.Vectors.{vectors_in}
use Rattle.auc_run.proofs.named.all_vectors.Given as goal

abbrev pub invariant-loop-lines : goal.invariant-loop-lines
invariant-loop-lines l = l.all ≡ map (vectors_in l.options.set) (take l.lines-index l.records)
