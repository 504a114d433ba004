use Rattle.std.proofs.Common.{◌++◌, ℕ, List, take}
use Rattle.std.specs.List.{concat}
use Rattle.sha2.specs.Hashers.{Holds256}
use Rattle.auc_load.proofs.digest.hash_all.Given as goal

abbrev pub invariant-loop-bytes : goal.invariant-loop-bytes
invariant-loop-bytes l = (fed : List ℕ) → Holds256 l.initial.hasher fed → Holds256 l.hasher (fed ++ concat (take l.bytes-index l.fn.made))
