use Rattle.std.proofs.Common.{◌≡◌, ◌<◌, ℕ, List, length, map}
use Rattle.auc_milenage.specs.Milenage.{temp_of}
use Rattle.auc_vector.specs.Many.{AreInputs}
use Rattle.auc_vector.proofs.many.inputs.Given as goal

abbrev pub invariant-loop-i : goal.invariant-loop-i
invariant-loop-i l = record {
  size : length l.blocks ≡ 64;
  done : (rands : List (List ℕ)) → l.temps ≡ map (temp_of l.m.k l.m.opc) rands → (j : ℕ) → j < l.i → AreInputs l.m l.amf l.bits l.first rands l.blocks j;
}
