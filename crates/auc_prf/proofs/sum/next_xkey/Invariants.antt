use Rattle.std.proofs.Common.{◌≡◌, ◌≤◌, ◌+◌, ◌-◌, ◌*◌, ◌^◌, length, drop}
use Rattle.auc_prf.specs.Generator.{number_of}
use Rattle.auc_prf.proofs.NumberLemmas.{AreBytes}
use Rattle.auc_prf.proofs.sum.next_xkey.Given as goal

-- the bytes from the index on, with the carry in front of them, are the sum of those of XKEY and the word, and 1
abbrev pub invariant-loop-i : goal.invariant-loop-i
invariant-loop-i l = record {
  size : length l.sum ≡ 20;
  bytes : AreBytes l.sum;
  place : l.i ≤ 20;
  carry : l.carry ≤ 1;
  added : number_of (drop l.i l.sum) + l.carry * 256 ^ (20 - l.i) ≡ 1 + number_of (drop l.i l.xkey) + number_of (drop l.i l.word);
}
