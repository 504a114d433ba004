use Rattle.std.proofs.Common.{◌≡◌, ◌+◌, ◌-◌, ◌*◌, ◌^◌, refl, arith, rules}
use Rattle.std.proofs.lemmas.List.{drop_all}
use Rattle.auc_prf.specs.Generator.{number_of}
use Rattle.auc_prf.proofs.NumberLemmas.{AreBytes}
use Rattle.auc_prf.proofs.SumLemmas.{AreBytes-zeros, AreBytes-set, added_next, sum_is}
use Rattle.auc_prf.proofs.sum.next_xkey.Goals as goal

pub loop-i-init : goal.loop-i-init
loop-i-init c = record {
  size = refl;
  bytes = AreBytes-zeros 20;
  place = omega arith;
  carry = omega arith;
  added = rw (drop_all 20 c.args.xkey (search rules), drop_all 20 c.args.word (search rules)) refl;
}

pub loop-i-preserved : goal.loop-i-preserved
loop-i-preserved c =
    let xkey_bytes : AreBytes c.args.xkey = search rules in
    let word_bytes : AreBytes c.args.word = search rules in record {
      size = search rules;
      bytes = AreBytes-set c.loop-i.sum (c.loop-i.i - 1) _ c.loop-i.invariant.bytes (omega arith);
      place = omega arith;
      carry = omega (arith, xkey_bytes (c.loop-i.i - 1), word_bytes (c.loop-i.i - 1));
      added = added_next c.args.xkey c.args.word c.loop-i.sum c.loop-i.i c.loop-i.carry _ (search rules) (search rules) (search rules) (omega arith) (omega arith)
          (search rules) c.loop-i.invariant.added;
    }

pub returns : goal.returns
returns c =
    let start : c.loop-i.i ≡ 0 = omega arith in
    let added : number_of c.loop-i.sum + c.loop-i.carry * 2 ^ 160 ≡ 1 + number_of c.args.xkey + number_of c.args.word = rw start at c.loop-i.invariant.added in
    sum_is c.loop-i.sum c.loop-i.carry _ (search rules) c.loop-i.invariant.bytes added
