use Rattle.std.proofs.Common.{arith, refl, ◌<◌, ◌^◌}
use Rattle.auc_memory.proofs.Facts.{below_more, digit_most, number_of_more}
use Rattle.auc_text.proofs.NumberLemmas.{below_power}
use Rattle.auc_text.proofs.field.value.Goals as goal

pub loop-byte-preserved : goal.loop-byte-preserved
loop-byte-preserved c = record {
  value = number_of_more c.args.text.now c.loop-byte.byte-index c.loop-byte.number _ c.loop-byte.invariant.value refl (omega arith);
  below = below_more c.loop-byte.number _ c.loop-byte.byte-index c.loop-byte.invariant.below (digit_most _ (c.requires.digits c.loop-byte.byte-index 0 (omega arith)));
}

pub overflow_mul-number : goal.overflow_mul-number
overflow_mul-number c =
    let room : c.loop-byte.number < 10 ^ 19 = below_power _ _ 19 c.loop-byte.invariant.below (omega arith) in
    omega arith

pub overflow_add-number : goal.overflow_add-number
overflow_add-number c =
    let room : c.loop-byte.number < 10 ^ 19 = below_power _ _ 19 c.loop-byte.invariant.below (omega arith) in
    omega arith
