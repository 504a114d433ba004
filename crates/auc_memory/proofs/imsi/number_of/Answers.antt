use Rattle.std.proofs.Common.{arith}
use Rattle.auc_memory.proofs.IdentityLemmas.{digit_at, below_limit, below_more, number_of_more}
use Rattle.auc_memory.proofs.imsi.number_of.Goals as goal

pub loop-digit-preserved : goal.loop-digit-preserved
loop-digit-preserved c =
    let text = c.args.text.now in
    let i = c.loop-digit.digit-index in
    let digit = digit_at text i c.requires.digits (omega arith) in
    let code = c.from.ensures in
    record {
      value = number_of_more text i c.loop-digit.number c.from.result c.loop-digit.invariant.value code (omega arith);
      fits = below_more c.loop-digit.number c.from.result i c.loop-digit.invariant.fits (omega (arith, digit.1, code));
    }

pub overflow_mul-number : goal.overflow_mul-number
overflow_mul-number c =
    omega (arith, below_limit c.loop-digit.number c.loop-digit.digit-index c.loop-digit.invariant.fits (omega arith))

pub overflow_add-number : goal.overflow_add-number
overflow_add-number c =
    let digit = digit_at c.args.text.now c.loop-digit.digit-index c.requires.digits (omega arith) in
    let h = c.from.ensures in
    omega (arith, below_limit c.loop-digit.number c.loop-digit.digit-index c.loop-digit.invariant.fits (omega arith), digit.1)
