-- Each digit is written before those that were, and at last a space.
use Rattle.std.proofs.Common.{◌∙◌, ap, sym, ◌∷◌, ◌-◌, arith}
use Rattle.std.proofs.lemmas.List.{length-set}
use Rattle.auc_print.proofs.NumberLemmas.{digit_fewer, digit_written, first_written}
use Rattle.auc_print.proofs.NumeralLemmas.{numeral_small}
use Rattle.auc_print.proofs.writer.write_number.Goals as goal

pub loop-rest-preserved : goal.loop-rest-preserved
loop-rest-preserved c =
    let l = c.loop-rest in
    let fewer = digit_fewer (l.place - 1) l.rest c.loop-rest-test.true l.invariant.fits in
    record {
      low = omega (arith, fewer.0);
      high = omega (arith, l.invariant.high);
      fits = fewer.1;
      size = length-set _ _ _ ∙ l.invariant.size;
      digits = digit_written l.room l.place l.rest (omega (arith, l.invariant.low)) (omega (arith, l.invariant.high, l.invariant.size))
          c.loop-rest-test.true (omega (arith, l.auto.rest-fits.fits)) ∙ l.invariant.digits;
    }

pub returns-clause-written : goal.returns-clause-written
returns-clause-written c =
    let l = c.loop-rest in
    first_written l.room l.place l.rest l.invariant.low (omega (arith, l.invariant.high, l.invariant.size)) c.loop-rest-test.false
    ∙ ap (λ t. 32 ∷ t) (l.invariant.digits ∙ sym (numeral_small c.args.number (omega (arith, c.ranges.number.fits))))
