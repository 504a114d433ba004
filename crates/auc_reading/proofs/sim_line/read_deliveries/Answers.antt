use Rattle.std.proofs.Common.{arith, rules, refl, length-append, [], ◌∷◌}
use Rattle.auc_reading.specs.SimLine.{delivery_of}
use Rattle.auc_reading.proofs.ScheduleLemmas.{read_begins, read_ends, read_goes_on, read_whole}
use Rattle.auc_reading.proofs.sim_line.read_deliveries.Goals as goal

pub loop-text-init : goal.loop-text-init
loop-text-init c = rw c.new-deliveries.ensures (record {
  read = read_begins delivery_of c.args.texts.now;
  within = omega arith;
  count = refl;
})

pub loop-text-preserved : goal.loop-text-preserved
loop-text-preserved c = rw c.in_ok-push.ensures.pushed (record {
  read = read_goes_on delivery_of c.args.texts.now c.loop-text.text-index _ c.loop-text.deliveries c.in_ok-read_delivery.field-0 c.loop-text-test.true c.loop-text.invariant.read c.in_ok-read_delivery.ensures;
  within = omega (arith, c.loop-text-test.true);
  count = omega (arith, c.loop-text.invariant.count, length-append c.loop-text.deliveries (c.in_ok-read_delivery.field-0 ∷ []));
})

pub returns-in_err-read_delivery-clause-value : goal.returns-in_err-read_delivery-clause-value
returns-in_err-read_delivery-clause-value c =
    rw (read_ends delivery_of c.args.texts.now c.loop-text.text-index _ c.loop-text.deliveries c.in_err-read_delivery.field-0.0 c.loop-text-test.true c.loop-text.invariant.read c.in_err-read_delivery.ensures) (search rules)

pub returns-clause-value : goal.returns-clause-value
returns-clause-value c = read_whole delivery_of c.args.texts.now c.loop-text.text-index c.loop-text.deliveries c.loop-text-test.false c.loop-text.invariant.read

pub returns-clause-count : goal.returns-clause-count
returns-clause-count c = omega (arith, c.loop-text-test.false, c.loop-text.invariant.within, c.loop-text.invariant.count)
