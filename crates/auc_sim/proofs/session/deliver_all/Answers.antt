-- One more delivery was made.
use Rattle.std.proofs.Common.{◌<◌, length, arith}
use Rattle.std.proofs.lemmas.List.{take_more}
use Rattle.auc_lines.specs.declared.part.End.TheVariants as end
use Rattle.auc_lines.specs.declared.sim.SimDelivery.{SimDelivery}
use Rattle.auc_sim.proofs.DeliveryLemmas.{grows, steps_more}
use Rattle.auc_sim.proofs.session.deliver_all.Goals as goal

pub loop-d-preserved : goal.loop-d-preserved
loop-d-preserved c =
    let within : c.loop-d.d-index < length c.args.deliveries.now = omega arith in
    let none : SimDelivery = record { end = end.Server; packet = 0 } in
    record {
      made = rw (take_more c.args.deliveries.now c.loop-d.d-index none within)
          (steps_more _ _ _ _ _ _ _ _ _ c.loop-d.invariant.made c.in_ok-tell.ensures);
      few = let one = grows _ _ _ _ _ _ c.in_ok-tell.ensures in omega arith;
    }
