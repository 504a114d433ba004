use Rattle.std.proofs.Common.{refl}
use Rattle.auc_run.proofs.rounds.write_round.Goals as goal

pub returns-in-Ok-clause-wrote : goal.returns-in-Ok-clause-wrote
returns-in-Ok-clause-wrote g c =
    rw c.in-Ok.is (record {
      stopped = c.write_made-result.ensures.stopped;
      written = c.write_made-result.ensures.written;
      spared = c.write_made-result.ensures.spared;
      done = c.write_made-result.ensures.done;
    })

pub returns-in-Err-clause-wrote : goal.returns-in-Err-clause-wrote
returns-in-Err-clause-wrote g c = rw c.in-Err.is (refl, refl)
