use Rattle.std.proofs.Common.{◌≡◌, ◌++◌, [], map, if◌then◌else◌}
use Rattle.auc_jobs.proofs.workers.served_jobs.Given as goal

abbrev pub invariant-loop-claimed : goal.invariant-loop-claimed
invariant-loop-claimed l = record {
  records : l.done.records ≡ map (λ c. c.served.lines) l.yielded;
  devices : l.done.devices ≡ map (λ c. c.served.devices) l.yielded;
  sessions : l.done.sessions ≡ map (λ c. c.served.sessions) l.yielded;
  vectors : l.done.vectors ≡ (if l.full then map (λ c. c.served.vectors) l.yielded else []);
  items : l.yielded ++ l.claimed-iterator.rest.items ≡ l.fn.jobs.items;
}
