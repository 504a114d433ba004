-- The context after a counter. With these answers a body that leaves the counter open is refused at once.
use Rattle.std.proofs.Common.{rules}
use Rattle.auc_reauth.proofs.device_store.advanced.Goals as goal

pub returns : goal.returns
returns c = search rules

pub returns-then-counter-eq65535 : goal.returns-then-counter-eq65535
returns-then-counter-eq65535 c = search rules
