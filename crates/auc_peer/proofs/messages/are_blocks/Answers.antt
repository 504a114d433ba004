use Rattle.auc_peer.proofs.CounterLemmas.{counter_bytes}
use Rattle.auc_peer.proofs.messages.are_blocks.Goals as goal

pub returns-clause-bytes : goal.returns-clause-bytes
returns-clause-bytes c = counter_bytes c.args.counter c.args.small
