use Rattle.auc_peer.proofs.TurnLemmas.{equal_turns}
use Rattle.auc_peer.proofs.law.equal_turns_are_one.Goals as goal

pub returns : goal.returns
returns c = equal_turns c.equal_bytes_are_received_alike.ensures c.bytes_have_one_reading_or_one_fault.ensures c.opening_has_one_answer.ensures
