use Rattle.auc_sim_packet.proofs.MessageLemmas.{start_may_of}
use Rattle.auc_sim_packet.proofs.messages.start_request.Goals as goal

pub written-requires : goal.written-requires
written-requires c = start_may_of _ c.in_ok-attrs.ensures
