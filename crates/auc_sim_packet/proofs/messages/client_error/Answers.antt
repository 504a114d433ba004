use Rattle.auc_sim_packet.proofs.MessageLemmas.{client_may_of}
use Rattle.auc_sim_packet.proofs.messages.client_error.Goals as goal

pub written-requires : goal.written-requires
written-requires c = client_may_of c.args.id c.args.code _ c.in_ok-attrs.ensures
