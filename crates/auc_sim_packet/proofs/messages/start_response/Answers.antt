use Rattle.std.proofs.Common.{rules}
use Rattle.auc_sim_packet.proofs.MessageLemmas.{start_response_may_of}
use Rattle.auc_sim_packet.proofs.messages.start_response.Goals as goal

pub written-requires : goal.written-requires
written-requires c = start_response_may_of c.args.id c.args.nonce c.args.identity.now _ (search rules) c.requires c.in_ok-attrs.ensures
