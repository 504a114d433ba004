use Rattle.auc_sim_packet.proofs.MessageLemmas.{challenge_response_may_of}
use Rattle.auc_sim_packet.proofs.messages.challenge_response.Goals as goal

pub sealed_sim-requires : goal.sealed_sim-requires
sealed_sim-requires c = challenge_response_may_of c.args.id c.new.result c.new.ensures
