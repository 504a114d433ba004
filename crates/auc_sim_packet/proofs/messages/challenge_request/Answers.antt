use Rattle.auc_sim_packet.proofs.MessageLemmas.{challenge_may_of}
use Rattle.auc_sim_packet.proofs.messages.challenge_request.Goals as goal

pub sealed_sim-requires : goal.sealed_sim-requires
sealed_sim-requires c = challenge_may_of c.args.triplets.now _ c.requires.least c.requires.most c.in_ok-attrs.ensures.size c.in_ok-attrs.ensures.list
