-- What both ends send may be written, for the laws of sessions.
use Rattle.auc_sim.specs.Session.{SimInputs}
use Rattle.auc_sim.specs.SessionLaws.{AreMatched}
use Rattle.auc_sim_packet.specs.Messages.{challenge_request}
use Rattle.auc_sim_packet.specs.Sealed.{MayBeSealedSim}
use Rattle.auc_sim.proofs.CardLemmas.{rand_sizes}
use Rattle.auc_sim_packet.proofs.Facts.{challenge_may}
pub use Rattle.auc_sim_packet.proofs.Facts.{challenge_response_may, client_error_may, failure_may, start_request_may, start_response_may, success_may}

pub challenge_request_may : (inputs : SimInputs) → AreMatched inputs → MayBeSealedSim (challenge_request inputs.triplets)
challenge_request_may inputs matched = challenge_may inputs.triplets matched.least matched.most (rand_sizes inputs.triplets matched.rands)
