-- The laws are lemmas on the witnesses, by the law of written packets.
use Rattle.auc_transcript.proofs.AgeWitnessLemmas.{ages_decide}
use Rattle.auc_transcript.proofs.LeaseWitnessLemmas.{lease_is_kept}
use Rattle.auc_transcript.proofs.OwnWitnessLemmas.{acceptance_is_own}
use Rattle.auc_transcript.proofs.SimWitnessLemmas.{sim_ends_agree, sim_session_is_none, sim_session_succeeds}
use Rattle.auc_transcript.proofs.SystemWitnessLemmas.{authentication_is_confirmed}
use Rattle.auc_transcript.proofs.WitnessLemmas.{contexts_are_kept, counters_are_noted, keys_are_equal, mac_is_right, places_decide, places_decide_in_sessions, plain_session_wins, resumed_session_wins}
use Rattle.auc_transcript.proofs.law.each_promise_has_a_witness.Goals as goal

pub returns-clause-places : goal.returns-clause-places
returns-clause-places c = places_decide

pub returns-clause-ages : goal.returns-clause-ages
returns-clause-ages c = ages_decide

pub returns-clause-sessions : goal.returns-clause-sessions
returns-clause-sessions c = places_decide_in_sessions c.written_packets_are_read.ensures

pub returns-clause-macs : goal.returns-clause-macs
returns-clause-macs c = mac_is_right c.written_packets_are_read.ensures

pub returns-clause-keys : goal.returns-clause-keys
returns-clause-keys c = keys_are_equal

pub returns-clause-contexts : goal.returns-clause-contexts
returns-clause-contexts c = contexts_are_kept

pub returns-clause-counters : goal.returns-clause-counters
returns-clause-counters c = counters_are_noted

pub returns-clause-plain : goal.returns-clause-plain
returns-clause-plain c = plain_session_wins

pub returns-clause-resumed : goal.returns-clause-resumed
returns-clause-resumed c = resumed_session_wins

pub returns-clause-acceptances : goal.returns-clause-acceptances
returns-clause-acceptances c = acceptance_is_own c.written_packets_are_read.ensures

pub returns-clause-authentications : goal.returns-clause-authentications
returns-clause-authentications c = authentication_is_confirmed

pub returns-clause-leases : goal.returns-clause-leases
returns-clause-leases c = lease_is_kept

pub returns-clause-sim_ends : goal.returns-clause-sim_ends
returns-clause-sim_ends c = sim_ends_agree

pub returns-clause-sim_plain : goal.returns-clause-sim_plain
returns-clause-sim_plain c = sim_session_succeeds

pub returns-clause-sim_none : goal.returns-clause-sim_none
returns-clause-sim_none c = sim_session_is_none
