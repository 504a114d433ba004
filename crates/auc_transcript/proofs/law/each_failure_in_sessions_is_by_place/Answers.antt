-- The laws are lemmas on transcripts, by the law of bytes.
use Rattle.auc_transcript.proofs.SessionFailureLemmas.{each_failure_in_sessions_is_by_place, each_failure_in_sessions_of_rounds_is_by_place, each_presented_vector_has_a_right_mac}
use Rattle.auc_transcript.proofs.law.each_failure_in_sessions_is_by_place.Goals as goal

pub returns-clause-stretches : goal.returns-clause-stretches
returns-clause-stretches c = each_failure_in_sessions_is_by_place c.equal_bytes_are_received_alike.ensures

pub returns-clause-rounds : goal.returns-clause-rounds
returns-clause-rounds c = each_failure_in_sessions_of_rounds_is_by_place c.equal_bytes_are_received_alike.ensures

pub returns-clause-mac : goal.returns-clause-mac
returns-clause-mac c = each_presented_vector_has_a_right_mac c.equal_bytes_are_received_alike.ensures
