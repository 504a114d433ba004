-- The laws are lemmas on transcripts.
use Rattle.auc_transcript.proofs.GenuineLemmas.{each_sqn_in_rounds_is_genuine, each_sqn_is_genuine}
use Rattle.auc_transcript.proofs.law.each_sqn_outside_sessions_is_genuine.Goals as goal

pub returns-clause-stretches : goal.returns-clause-stretches
returns-clause-stretches c = each_sqn_is_genuine

pub returns-clause-rounds : goal.returns-clause-rounds
returns-clause-rounds c = each_sqn_in_rounds_is_genuine
