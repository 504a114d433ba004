-- The law is a lemma on transcripts.
use Rattle.auc_transcript.proofs.SingleLemmas.{each_failure_in_rounds_is_by_place}
use Rattle.auc_transcript.proofs.law.each_failure_in_rounds_is_by_place.Goals as goal

pub returns : goal.returns
returns c = each_failure_in_rounds_is_by_place
