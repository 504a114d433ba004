-- The law is a lemma on transcripts.
use Rattle.auc_transcript.proofs.AboveLemmas.{above_reserved}
use Rattle.auc_transcript.proofs.law.each_number_is_above_what_was_reserved.Goals as goal

pub returns : goal.returns
returns c = above_reserved
