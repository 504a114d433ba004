-- The law is a lemma on transcripts, by the law of a master and its sites.
use Rattle.auc_transcript.proofs.LeaseLemmas.{each_leased_number_is_handed_out_once}
use Rattle.auc_transcript.proofs.law.each_leased_number_is_handed_out_once.Goals as goal

pub returns : goal.returns
returns c = each_leased_number_is_handed_out_once c.each_number_is_handed_out_once.ensures
