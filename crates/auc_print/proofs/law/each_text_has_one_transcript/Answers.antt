-- The lines of a text determine the parts of its transcript.
use Rattle.auc_print.proofs.OneTextLemmas.{one_transcript}
use Rattle.auc_print.proofs.law.each_text_has_one_transcript.Goals as goal

pub returns : goal.returns
returns c = one_transcript
