-- The law is a lemma on transcripts, by the law of a device and its home network.
use Rattle.auc_transcript.proofs.SystemLemmas.{each_honest_authentication_is_confirmed}
use Rattle.auc_transcript.proofs.law.each_honest_authentication_is_confirmed.Goals as goal

pub returns : goal.returns
returns c = each_honest_authentication_is_confirmed c.each_device_agrees_with_its_home.ensures
