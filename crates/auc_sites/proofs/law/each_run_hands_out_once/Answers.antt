-- The law is a lemma on runs, by the laws of a centre.
use Rattle.auc_sites.proofs.RunLemmas.{each_run_hands_out_once}
use Rattle.auc_sites.proofs.law.each_run_hands_out_once.Goals as goal

pub returns : goal.returns
returns g c = each_run_hands_out_once g.C.Centre.goes g.C.Centre.kept g.C.Centre.top g.met.C.Centre.stays g.met.C.Centre.joins g.met.C.Centre.rises
