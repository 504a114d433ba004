use Rattle.auc_sites.proofs.NetLemmas.{begins}
use Rattle.auc_sites.proofs.site_net.SiteNet.new.Goals as goal

pub invariant_of-result : goal.invariant_of-result
invariant_of-result c = begins c.args.sites c.in_ok-sites.sites.items c.in_ok-master.master c.new-2.result c.in_ok-sites.ensures c.in_ok-master.ensures c.new-2.ensures
