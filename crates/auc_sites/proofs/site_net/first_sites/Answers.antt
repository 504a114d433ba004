use Rattle.auc_sites.proofs.NetLemmas.{sites_pushed}
use Rattle.auc_sites.proofs.site_net.first_sites.Goals as goal

pub loop-site-preserved : goal.loop-site-preserved
loop-site-preserved c = sites_pushed 1 c.loop-site.site c.loop-site.sites.items c.push.new.self.items c.new.result c.loop-site.invariant c.new.ensures c.in_ok-push.ensures.items
