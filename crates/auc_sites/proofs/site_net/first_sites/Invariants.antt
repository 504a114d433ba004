use Rattle.std.proofs.Common.{◌≡◌, replicate}
use Rattle.auc_sites.specs.Network.{sites_from}
use Rattle.auc_sites.proofs.site_net.first_sites.Given as goal

abbrev pub invariant-loop-site : goal.invariant-loop-site
invariant-loop-site l = l.sites.items ≡ sites_from 1 (replicate l.site 1)
