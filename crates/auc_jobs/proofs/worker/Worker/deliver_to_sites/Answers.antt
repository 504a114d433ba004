use Rattle.std.proofs.Common.{◌∙◌, sym}
use Rattle.auc_record.specs.declared.sites.SitesOutcome.{SitesOutcome}
use Rattle.auc_jobs.specs.InnerSites.{DeliveryDoes, DrawsIn, GrantDoes}
use Rattle.auc_jobs.proofs.SiteLemmas.{delivery_known, draws_granted, draws_none, if_ok_map}
use Rattle.auc_jobs.proofs.worker.Worker.deliver_to_sites.Goals as goal

pub returns-in-Ok-clause-served : goal.returns-in-Ok-clause-served
returns-in-Ok-clause-served g c =
    draws_none g.C.Centre.kept g.C.Centre.goes c.args.self.now c.args.net.now c.deliver.new.self (DeliveryDoes c.args.self.now.set c.args.line.now c.args.packet c.in-Ok.outcome)
    (λ i. g.met.C.Centre.stays c.args.self.now.centre i)
    (λ v same.
    delivery_known c.args.self.now.set c.args.line.now c.args.packet v c.in-Ok.outcome c.args.net.now c.deliver.new.self c.in_ok-deliver.field-0 same c.in_ok-deliver.ensures.delivered
    (sym c.outcome_known.ensures ∙ c.in-Ok.is))

pub returns-in-Err-clause-served : goal.returns-in-Err-clause-served
returns-in-Err-clause-served g c =
    if_ok_map
    (λ (o : SitesOutcome). DrawsIn g.C.Centre.kept g.C.Centre.goes c.args.self.now c.grant.new.self c.deliver.new.self c.grant.new.net (GrantDoes c.args.self.now.set c.args.line.now c.in-Err.request o))
    (λ (o : SitesOutcome). DrawsIn g.C.Centre.kept g.C.Centre.goes c.args.self.now c.grant.new.self c.args.net.now c.grant.new.net (DeliveryDoes c.args.self.now.set c.args.line.now c.args.packet o))
    c.grant.result c.grant.ensures.served
    (λ o grants.
    draws_granted g.C.Centre.kept g.C.Centre.goes c.args.self.now c.grant.new.self c.args.self.now.set c.args.line.now c.args.packet o c.args.net.now c.deliver.new.self c.grant.new.net
    c.in_ok-deliver.field-0 c.in-Err.request c.in_ok-deliver.ensures.delivered (sym c.outcome_known.ensures ∙ c.in-Err.is) grants)
