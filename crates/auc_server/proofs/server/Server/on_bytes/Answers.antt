use Rattle.std.proofs.Common.{ℕ, List, ◌∙◌, subst}
use Rattle.auc_packet.specs.Received.{seen_of}
use Rattle.auc_server.specs.Server.{challenged_of}
use Rattle.auc_server.specs.Steps.{Steps}
use Rattle.auc_server.proofs.HomeLemmas.{listed_of, served_again}
use Rattle.auc_server.proofs.PlanLemmas.{planned}
use Rattle.auc_server.proofs.server.Server.on_bytes.Goals as goal

pub plan-requires-clause-listed : goal.plan-requires-clause-listed
plan-requires-clause-listed g c = listed_of _ _ _ c.args.homes.now (challenged_of c.args.self.now) c.requires.each c.requires.held

pub returns-clause-step : goal.returns-clause-step
returns-clause-step g c =
    subst (λ (bytes : List ℕ). Steps g.C.Centre.goes g.C.Centre.kept g.C.Centre.top c.args.set.now c.args.homes.now c.args.self.now bytes c.args.centre.now c.take.new.self c.take.result c.take.new.homes c.take.new.centre)
    c.in_ok-received.ensures.bytes
    (planned g.C.Centre.goes g.C.Centre.kept g.C.Centre.top c.args.set.now c.args.homes.now _ c.args.self.now _ (seen_of c.in_ok-received.received) _
    c.args.centre.now _ c.take.result c.in_ok-received.ensures.received c.in_ok-plan.ensures c.take.ensures.step c.take.ensures.homes c.take.ensures.asked c.take.ensures.drawn)

pub returns-clause-served : goal.returns-clause-served
returns-clause-served g c =
    let is = c.in_ok-plan.ensures in
    served_again _ _ _ _ _ c.args.set.now c.args.homes.now _ c.args.self.now _ c.take.result _ _ _
    c.take.ensures.only.subs_stay c.take.ensures.only.tops_stay (c.take.ensures.step ∙ is.does c.take.result.notes)
    (c.take.ensures.homes ∙ is.homes_are c.take.result.notes) is.held c.requires
