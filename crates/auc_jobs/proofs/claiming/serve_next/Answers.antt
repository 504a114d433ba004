use Rattle.std.proofs.Common.{ℕ, None, Some, subst, sym, ◌∙◌}
use Rattle.auc_draw.specs.Pass.{ClaimsJob}
use Rattle.auc_jobs.specs.InnerClaims.{lines_done}
use Rattle.auc_jobs.proofs.TurnLemmas.{claimed_begins, turn_on, turn_out}
use Rattle.auc_jobs.proofs.claiming.serve_next.Goals as goal

pub returns-in_default-clause-turn : goal.returns-in_default-clause-turn
returns-in_default-clause-turn g c =
    turn_out c.args.shared.now.round.now c.args.pass.now c.claim.new.self c.args.done.now.items c.requires.claims c.claim.ensures.own.1
    (subst (λ (k : ℕ). ClaimsJob k c.args.pass.now c.claim.new.self None) c.count.ensures c.in_default.ensures.claims)

pub serve_at_desk-requires-clause-begins : goal.serve_at_desk-requires-clause-begins
serve_at_desk-requires-clause-begins g c =
    let (early, between) = c.requires.stands in (
      early,
      lines_done c.args.done.now.items,
      claimed_begins c.args.shared.now.round.now early c.args.pass.now c.claim.new.self c.args.done.now.items c.in-Some.job c.requires.shared.servable.round.apart
          (subst (λ (k : ℕ). ClaimsJob k c.args.pass.now c.claim.new.self (Some c.in-Some.job)) c.count.ensures c.in-Some.ensures.claims) c.claim.ensures.own.1 between,
    )

pub returns-clause-turn : goal.returns-clause-turn
returns-clause-turn g c =
    turn_on c.args.shared.now.round.now c.args.pass.now c.claim.new.self c.serve_at_desk.new.pass c.args.done.now.items _ (record { job = c.in-Some.job; served = c.in_ok-served.served }) (record {
      apart = c.requires.shared.servable.round.apart;
      known = c.requires.shared.servable.round.known;
      claim = subst (λ (k : ℕ). ClaimsJob k c.args.pass.now c.claim.new.self (Some c.in-Some.job)) c.count.ensures c.in-Some.ensures.claims;
      tops = c.claim.ensures.own.1;
      greatest = c.claim.ensures.own.1 ∙ c.requires.own.1 ∙ sym c.requires.shared.opened.own.1 ∙ c.requires.shared.opened.tops;
      serves = c.in_ok-served.ensures.served;
    }) c.in_ok-push.ensures.items c.requires.stands
