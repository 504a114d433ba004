use Rattle.std.proofs.Common.{rules, ◌+◌, refl, sym, ap, ◌∙◌, arith, length}
use Rattle.auc_jobs.proofs.TurnLemmas.{between_first, finished_then, finished_last}
use Rattle.auc_jobs.proofs.claiming.serve_claims.Goals as goal

pub loop-turn-init : goal.loop-turn-init
loop-turn-init g c = record {
  own = (refl, refl);
  claims = c.requires.new.2;
  many = ap length c.requires.none;
  stands = λ early begins. between_first _ early _ _ c.requires.new.1 c.requires.new.2 c.requires.none begins;
}

pub serve_next-requires-clause-stands : goal.serve_next-requires-clause-stands
serve_next-requires-clause-stands g c = (c.requires.shared.servable.begins.0, c.loop-turn.invariant.stands c.requires.shared.servable.begins.0 c.requires.shared.servable.begins.1)

pub returns-then-not-branch-clause-finished : goal.returns-then-not-branch-clause-finished
returns-then-not-branch-clause-finished g c = finished_then _ _ _ _ _ c.in_ok-serve_next.field-0 (search rules) c.in_ok-serve_next.ensures.turn c.loop-turn.invariant.stands

pub loop-turn-preserved : goal.loop-turn-preserved
loop-turn-preserved g c =
    let some = c.in_ok-serve_next.ensures.turn.some (search rules) in
    record {
      own = (c.in_ok-serve_next.ensures.own.0 ∙ sym c.requires.new.0.0, c.in_ok-serve_next.ensures.own.1 ∙ sym c.requires.new.0.1);
      claims = some.0;
      many = some.1 ∙ ap (λ k. k + 1) c.loop-turn.invariant.many;
      stands = λ early begins. c.in_ok-serve_next.ensures.turn.stands early (c.loop-turn.invariant.stands early begins);
    }

pub returns-clause-finished : goal.returns-clause-finished
returns-clause-finished g c = finished_last _ _ _ c.loop-turn.invariant.claims (omega (arith, c.loop-turn.invariant.many, c.loop-turn-test.false, c.count-turn-end.ensures)) c.requires.shared.servable c.loop-turn.invariant.stands
