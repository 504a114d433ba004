use Rattle.std.proofs.Common.{◌≡◌, ◌≤◌, ◌+◌, ◌++◌, ℕ, List, [], ◌∷◌, drop, get_or, min, arith, subst, sym}
use Rattle.auc_sqn.specs.Number.{top_of}
use Rattle.auc_subs.specs.Subscriber.{top_at}
use Rattle.auc_record.specs.Openings.{reopened}
use Rattle.auc_record.proofs.OpeningLemmas.{reopened_grows, reopened_last, reopened_within}
use Rattle.auc_record.proofs.closing.reopened.Goals as goal

pub loop-sub-preserved : goal.loop-sub-preserved
loop-sub-preserved c =
    let rows = c.args.subs.now in
    let words = c.args.words.now in
    let sub = c.loop-sub.sub in
    let row = c.row.result.now in
    let grown : c.push.new.self ≡ c.loop-sub.openings ++ min (top_of row.bits) (get_or words sub 0) ∷ [] = grind (arith, c.in_ok-push.ensures.pushed, c.min.ensures, c.top.ensures) in
    subst (λ (openings : List ℕ). openings ++ reopened (drop (sub + 1) rows) (drop (sub + 1) words) ≡ reopened rows words) (sym grown)
    (reopened_grows rows words c.loop-sub.openings sub row c.row.ensures.place (omega (arith, c.loop-sub-test.true, c.requires)) c.loop-sub.invariant)

pub returns-clause-bound : goal.returns-clause-bound
returns-clause-bound c =
    let rows = c.args.subs.now in
    let words = c.args.words.now in
    let all = reopened_last rows words c.loop-sub.openings c.loop-sub.sub (omega (arith, c.loop-sub-test.false)) c.loop-sub.invariant in
    λ sub inside. subst (λ (openings : List ℕ). get_or openings sub 0 ≤ top_at rows sub) (sym all) (reopened_within rows words sub)
