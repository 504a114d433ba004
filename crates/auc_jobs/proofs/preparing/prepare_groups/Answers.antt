use Rattle.std.proofs.Common.{◌≢◌, ℕ, List, All, length, sym, ◌∙◌, ap, subst}
use Rattle.auc_memory.specs.Identity.{Identity}
use Rattle.auc_jobs.specs.InnerPreparing.{AreReservable}
use Rattle.auc_jobs.proofs.PreparingLemmas.{rest_reservable}
use Rattle.auc_jobs.proofs.preparing.prepare_groups.Goals as goal

pub loop-rest-preserved : goal.loop-rest-preserved
loop-rest-preserved g c =
    let was = c.loop-rest.invariant in
    record {
      own = c.prepare.ensures.book.0 ∙ was.own;
      all = c.prepare.ensures.book.1 ∙ was.all;
      sized = ap (λ (l : List Identity). length l) c.prepare.ensures.subscribers ∙ was.sized;
      left = subst (AreReservable (length c.args.book.now.openings) c.prepare.new.self.pass) (sym c.split_at.ensures.back)
          (rest_reservable (length c.args.book.now.openings) c.loop-rest.keeper.pass c.prepare.new.self.pass c.loop-rest.rest.now c.min.result was.left c.prepare.ensures.seen
          (λ sub others. c.prepare.ensures.others sub (subst (λ (l : List (ℕ × ℕ)). All (λ item. sub ≢ item.0) l) (sym c.split_at.ensures.front) others)));
      since = λ opening begun. c.prepare.ensures.since opening (was.since opening begun);
    }
