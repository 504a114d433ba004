use Rattle.std.proofs.Common.{◌≡◌, ◌≤◌, ◌-◌, ◌+◌, ◌∙◌, [], ◌∷◌, List, ap, arith, length, refl, subst, sym, ℕ}
use Rattle.std.proofs.lemmas.List.{length-append}
use Rattle.std.proofs.lemmas.List.Elements.{All-append, All-nil}
use Rattle.std.specs.Prelude.{All, IfSome, Option}
use Rattle.std.proofs.Math.Nat.{sub-zero}
use Rattle.auc_sites.proofs.Facts.{drawn_above, drawn_more}
use Rattle.auc_history.specs.declared.entry.Entry.TheVariants.{Drawn}
use Rattle.auc_subs.specs.Subscriber.{top_at}
use Rattle.auc_world.specs.Given.{Before}
use Rattle.auc_subs.specs.Setting.{Setting}
use Rattle.auc_record.specs.declared.record.LineRecord.{LineRecord}
use Rattle.auc_jobs.specs.InnerServing.{IsNext}
use Rattle.auc_jobs.specs.InnerSim.{IsNumber}
use Rattle.auc_jobs.specs.InnerSites.{IsLease}
use Rattle.auc_jobs.proofs.SimLemmas.{numbers_one}
use Rattle.auc_jobs.proofs.SiteLemmas.{LeaseGoesOn, lease_begins, lease_ends_early, lease_more, lease_whole}
use Rattle.auc_jobs.proofs.WorkerLemmas.{also_serves, goes_on_beside, more_serves, none_serves}
use Rattle.auc_jobs.proofs.worker.Worker.lease.Goals as goal

pub loop-init : goal.loop-init
loop-init g c = record {
  same = record {
    worker = record { borrow = refl; lent = refl; set = refl; released = refl };
    keyed = λ sub. refl;
    net = refl;
  };
  count = rw c.new-lease.ensures refl;
  own = rw c.new-lease.ensures (g.met.C.Centre.stays c.args.self.now.centre c.args.sub);
  numbers = rw c.new-lease.ensures (All-nil (IsNumber c.args.self.now.set.rows c.args.sub));
  drawn =
      rw c.new-lease.ensures (also_serves g.C.Centre.kept g.C.Centre.goes c.args.self.now c.args.self.now (λ before lines. lines ≡ [])
      (λ before. LeaseGoesOn c.args.self.now.set c.args.sub (c.args.size - 0) c.args.size [])
      (λ before lines none. lease_begins c.args.self.now.set c.args.sub (c.args.size - 0) c.args.size lines (sub-zero c.args.size) none)
      (none_serves g.C.Centre.kept g.C.Centre.goes c.args.self.now (λ i. g.met.C.Centre.stays c.args.self.now.centre i)));
}

pub push-requires : goal.push-requires
push-requires g c = (
  omega (arith, c.loop.invariant.count, c.loop-test.true, c.requires.size),
  drawn_above g.C.Centre.goes c.args.sub c.in-Some.n c.loop.lease c.args.self.now.centre c.loop.self.centre c.draw_next.new.self.centre g.met.C.Centre.joins g.met.C.Centre.rises
      c.loop.invariant.own (subst (λ (o : Option ℕ). IfSome o (λ n. g.C.Centre.goes c.loop.self.centre c.args.sub (Drawn n ∷ []) [] c.draw_next.new.self.centre)) c.in-Some.is c.in_ok-n.ensures.own),
)

pub loop-preserved : goal.loop-preserved
loop-preserved g c = record {
  same = goes_on_beside _ _ _ c.args.self.now c.loop.self c.draw_next.new.self c.loop.invariant.same c.in_ok-n.ensures.same;
  count = ap length c.push.ensures ∙ length-append c.loop.lease (c.in-Some.n ∷ []) ∙ ap (λ (k : ℕ). k + 1) c.loop.invariant.count;
  own = drawn_more g.C.Centre.goes c.args.sub c.in-Some.n c.loop.lease c.push.new.self c.args.self.now.centre c.loop.self.centre c.draw_next.new.self.centre g.met.C.Centre.joins
      c.push.ensures c.loop.invariant.own (subst (λ (o : Option ℕ). IfSome o (λ n. g.C.Centre.goes c.loop.self.centre c.args.sub (Drawn n ∷ []) [] c.draw_next.new.self.centre)) c.in-Some.is c.in_ok-n.ensures.own);
  numbers =
      let Is : ℕ → Type 0 = IsNumber c.args.self.now.set.rows c.args.sub in
      subst (All Is) (sym c.push.ensures) (All-append Is c.loop.lease (c.in-Some.n ∷ []) c.loop.invariant.numbers
      (numbers_one c.args.self.now.set.rows c.args.sub c.in_ok-n.field-0 c.in-Some.n c.in-Some.is
      (subst (λ (set : Setting). IfSome c.in_ok-n.field-0 (λ n. (1 ≤ n) × (n ≤ top_at set.rows c.args.sub))) c.loop.invariant.same.worker.set c.in_ok-n.ensures.number)));
  drawn =
      more_serves g.C.Centre.kept g.C.Centre.goes c.args.self.now c.loop.self c.draw_next.new.self
      (λ before. LeaseGoesOn c.args.self.now.set c.args.sub (c.args.size - c.loop.counter) c.args.size c.loop.lease)
      (λ (s : Setting) (before : Before) (lines : List LineRecord). IsNext s c.args.sub c.in_ok-n.field-0 lines)
      (λ before. LeaseGoesOn c.args.self.now.set c.args.sub (c.args.size - (c.loop.counter + 1)) c.args.size c.push.new.self)
      (λ i es fs ws vs. g.met.C.Centre.joins c.args.self.now.centre c.loop.self.centre c.draw_next.new.self.centre i es fs ws vs)
      c.loop.invariant.same.worker.set c.loop.invariant.same.worker.released c.loop.invariant.drawn c.in_ok-n.ensures.drawn
      (λ before front rest on next.
      lease_more c.args.self.now.set c.args.sub (c.args.size - c.loop.counter) (c.args.size - (c.loop.counter + 1)) c.args.size c.in-Some.n c.in_ok-n.field-0 c.loop.lease c.push.new.self front rest
      (omega (arith, c.loop-test.true)) c.in-Some.is c.push.ensures on next);
}

pub returns-in_default-clause-drawn : goal.returns-in_default-clause-drawn
returns-in_default-clause-drawn g c =
    more_serves g.C.Centre.kept g.C.Centre.goes c.args.self.now c.loop.self c.draw_next.new.self
    (λ before. LeaseGoesOn c.args.self.now.set c.args.sub (c.args.size - c.loop.counter) c.args.size c.loop.lease)
    (λ (s : Setting) (before : Before) (lines : List LineRecord). IsNext s c.args.sub c.in_ok-n.field-0 lines) (λ before. IsLease c.args.self.now.set c.args.sub c.args.size c.loop.lease)
    (λ i es fs ws vs. g.met.C.Centre.joins c.args.self.now.centre c.loop.self.centre c.draw_next.new.self.centre i es fs ws vs)
    c.loop.invariant.same.worker.set c.loop.invariant.same.worker.released c.loop.invariant.drawn c.in_ok-n.ensures.drawn
    (λ before front rest on next.
    lease_ends_early c.args.self.now.set c.args.sub (c.args.size - c.loop.counter) (c.args.size - (c.loop.counter + 1)) c.args.size c.in_ok-n.field-0 c.loop.lease front rest
    (omega (arith, c.loop-test.true)) c.in_default.is on next)

pub returns-clause-drawn : goal.returns-clause-drawn
returns-clause-drawn g c =
    also_serves g.C.Centre.kept g.C.Centre.goes c.args.self.now c.loop.self (λ before. LeaseGoesOn c.args.self.now.set c.args.sub (c.args.size - c.loop.counter) c.args.size c.loop.lease)
    (λ before. IsLease c.args.self.now.set c.args.sub c.args.size c.loop.lease)
    (λ before lines on. lease_whole c.args.self.now.set c.args.sub (c.args.size - c.loop.counter) c.args.size c.loop.lease lines (omega (arith, c.loop-test.false)) on) c.loop.invariant.drawn
