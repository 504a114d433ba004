use Rattle.std.proofs.Common.{◌≡◌, ◌-◌, ◌+◌, [], List, arith, refl, sym, subst, ℕ}
use Rattle.std.proofs.Math.Nat.{sub-zero}
use Rattle.auc_world.specs.Given.{Before}
use Rattle.auc_record.specs.Draws.{DrawGives}
use Rattle.auc_subs.specs.Setting.{Setting}
use Rattle.auc_record.specs.declared.record.LineRecord.{LineRecord}
use Rattle.auc_jobs.specs.InnerServing.{IsNext}
use Rattle.auc_jobs.proofs.DrawingLemmas.{GoesOn, draw_all, draw_begins, draw_ends, draw_more}
use Rattle.auc_jobs.proofs.WorkerLemmas.{also_serves, goes_on_beside, more_serves, none_serves}
use Rattle.auc_jobs.proofs.worker.Worker.draw.Goals as goal

pub loop-init : goal.loop-init
loop-init g c = record {
  same = record {
    worker = record { borrow = refl; lent = refl; set = refl; released = refl };
    keyed = λ sub. refl;
    net = refl;
  };
  drawn =
      also_serves g.C.Centre.kept g.C.Centre.goes c.args.self.now c.args.self.now (λ before lines. lines ≡ []) (λ before. GoesOn c.args.self.now.set c.args.sub (c.args.count - 0) c.args.count)
      (λ before lines none.
      subst (λ (left : ℕ). GoesOn c.args.self.now.set c.args.sub left c.args.count lines) (sym (sub-zero c.args.count)) (draw_begins c.args.self.now.set c.args.sub c.args.count lines none))
      (none_serves g.C.Centre.kept g.C.Centre.goes c.args.self.now (λ i. g.met.C.Centre.stays c.args.self.now.centre i));
}

pub loop-preserved : goal.loop-preserved
loop-preserved g c = record {
  same = goes_on_beside _ _ _ c.args.self.now c.loop.self c.draw_next.new.self c.loop.invariant.same c.in_ok-draw_next.ensures.same;
  drawn =
      more_serves g.C.Centre.kept g.C.Centre.goes c.args.self.now c.loop.self c.draw_next.new.self (λ before. GoesOn c.args.self.now.set c.args.sub (c.args.count - c.loop.counter) c.args.count)
      (λ (s : Setting) (before : Before) (lines : List LineRecord). IsNext s c.args.sub c.in_ok-draw_next.field-0 lines)
      (λ before. GoesOn c.args.self.now.set c.args.sub (c.args.count - (c.loop.counter + 1)) c.args.count)
      (λ i es fs ws vs. g.met.C.Centre.joins c.args.self.now.centre c.loop.self.centre c.draw_next.new.self.centre i es fs ws vs)
      c.loop.invariant.same.worker.set c.loop.invariant.same.worker.released c.loop.invariant.drawn c.in_ok-draw_next.ensures.drawn
      (λ before front rest on next.
      draw_more c.args.self.now.set c.args.sub (c.args.count - c.loop.counter) (c.args.count - (c.loop.counter + 1)) c.args.count c.in_ok-draw_next.field-0 front rest (omega arith)
      c.if-is_none.ensures on next);
}

pub returns-then-is_none-clause-drawn : goal.returns-then-is_none-clause-drawn
returns-then-is_none-clause-drawn g c =
    more_serves g.C.Centre.kept g.C.Centre.goes c.args.self.now c.loop.self c.draw_next.new.self (λ before. GoesOn c.args.self.now.set c.args.sub (c.args.count - c.loop.counter) c.args.count)
    (λ (s : Setting) (before : Before) (lines : List LineRecord). IsNext s c.args.sub c.in_ok-draw_next.field-0 lines) (λ before. DrawGives c.args.self.now.set c.args.sub c.args.count)
    (λ i es fs ws vs. g.met.C.Centre.joins c.args.self.now.centre c.loop.self.centre c.draw_next.new.self.centre i es fs ws vs)
    c.loop.invariant.same.worker.set c.loop.invariant.same.worker.released c.loop.invariant.drawn c.in_ok-draw_next.ensures.drawn
    (λ before front rest on next.
    draw_ends c.args.self.now.set c.args.sub (c.args.count - c.loop.counter) (c.args.count - (c.loop.counter + 1)) c.args.count c.in_ok-draw_next.field-0 front rest (omega arith)
    c.if-is_none.ensures on next)

pub returns-clause-drawn : goal.returns-clause-drawn
returns-clause-drawn g c =
    also_serves g.C.Centre.kept g.C.Centre.goes c.args.self.now c.loop.self (λ before. GoesOn c.args.self.now.set c.args.sub (c.args.count - c.loop.counter) c.args.count)
    (λ before. DrawGives c.args.self.now.set c.args.sub c.args.count)
    (λ before lines on. draw_all c.args.self.now.set c.args.sub (c.args.count - c.loop.counter) c.args.count lines (omega arith) on) c.loop.invariant.drawn
