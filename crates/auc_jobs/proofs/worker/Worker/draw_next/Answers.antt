use Rattle.std.proofs.Common.{◌<◌, ℕ, length, sym, subst}
use Rattle.std.specs.Prelude.{Option}
use Rattle.auc_jobs.specs.InnerServing.{IsNext, number_drawn}
use Rattle.auc_jobs.specs.InnerUsims.{usim_of}
use Rattle.auc_jobs.specs.InnerWorker.{WorkerServes, WorkerState}
use Rattle.auc_jobs.proofs.DrawingLemmas.{next_adds}
use Rattle.auc_jobs.proofs.JobLemmas.{serves_adds}
use Rattle.auc_jobs.proofs.SayingLemmas.{is_number_note, says_number}
use Rattle.auc_jobs.proofs.worker.Worker.draw_next.Goals as goal

pub returns-clause-drawn : goal.returns-clause-drawn
returns-clause-drawn g c =
    let e = c.ask-note.ensures in
    let note = c.ask-note.result in
    let old = c.self.inside.centre.now in
    let new : WorkerState g.row.C.Denot = record {
      centre = c.ask-note.new.centre;
      lent = c.self.inside.centre.ghost_name;
      set = c.self.inside.set.now;
      released = c.self.inside.released.now;
      world = c.self.inside.world;
      lines = c.push.new.self;
    } in
    let known = subst (λ (w : WorkerState g.row.C.Denot). c.args.sub < length w.set.rows) (sym c.self.view_is) c.requires in
    subst (λ (w : WorkerState g.row.C.Denot). WorkerServes g.C.Centre.kept g.C.Centre.goes w new (λ before. IsNext w.set c.args.sub c.number_drawn.result)) c.self.view_is
    (subst (λ (o : Option ℕ). WorkerServes g.C.Centre.kept g.C.Centre.goes (record new { centre = old; lines = c.self.inside.lines }) new (λ before. IsNext new.set c.args.sub o))
    (sym c.number_drawn.ensures)
    (λ early beside stands.
    serves_adds (λ i es ws. g.C.Centre.goes old i es ws new.centre) new.set.rows early beside c.self.inside.lines c.push.new.self
    (g.C.Centre.kept old) (g.C.Centre.kept new.centre) new.released (usim_of new.set.rows new.world) (IsNext new.set c.args.sub (number_drawn note)) stands
    (next_adds (λ i es ws. g.C.Centre.goes old i es ws new.centre) (g.C.Centre.kept new.centre) new.set c.args.sub beside c.self.inside.lines c.push.new.self note c.in_ok-push.ensures known
    (is_number_note new.set c.args.sub (g.C.Centre.top old c.args.sub) (g.C.Centre.kept old c.args.sub) note (c.self.invariant.is_centre.greatest c.args.sub) e.answer)
    (says_number g.C.Centre.goes g.C.Centre.kept g.C.Centre.top old new.centre c.args.sub note _ e.answer e.goes e.others e.kept e.still stands.told))))
