use Rattle.std.proofs.Common.{[], ◌∷◌, ◌++◌, ◌∙◌, ◌≡◌, ap, subst}
use Rattle.auc_record.specs.declared.further.Further.{Further as Said}
use Rattle.auc_record.specs.declared.record.LineRecord.TheVariants.{Further}
use Rattle.auc_jobs.specs.InnerUsims.{usim_of}
use Rattle.auc_jobs.specs.InnerWorker.{WorkerServes, WorkerState}
use Rattle.auc_jobs.proofs.JobLemmas.{serves_adds}
use Rattle.auc_jobs.proofs.LineLemmas.{on_ok_map}
use Rattle.auc_jobs.proofs.SystemLemmas.{further_adds}
use Rattle.auc_jobs.proofs.worker.Worker.say.Goals as goal

pub returns-clause-said : goal.returns-clause-said
returns-clause-said g c =
    on_ok_map c.push.result c.push.ensures (λ pushed.
    let new : WorkerState g.row.C.Denot = record {
      centre = c.self.inside.centre.now;
      lent = c.self.inside.centre.ghost_name;
      set = c.self.inside.set.now;
      released = c.self.inside.released.now;
      world = c.self.inside.world;
      lines = c.push.new.self;
    } in
    subst (λ (w : WorkerState g.row.C.Denot). WorkerServes g.C.Centre.kept g.C.Centre.goes w new (λ before lines. lines ≡ Further c.args.said ∷ [])) c.self.view_is
    (λ early beside stands.
    serves_adds (λ i es ws. g.C.Centre.goes new.centre i es ws new.centre) new.set.rows early beside c.self.inside.lines new.lines (g.C.Centre.kept new.centre) (g.C.Centre.kept new.centre)
    new.released (usim_of new.set.rows new.world) (λ lines. lines ≡ Further c.args.said ∷ []) stands
    (further_adds (λ i es ws. g.C.Centre.goes new.centre i es ws new.centre) new.set.rows (g.C.Centre.kept new.centre) beside c.self.inside.lines new.lines c.args.said
    (λ i. g.met.C.Centre.stays new.centre i) stands.told
    (pushed ∙ ap (λ (s : Said). c.self.inside.lines ++ Further s ∷ []) c.in_ok-further.ensures))))
