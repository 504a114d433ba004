use Rattle.auc_jobs.specs.InnerUsims.{usim_of}
use Rattle.std.proofs.Common.{◌≡◌, ℕ, true, false, sym, subst}
use Rattle.auc_world.specs.Given.{SyncGives}
use Rattle.auc_jobs.specs.InnerServing.{IsSeqWithin, is_accepted_next}
use Rattle.auc_jobs.specs.InnerWorker.{WorkerState, WorkerServes}
use Rattle.auc_jobs.proofs.JobLemmas.{serves_adds}
use Rattle.auc_jobs.proofs.LineLemmas.{on_ok_map}
use Rattle.auc_jobs.proofs.SyncLemmas.{sync_alone, sync_then}
use Rattle.auc_jobs.proofs.worker.Worker.sync.Goals as goal

pub resynchronised-note-requires-clause-number : goal.resynchronised-note-requires-clause-number
resynchronised-note-requires-clause-number g c =
    subst (λ (top : ℕ). IsSeqWithin top c.reported-auts.result) (sym (c.self.invariant.is_centre.greatest c.args.sub)) c.reported-auts.ensures.bound

pub returns-then-not-is_accepted_next-clause-synced : goal.returns-then-not-is_accepted_next-clause-synced
returns-then-not-is_accepted_next-clause-synced g c =
    let stops : is_accepted_next c.resynchronised-note.result ≡ false = cc in
    let new : WorkerState g.row.C.Denot = record {
      centre = c.resynchronised-note.new.centre;
      lent = c.self.inside.centre.ghost_name;
      set = c.self.inside.set.now;
      released = c.self.inside.released.now;
      world = c.self.inside.world;
      lines = c.push.new.self;
    } in
    subst (λ (w : WorkerState g.row.C.Denot). WorkerServes g.C.Centre.kept g.C.Centre.goes w new (λ before. SyncGives w.set c.args.sub c.args.report c.args.count)) c.self.view_is
    (λ early beside stands.
    serves_adds (λ i es ws. g.C.Centre.goes c.self.inside.centre.now i es ws c.resynchronised-note.new.centre) c.self.inside.set.now.rows early beside c.self.inside.lines c.push.new.self
    (g.C.Centre.kept c.self.inside.centre.now) (g.C.Centre.kept c.resynchronised-note.new.centre) c.self.inside.released.now (usim_of c.self.inside.set.now.rows c.self.inside.world)
    (SyncGives c.self.inside.set.now c.args.sub c.args.report c.args.count) stands
    (sync_alone (λ i es ws. g.C.Centre.goes c.self.inside.centre.now i es ws c.resynchronised-note.new.centre) (g.C.Centre.kept c.self.inside.centre.now)
    (g.C.Centre.kept c.resynchronised-note.new.centre) c.self.inside.set.now c.args.sub c.args.report c.args.count beside c.self.inside.lines c.push.new.self
    c.reported-auts.result c.resynchronised-note.result c.reported-auts.ensures.value c.resynchronised-note.ensures.resynced stops c.in_ok-push.ensures c.resynchronised-note.ensures.said
    stands.told))

pub returns-clause-synced : goal.returns-clause-synced
returns-clause-synced g c =
    on_ok_map c.draw.result c.draw.ensures.drawn (λ drawn.
    let goes_on : is_accepted_next c.resynchronised-note.result ≡ true = cc in
    subst (λ (w : WorkerState g.row.C.Denot). WorkerServes g.C.Centre.kept g.C.Centre.goes w c.draw.new.self (λ before. SyncGives w.set c.args.sub c.args.report c.args.count)) c.self.view_is
    (λ early beside stands.
    sync_then (λ i es ws. g.C.Centre.goes c.self.inside.centre.now i es ws c.resynchronised-note.new.centre)
    (λ i es ws. g.C.Centre.goes c.resynchronised-note.new.centre i es ws c.draw.new.self.centre) (λ i es ws. g.C.Centre.goes c.self.inside.centre.now i es ws c.draw.new.self.centre)
    (g.C.Centre.kept c.self.inside.centre.now) (g.C.Centre.kept c.resynchronised-note.new.centre) (g.C.Centre.kept c.draw.new.self.centre)
    c.self.inside.set.now c.args.sub c.args.report c.args.count early beside c.self.inside.lines c.push.new.self c.draw.new.self.lines
    c.self.inside.released.now (usim_of c.self.inside.set.now.rows c.self.inside.world) (usim_of c.self.inside.set.now.rows c.draw.new.self.world) c.reported-auts.result c.resynchronised-note.result
    (λ i es fs ws vs. g.met.C.Centre.joins c.self.inside.centre.now c.resynchronised-note.new.centre c.draw.new.self.centre i es fs ws vs)
    c.reported-auts.ensures.value c.resynchronised-note.ensures.resynced goes_on c.in_ok-push.ensures c.resynchronised-note.ensures.said stands (drawn early beside)))
