use Rattle.std.proofs.Common.{◌≡◌, [], ◌∷◌, ◌++◌, ◌∙◌, ap, sym, subst}
use Rattle.auc_record.specs.declared.record.GiveVerdict.{GiveVerdict}
use Rattle.auc_record.specs.declared.record.LineRecord.TheVariants.{Give}
use Rattle.auc_jobs.specs.InnerServing.{before_at, GivesVerdict, ServesLine}
use Rattle.auc_jobs.specs.InnerUsims.{usim_of, verdict_by}
use Rattle.auc_jobs.specs.InnerWorker.{WorkerState}
use Rattle.auc_jobs.proofs.LineLemmas.{some_at}
use Rattle.auc_jobs.proofs.JobLemmas.{give_added, serves_give}
use Rattle.auc_jobs.proofs.worker.Worker.presented.Goals as goal

pub returns-clause-given : goal.returns-clause-given
returns-clause-given g c = λ early beside stands.
    let row = some_at c.args.self.now.set.rows c.args.sub c.requires.known in
    let inside : WorkerState g.row.C.Denot = record {
      centre = c.self.inside.centre.now;
      lent = c.self.inside.centre.ghost_name;
      set = c.self.inside.set.now;
      released = c.self.inside.released.now;
      world = c.self.inside.world;
      lines = c.self.inside.lines;
    } in
    let answer : GiveVerdict = verdict_by c.in_ok-answer.answer in
    let same : inside ≡ record c.args.self.now { world = c.answered.new.self.world } = c.self.view_is ∙ c.in_ok-answer.ensures.rest in
    let lines = ap (λ (v : GiveVerdict). inside.lines ++ Give c.args.sub c.args.n v ∷ []) c.verdict-verdict.ensures
    ∙ ap (λ (w : WorkerState g.row.C.Denot). w.lines ++ Give c.args.sub c.args.n answer ∷ []) same in
    subst (λ (w : WorkerState g.row.C.Denot). ServesLine (λ i es ws. g.C.Centre.goes c.args.self.now.centre i es ws w.centre) c.args.self.now.set.rows
    (before_at early beside c.args.self.now.lines) (g.C.Centre.kept w.centre) c.args.self.now.released (usim_of c.args.self.now.set.rows w.world)
    (GivesVerdict c.args.self.now.set (before_at early beside c.args.self.now.lines) c.args.sub c.args.n answer) c.push.new.self) (sym same)
    (serves_give (λ i es ws. g.C.Centre.goes c.args.self.now.centre i es ws c.args.self.now.centre) c.args.self.now.set early beside c.args.self.now.lines c.push.new.self
    (g.C.Centre.kept c.args.self.now.centre) c.args.self.now.released (usim_of c.args.self.now.set.rows c.args.self.now.world) (usim_of c.args.self.now.set.rows c.answered.new.self.world) c.args.sub c.args.n
    answer (λ i. g.met.C.Centre.stays c.args.self.now.centre i) stands
    (give_added c.args.self.now.set early beside c.args.self.now.lines c.push.new.self c.args.sub c.args.n answer (usim_of c.args.self.now.set.rows c.answered.new.self.world)
    row.0 row.1 (c.in_ok-push.ensures ∙ lines) (c.in_ok-answer.ensures.answered early beside stands.earlier stands.numbers.0 stands.numbers.1 stands.pasts)))
