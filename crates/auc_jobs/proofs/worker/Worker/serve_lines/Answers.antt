use Rattle.std.proofs.Common.{◌∙◌, ◌+◌, ◌∷◌, ap, drop, refl, sym, List}
use Rattle.auc_lines.specs.declared.part.Line.{Line}
use Rattle.auc_world.specs.Given.{Before, LineGives}
use Rattle.auc_subs.specs.Setting.{Setting}
use Rattle.auc_record.specs.declared.record.LineRecord.{LineRecord}
use Rattle.std.proofs.lemmas.List.{drop_more, drop_all}
use Rattle.auc_jobs.specs.InnerUsims.{usim_of}
use Rattle.auc_jobs.proofs.CopyLemmas.{holds_in_drop}
use Rattle.auc_jobs.proofs.JobLemmas.{job_line, job_all}
use Rattle.auc_jobs.proofs.WorkerLemmas.{job_begins, same_serves}
use Rattle.auc_jobs.proofs.worker.Worker.serve_lines.Goals as goal

pub loop-line-init : goal.loop-line-init
loop-line-init g c = record {
  name = refl;
  lent = refl;
  set = refl;
  released = refl;
  keyed = λ sub. refl;
  homes = refl;
  devices = refl;
  serving = λ early beside stands.
      job_begins g.C.Centre.kept g.C.Centre.goes c.args.self.now _ c.args.job.now c.requires.none refl (λ i. g.met.C.Centre.stays c.args.self.now.centre i) early beside stands;
}

pub serve_line-requires-clause-own : goal.serve_line-requires-clause-own
serve_line-requires-clause-own g c = λ sub gives.
    c.loop-line.invariant.keyed sub ∙ c.requires.own sub (holds_in_drop sub c.loop-line.line-index c.args.job.now _ _ (drop_more _ _ c.line-item.result c.loop-line-test.true ∙ ap (λ (l : Line). l ∷ drop (c.loop-line.line-index + 1) c.args.job.now) (sym c.line-item.is)) gives)

pub loop-line-preserved : goal.loop-line-preserved
loop-line-preserved g c = record {
  name = c.in_ok-serve_line.ensures.same.worker.borrow ∙ c.loop-line.invariant.name;
  lent = c.in_ok-serve_line.ensures.same.worker.lent ∙ c.loop-line.invariant.lent;
  set = c.in_ok-serve_line.ensures.same.worker.set ∙ c.loop-line.invariant.set;
  released = c.in_ok-serve_line.ensures.same.worker.released ∙ c.loop-line.invariant.released;
  keyed = λ sub. c.in_ok-serve_line.ensures.same.keyed sub ∙ c.loop-line.invariant.keyed sub;
  homes = c.in_ok-serve_line.ensures.same.homes ∙ c.loop-line.invariant.homes;
  devices = c.in_ok-serve_line.ensures.same.devices ∙ c.loop-line.invariant.devices;
  serving = λ early beside stands.
      job_line (λ i es ws. g.C.Centre.goes c.args.self.now.centre i es ws c.loop-line.self.centre) (λ i es ws. g.C.Centre.goes c.loop-line.self.centre i es ws c.serve_line.new.self.centre)
      (λ i es ws. g.C.Centre.goes c.args.self.now.centre i es ws c.serve_line.new.self.centre) c.args.self.now.set early beside
      (g.C.Centre.kept c.loop-line.self.centre) (g.C.Centre.kept c.serve_line.new.self.centre) c.args.self.now.released (usim_of c.args.self.now.set.rows c.loop-line.self.world) (usim_of c.args.self.now.set.rows c.serve_line.new.self.world)
      c.args.self.now.world.net c.loop-line.self.world.net c.serve_line.new.self.world.net _ _ _ c.args.job.now c.loop-line.self.lines c.serve_line.new.self.lines
      (λ i es fs ws vs. g.met.C.Centre.joins c.args.self.now.centre c.loop-line.self.centre c.serve_line.new.self.centre i es fs ws vs)
      (drop_more _ _ c.line-item.result c.loop-line-test.true ∙ ap (λ (l : Line). l ∷ drop (c.loop-line.line-index + 1) c.args.job.now) (sym c.line-item.is)) (c.loop-line.invariant.serving early beside stands)
      (same_serves g.C.Centre.kept g.C.Centre.goes c.loop-line.self c.serve_line.new.self
      (λ (s : Setting) (before : Before) (lines : List LineRecord). LineGives s before c.loop-line.self.world.net c.line-item.result lines c.serve_line.new.self.world.net) c.args.self.now.set c.args.self.now.released
      c.loop-line.invariant.set c.loop-line.invariant.released c.in_ok-serve_line.ensures.served early beside);
}

pub returns-clause-served : goal.returns-clause-served
returns-clause-served g c = λ early beside stands.
    job_all (λ i es ws. g.C.Centre.goes c.args.self.now.centre i es ws c.loop-line.self.centre) c.args.self.now.set early beside
    (g.C.Centre.kept c.loop-line.self.centre) c.args.self.now.released (usim_of c.args.self.now.set.rows c.loop-line.self.world) c.args.self.now.world.net _ c.args.job.now c.loop-line.self.lines c.loop-line.self.world.net (drop_all _ _ c.loop-line-test.false)
    (c.loop-line.invariant.serving early beside stands)
