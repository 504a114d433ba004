use Rattle.std.proofs.Common.{List, ℕ, subst}
use Rattle.std.specs.Prelude.{Option}
use Rattle.auc_world.specs.Given.{Before, FivegFollows, FivegGives}
use Rattle.auc_subs.specs.Setting.{Setting}
use Rattle.auc_record.specs.declared.record.LineRecord.{LineRecord}
use Rattle.auc_jobs.specs.InnerServing.{IsNext}
use Rattle.auc_jobs.proofs.LineLemmas.{on_ok_map}
use Rattle.auc_jobs.proofs.SystemLemmas.{fiveg_ends, fiveg_then}
use Rattle.auc_jobs.proofs.WorkerLemmas.{also_serves, more_serves}
use Rattle.auc_jobs.proofs.worker.Worker.fiveg.Goals as goal

pub returns-in_default-clause-given : goal.returns-in_default-clause-given
returns-in_default-clause-given g c =
    also_serves g.C.Centre.kept g.C.Centre.goes c.args.self.now c.draw_next.new.self (λ before. IsNext c.args.self.now.set c.args.line.now.sub c.in_ok-n.field-0)
    (λ before. FivegGives c.args.self.now.set before c.args.line.now)
    (λ before lines next.
    fiveg_ends c.args.self.now.set before c.args.line.now lines (subst (λ (o : Option ℕ). IsNext c.args.self.now.set c.args.line.now.sub o lines) c.in_default.is next))
    c.in_ok-n.ensures.drawn

pub returns-clause-given : goal.returns-clause-given
returns-clause-given g c =
    on_ok_map c.authenticate.result c.authenticate.ensures.given (λ follows.
    more_serves g.C.Centre.kept g.C.Centre.goes c.args.self.now c.draw_next.new.self c.authenticate.new.self (λ before. IsNext c.args.self.now.set c.args.line.now.sub c.in_ok-n.field-0)
    (λ (s : Setting) (before : Before) (lines : List LineRecord). FivegFollows s before c.args.line.now c.in-Some.n lines) (λ before. FivegGives c.args.self.now.set before c.args.line.now)
    (λ i es fs ws vs. g.met.C.Centre.joins c.args.self.now.centre c.draw_next.new.self.centre c.authenticate.new.self.centre i es fs ws vs)
    c.in_ok-n.ensures.same.worker.set c.in_ok-n.ensures.same.worker.released c.in_ok-n.ensures.drawn follows
    (λ before front rest next then_follows.
    fiveg_then c.args.self.now.set before c.args.line.now c.in-Some.n front rest (subst (λ (o : Option ℕ). IsNext c.args.self.now.set c.args.line.now.sub o front) c.in-Some.is next)
    then_follows))
