use Rattle.std.proofs.Common.{List, subst, sym}
use Rattle.auc_world.specs.Given.{EventGives}
use Rattle.auc_record.specs.declared.record.LineRecord.{LineRecord}
use Rattle.auc_jobs.specs.InnerServing.{Happens, before_at}
use Rattle.auc_jobs.specs.InnerUsims.{usim_of}
use Rattle.auc_jobs.proofs.JobLemmas.{serves_as}
use Rattle.auc_jobs.proofs.worker.Worker.happen_alone.Goals as goal

pub returns-clause-happened : goal.returns-clause-happened
returns-clause-happened g c = λ early beside stands.
    serves_as (λ i es ws. g.C.Centre.goes c.args.self.now.centre i es ws c.happen.new.self.centre) c.args.self.now.set.rows (before_at early beside c.args.self.now.lines)
    (g.C.Centre.kept c.happen.new.self.centre) c.args.self.now.released (usim_of c.args.self.now.set.rows c.happen.new.self.world)
    (λ lines. Happens c.args.self.now.set (before_at early beside c.args.self.now.lines) c.args.self.now.world.net c.args.event c.in_ok-happen.field-0 lines c.happen.new.self.world.net)
    (λ lines. EventGives c.args.self.now.set (before_at early beside c.args.self.now.lines) c.args.self.now.world.net c.args.event lines c.happen.new.self.world.net)
    c.happen.new.self.lines
    (λ lines h. subst (λ (ls : List LineRecord). EventGives c.args.self.now.set (before_at early beside c.args.self.now.lines) c.args.self.now.world.net c.args.event ls c.happen.new.self.world.net) (sym h.is) h.given)
    (c.in_ok-happen.ensures.happened early beside stands)
