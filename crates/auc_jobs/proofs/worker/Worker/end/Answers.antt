use Rattle.std.proofs.Common.{subst, sym, ◌∙◌}
use Rattle.auc_jobs.specs.InnerUsims.{usim_of}
use Rattle.auc_jobs.specs.InnerWorker.{WorkerState}
use Rattle.auc_jobs.specs.Usims.{HaveSecrets}
use Rattle.auc_world.specs.World.{WorldState}
use Rattle.auc_jobs.proofs.WorkerLemmas.{is_nobody, nobody_for_rows}
use Rattle.auc_jobs.proofs.worker.Worker.end.Goals as goal

pub invariant_of-self : goal.invariant_of-self
invariant_of-self g c =
    nobody_for_rows c.self.inside.set.now.rows (g.C.Centre.subs c.self.inside.centre.now) (g.C.Centre.top c.self.inside.centre.now) c.self.inside.world c.replace-world.new.dest
    (is_nobody c.replace-world.new.dest c.new.result.items c.new-2.result.items (c.replace-world.ensures.after ∙ c.in_ok-empty.ensures) c.new.ensures.items c.new-2.ensures.items)
    c.self.invariant

pub returns-clause-secrets : goal.returns-clause-secrets
returns-clause-secrets g c =
    subst (λ (w : WorldState). HaveSecrets c.args.self.now.set.rows (usim_of c.args.self.now.set.rows w)) (sym c.replace-world.ensures.value)
    (subst (λ (w : WorkerState g.row.C.Denot). HaveSecrets w.set.rows (usim_of w.set.rows c.self.inside.world)) c.self.view_is c.self.invariant.secrets)
