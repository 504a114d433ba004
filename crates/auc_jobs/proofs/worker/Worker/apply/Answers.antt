use Rattle.std.proofs.Common.{◌∙◌, ap, map, subst}
use Rattle.std.specs.Prelude.{IfOk}
use Rattle.auc_server.specs.declared.setting.HomeRow.{HomeRow}
use Rattle.auc_record.specs.Event.{Came}
use Rattle.auc_world.specs.World.{Applies, RememberPasts, usim_of}
use Rattle.auc_jobs.specs.InnerUsims.{has_usim}
use Rattle.auc_jobs.specs.InnerWorker.{AreForRows, WorkerState}
use Rattle.auc_jobs.proofs.HappenLemmas.{homes_of, keys_kept, remember_pasts, rows_after}
use Rattle.auc_jobs.proofs.KeepingLemmas.{if_ok_map}
use Rattle.auc_jobs.proofs.worker.Worker.apply.Goals as goal

pub apply-requires-clause-homes : goal.apply-requires-clause-homes
apply-requires-clause-homes g c =
    homes_of c.self.inside.set.now.rows (g.C.Centre.subs c.self.inside.centre.now) (g.C.Centre.top c.self.inside.centre.now) c.self.inside.world c.self.invariant

pub invariant_of-self : goal.invariant_of-self
invariant_of-self g c =
    rows_after g.C.Centre.goes g.C.Centre.kept g.C.Centre.top c.self.inside.set.now c.self.inside.world c.apply.new.self c.args.event.now c.self.inside.centre.now c.apply.new.centre
    (g.C.Centre.subs c.self.inside.centre.now) (g.C.Centre.subs c.apply.new.centre) c.apply.result (record {
      rows = c.self.invariant;
      applied = c.apply.ensures.applied;
      failed = c.apply.ensures.world;
      homes = c.apply.ensures.homes;
      devices = c.apply.ensures.devices;
      same_subs = c.apply.ensures.subs;
      same_top = c.apply.ensures.top;
    })

pub returns-clause-applied : goal.returns-clause-applied
returns-clause-applied g c =
    subst (λ (w : WorkerState g.row.C.Denot). IfOk c.apply.result (λ came. Applies g.C.Centre.goes g.C.Centre.kept g.C.Centre.top w.set w.world c.args.event.now w.centre c.apply.new.self came c.apply.new.centre)) c.self.view_is
    (if_ok_map (λ (came : Came). RememberPasts c.self.inside.world.devices
    → Applies g.C.Centre.goes g.C.Centre.kept g.C.Centre.top c.self.inside.set.now c.self.inside.world c.args.event.now c.self.inside.centre.now c.apply.new.self came c.apply.new.centre)
    (λ (came : Came). Applies g.C.Centre.goes g.C.Centre.kept g.C.Centre.top c.self.inside.set.now c.self.inside.world c.args.event.now c.self.inside.centre.now c.apply.new.self came c.apply.new.centre)
    c.apply.result (λ came applies. applies (remember_pasts c.self.inside.world.devices)) c.apply.ensures.applied)

pub returns-clause-rows : goal.returns-clause-rows
returns-clause-rows g c =
    subst (λ (w : WorkerState g.row.C.Denot). AreForRows w.set.rows (g.C.Centre.subs w.centre) (g.C.Centre.top w.centre) w.world) c.self.view_is c.self.invariant

pub returns-clause-same : goal.returns-clause-same
returns-clause-same g c = record {
  worker = record {
    borrow = c.apply.ensures.name ∙ ap (λ (w : WorkerState g.row.C.Denot). g.C.Centre.name w.centre) c.self.view_is;
    lent = ap (λ (w : WorkerState g.row.C.Denot). w.lent) c.self.view_is;
    set = ap (λ (w : WorkerState g.row.C.Denot). w.set) c.self.view_is;
    released = ap (λ (w : WorkerState g.row.C.Denot). w.released) c.self.view_is;
  };
  keyed = λ sub.
      keys_kept g.C.Centre.goes g.C.Centre.kept g.C.Centre.top c.self.inside.set.now c.self.inside.world c.apply.new.self c.args.event.now c.self.inside.centre.now c.apply.new.centre
      (g.C.Centre.subs c.self.inside.centre.now) (g.C.Centre.subs c.apply.new.centre) c.apply.result (record {
        rows = c.self.invariant;
        applied = c.apply.ensures.applied;
        failed = c.apply.ensures.world;
        homes = c.apply.ensures.homes;
        devices = c.apply.ensures.devices;
        same_subs = c.apply.ensures.subs;
        same_top = c.apply.ensures.top;
      }) sub
      ∙ ap (λ (w : WorkerState g.row.C.Denot). has_usim (usim_of w.set.rows w.world) sub) c.self.view_is;
  homes = c.apply.ensures.homes ∙ ap (λ (w : WorkerState g.row.C.Denot). map (λ (home : HomeRow). home.sub) w.world.net.homes) c.self.view_is;
  devices = c.apply.ensures.devices ∙ ap (λ (w : WorkerState g.row.C.Denot). w.world.net.devices) c.self.view_is;
}
