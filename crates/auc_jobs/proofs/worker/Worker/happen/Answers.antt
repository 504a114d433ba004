use Rattle.std.proofs.Common.{ℕ, [], ◌∷◌, ◌++◌, ◌∙◌, ap, sym, subst}
use Rattle.std.specs.Prelude.{Option}
use Rattle.auc_record.specs.declared.event.EventRecord.{EventRecord}
use Rattle.auc_record.specs.declared.record.LineRecord.TheVariants.{Event as Happening}
use Rattle.auc_world.specs.Given.{packet_in}
use Rattle.auc_jobs.specs.InnerPlaying.{Leads}
use Rattle.auc_jobs.specs.InnerServing.{Happens, ServesLine, before_at}
use Rattle.auc_jobs.specs.InnerUsims.{usim_of}
use Rattle.auc_jobs.specs.InnerWorker.{WorkerState}
use Rattle.auc_jobs.proofs.HappenLemmas.{event_serves}
use Rattle.auc_jobs.proofs.worker.Worker.happen.Goals as goal

pub returns-clause-happened : goal.returns-clause-happened
returns-clause-happened g c = λ early beside stands.
    let rows = c.in_ok-result.ensures.rows in
    subst (λ (w : WorkerState g.row.C.Denot). ServesLine (λ i es ws. g.C.Centre.goes c.args.self.now.centre i es ws w.centre) c.args.self.now.set.rows (before_at early beside c.args.self.now.lines)
    (g.C.Centre.kept w.centre) c.args.self.now.released (usim_of c.args.self.now.set.rows w.world)
    (λ lines. Happens c.args.self.now.set (before_at early beside c.args.self.now.lines) c.args.self.now.world.net c.args.event c.packet_in-packet.result lines w.world.net) c.push.new.self)
    (sym c.self.view_is)
    (subst (λ (o : Option ℕ). ServesLine (λ i es ws. g.C.Centre.goes c.args.self.now.centre i es ws c.apply.new.self.centre) c.args.self.now.set.rows (before_at early beside c.args.self.now.lines)
    (g.C.Centre.kept c.apply.new.self.centre) c.args.self.now.released (usim_of c.args.self.now.set.rows c.apply.new.self.world)
    (λ lines. Happens c.args.self.now.set (before_at early beside c.args.self.now.lines) c.args.self.now.world.net c.args.event o lines c.apply.new.self.world.net) c.push.new.self)
    (sym c.packet_in-packet.ensures)
    (event_serves g.C.Centre.goes g.C.Centre.kept g.C.Centre.top c.args.self.now.set c.args.self.now.world c.apply.new.self.world c.args.event c.args.self.now.centre c.apply.new.self.centre
    c.in_ok-result.result early beside c.args.self.now.lines c.push.new.self c.args.self.now.released
    (record { applies = c.in_ok-result.ensures.applied; subscribers = rows.subscribers; secrets = rows.secrets; placed = rows.placed; same = c.in_ok-result.ensures.same.devices })
    (λ i inside. rows.is_centre.greatest i) c.in_ok-result.ensures.asked stands
    (c.in_ok-push.ensures ∙ ap (λ (r : EventRecord). c.self.inside.lines ++ Happening r ∷ []) c.in_ok-record.ensures
    ∙ ap (λ (w : WorkerState g.row.C.Denot). w.lines ++ Happening (record { event = c.args.event; result = c.in_ok-result.result }) ∷ []) (c.self.view_is ∙ c.in_ok-result.ensures.rest))))

pub returns-clause-led : goal.returns-clause-led
returns-clause-led g c =
    subst (λ (w : WorkerState g.row.C.Denot). Leads c.args.self.now.set c.args.self.now.world.net c.args.event c.packet_in-packet.result w.world.net) (sym c.self.view_is)
    (record {
      told = c.in_ok-result.ensures.applied.told;
      makes = sym (c.packet_in-packet.ensures ∙ ap packet_in c.in_ok-result.ensures.applied.is);
      leads = c.in_ok-result.ensures.applied.leads;
    })
