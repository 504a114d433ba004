use Rattle.std.proofs.Common.{◌+◌, ◌∙◌, ℕ, ap, length, refl}
use Rattle.std.specs.Prelude.{Option}
use Rattle.auc_lines.specs.declared.sites.SiteEvent.TheVariants as asked
use Rattle.auc_sites.specs.SiteNet.{NetState, site_at}
use Rattle.auc_world.specs.Sites.{note_of_draw, note_of_number}
use Rattle.auc_record.specs.declared.sites.SitesNote.TheVariants as note
use Rattle.auc_jobs.specs.InnerSites.{EventDoes}
use Rattle.auc_jobs.proofs.SiteLemmas.{draws_delivered, draws_none, event_quiet, site_number_said}
use Rattle.auc_jobs.proofs.worker.Worker.site_event.Goals as goal

pub returns-in_ok-ask-in-Ask-clause-served : goal.returns-in_ok-ask-in-Ask-clause-served
returns-in_ok-ask-in-Ask-clause-served g c =
    rw c.in-Ask.is (draws_none g.C.Centre.kept g.C.Centre.goes c.args.self.now c.args.net.now c.ask.new.self
    (EventDoes c.args.self.now.set c.args.line.now (asked.Ask c.in-Ask.site) (note.Asked c.in-Ask.site c.in_ok-ask-in-Ask.field-0)) (λ i. g.met.C.Centre.stays c.args.self.now.centre i)
    (λ v same.
    event_quiet c.args.self.now.set c.args.line.now (asked.Ask c.in-Ask.site) (note.Asked c.in-Ask.site c.in_ok-ask-in-Ask.field-0) v c.args.net.now c.ask.new.self same c.in_ok-ask-in-Ask.ensures.after refl
    (ap (note.Asked c.in-Ask.site) (c.in_ok-ask-in-Ask.ensures.sent ∙ ap (λ (n : NetState). length n.packets + 1) same))))

pub returns-in_ok-deliver_to_sites-in-Deliver-clause-served : goal.returns-in_ok-deliver_to_sites-in-Deliver-clause-served
returns-in_ok-deliver_to_sites-in-Deliver-clause-served g c =
    rw c.in-Deliver.is (draws_delivered g.C.Centre.kept g.C.Centre.goes c.args.self.now c.deliver_to_sites.new.self c.args.self.now.set c.args.line.now c.in-Deliver.packet
    c.in_ok-deliver_to_sites-in-Deliver.field-0 c.args.net.now c.deliver_to_sites.new.net c.in_ok-deliver_to_sites-in-Deliver.ensures.served)

pub returns-in-Draw-clause-served : goal.returns-in-Draw-clause-served
returns-in-Draw-clause-served g c =
    rw c.in-Draw.is (draws_none g.C.Centre.kept g.C.Centre.goes c.args.self.now c.args.net.now c.draw.new.self
    (EventDoes c.args.self.now.set c.args.line.now (asked.Draw c.in-Draw.site) c.number_note.result) (λ i. g.met.C.Centre.stays c.args.self.now.centre i)
    (λ v same.
    event_quiet c.args.self.now.set c.args.line.now (asked.Draw c.in-Draw.site) c.number_note.result v c.args.net.now c.draw.new.self same c.draw.ensures.after refl
    (c.number_note.ensures ∙ ap (λ (o : Option ℕ). note_of_number c.in-Draw.site o) c.draw.ensures.value ∙ site_number_said c.in-Draw.site (site_at c.args.net.now c.in-Draw.site)
    ∙ ap (λ (n : NetState). note_of_draw c.in-Draw.site (site_at n c.in-Draw.site)) same)))

pub returns-in-Restart-clause-served : goal.returns-in-Restart-clause-served
returns-in-Restart-clause-served g c =
    rw c.in-Restart.is (draws_none g.C.Centre.kept g.C.Centre.goes c.args.self.now c.args.net.now c.restart.new.self
    (EventDoes c.args.self.now.set c.args.line.now (asked.Restart c.in-Restart.site) (note.Restarted c.in-Restart.site)) (λ i. g.met.C.Centre.stays c.args.self.now.centre i)
    (λ v same.
    event_quiet c.args.self.now.set c.args.line.now (asked.Restart c.in-Restart.site) (note.Restarted c.in-Restart.site) v c.args.net.now c.restart.new.self same c.restart.ensures.after refl refl))

pub returns-in-MasterRestart-clause-served : goal.returns-in-MasterRestart-clause-served
returns-in-MasterRestart-clause-served g c =
    rw c.in-MasterRestart.is (draws_none g.C.Centre.kept g.C.Centre.goes c.args.self.now c.args.net.now c.restart_master.new.self
    (EventDoes c.args.self.now.set c.args.line.now asked.MasterRestart note.MasterRestarted) (λ i. g.met.C.Centre.stays c.args.self.now.centre i)
    (λ v same.
    event_quiet c.args.self.now.set c.args.line.now asked.MasterRestart note.MasterRestarted v c.args.net.now c.restart_master.new.self same c.restart_master.ensures.after refl refl))
