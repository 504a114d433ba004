use Rattle.std.proofs.Common.{◌≡◌, ◌∙◌, ap, sym, subst, rules, true, ℕ}
use Rattle.auc_cards.specs.Own.{AllCards}
use Rattle.auc_lines.specs.Part.{holds}
use Rattle.auc_subs.specs.Setting.{Setting}
use Rattle.auc_jobs.specs.InnerSharing.{IsServable, Shared}
use Rattle.auc_jobs.specs.InnerUsims.{has_usim, usim_of}
use Rattle.auc_jobs.specs.InnerWorker.{AreForRows, IsCentreOf, WorkerServesLines, WorkerState, start_world}
use Rattle.auc_jobs.specs.Serving.{AreKnown}
use Rattle.auc_jobs.specs.Usims.{AreOfRows}
use Rattle.auc_subs.specs.Subscriber.{AreSubscribers}
use Rattle.auc_jobs.proofs.KeepingLemmas.{served_ok}
use Rattle.auc_jobs.proofs.SharingLemmas.{job_at, job_begins_at, known_at, served_result}
use Rattle.auc_jobs.proofs.WorkerLemmas.{Does, does_hold, does_releasable, starts_for_rows}
use Rattle.auc_jobs.proofs.round_jobs.RoundJobs.serve_at.Goals as goal

pub job_world-requires-clause-rows : goal.job_world-requires-clause-rows
job_world-requires-clause-rows g c =
    let asked = c.self.inside.round.now in
    let inside : Shared = record { set = asked.set.now; jobs = asked.jobs.now; full = asked.full; workers = asked.workers; state = c.self.inside.state.now } in
    let servable : IsServable inside = subst IsServable (sym c.self.view_is) c.requires.servable in
    subst (λ (cards : AllCards). AreOfRows inside.set.rows cards.usims) (sym c.cards.ensures) servable.begins.1.subscribers.secrets

pub job_world-requires-clause-known : goal.job_world-requires-clause-known
job_world-requires-clause-known g c =
    let asked = c.self.inside.round.now in
    let inside : Shared = record { set = asked.set.now; jobs = asked.jobs.now; full = asked.full; workers = asked.workers; state = c.self.inside.state.now } in
    let servable : IsServable inside = subst IsServable (sym c.self.view_is) c.requires.servable in
    let there = job_at inside c.args.self.now c.args.job c.index-round-job.result c.as_slice-asked.result.now c.self.view_is c.requires.job c.index-round-job.is c.as_slice-asked.ensures in
    let known = known_at inside c.args.self.now c.args.job c.as_slice-asked.result.now c.self.view_is c.requires.servable there in
    known

pub new-worker-requires : goal.new-worker-requires
new-worker-requires g c =
    let asked = c.self.inside.round.now in
    let inside : Shared = record { set = asked.set.now; jobs = asked.jobs.now; full = asked.full; workers = asked.workers; state = c.self.inside.state.now } in
    let servable : IsServable inside = subst IsServable (sym c.self.view_is) c.requires.servable in
    let there = job_at inside c.args.self.now c.args.job c.index-round-job.result c.as_slice-asked.result.now c.self.view_is c.requires.job c.index-round-job.is c.as_slice-asked.ensures in
    let known = known_at inside c.args.self.now c.args.job c.as_slice-asked.result.now c.self.view_is c.requires.servable there in
    let world_is : c.in_ok-world.world ≡ start_world inside.set inside.state.usims inside.state.kept c.as_slice-asked.result.now =
    c.in_ok-world.ensures ∙ (λ k. start_world inside.set (c.cards.ensures k).usims (c.cards.ensures k).kept c.as_slice-asked.result.now) in
    subst (AreForRows inside.set.rows (g.C.Centre.subs c.args.centre.now) (g.C.Centre.top c.args.centre.now)) (sym world_is)
    (starts_for_rows inside.set inside.state.usims inside.state.kept c.as_slice-asked.result.now (g.C.Centre.subs c.args.centre.now) (g.C.Centre.top c.args.centre.now) servable.round.subscribers servable.begins.1.subscribers.secrets known
    (subst (λ (s : Shared). IsCentreOf s.set.rows (g.C.Centre.subs c.args.centre.now) (g.C.Centre.top c.args.centre.now)) (sym c.self.view_is) c.requires.centre))

pub serve_lines-served-requires-clause-known : goal.serve_lines-served-requires-clause-known
serve_lines-served-requires-clause-known g c =
    let asked = c.self.inside.round.now in
    let inside : Shared = record { set = asked.set.now; jobs = asked.jobs.now; full = asked.full; workers = asked.workers; state = c.self.inside.state.now } in
    let servable : IsServable inside = subst IsServable (sym c.self.view_is) c.requires.servable in
    let there = job_at inside c.args.self.now c.args.job c.index-round-job.result c.as_slice-asked.result.now c.self.view_is c.requires.job c.index-round-job.is c.as_slice-asked.ensures in
    let known = known_at inside c.args.self.now c.args.job c.as_slice-asked.result.now c.self.view_is c.requires.servable there in
    subst (λ (s : Setting). AreKnown s.rows c.as_slice-asked.result.now) (sym (ap (λ (w : WorkerState g.row.C.Denot). w.set) c.new-worker.ensures)) known

pub serve_lines-served-requires-clause-own : goal.serve_lines-served-requires-clause-own
serve_lines-served-requires-clause-own g c =
    let asked = c.self.inside.round.now in
    let inside : Shared = record { set = asked.set.now; jobs = asked.jobs.now; full = asked.full; workers = asked.workers; state = c.self.inside.state.now } in
    let servable : IsServable inside = subst IsServable (sym c.self.view_is) c.requires.servable in
    let there = job_at inside c.args.self.now c.args.job c.index-round-job.result c.as_slice-asked.result.now c.self.view_is c.requires.job c.index-round-job.is c.as_slice-asked.ensures in
    let known = known_at inside c.args.self.now c.args.job c.as_slice-asked.result.now c.self.view_is c.requires.servable there in
    let world_is : c.in_ok-world.world ≡ start_world inside.set inside.state.usims inside.state.kept c.as_slice-asked.result.now =
    c.in_ok-world.ensures ∙ (λ k. start_world inside.set (c.cards.ensures k).usims (c.cards.ensures k).kept c.as_slice-asked.result.now) in
    subst (λ (w : WorkerState g.row.C.Denot). (sub : ℕ) → holds sub c.as_slice-asked.result.now ≡ true → has_usim (usim_of w.set.rows w.world) sub ≡ true) (sym c.new-worker.ensures)
    (does_hold inside.set inside.state.usims inside.state.kept c.as_slice-asked.result.now c.in_ok-world.world servable.begins.1.subscribers.secrets servable.round.subscribers known world_is)

pub served_job-requires : goal.served_job-requires
served_job-requires g c =
    let asked = c.self.inside.round.now in
    let inside : Shared = record { set = asked.set.now; jobs = asked.jobs.now; full = asked.full; workers = asked.workers; state = c.self.inside.state.now } in
    let servable : IsServable inside = subst IsServable (sym c.self.view_is) c.requires.servable in
    let there = job_at inside c.args.self.now c.args.job c.index-round-job.result c.as_slice-asked.result.now c.self.view_is c.requires.job c.index-round-job.is c.as_slice-asked.ensures in
    let known = known_at inside c.args.self.now c.args.job c.as_slice-asked.result.now c.self.view_is c.requires.servable there in
    let world_is : c.in_ok-world.world ≡ start_world inside.set inside.state.usims inside.state.kept c.as_slice-asked.result.now =
    c.in_ok-world.ensures ∙ (λ k. start_world inside.set (c.cards.ensures k).usims (c.cards.ensures k).kept c.as_slice-asked.result.now) in
    let worker : WorkerState g.row.C.Denot = c.new-worker.result in
    let set_is : worker.set ≡ inside.set = ap (λ (w : WorkerState g.row.C.Denot). w.set) c.new-worker.ensures in
    let released_is : worker.released ≡ inside.state.released = ap (λ (w : WorkerState g.row.C.Denot). w.released) c.new-worker.ensures ∙ c.released.ensures in
    let does : Does g.C.Centre.kept g.C.Centre.goes (g.C.Centre.name worker.centre) (g.C.Centre.name c.serve_lines-served.new.self.centre) worker c.serve_lines-served.new.self inside.state.usims inside.state.kept c.as_slice-asked.result.now = record {
      rows = subst (λ (s : Setting). AreOfRows s.rows inside.state.usims) (sym set_is) servable.begins.1.subscribers.secrets;
      subscribers = subst (λ (s : Setting). AreSubscribers s.rows) (sym set_is) servable.round.subscribers;
      known = subst (λ (s : Setting). AreKnown s.rows c.as_slice-asked.result.now) (sym set_is) known;
      none = ap (λ (w : WorkerState g.row.C.Denot). w.lines) c.new-worker.ensures;
      begins = ap (λ (w : WorkerState g.row.C.Denot). w.world) c.new-worker.ensures ∙ world_is
          ∙ ap (λ (s : Setting). start_world s inside.state.usims inside.state.kept c.as_slice-asked.result.now) (sym set_is);
      serves = served_ok c.serve_lines-served.result (WorkerServesLines g.C.Centre.kept g.C.Centre.goes worker c.serve_lines-served.new.self c.as_slice-asked.result.now) c.in_ok-lines.ensures.served c.serve_lines-served.ensures.served;
      goes_on = c.serve_lines-served.ensures.same;
    } in
    let (early, beside, begins) = c.requires.begins in
    does_releasable g.C.Centre.kept g.C.Centre.goes (g.C.Centre.name worker.centre) (g.C.Centre.name c.serve_lines-served.new.self.centre) worker c.serve_lines-served.new.self inside.state.usims inside.state.kept
    c.as_slice-asked.result.now inside.set c.in_ok-lines.lines (sym set_is) c.in_ok-lines.ensures.lines does (
      early,
      beside,
      job_begins_at inside c.args.self.now early beside (g.C.Centre.kept c.args.centre.now) (g.C.Centre.kept worker.centre) c.args.job worker.set worker.released c.as_slice-asked.result.now
          c.self.view_is set_is released_is (ap (λ (w : WorkerState g.row.C.Denot). g.C.Centre.kept w.centre) c.new-worker.ensures) there begins,
    )

pub returns-clause-served : goal.returns-clause-served
returns-clause-served g c =
    let asked = c.self.inside.round.now in
    let inside : Shared = record { set = asked.set.now; jobs = asked.jobs.now; full = asked.full; workers = asked.workers; state = c.self.inside.state.now } in
    let servable : IsServable inside = subst IsServable (sym c.self.view_is) c.requires.servable in
    let there = job_at inside c.args.self.now c.args.job c.index-round-job.result c.as_slice-asked.result.now c.self.view_is c.requires.job c.index-round-job.is c.as_slice-asked.ensures in
    let known = known_at inside c.args.self.now c.args.job c.as_slice-asked.result.now c.self.view_is c.requires.servable there in
    let world_is : c.in_ok-world.world ≡ start_world inside.set inside.state.usims inside.state.kept c.as_slice-asked.result.now =
    c.in_ok-world.ensures ∙ (λ k. start_world inside.set (c.cards.ensures k).usims (c.cards.ensures k).kept c.as_slice-asked.result.now) in
    let worker : WorkerState g.row.C.Denot = c.new-worker.result in
    let set_is : worker.set ≡ inside.set = ap (λ (w : WorkerState g.row.C.Denot). w.set) c.new-worker.ensures in
    let released_is : worker.released ≡ inside.state.released = ap (λ (w : WorkerState g.row.C.Denot). w.released) c.new-worker.ensures ∙ c.released.ensures in
    let does : Does g.C.Centre.kept g.C.Centre.goes (g.C.Centre.name worker.centre) (g.C.Centre.name c.serve_lines-served.new.self.centre) worker c.serve_lines-served.new.self inside.state.usims inside.state.kept c.as_slice-asked.result.now = record {
      rows = subst (λ (s : Setting). AreOfRows s.rows inside.state.usims) (sym set_is) servable.begins.1.subscribers.secrets;
      subscribers = subst (λ (s : Setting). AreSubscribers s.rows) (sym set_is) servable.round.subscribers;
      known = subst (λ (s : Setting). AreKnown s.rows c.as_slice-asked.result.now) (sym set_is) known;
      none = ap (λ (w : WorkerState g.row.C.Denot). w.lines) c.new-worker.ensures;
      begins = ap (λ (w : WorkerState g.row.C.Denot). w.world) c.new-worker.ensures ∙ world_is
          ∙ ap (λ (s : Setting). start_world s inside.state.usims inside.state.kept c.as_slice-asked.result.now) (sym set_is);
      serves = served_ok c.serve_lines-served.result (WorkerServesLines g.C.Centre.kept g.C.Centre.goes worker c.serve_lines-served.new.self c.as_slice-asked.result.now) c.in_ok-lines.ensures.served c.serve_lines-served.ensures.served;
      goes_on = c.serve_lines-served.ensures.same;
    } in
    served_result g.C.Centre.kept g.C.Centre.goes inside c.args.self.now worker c.serve_lines-served.new.self (g.C.Centre.name worker.centre) (g.C.Centre.name c.serve_lines-served.new.self.centre)
    c.args.centre.now _ c.args.job c.as_slice-asked.result.now c.in_ok-lines.lines c.in_ok-lines.world c.served_job.result c.self.view_is set_is released_is (ap (λ (w : WorkerState g.row.C.Denot). w.centre) c.new-worker.ensures) (search rules) there does
    c.in_ok-lines.ensures.lines
    c.in_ok-lines.ensures.world
    c.in_ok-lines.ensures.secrets
    c.served_job.ensures.lines c.served_job.ensures.homes c.served_job.ensures.devices c.served_job.ensures.stores c.served_job.ensures.sessions c.served_job.ensures.vectors
