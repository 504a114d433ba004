use Rattle.std.proofs.Common.{◌≡◌, ◌∙◌, [], ◌∷◌, List, ℕ, ap, arith, drop, length, refl, subst}
use Rattle.std.proofs.lemmas.List.{drop_all, drop_more}
use Rattle.std.specs.Prelude.{replicate}
use Rattle.auc_lines.specs.declared.sites.SiteEvent.{SiteEvent}
use Rattle.auc_sites.specs.Network.{start}
use Rattle.auc_sites.specs.SiteNet.{state_of}
use Rattle.auc_world.specs.Given.{Before}
use Rattle.auc_world.specs.Sites.{sites_start}
use Rattle.auc_record.specs.declared.further.Further.TheVariants as further
use Rattle.auc_record.specs.declared.record.LineRecord.{LineRecord}
use Rattle.auc_record.specs.declared.record.LineRecord.TheVariants.{Further}
use Rattle.auc_jobs.specs.InnerWorker.{WorkerServes}
use Rattle.auc_jobs.proofs.SiteLemmas.{SitesGoOn, sites_begin, sites_end, sites_step, start_packets, start_sites}
use Rattle.auc_jobs.proofs.WorkerLemmas.{also_serves, goes_on_beside, none_serves}
use Rattle.auc_jobs.proofs.worker.Worker.sites.Goals as goal

pub loop-event-init : goal.loop-event-init
loop-event-init g c = record {
  same = record {
    worker = record { borrow = refl; lent = refl; set = refl; released = refl };
    keyed = λ sub. refl;
    net = refl;
  };
  sites = start_sites c.sites.result c.in_ok-net.net c.in_ok-net.ensures ∙ c.sites.ensures.value;
  packets = start_packets c.sites.result c.in_ok-net.net c.in_ok-net.ensures;
  served = (
    sites_start c.args.line.now,
    c.in_ok-net.ensures ∙ ap (λ (n : ℕ). state_of (start (replicate n 1))) c.sites.ensures.value,
    also_serves g.C.Centre.kept g.C.Centre.goes c.args.self.now c.args.self.now (λ (before : Before) (lines : List LineRecord). lines ≡ [])
        (λ (before : Before). SitesGoOn c.args.self.now.set c.args.line.now (drop 0 c.args.line.now.schedule) (sites_start c.args.line.now))
        (λ before lines none. sites_begin c.args.self.now.set c.args.line.now (drop 0 c.args.line.now.schedule) (sites_start c.args.line.now) lines refl refl none)
        (none_serves g.C.Centre.kept g.C.Centre.goes c.args.self.now (λ i. g.met.C.Centre.stays c.args.self.now.centre i)),
  );
}

pub site_event-requires-clause-room : goal.site_event-requires-clause-room
site_event-requires-clause-room g c =
    let same : length c.schedule-event-items.result.now ≡ length c.args.line.now.schedule = ap (λ (es : List SiteEvent). length es) c.schedule-event-items.ensures.value in
    omega (arith, same, c.loop-event.invariant.packets, c.loop-event-test.true, c.requires.few)

pub loop-event-preserved : goal.loop-event-preserved
loop-event-preserved g c = record {
  same = goes_on_beside _ _ _ c.args.self.now c.loop-event.self c.say.new.self c.loop-event.invariant.same
      (goes_on_beside _ _ _ c.loop-event.self c.site_event.new.self c.say.new.self c.in_ok-note.ensures.same c.in_ok-say.ensures.same);
  sites = c.in_ok-note.ensures.grows.sites ∙ c.loop-event.invariant.sites;
  packets = omega (arith, c.in_ok-note.ensures.grows.packets, c.loop-event.invariant.packets);
  served =
      sites_step g.C.Centre.kept g.C.Centre.goes (λ a b d i es fs ws vs. g.met.C.Centre.joins a b d i es fs ws vs) c.args.self.now c.loop-event.self c.site_event.new.self c.say.new.self
      c.args.line.now _ c.in_ok-note.note c.schedule-event-items.result.now c.loop-event.event-index c.loop-event.net c.site_event.new.net
      c.loop-event.invariant.same.worker.set c.loop-event.invariant.same.worker.released c.in_ok-note.ensures.same.worker.set c.in_ok-note.ensures.same.worker.released
      c.schedule-event-items.ensures.value (drop_more c.schedule-event-items.result.now c.loop-event.event-index _ c.loop-event-test.true)
      c.loop-event.invariant.served c.in_ok-note.ensures.served
      (subst (λ (sub : ℕ). WorkerServes g.C.Centre.kept g.C.Centre.goes c.site_event.new.self c.say.new.self (λ before lines. lines ≡ Further (further.Sites sub c.in_ok-note.note) ∷ [])) c.sub.ensures
      c.in_ok-say.ensures.said);
}

pub returns-clause-given : goal.returns-clause-given
returns-clause-given g c =
    sites_end g.C.Centre.kept g.C.Centre.goes c.args.self.now c.loop-event.self c.args.line.now (drop c.loop-event.event-index c.args.line.now.schedule) c.loop-event.net
    (subst (λ (es : List SiteEvent). drop c.loop-event.event-index es ≡ []) c.schedule-event-items.ensures.value (drop_all _ _ c.loop-event-test.false)) c.loop-event.invariant.served
