use Rattle.std.proofs.Common.{arith, rules, refl, length-append, [], ◌∷◌}
use Rattle.std.proofs.lemmas.List.Elements.{All-nil, All-push}
use Rattle.auc_lines.specs.Sites.{IsOfSites}
use Rattle.auc_reading.specs.SitesLine.{event_of}
use Rattle.auc_reading.proofs.ScheduleLemmas.{read_begins, read_ends, read_goes_on, read_whole}
use Rattle.auc_reading.proofs.sites_line.read_events.Goals as goal

pub loop-text-init : goal.loop-text-init
loop-text-init c = rw c.new-events.ensures (record {
  read = read_begins (event_of c.args.sites) c.args.texts.now;
  within = omega arith;
  count = refl;
  named = All-nil (IsOfSites c.args.sites);
})

pub loop-text-preserved : goal.loop-text-preserved
loop-text-preserved c = rw c.in_ok-push.ensures.pushed (record {
  read = read_goes_on (event_of c.args.sites) c.args.texts.now c.loop-text.text-index _ c.loop-text.events c.in_ok-read_event.field-0 c.loop-text-test.true c.loop-text.invariant.read c.in_ok-read_event.ensures.value;
  within = omega (arith, c.loop-text-test.true);
  count = omega (arith, c.loop-text.invariant.count, length-append c.loop-text.events (c.in_ok-read_event.field-0 ∷ []));
  named = All-push (IsOfSites c.args.sites) c.loop-text.events c.in_ok-read_event.field-0 c.loop-text.invariant.named c.in_ok-read_event.ensures.named;
})

pub returns-in_err-read_event-clause-value : goal.returns-in_err-read_event-clause-value
returns-in_err-read_event-clause-value c =
    rw (read_ends (event_of c.args.sites) c.args.texts.now c.loop-text.text-index _ c.loop-text.events c.in_err-read_event.field-0.0 c.loop-text-test.true c.loop-text.invariant.read c.in_err-read_event.ensures.value) (search rules)

pub returns-clause-value : goal.returns-clause-value
returns-clause-value c = read_whole (event_of c.args.sites) c.args.texts.now c.loop-text.text-index c.loop-text.events c.loop-text-test.false c.loop-text.invariant.read

pub returns-clause-count : goal.returns-clause-count
returns-clause-count c = omega (arith, c.loop-text-test.false, c.loop-text.invariant.within, c.loop-text.invariant.count)
