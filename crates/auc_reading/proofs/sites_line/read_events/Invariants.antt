use Rattle.std.proofs.Common.{◌≡◌, ◌≤◌, length}
use Rattle.std.specs.List.{All}
use Rattle.auc_lines.specs.Sites.{IsOfSites}
use Rattle.auc_reading.specs.SitesLine.{event_of}
use Rattle.auc_reading.proofs.ScheduleLemmas.{AreRead}
use Rattle.auc_reading.proofs.sites_line.read_events.Given as goal

abbrev pub invariant-loop-text : goal.invariant-loop-text
invariant-loop-text l = record {
  read : AreRead (event_of l.sites) l.texts l.text-index l.events;
  within : l.text-index ≤ length l.texts;
  count : length l.events ≡ l.text-index;
  named : All (IsOfSites l.sites) l.events;
}
