-- Inner facts: what only private contracts of this crate cite. Here: where an event of a session leads.
use Rattle.std.specs.Prelude.{◌≡◌, ℕ, Option}
use Rattle.auc_world.specs.Came.{came}
use Rattle.auc_world.specs.Given.{packet_in}
use Rattle.auc_world.specs.Happened.{ToldEvent, happened}
use Rattle.auc_world.specs.Net.{Net}
use Rattle.auc_subs.specs.Setting.{Setting}
use Rattle.auc_record.specs.declared.event.Event.{Event}

-- an event led from a network to the next one, and made this packet or none
pub record Leads (set : Setting) (net : Net) (e : Event) (packet : Option ℕ) (next : Net) : Type 0 where
  pub told : ToldEvent
  pub makes : packet_in (came set net e told) ≡ packet
  pub leads : next ≡ happened set net e told
