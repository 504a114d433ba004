-- Inner facts: what only private contracts of this crate cite. Here: the events of a line for sites, and where they lead.
use Rattle.std.specs.Prelude.{◌≡◌, ℕ, ◌+◌, List, length, slice_get, Option, Result, Ok, Err}
use Rattle.auc_memory.specs.declared.stop.Stop.{Stop}
use Rattle.auc_history.specs.declared.entry.Entry.{Entry}
use Rattle.auc_lines.specs.Sites.{SitesValue}
use Rattle.auc_lines.specs.declared.sites.SiteEvent.{SiteEvent}
use Rattle.auc_lines.specs.declared.sites.SiteEvent.TheVariants as asked
use Rattle.auc_sites.specs.Network.{Network, after_delivery, after_event, after_reply}
use Rattle.auc_sites.specs.Reply.{reply_to_new}
use Rattle.auc_sites.specs.Run.{judgement_in, judgement_on}
use Rattle.auc_sites.specs.SiteNet.{NetState, state_of}
use Rattle.auc_sites.specs.declared.request.Request.{Request}
use Rattle.auc_sites.specs.declared.site.Taken.TheVariants as taken
use Rattle.auc_sites.specs.declared.site_net.Delivery.{Delivery}
use Rattle.auc_sites.specs.declared.site_net.Delivery.TheVariants as delivery
use Rattle.auc_record.specs.Draws.{DrawGives}
use Rattle.auc_record.specs.Lines.{numbers_of}
use Rattle.auc_subs.specs.Setting.{Setting}
use Rattle.auc_world.specs.Sites.{LeaseGives, event_of, note_of, outcome_of_packet, outcome_of_reply, packet_place, refusal_in, turn_of}
use Rattle.auc_record.specs.declared.record.LineRecord.{LineRecord}
use Rattle.auc_record.specs.declared.sites.SitesNote.{SitesNote}
use Rattle.auc_record.specs.declared.sites.SitesOutcome.{SitesOutcome}
use Rattle.auc_record.specs.declared.sites.SitesOutcome.TheVariants as outcome
use Rattle.auc_jobs.specs.InnerWorker.{WorkerServes, WorkerState}

-- what a delivery came to, if the packet is no new request; else the request
abbrev pub outcome_known : Delivery → Result SitesOutcome Request
outcome_known delivery.NoSuchPacket = Ok outcome.NoSuchPacket
outcome_known (delivery.New r) = Err r
outcome_known (delivery.Again count sent) = Ok (outcome.Again count sent)
outcome_known delivery.Old = Ok outcome.Old
outcome_known (delivery.Answered (taken.Taken count)) = Ok (outcome.Taken count)
outcome_known (delivery.Answered (taken.NotMine awaited)) = Ok outcome.NotMine

-- the numbers of a lease are those that its draws release
pub record IsLease (set : Setting) (sub size : ℕ) (lease : List ℕ) (drawn : List LineRecord) : Type 0 where
  pub draws : DrawGives set sub size drawn
  pub numbers : lease ≡ numbers_of sub drawn

-- these draws were made for a new request, this became of it, and it led from a network to the next one
pub record GrantDoes (set : Setting) (line : SitesValue) (r : Request) (is : SitesOutcome) (w : Network) (drawn : List LineRecord) (next : Network) : Type 0 where
  pub draws : DrawGives set line.sub line.size drawn
  pub became : is ≡ outcome_of_reply (length w.packets + 1) (reply_to_new r (numbers_of line.sub drawn) (refusal_in drawn))
  pub leads : next ≡ after_reply w (reply_to_new r (numbers_of line.sub drawn) (refusal_in drawn))

-- these draws were made when a packet was delivered, this became of it, and it led from a network to the next one
pub record DeliveryDoes (set : Setting) (line : SitesValue) (packet : ℕ) (is : SitesOutcome) (w : Network) (drawn : List LineRecord) (next : Network) : Type 0 where
  pub draws : LeaseGives set line.sub line.size (judgement_on w (slice_get w.packets (packet_place w packet))) drawn
  pub became : is ≡ outcome_of_packet w (turn_of w line.sub (asked.Deliver packet) drawn) (slice_get w.packets (packet_place w packet))
  pub leads : next ≡ after_delivery w (numbers_of line.sub drawn) (refusal_in drawn) (slice_get w.packets (packet_place w packet))

-- these draws were made in an event, this is said of it, and it led from a network to the next one
pub record EventDoes (set : Setting) (line : SitesValue) (e : SiteEvent) (note : SitesNote) (w : Network) (drawn : List LineRecord) (next : Network) : Type 0 where
  pub draws : LeaseGives set line.sub line.size (judgement_in w (event_of w e)) drawn
  pub noted : note ≡ note_of w e (turn_of w line.sub e drawn)
  pub leads : next ≡ after_event w (event_of w e) (numbers_of line.sub drawn) (refusal_in drawn)

module _ {C : Type 0} where
  -- what a worker draws in an event of a line for sites, from a state of the network to the state after it
  abbrev pub DrawsIn : (C → ℕ → Option ℕ) → (C → ℕ → List Entry → List (ℕ × Stop) → C → Type 0) → WorkerState C → WorkerState C → NetState → NetState
      → (Network → List LineRecord → Network → Type 0) → Type 0
  DrawsIn kept goes old new before after Does = (w : Network) → before ≡ state_of w
      → (next : Network) × (after ≡ state_of next) × WorkerServes kept goes old new (λ lines drawn. Does w drawn next)
