-- What a line for sites gives. Its events are those of a network of `auc_sites`, in which sites and packets have places from 0:
-- the lines name them by numbers from 1.
use Rattle.std.specs.Prelude.{◌≡◌, ℕ, ◌+◌, zero, suc, List, [], ◌∷◌, ◌++◌, length, replicate, slice_get, Option, Some, None}
use Rattle.auc_lines.specs.Sites.{SitesValue}
use Rattle.auc_lines.specs.declared.sites.SiteEvent.{SiteEvent}
use Rattle.auc_lines.specs.declared.sites.SiteEvent.TheVariants as asked
use Rattle.auc_sites.specs.Master.{judgement, last_grant, place_of}
use Rattle.auc_sites.specs.Network.{Ask, Deliver, Draw, Event, MasterRestart, Network, Restart, SitesTurn, after_event, start}
use Rattle.auc_sites.specs.Reply.{reply_by}
use Rattle.auc_sites.specs.Run.{judgement_in}
use Rattle.auc_sites.specs.Site.{SiteState, answer_to, next_number}
use Rattle.auc_sites.specs.declared.grant.Grant.{Grant}
use Rattle.auc_sites.specs.declared.master.Judged.{Judged}
use Rattle.auc_sites.specs.declared.master.Judged.TheVariants as judged
use Rattle.auc_sites.specs.declared.master.Reply.{Reply}
use Rattle.auc_sites.specs.declared.master.Reply.TheVariants as reply
use Rattle.auc_sites.specs.declared.packet.Packet.{Packet}
use Rattle.auc_sites.specs.declared.packet.Packet.TheVariants.{Asking, Granting}
use Rattle.auc_sites.specs.declared.site.Taken.{Taken}
use Rattle.auc_sites.specs.declared.site.Taken.TheVariants as taken
use Rattle.auc_vector.specs.declared.centre.CentreRefusal.{CentreRefusal}
use Rattle.auc_vector.specs.declared.centre.CentreRefusal.TheVariants as refusal
use Rattle.auc_record.specs.Draws.{DrawGives}
use Rattle.auc_record.specs.Lines.{numbers_of}
use Rattle.auc_subs.specs.Setting.{Setting}
use Rattle.auc_record.specs.declared.further.Further.TheVariants as further
use Rattle.auc_record.specs.declared.record.LineRecord.{LineRecord}
use Rattle.auc_record.specs.declared.record.LineRecord.TheVariants as record_of
use Rattle.auc_vector.specs.declared.notes.NumberNote.TheVariants as number
use Rattle.auc_record.specs.declared.sites.SitesNote.{SitesNote}
use Rattle.auc_record.specs.declared.sites.SitesNote.TheVariants as note
use Rattle.auc_record.specs.declared.sites.SitesOutcome.{SitesOutcome}
use Rattle.auc_record.specs.declared.sites.SitesOutcome.TheVariants as outcome

-- ---- an event in the network

-- the place of a packet among those of a network; one that isn't there for number 0
abbrev pub packet_place : Network → ℕ → ℕ
packet_place w zero = length w.packets
packet_place w (suc place) = place

-- the network's event
abbrev pub event_of : Network → SiteEvent → Event
event_of w (asked.Ask site) = Ask (place_of site)
event_of w (asked.Deliver packet) = Deliver (packet_place w packet)
event_of w (asked.Draw site) = Draw (place_of site)
event_of w (asked.Restart site) = Restart (place_of site)
event_of w asked.MasterRestart = MasterRestart

-- ---- what is drawn in it

-- the refusal that ended some draws, if one did
abbrev pub refusal_in : List LineRecord → Option CentreRefusal
refusal_in [] = None
refusal_in (record_of.Number s (number.Drew n) ∷ lines) = refusal_in lines
refusal_in (record_of.Number s (number.Withheld n stop) ∷ lines) = Some (refusal.Withheld n stop)
refusal_in (record_of.Number s (number.Exhausted word) ∷ lines) = Some (refusal.Exhausted word)
refusal_in (record_of.Sync s verdict ∷ lines) = refusal_in lines
refusal_in (record_of.Give s n verdict ∷ lines) = refusal_in lines
refusal_in (record_of.Further said ∷ lines) = refusal_in lines
refusal_in (record_of.Event r ∷ lines) = refusal_in lines

-- the turn of an event in which these draws were made for a subscriber
abbrev pub turn_of : Network → ℕ → SiteEvent → List LineRecord → SitesTurn
turn_of w sub e drawn = record { event = event_of w e; numbers = numbers_of sub drawn; end = refusal_in drawn }

-- what is drawn for a request that was delivered, by what the master makes of it: the numbers of a lease, if it is new
abbrev pub LeaseGives : Setting → ℕ → ℕ → Option Judged → List LineRecord → Type 0
LeaseGives set sub size None lines = lines ≡ []
LeaseGives set sub size (Some (judged.Again g)) lines = lines ≡ []
LeaseGives set sub size (Some (judged.Old last)) lines = lines ≡ []
LeaseGives set sub size (Some judged.New) lines = DrawGives set sub size lines

-- ---- what is said of it

-- what becomes of a request, by the master's reply, whose grant is sent in this packet
abbrev pub outcome_of_reply : ℕ → Reply → SitesOutcome
outcome_of_reply sent (reply.Granted g) = outcome.Granted (length g.lease) sent
outcome_of_reply sent (reply.Again g) = outcome.Again (length g.lease) sent
outcome_of_reply sent (reply.Old last) = outcome.Old
outcome_of_reply sent (reply.Refused why) = outcome.Refused

-- what becomes of a grant, by the site's answer
abbrev pub outcome_of_answer : Taken → SitesOutcome
outcome_of_answer (taken.Taken count) = outcome.Taken count
outcome_of_answer (taken.NotMine awaited) = outcome.NotMine

-- at its site; each grant's site is there
abbrev pub outcome_of_grant : Grant → Option SiteState → SitesOutcome
outcome_of_grant g None = outcome.NotMine
outcome_of_grant g (Some s) = outcome_of_answer (answer_to s g)

-- what becomes of a packet that is delivered, if there is one
abbrev pub outcome_of_packet : Network → SitesTurn → Option Packet → SitesOutcome
outcome_of_packet w t None = outcome.NoSuchPacket
outcome_of_packet w t (Some (Asking r)) = outcome_of_reply (length w.packets + 1) (reply_by (judgement (last_grant w.last r) r) r t.numbers t.end)
outcome_of_packet w t (Some (Granting g)) = outcome_of_grant g (slice_get w.sites (place_of g.request.site))

-- what a site says that hands out a number, if it holds one
abbrev pub note_of_number : ℕ → Option ℕ → SitesNote
note_of_number site None = note.Empty site
note_of_number site (Some n) = note.Number site n

-- each site of the line is there
abbrev pub note_of_draw : ℕ → Option SiteState → SitesNote
note_of_draw site None = note.Empty site
note_of_draw site (Some s) = note_of_number site (next_number s)

-- what is said of an event, in the network before it and with what was drawn in it
abbrev pub note_of : Network → SiteEvent → SitesTurn → SitesNote
note_of w (asked.Ask site) t = note.Asked site (length w.packets + 1)
note_of w (asked.Deliver packet) t = note.Delivered packet (outcome_of_packet w t (slice_get w.packets (packet_place w packet)))
note_of w (asked.Draw site) t = note_of_draw site (slice_get w.sites (place_of site))
note_of w (asked.Restart site) t = note.Restarted site
note_of w asked.MasterRestart t = note.MasterRestarted

-- ---- the lines

-- what an event gives: the draws that the master makes in it, and then what is said of it
pub record SiteEventGives (set : Setting) (sub size : ℕ) (w : Network) (e : SiteEvent) (lines : List LineRecord) (turn : SitesTurn) : Type 0 where
  pub drawn : List LineRecord
  pub draws : LeaseGives set sub size (judgement_in w (event_of w e)) drawn
  pub turn_is : turn ≡ turn_of w sub e drawn
  pub lines_are : lines ≡ drawn ++ record_of.Further (further.Sites sub (note_of w e turn)) ∷ []

-- what events give from a network on, one after the other, and their turns
abbrev pub SitesGo : Setting → ℕ → ℕ → Network → List SiteEvent → List LineRecord → List SitesTurn → Type 0
SitesGo set sub size w [] lines turns = (lines ≡ []) × (turns ≡ [])
SitesGo set sub size w (e ∷ events) lines [] = ⊥
SitesGo set sub size w (e ∷ events) lines (turn ∷ turns) = (front : List LineRecord) × (rest : List LineRecord) × (lines ≡ front ++ rest)
    × SiteEventGives set sub size w e front turn × SitesGo set sub size (after_event w turn.event turn.numbers turn.end) events rest turns

-- a line's network at its beginning: its sites have the boot number 1
abbrev pub sites_start : SitesValue → Network
sites_start l = start (replicate l.sites 1)

-- what a line gives
abbrev pub SitesGives : Setting → SitesValue → List LineRecord → Type 0
SitesGives set l lines = (turns : List SitesTurn) × SitesGo set l.sub l.size (sites_start l) l.schedule lines turns
