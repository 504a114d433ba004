-- A network in memory: what stands of it there, and what its calls make of it.
use Rattle.std.specs.Prelude.{◌≡◌, ℕ, zero, suc, ◌+◌, ◌≤◌, Bool, true, false, List, [], ◌∷◌, ◌++◌, All, length, slice_get, Option, Some, None}
use Rattle.auc_sites.specs.declared.grant.Grant.{Grant}
use Rattle.auc_sites.specs.declared.master.Judged.{Judged}
use Rattle.auc_sites.specs.declared.master.Judged.TheVariants as judged
use Rattle.auc_sites.specs.declared.master.Reply.TheVariants as reply
use Rattle.auc_sites.specs.declared.packet.Packet.{Packet}
use Rattle.auc_sites.specs.declared.packet.Packet.TheVariants.{Asking, Granting}
use Rattle.auc_sites.specs.declared.request.Request.{Request}
use Rattle.auc_sites.specs.declared.site.Taken.TheVariants as taken
use Rattle.auc_sites.specs.declared.site_net.Delivery.{Delivery}
use Rattle.auc_sites.specs.declared.site_net.Delivery.TheVariants as delivery
use Rattle.auc_sites.specs.Master.{HasSite, judgement, last_grant, place_of}
use Rattle.auc_sites.specs.Network.{Event, Network, after_delivery, after_event, after_reply}
use Rattle.auc_sites.specs.Site.{SiteState, answer_to, can_restart, next_number}

-- the sites; what the master remembers; and the packets that were sent
pub record NetState : Type 0 where
  pub sites : List SiteState
  pub last : List (Option Grant)
  pub packets : List Packet

-- that of a network
abbrev pub state_of : Network → NetState
state_of w = record { sites = w.sites; last = w.last; packets = w.packets }

-- a network of this state, of which no more is known
abbrev pub network_of : NetState → Network
network_of n = record { sites = n.sites; last = n.last; packets = n.packets; grants = []; drawn = [] }

-- the site that a packet names
abbrev pub site_of : Packet → ℕ
site_of (Asking r) = r.site
site_of (Granting g) = g.request.site

-- the master knows each site and each site that a packet names, and a site has sent a packet for each of its requests
pub record IsNetState (n : NetState) : Type 0 where
  pub size : length n.sites ≡ length n.last
  pub sites : All (λ s. HasSite n.last s.id) n.sites
  pub asks : All (λ s. s.asks ≤ length n.packets) n.sites
  pub packets : All (λ p. HasSite n.last (site_of p)) n.packets

-- ---- the calls

-- the state after an event in which nothing is drawn
abbrev pub after : Event → NetState → NetState
after e n = state_of (after_event (network_of n) e [] None)

-- the state after a packet was sent
abbrev pub after_packet : NetState → Packet → NetState
after_packet n p = record { sites = n.sites; last = n.last; packets = n.packets ++ p ∷ [] }

-- the state after the master made a grant and sent it
abbrev pub after_new_grant : NetState → Grant → NetState
after_new_grant n g = state_of (after_reply (network_of n) (reply.Granted g))

-- the number that a site hands out, or none
abbrev pub number_of : Option SiteState → Option ℕ
number_of None = None
number_of (Some s) = next_number s

-- whether a site can start again
abbrev pub restarts : Option SiteState → Bool
restarts None = false
restarts (Some s) = can_restart s

-- the state of a site
abbrev pub site_at : NetState → ℕ → Option SiteState
site_at n site = slice_get n.sites (place_of site)

-- the sites are as many as before, and at most one packet more was sent
pub record GrowsByOne (old new : NetState) : Type 0 where
  pub sites : length new.last ≡ length old.last
  pub packets : length new.packets ≤ length old.packets + 1

-- ---- a delivery

-- the packet of a number, from 1
abbrev pub packet_numbered : List Packet → ℕ → Option Packet
packet_numbered packets zero = None
packet_numbered packets (suc place) = slice_get packets place

-- what a request comes to, by what the master makes of it; a grant that it makes again is sent in this packet
abbrev pub delivery_by : Judged → Request → ℕ → Delivery
delivery_by (judged.Again g) r sent = delivery.Again (length g.lease) sent
delivery_by (judged.Old last) r sent = delivery.Old
delivery_by judged.New r sent = delivery.New r

-- what a grant comes to at its site, which is there
abbrev pub delivery_to : Option SiteState → Grant → Delivery
delivery_to None g = delivery.Answered (taken.NotMine None)
delivery_to (Some s) g = delivery.Answered (answer_to s g)

-- what the delivery of a packet comes to
abbrev pub delivery_of : NetState → Option Packet → Delivery
delivery_of n None = delivery.NoSuchPacket
delivery_of n (Some (Asking r)) = delivery_by (judgement (last_grant n.last r) r) r (length n.packets + 1)
delivery_of n (Some (Granting g)) = delivery_to (slice_get n.sites (place_of g.request.site)) g

-- the state after it; nothing has happened yet if it is a new request
abbrev pub after_delivery_of : NetState → Option Packet → Delivery → NetState
after_delivery_of n p delivery.NoSuchPacket = n
after_delivery_of n p (delivery.New r) = n
after_delivery_of n p (delivery.Again count sent) = state_of (after_delivery (network_of n) [] None p)
after_delivery_of n p delivery.Old = n
after_delivery_of n p (delivery.Answered answer) = state_of (after_delivery (network_of n) [] None p)

-- the master knows the site of a new request
abbrev pub NamesSite : List (Option Grant) → Delivery → Type 0
NamesSite last delivery.NoSuchPacket = Unit {0}
NamesSite last (delivery.New r) = HasSite last r.site
NamesSite last (delivery.Again count sent) = Unit {0}
NamesSite last delivery.Old = Unit {0}
NamesSite last (delivery.Answered answer) = Unit {0}

-- what a delivery comes to, and the state after it
pub record Delivers (old : NetState) (p : Option Packet) (d : Delivery) (new : NetState) : Type 0 where
  pub answer : d ≡ delivery_of old p
  pub after' : new ≡ after_delivery_of old p d
  pub named : NamesSite new.last d
