-- A master and its sites over a network that loses, repeats and reorders packets, and what each event makes of it.
use Rattle.std.specs.Prelude.{ℕ, ◌+◌, nat_lt, if◌then◌else◌, List, [], ◌∷◌, ◌++◌, length, slice_get, slice_set, Option, Some, None}
use Rattle.auc_vector.specs.declared.centre.CentreRefusal.{CentreRefusal}
use Rattle.auc_sites.specs.declared.grant.Grant.{Grant}
use Rattle.auc_sites.specs.declared.master.Reply.{Reply}
use Rattle.auc_sites.specs.declared.master.Reply.TheVariants.{Granted, Again, Old, Refused}
use Rattle.auc_sites.specs.declared.request.Request.{Request}
pub use Rattle.auc_sites.specs.declared.packet.Packet.{Packet}
pub use Rattle.auc_sites.specs.declared.packet.Packet.TheVariants.{Asking, Granting}
use Rattle.auc_sites.specs.Master.{place_of, last_grant, judgement, nothing_granted}
use Rattle.auc_sites.specs.Reply.{reply_by, last_after}
use Rattle.auc_sites.specs.Site.{SiteState, new_site, last_request, after_ask, after_grant, after_draw, after_restart, next_number}

-- an event. Sites and packets are told by their places, from 0, and an event of one that isn't there changes nothing
pub data Event : Type 0 where
  -- a site asks
  Ask : ℕ → Event
  -- a packet is delivered, which may be again
  Deliver : ℕ → Event
  -- a site hands out a number
  Draw : ℕ → Event
  -- a site starts again
  Restart : ℕ → Event
  -- a site starts again, under this boot number, if it is a greater one
  RestartAt : ℕ → ℕ → Event
  -- the master forgets all requests
  MasterRestart : Event

-- an event; and the numbers that the centre gave in it, with the refusal that ended them, if one did. They matter only if the
-- event delivers a request that is new to the master
pub record SitesTurn : Type 0 where
  pub event : Event
  pub numbers : List ℕ
  pub end : Option CentreRefusal

-- the sites; what the master remembers; the packets that were sent; all grants that were made; and all numbers that sites
-- handed out
pub record Network : Type 0 where
  pub sites : List SiteState
  pub last : List (Option Grant)
  pub packets : List Packet
  pub grants : List Grant
  pub drawn : List ℕ

-- ---- the parts of an event

-- a packet is sent
abbrev pub with_packet : Network → Packet → Network
with_packet w p = record { sites = w.sites; last = w.last; packets = w.packets ++ p ∷ []; grants = w.grants; drawn = w.drawn }

-- a site is in another state
abbrev pub with_site : Network → ℕ → SiteState → Network
with_site w i s = record { sites = slice_set w.sites i s; last = w.last; packets = w.packets; grants = w.grants; drawn = w.drawn }

-- a number is handed out, or none
abbrev pub with_number : Network → Option ℕ → Network
with_number w None = w
with_number w (Some n) = record { sites = w.sites; last = w.last; packets = w.packets; grants = w.grants; drawn = w.drawn ++ n ∷ [] }

-- the master remembers something else
abbrev pub with_last : Network → List (Option Grant) → Network
with_last w last = record { sites = w.sites; last = last; packets = w.packets; grants = w.grants; drawn = w.drawn }

-- a grant is made and sent
abbrev pub with_new_grant : Network → Grant → Network
with_new_grant w g = record { sites = w.sites; last = w.last; packets = w.packets ++ Granting g ∷ []; grants = w.grants ++ g ∷ []; drawn = w.drawn }

-- the master's reply is sent if it has a grant
abbrev pub with_reply : Network → Reply → Network
with_reply w (Granted g) = with_new_grant w g
with_reply w (Again g) = with_packet w (Granting g)
with_reply w (Old r) = w
with_reply w (Refused why) = w

-- ---- the events

-- a site asks: its request is sent
abbrev pub after_asking : Network → ℕ → Option SiteState → Network
after_asking w i None = w
after_asking w i (Some s) = with_packet (with_site w i (after_ask s)) (Asking (last_request (after_ask s)))

-- a site hands out the next number, if it holds one
abbrev pub after_drawing : Network → ℕ → Option SiteState → Network
after_drawing w i None = w
after_drawing w i (Some s) = with_number (with_site w i (after_draw s)) (next_number s)

-- a site starts again
abbrev pub after_restarting : Network → ℕ → Option SiteState → Network
after_restarting w i None = w
after_restarting w i (Some s) = with_site w i (after_restart s)

-- a site starts again under this boot number, if it is greater than the one before
abbrev pub after_restarting_at : Network → ℕ → ℕ → Option SiteState → Network
after_restarting_at w i boot None = w
after_restarting_at w i boot (Some s) = with_site w i (if nat_lt s.boot boot then new_site s.id boot else s)

-- a grant comes to a site
abbrev pub after_taking : Network → ℕ → Grant → Option SiteState → Network
after_taking w i g None = w
after_taking w i g (Some s) = with_site w i (after_grant s g)

-- the master makes a reply
abbrev pub after_reply : Network → Reply → Network
after_reply w reply = with_reply (with_last w (last_after w.last reply)) reply

-- a packet is delivered: a request to the master, a grant to the site that its request names
abbrev pub after_delivery : Network → List ℕ → Option CentreRefusal → Option Packet → Network
after_delivery w numbers end None = w
after_delivery w numbers end (Some (Asking r)) = after_reply w (reply_by (judgement (last_grant w.last r) r) r numbers end)
after_delivery w numbers end (Some (Granting g)) = after_taking w (place_of g.request.site) g (slice_get w.sites (place_of g.request.site))

-- the network after an event
abbrev pub after_event : Network → Event → List ℕ → Option CentreRefusal → Network
after_event w (Ask i) numbers end = after_asking w i (slice_get w.sites i)
after_event w (Deliver p) numbers end = after_delivery w numbers end (slice_get w.packets p)
after_event w (Draw i) numbers end = after_drawing w i (slice_get w.sites i)
after_event w (Restart i) numbers end = after_restarting w i (slice_get w.sites i)
after_event w (RestartAt i boot) numbers end = after_restarting_at w i boot (slice_get w.sites i)
after_event w MasterRestart numbers end = with_last w (nothing_granted (length w.last))

-- the network after some turns
abbrev pub after_turns : Network → List SitesTurn → Network
after_turns w [] = w
after_turns w (t ∷ turns) = after_turns (after_event w t.event t.numbers t.end) turns

-- ---- the beginning

-- sites with these boot numbers, numbered from `id` on
abbrev pub sites_from : ℕ → List ℕ → List SiteState
sites_from id [] = []
sites_from id (boot ∷ boots) = new_site id boot ∷ sites_from (id + 1) boots

-- the network at the beginning: sites with these boot numbers, numbered from 1, and nothing else
abbrev pub start : List ℕ → Network
start boots = record { sites = sites_from 1 boots; last = nothing_granted (length boots); packets = []; grants = []; drawn = [] }
