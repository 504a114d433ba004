-- The network of a job's sessions: what its ends and packets are, and when the premise of equal keys is broken.
use Rattle.std.specs.Prelude.{ℕ, ◌==◌, ◌&&◌, not, Bool, true, false, zero, suc, List, [], ◌∷◌, ◌++◌, Option, Some, None, slice_get, position, if◌then◌else◌}
use Rattle.std.specs.List.{list_any}
use Rattle.std.specs.Str.{bytes_eq}
use Rattle.auc_hmac.specs.declared.keys.Master.{Master}
use Rattle.auc_hmac.specs.declared.keys.Master.TheVariants as master
use Rattle.auc_hmac.specs.declared.method.Method.{Method}
use Rattle.auc_hmac.specs.declared.method.Method.TheVariants as method
use Rattle.auc_peer.specs.Subscription.{Subscription}
use Rattle.auc_peer.specs.Table.{text_or_none}
use Rattle.auc_peer.specs.declared.peer.Peer.{Peer}
use Rattle.auc_peer.specs.declared.peer.Source.{Source}
use Rattle.auc_peer.specs.declared.peer.Source.TheVariants as source
use Rattle.auc_reauth.specs.Device.{Keeps, nothing_kept}
use Rattle.auc_reauth.specs.declared.context.Context.{Context}
use Rattle.auc_server.specs.Server.{ServerEnd, challenged_of, resumed_of}
use Rattle.auc_server.specs.declared.server.Challenged.{Challenged}
use Rattle.auc_server.specs.declared.server.Resumed.{Resumed}
use Rattle.auc_server.specs.declared.setting.HomeRow.{HomeRow}
use Rattle.auc_subs.specs.Subscriber.{same_identity}
use Rattle.auc_subs.specs.declared.row.Row.{Row}
use Rattle.auc_lines.specs.declared.part.End.{End}
use Rattle.auc_lines.specs.declared.part.End.TheVariants as end
use Rattle.auc_record.specs.declared.record.Breach.{Breach}
use Rattle.auc_world.specs.declared.net.FastInputs.{FastInputs}
use Rattle.auc_world.specs.declared.net.FullInputs.{FullInputs}
use Rattle.auc_world.specs.declared.net.Inputs.{Inputs}
use Rattle.auc_world.specs.declared.net.Inputs.TheVariants as inputs
use Rattle.auc_released.specs.declared.numbers.Number.{Number}
use Rattle.auc_world.specs.declared.net.SentPacket.{SentPacket}
use Rattle.auc_world.specs.declared.net.Session.{Session}

pub record Net : Type 0 where
  -- the packets that were sent so far
  pub packets : List SentPacket
  -- the sessions that were opened so far
  pub sessions : List Session
  -- the numbers that were released so far
  pub released : List Number
  -- the subscribers that the servers serve, with the ordinals of their names and the contexts
  pub homes : List HomeRow
  -- what the peers take from the devices
  pub devices : List Subscription
  -- what the devices keep, in the same order
  pub stores : List Keeps
  -- the first breach of the premise
  pub broken : Option Breach

-- ---- the inputs of keys

-- those of a fast re-authentication with a context, by a method, a subscriber and an identity
abbrev pub inputs_of_context : Method → ℕ → List ℕ → Context → FastInputs
inputs_of_context m sub text c = record {
  method = m;
  sub = sub;
  identity = text;
  k_encr = c.k_encr;
  k_aut = c.k_aut;
  master = c.master;
}

-- a server's: those of its last challenge, by its method and its network's name; before the first challenge those of its
-- re-authentication
abbrev pub inputs_sent : Method → List ℕ → List ℕ → Option Challenged → Option Resumed → Option Inputs
inputs_sent m name text None None = None
inputs_sent m name text None (Some r) = Some (inputs.Fast (inputs_of_context m r.sub text r.context))
inputs_sent m name text (Some sent) r = Some (inputs.Full (record {
  method = m;
  name = name;
  sub = sent.sub;
  rand = sent.vector.rand;
  autn = sent.vector.autn;
  identity = text;
}))

abbrev pub inputs_of_server : ServerEnd → Option Inputs
inputs_of_server s = inputs_sent s.options.method s.options.name s.identity (challenged_of s) (resumed_of s)

-- a peer's, at its subscriber's device: those of the context under which it found a right MAC, or of the challenge that it
-- accepted, by its method and the name in that challenge, whichever came last
abbrev pub inputs_from : Method → ℕ → List ℕ → Source → Option Inputs
inputs_from m sub text source.Nothing = None
inputs_from m sub text (source.Challenge c name) = Some (inputs.Full (record {
  method = m;
  name = name;
  sub = sub;
  rand = c.rand;
  autn = c.autn;
  identity = text;
}))
inputs_from m sub text (source.Context c) = Some (inputs.Fast (inputs_of_context m sub text c))

abbrev pub inputs_of_peer : ℕ → Peer → Option Inputs
inputs_of_peer sub p = inputs_from p.options.method sub (text_or_none p.identity) p.source

-- ---- packets

-- the packet of a number, from 1
abbrev pub packet_at : List SentPacket → ℕ → Option SentPacket
packet_at packets zero = None
packet_at packets (suc place) = slice_get packets place

-- the packets after one that was sent, if one was
abbrev pub posted : List SentPacket → End → Option Inputs → Option (List ℕ) → List SentPacket
posted packets from inputs None = packets
posted packets from inputs (Some bytes) = packets ++ record { bytes = bytes; sender = Some from; inputs = inputs } ∷ []

-- a changed copy of a packet, if there is one: no end sent it
abbrev pub copies : Option (List ℕ) → List SentPacket
copies None = []
copies (Some bytes) = record { bytes = bytes; sender = None; inputs = None } ∷ []

-- the end that sends to an end
abbrev pub other : End → End
other end.Server = end.Peer
other end.Peer = end.Server

abbrev pub same_end : End → End → Bool
same_end end.Server end.Server = true
same_end end.Peer end.Peer = true
same_end _ _ = false

abbrev pub same_method : Method → Method → Bool
same_method method.Aka method.Aka = true
same_method method.Prime method.Prime = true
same_method _ _ = false

-- whether it is an end of a role that sent a packet
abbrev pub is_sender : Option End → End → Bool
is_sender None from = false
is_sender (Some sender) from = same_end sender from

-- of one challenge, under one identity
abbrev pub same_challenge : FullInputs → FullInputs → Bool
same_challenge a b = a.sub == b.sub && (bytes_eq a.rand b.rand && (bytes_eq a.autn b.autn && bytes_eq a.identity b.identity))

-- and by one method, for one network
abbrev pub same_full : FullInputs → FullInputs → Bool
same_full a b = same_method a.method b.method && (bytes_eq a.name b.name && same_challenge a b)

abbrev pub same_master : Master → Master → Bool
same_master (master.Aka a) (master.Aka b) = bytes_eq a b
same_master (master.Prime a) (master.Prime b) = bytes_eq a b
same_master _ _ = false

-- of one context's keys
abbrev pub same_fast_keys : FastInputs → FastInputs → Bool
same_fast_keys a b = bytes_eq a.k_encr b.k_encr && (bytes_eq a.k_aut b.k_aut && same_master a.master b.master)

-- and of one subscriber, by one method, under one identity
abbrev pub same_fast : FastInputs → FastInputs → Bool
same_fast a b = a.sub == b.sub && (same_method a.method b.method && (bytes_eq a.identity b.identity && same_fast_keys a b))

abbrev pub same_inputs : Inputs → Inputs → Bool
same_inputs (inputs.Full a) (inputs.Full b) = same_full a b
same_inputs (inputs.Fast a) (inputs.Fast b) = same_fast a b
same_inputs _ _ = false

-- an end without keys shares no inputs
abbrev pub share_inputs : Option Inputs → Option Inputs → Bool
share_inputs (Some a) (Some b) = same_inputs a b
share_inputs _ _ = false

-- whether an end of a role sent some bytes, with some inputs
abbrev pub was_sent : End → Option Inputs → List ℕ → List SentPacket → Bool
was_sent from inputs bytes packets =
    list_any (λ p. is_sender p.sender from && (share_inputs p.inputs inputs && bytes_eq p.bytes bytes)) packets

-- ---- the premise

-- what an end finds in a delivery: whether a MAC that it demands is right, and under which inputs of its keys
pub record Finding : Type 0 where
  pub checked : Bool
  pub inputs : Option Inputs
  pub bytes : List ℕ
  pub delivery : Breach

-- whether no end of the other role sent the bytes with the same inputs, though the MAC is right
abbrev pub breaks : List SentPacket → Finding → Bool
breaks packets f = f.checked && not (was_sent (other f.delivery.end) f.inputs f.bytes packets)

-- the first breach stays
abbrev pub judged : List SentPacket → Option Breach → Option Finding → Option Breach
judged packets (Some first) found = Some first
judged packets None None = None
judged packets None (Some f) = if breaks packets f then Some f.delivery else None

-- ---- look-ups

-- what the device of a place keeps; there is one
abbrev pub keeps_or : Option Keeps → Keeps
keeps_or None = nothing_kept
keeps_or (Some keeps) = keeps

abbrev pub keeps_at : Net → ℕ → Keeps
keeps_at w place = keeps_or (slice_get w.stores place)

-- the first session with a number
abbrev pub session_place : List Session → ℕ → Option ℕ
session_place all number = position (λ s. s.number == number) all

-- the first device with a subscriber's identity
abbrev pub place_with : List Subscription → Option Row → Option ℕ
place_with devices None = None
place_with devices (Some row) = position (λ device. same_identity device.imsi row.imsi) devices

abbrev pub device_place : List Row → List Subscription → ℕ → Option ℕ
device_place rows devices sub = place_with devices (slice_get rows sub)
