-- A session: both ends, the packets between them, and what is said of it.
use Rattle.std.specs.Prelude.{◌≡◌, ◌↔◌, ℕ, zero, suc, ◌+◌, IsTrue, Bool, List, [], ◌∷◌, ◌++◌, length, slice_get, Option, Some, None}
use Rattle.auc_hmac.specs.declared.keys.KeySet.{KeySet}
use Rattle.auc_lines.specs.declared.part.End.{End}
use Rattle.auc_lines.specs.declared.part.End.TheVariants as end
use Rattle.auc_lines.specs.declared.sim.SimDelivery.{SimDelivery}
use Rattle.auc_lines.specs.declared.sim.SimSchedule.{SimSchedule}
use Rattle.auc_lines.specs.declared.sim.SimSchedule.TheVariants.{Plain, Steps}
use Rattle.auc_milenage.specs.declared.secret.Secret.{Secret}
use Rattle.auc_sim.specs.Peer.{PeerTurns, SimPeerState, new_peer}
use Rattle.auc_sim.specs.Server.{ServerTurns, SimServerState, new_server}
use Rattle.auc_vector.specs.declared.sim_note.SimBecame.{SimBecame}
use Rattle.auc_vector.specs.declared.sim_note.SimBecame.TheVariants.{NoSuchPacket, Did}
use Rattle.auc_vector.specs.declared.sim_note.SimNote.{SimNote}
use Rattle.auc_vector.specs.declared.sim_note.SimNote.TheVariants as note
use Rattle.auc_sim.specs.declared.peer.SimWait.{SimWait}
use Rattle.auc_sim.specs.declared.peer.SimWait.TheVariants as wait
use Rattle.auc_sim.specs.declared.server.SimAwait.{SimAwait}
use Rattle.auc_sim.specs.declared.server.SimAwait.TheVariants as await
use Rattle.auc_vector.specs.declared.why.SimWhy.{SimWhy}
use Rattle.auc_sim_packet.specs.Messages.{start_request}
use Rattle.auc_sim_packet.specs.Spelling.{sim_text}
use Rattle.auc_sim_packet.specs.declared.parts.Triplet.{Triplet}
use Rattle.auc_vector.specs.declared.turn.Outcome.{Outcome}
use Rattle.auc_vector.specs.declared.turn.Outcome.TheVariants as outcome
use Rattle.auc_vector.specs.declared.turn.Step.{Step}
use Rattle.auc_vector.specs.declared.turn.Step.TheVariants as step

-- the identity of both ends, the server's triplets, the secret of the peer's USIM, and the peer's NONCE_MT
pub record SimInputs : Type 0 where
  pub identity : List ℕ
  pub triplets : List Triplet
  pub secret : Secret
  pub nonce : List ℕ

-- both ends, and the bytes of the packets that they sent, in the order of their numbers
pub record SimNet : Type 0 where
  pub server : SimServerState
  pub peer : SimPeerState
  pub packets : List (List ℕ)

-- ---- a delivery

-- the packet of a number, from 1
abbrev pub packet_numbered : List (List ℕ) → ℕ → Option (List ℕ)
packet_numbered packets zero = None
packet_numbered packets (suc place) = slice_get packets place

-- the bytes that an end sent in a step; empty if it sent nothing
abbrev pub sent_in : Step SimWhy → List ℕ
sent_in (step.Sent bytes) = bytes
sent_in (step.Ended outcome bytes) = bytes
sent_in (step.Ignored reason) = []

-- the packets after these bytes were sent
abbrev pub with_sent : List (List ℕ) → List ℕ → List (List ℕ)
with_sent packets [] = packets
with_sent packets (byte ∷ bytes) = packets ++ (byte ∷ bytes) ∷ []

-- the number of the packet that they are
abbrev pub number_sent : List (List ℕ) → List ℕ → Option ℕ
number_sent packets [] = None
number_sent packets (byte ∷ bytes) = Some (length packets + 1)

-- an end's turn on these bytes; the other end stays as it is
abbrev pub EndTurns : End → SimNet → List ℕ → Step SimWhy → SimNet → Type 0
EndTurns end.Server old bytes step new = ServerTurns old.server bytes step new.server × (new.peer ≡ old.peer)
EndTurns end.Peer old bytes step new = PeerTurns old.peer bytes step new.peer × (new.server ≡ old.server)

-- an end receives these bytes, and what it sends is the next packet
pub record Receives (to : End) (old : SimNet) (bytes : List ℕ) (became : SimBecame) (new : SimNet) : Type 0 where
  pub step : Step SimWhy
  pub turns : EndTurns to old bytes step new
  pub packets : new.packets ≡ with_sent old.packets (sent_in step)
  pub became_is : became ≡ Did step (number_sent old.packets (sent_in step))

-- what becomes of a packet at an end, if there is one
abbrev pub Becomes : End → SimNet → Option (List ℕ) → SimBecame → SimNet → Type 0
Becomes to old None became new = (became ≡ NoSuchPacket) × (new ≡ old)
Becomes to old (Some bytes) became new = Receives to old bytes became new

-- one delivery, and what becomes of it
abbrev pub Delivers : SimNet → SimDelivery → SimBecame → SimNet → Type 0
Delivers old d became new = Becomes d.end old (packet_numbered old.packets d.packet) became new

-- ---- all deliveries

-- some deliveries, one after the other, with a note of each
abbrev pub DeliversAll : SimNet → List SimDelivery → List SimNote → SimNet → Type 0
DeliversAll old [] notes new = (notes ≡ []) × (new ≡ old)
DeliversAll old (d ∷ deliveries) notes new = (became : SimBecame) × (mid : SimNet) × (rest : List SimNote)
    × (notes ≡ note.Delivered d.end d.packet became ∷ rest) × Delivers old d became mid × DeliversAll mid deliveries rest new

-- the packet that a delivery made, if it made one
abbrev pub made_in : SimBecame → Option ℕ
made_in NoSuchPacket = None
made_in (Did step sent) = sent

-- the end at the other side
abbrev pub other : End → End
other end.Server = end.Peer
other end.Peer = end.Server

-- a packet is delivered to an end, and each one that follows to the other, until one makes none
abbrev pub Alternates : List SimDelivery → List SimNote → End → Option ℕ → Type 0
Alternates [] notes to None = Unit {0}
Alternates [] notes to (Some packet) = ⊥
Alternates (d ∷ deliveries) notes to None = ⊥
Alternates (d ∷ deliveries) notes to (Some packet) = (became : SimBecame) × (rest : List SimNote) × (d ≡ record { end = to; packet = packet })
    × (notes ≡ note.Delivered to packet became ∷ rest) × Alternates deliveries rest (other to) (made_in became)

-- the deliveries of a schedule. In the plain one the server's first packet is delivered to the peer, and so on
abbrev pub Scheduled : SimSchedule → List SimDelivery → List SimNote → Type 0
Scheduled (Steps all) deliveries notes = deliveries ≡ all
Scheduled Plain deliveries notes = Alternates deliveries notes end.Peer (Some 1)

-- ---- the session

-- both ends have their inputs, and the server's first request is packet 1
pub record Starts (inputs : SimInputs) (first : List ℕ) (net : SimNet) : Type 0 where
  pub server : net.server ≡ new_server inputs.identity inputs.triplets
  pub peer : net.peer ≡ new_peer inputs.secret inputs.identity inputs.nonce
  pub first_is : first ≡ sim_text start_request
  pub packets : net.packets ≡ first ∷ []

-- the keys of an end that ended in Success
abbrev pub keys_of : Outcome SimWhy → Option KeySet
keys_of (outcome.Success keys) = Some keys
keys_of (outcome.Failure why) = None

abbrev pub server_keys : SimAwait → Option KeySet
server_keys (await.Ended end) = keys_of end
server_keys other = None

abbrev pub peer_keys : SimWait → Option KeySet
peer_keys (wait.Ended end) = keys_of end
peer_keys other = None

-- if both ends ended in Success: whether their keys are equal
abbrev pub EndsWith : Option KeySet → Option KeySet → List SimNote → Type 0
EndsWith None peer notes = notes ≡ []
EndsWith (Some server) None notes = notes ≡ []
EndsWith (Some server) (Some peer) notes = (agree : Bool) × (notes ≡ note.Ended agree ∷ []) × (IsTrue agree ↔ (server ≡ peer))

-- what is said of a session by its inputs and its schedule: the server's first request; the deliveries; and how it ended
pub record SimRuns (inputs : SimInputs) (schedule : SimSchedule) (notes : List SimNote) : Type 0 where
  pub first : List ℕ
  pub start : SimNet
  pub end : SimNet
  pub deliveries : List SimDelivery
  pub delivered : List SimNote
  pub ending : List SimNote
  pub notes_are : notes ≡ note.Started first ∷ (delivered ++ ending)
  pub starts : Starts inputs first start
  pub delivers : DeliversAll start deliveries delivered end
  pub scheduled : Scheduled schedule deliveries delivered
  pub ends : EndsWith (server_keys end.server.at) (peer_keys end.peer.at) ending
