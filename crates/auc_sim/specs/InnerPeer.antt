-- Inner facts: what only private contracts of this crate cite. What each row of a peer does.
use Rattle.std.specs.Prelude.{◌≤◌, ℕ, List, length, Some, IfSome}
use Rattle.auc_hmac.specs.declared.keys.KeySet.{KeySet}
use Rattle.auc_sim.specs.InnerSeveral.{listed}
use Rattle.auc_sim.specs.Peer.{SimPeerState, answered, ended, ignored, refused}
use Rattle.auc_sim.specs.declared.peer.SimLast.{SimLast}
use Rattle.auc_sim.specs.declared.peer.SimWait.{SimWait}
use Rattle.auc_sim.specs.declared.peer.SimWait.TheVariants as wait
use Rattle.auc_sim.specs.declared.rows.Row.{Row}
use Rattle.auc_sim.specs.declared.rows.Row.TheVariants as row
use Rattle.auc_vector.specs.declared.why.SimWhy.{SimWhy}
use Rattle.auc_sim_packet.specs.Attributes.{first_value, rands_of}
use Rattle.auc_sim_packet.specs.Messages.{response_bytes, start_response}
use Rattle.auc_sim_packet.specs.Received.{SimSeen}
use Rattle.auc_sim_packet.specs.Spelling.{sim_text}
use Rattle.auc_sim_packet.specs.declared.attr.SimAttr.{SimAttr}
use Rattle.auc_sim_packet.specs.declared.packet.SimPacket.{SimPacket}
use Rattle.auc_sim_packet.specs.declared.packet.SimPacket.TheVariants as packet
use Rattle.auc_sim_packet.specs.declared.parts.Triplet.{Triplet}
use Rattle.auc_vector.specs.declared.turn.Reason.TheVariants as reason
use Rattle.auc_vector.specs.declared.turn.Step.{Step}
use Rattle.auc_vector.specs.declared.turn.Step.TheVariants as step

-- the first AT_RAND of a list has two RANDs or more
abbrev pub HasRandsIn : List SimAttr → Type 0
HasRandsIn list = IfSome (first_value rands_of list) (λ value. 32 ≤ length value)

abbrev pub HasRands : SimPacket → Type 0
HasRands (packet.Sim request id subtype list) = HasRandsIn list
HasRands other = Unit {0}

-- a request and its answer are kept
abbrev pub kept_with : SimPeerState → SimLast → SimWait → List ℕ → SimPeerState × Step SimWhy
kept_with p last next bytes = (record p { last = Some last; at = next }, step.Sent bytes)

-- Start is answered
abbrev pub started : SimPeerState → SimSeen → ℕ → List ℕ → SimPeerState × Step SimWhy
started p seen id versions = answered p seen id (wait.WaitChallenge versions) (sim_text (start_response id p.nonce p.identity))

-- a Challenge is answered
abbrev pub responded : SimPeerState → SimSeen → ℕ → KeySet → List Triplet → SimPeerState × Step SimWhy
responded p seen id keys triplets = answered p seen id (wait.Answered keys) (response_bytes id keys.k_aut triplets)

abbrev pub row_does : SimPeerState → SimSeen → Row → SimPeerState × Step SimWhy
row_does p seen row.Ignore = ignored p reason.Unexpected
row_does p seen (row.Start id versions) = started p seen id versions.now
row_does p seen (row.Refuse id cause code) = refused p seen id cause code
row_does p seen (row.Challenge id keys triplets) = responded p seen id keys (listed triplets)
row_does p seen (row.End end) = ended p end
