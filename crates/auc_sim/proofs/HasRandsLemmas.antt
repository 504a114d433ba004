-- The RANDs of a packet that is read are two or more.
use Rattle.std.proofs.Common.{◌≡◌, ℕ, ◌≤◌, List, length, Option, Some, None, IfSome, inl, inr, refl, subst, arith}
use Rattle.auc_sim.specs.InnerPeer.{HasRands}
use Rattle.auc_sim_packet.specs.Attributes.{first_value, rands_of}
use Rattle.auc_sim_packet.specs.Packet.{ReadsSim}
use Rattle.auc_sim_packet.specs.Received.{IsSimReading, IsSimReceived, SimSeen}
use Rattle.auc_sim_packet.specs.declared.packet.SimPacket.{SimPacket}
use Rattle.auc_sim_packet.specs.declared.packet.SimPacket.TheVariants as packet
use Rattle.auc_sim_packet.proofs.Facts.{AreRands, rands_read}

long : (v : List ℕ) → AreRands v → 32 ≤ length v
long v (inl e) = omega (arith, e)
long v (inr e) = omega (arith, e)

each_long : (o : Option (List ℕ)) → ((v : List ℕ) → o ≡ Some v → AreRands v) → IfSome o (λ v. 32 ≤ length v)
each_long None f = tt
each_long (Some v) f = long v (f v refl)

packet_has : (bytes : List ℕ) (p : SimPacket) → ReadsSim bytes p → HasRands p
packet_has bytes (packet.Success id) r = tt
packet_has bytes (packet.Failure id) r = tt
packet_has bytes (packet.Sim request id subtype list) (attrs, framed, reads) = each_long (first_value rands_of list) (λ v e. rands_read attrs list v reads e)

pub read_has_rands : (seen : SimSeen) (p : SimPacket) → IsSimReceived seen → seen.packet ≡ Some p → HasRands p
read_has_rands seen p r e = packet_has seen.bytes p (subst (λ (o : Option SimPacket). IsSimReading seen.bytes o) e r.reads).0
