-- Equal bytes are received alike, and what is written is received.
use Rattle.std.proofs.Common.{◌≡◌, ℕ, List, ◌++◌, Option, Some, None, ap, subst, refl}
use Rattle.auc_attr.specs.declared.table.Table.TheVariants as tables
use Rattle.auc_attr.specs.Mac.{IsMacPlaceIn}
use Rattle.auc_attr.proofs.Facts.{one_place_in}
use Rattle.auc_sim_packet.specs.declared.packet.SimPacket.{SimPacket}
use Rattle.auc_sim_packet.specs.Received.{SimSeen, IsSimReading, OneReceived}
use Rattle.auc_sim_packet.specs.Sealed.{WrittenIsReceived}
use Rattle.auc_sim_packet.specs.Spelling.{sim_text}
use Rattle.auc_sim_packet.proofs.PacketLemmas.{one_packet, refused_is_no_packet, written_is_read}

-- bytes have one reading
pub one_reading : (bytes : List ℕ) (r s : Option SimPacket) → IsSimReading bytes r → IsSimReading bytes s → r ≡ s
one_reading bytes (Some p) (Some q) (a, u) (b, v) = ap (λ (x : SimPacket). Some x) (one_packet bytes p q u v a b)
one_reading bytes (Some p) None (a, u) (f, b, v) = absurd (refused_is_no_packet bytes p f v b a)
one_reading bytes None (Some q) (f, a, u) (b, v) = absurd (refused_is_no_packet bytes q f u a b)
one_reading bytes None None a b = refl

one_seen : (bytes others : List ℕ) (r s : Option SimPacket) (p q : Option ℕ) → bytes ≡ others → IsSimReading bytes r → IsSimReading others s
    → IsMacPlaceIn tables.Sim bytes p → IsMacPlaceIn tables.Sim others q
    → ◌≡◌ {A = SimSeen} (record { bytes = bytes; packet = r; place = p }) (record { bytes = others; packet = s; place = q })
one_seen bytes others r s p q e a b c d =
    let readings : r ≡ s = one_reading others r s (subst (λ (x : List ℕ). IsSimReading x r) e a) b in
    let places : p ≡ q = one_place_in tables.Sim others p q (subst (λ (x : List ℕ). IsMacPlaceIn tables.Sim x p) e c) d in
    rw (e, readings, places) refl

-- equal bytes are received alike
pub one_received : OneReceived
one_received seen other e f g = one_seen seen.bytes other.bytes seen.packet other.packet seen.place other.place e f.reads g.reads f.placed g.placed

-- what is written is received, whatever follows it
pub written_is_received : WrittenIsReceived
written_is_received p past seen may values received is =
    one_reading (sim_text p ++ past) seen.packet (Some p) (subst (λ (b : List ℕ). IsSimReading b seen.packet) is received.reads) (written_is_read p past may, values)
