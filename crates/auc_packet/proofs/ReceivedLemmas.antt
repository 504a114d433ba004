-- Equal bytes are received alike.
use Rattle.std.proofs.Common.{◌≡◌, ℕ, List, Option, ap, subst, refl}
use Rattle.auc_attr.specs.Mac.{IsMacPlace}
use Rattle.auc_attr.proofs.Facts.{one_place}
use Rattle.auc_packet.specs.declared.packet.Packet.{Packet}
use Rattle.auc_packet.specs.declared.received.Reading.{Reading}
use Rattle.auc_packet.specs.declared.received.Reading.TheVariants as reading
use Rattle.auc_packet.specs.declared.refusal.PacketRefusal.{PacketRefusal}
use Rattle.auc_packet.specs.Received.{Seen, IsReading, OneReceived}
use Rattle.auc_packet.proofs.LawLemmas.{one_packet, one_first_fault, refused_is_no_packet}

-- bytes have one reading
pub one_reading : (bytes : List ℕ) (r s : Reading) → IsReading bytes r → IsReading bytes s → r ≡ s
one_reading bytes (reading.Read p) (reading.Read q) (a, u) (b, v) = ap (λ (x : Packet). reading.Read x) (one_packet bytes p q u v a b)
one_reading bytes (reading.Read p) (reading.Fault f) (a, u) (b, v) = absurd (refused_is_no_packet bytes p f v b a)
one_reading bytes (reading.Fault f) (reading.Read q) (a, u) (b, v) = absurd (refused_is_no_packet bytes q f u a b)
one_reading bytes (reading.Fault f) (reading.Fault g) (a, u) (b, v) = ap (λ (x : PacketRefusal). reading.Fault x) (one_first_fault bytes f g u v a b)

one_seen : (bytes others : List ℕ) (r s : Reading) (p q : Option ℕ) → bytes ≡ others → IsReading bytes r → IsReading others s → IsMacPlace bytes p → IsMacPlace others q
    → ◌≡◌ {A = Seen} (record { bytes = bytes; reading = r; place = p }) (record { bytes = others; reading = s; place = q })
one_seen bytes others r s p q e a b c d =
    let readings : r ≡ s = one_reading others r s (subst (λ (x : List ℕ). IsReading x r) e a) b in
    let places : p ≡ q = one_place others p q (subst (λ (x : List ℕ). IsMacPlace x p) e c) d in
    rw (e, readings, places) refl

-- equal bytes are received alike
pub one_received : OneReceived
one_received seen other e f g = one_seen seen.bytes other.bytes seen.reading other.reading seen.place other.place e f.reads g.reads f.placed g.placed
