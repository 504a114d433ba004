-- For plain sessions: a packet that was written is received as itself, with its head, and a sealed one with a right AT_MAC.
use Rattle.std.proofs.Common.{◌≡◌, ℕ, ◌+◌, ◌≤◌, Bool, true, false, List, [], ◌∷◌, ◌++◌, length, take, Some, None, Result, Ok, refl, sym, ap, ◌∙◌, subst, append-nil, arith, if◌then◌else◌}
use Rattle.std.proofs.lemmas.List.{take_all}
use Rattle.std.proofs.lemmas.Nat.{from_be_bytes-to_be_bytes_2}
use Rattle.std.proofs.lemmas.Slice.Eq.{bytes_eq-Decides}
use Rattle.std.specs.List.{list_all}
use Rattle.std.specs.Prelude.{nat_lt, slice_index}
use Rattle.std.specs.Str.{bytes_eq}
use Rattle.auc_attr.proofs.Facts.{frame_again}
use Rattle.auc_attr.specs.Frame.{Ended, Frame, Message, Named, end_code, frame_at, length_of, message_code}
use Rattle.auc_attr.specs.Laws.{is_value}
use Rattle.auc_attr.specs.Spelling.{spelling}
use Rattle.auc_attr.specs.declared.frame.FrameFault.{FrameFault}
use Rattle.auc_ident.specs.Permanent.{EachPermanentIsReadBack}
use Rattle.auc_packet.specs.Head.{head_as, head_at, head_from, head_of_frame}
use Rattle.auc_packet.specs.Laws.{WrittenIsRead, has_values}
use Rattle.auc_packet.specs.Packet.{ReadsPacket, method_type, subtype_number}
use Rattle.auc_packet.specs.Received.{IsReading, IsReceived, OneReceived, Seen, is_sealed, packet_in}
use Rattle.auc_packet.specs.Sealed.{MayBeSealed, SealedIsRead, SealedIsRight, draft_mac, sealed, with_mac}
use Rattle.auc_packet.specs.Spelling.{MayBeWritten, packet_text, whole}
use Rattle.auc_packet.specs.declared.packet.Head.{Head}
use Rattle.auc_packet.specs.declared.packet.Packet.{Packet}
use Rattle.auc_packet.specs.declared.packet.Packet.TheVariants as packet
use Rattle.auc_packet.specs.declared.received.Reading.{Reading}
use Rattle.auc_packet.specs.declared.received.Reading.TheVariants as reading
use Rattle.auc_packet.specs.declared.sealing.Draft.{Draft}
use Rattle.auc_seal.specs.Laws.{EncryptedIsDecrypted, EncryptedIsWritable, OpensAsDecrypts}
use Rattle.auc_vector.specs.Auts.{EachAutsIsReadBack}
use Rattle.auc_vector.specs.Vector.{AutnHasTheMac}

-- the laws of packets, encrypted attributes, identities and vectors
pub record Laws : Type 0 where
  pub alike : OneReceived
  pub written : WrittenIsRead
  pub sealed_read : SealedIsRead
  pub sealed_right : SealedIsRight
  pub may_be_hidden : EncryptedIsWritable
  pub decrypted : EncryptedIsDecrypted
  pub opened : OpensAsDecrypts
  pub permanent : EachPermanentIsReadBack
  pub macs : AutnHasTheMac
  pub auts : EachAutsIsReadBack

-- ---- the head

-- the head of a packet
abbrev pub head_of : Packet → Head
head_of (packet.Success id) = head_as (end_code true) id None
head_of (packet.Failure id) = head_as 4 id None
head_of (packet.Identity request id text) = head_as (message_code request) id (Some 1)
head_of (packet.Aka request id m s list) = head_as (message_code request) id (Some (method_type m))

headed : (bytes : List ℕ) (f : Frame) → frame_at bytes ≡ Ok f → head_at bytes ≡ Some (head_of_frame f)
headed bytes f e = ap (λ (r : Result Frame FrameFault). head_from r bytes) e

-- bytes that are a packet have its head
pub head_is : (bytes : List ℕ) (p : Packet) → ReadsPacket bytes p → head_at bytes ≡ Some (head_of p)
head_is bytes (packet.Success id) r = headed bytes (Ended true id) (frame_again (Ended true id) bytes r)
head_is bytes (packet.Failure id) r = headed bytes (Ended false id) (frame_again (Ended false id) bytes r)
head_is bytes (packet.Identity request id text) r = headed bytes (Named request id text) (frame_again (Named request id text) bytes r)
head_is bytes (packet.Aka request id m s list) r =
    let f = Message request id (method_type m) (subtype_number s) r.0 in headed bytes f (frame_again f bytes r.1)

-- ---- the packet

-- received bytes are a packet, with its head
pub record Is (seen : Seen) (p : Packet) : Type 0 where
  pub packet_is : seen.reading ≡ reading.Read p
  pub head : head_at seen.bytes ≡ Some (head_of p)

pub is_read : (seen : Seen) (p : Packet) → IsReceived seen → seen.reading ≡ reading.Read p → Is seen p
is_read seen p received e = record {
  packet_is = e;
  head = head_is seen.bytes p (subst (λ (r : Reading). IsReading seen.bytes r) e received.reads).0;
}

-- a packet that may be written is received as itself
pub reads_itself : Laws → (seen : Seen) (p : Packet) → MayBeWritten p → has_values p ≡ true → IsReceived seen → seen.bytes ≡ packet_text p → Is seen p
reads_itself laws seen p may values received e =
    let whole : seen.bytes ≡ packet_text p ++ [] = e ∙ sym (append-nil (packet_text p)) in
    let other : Seen = record { bytes = seen.bytes; reading = reading.Read p; place = seen.place } in
    let reads : ReadsPacket seen.bytes p = subst (λ (b : List ℕ). ReadsPacket b p) (sym whole) (laws.written p [] may) in
    is_read seen p received (ap (λ (s : Seen). s.reading) (laws.alike seen other refl received (record { reads = (reads, values); placed = received.placed })))

-- a sealed message is received as itself, with a right AT_MAC, whatever that authenticates besides
pub reads_sealed_with : Laws → (k_aut extra : List ℕ) (d : Draft) (seen : Seen) → MayBeSealed d → list_all is_value d.attrs ≡ true → IsReceived seen → seen.bytes ≡ sealed k_aut extra d
    → Is seen (with_mac d (draft_mac k_aut extra d)) × (is_sealed d.method k_aut extra seen ≡ true)
reads_sealed_with laws k_aut extra d seen may values received e =
    let whole : seen.bytes ≡ sealed k_aut extra d ++ [] = e ∙ sym (append-nil (sealed k_aut extra d)) in (
      is_read seen (with_mac d (draft_mac k_aut extra d)) received (laws.sealed_read k_aut extra [] d seen may values received whole),
      laws.sealed_right k_aut extra [] d seen may received whole,
    )

-- which is mostly nothing
pub reads_sealed : Laws → (k_aut : List ℕ) (d : Draft) (seen : Seen) → MayBeSealed d → list_all is_value d.attrs ≡ true → IsReceived seen → seen.bytes ≡ sealed k_aut [] d
    → Is seen (with_mac d (draft_mac k_aut [] d)) × (is_sealed d.method k_aut [] seen ≡ true)
reads_sealed laws k_aut d seen may values received e = reads_sealed_with laws k_aut [] d seen may values received e

-- ---- its length

whole_length : (code id : ℕ) (rest : List ℕ) → length (whole code id rest) ≤ 4096 → length_of (whole code id rest) ≡ length (whole code id rest)
whole_length code id rest small = from_be_bytes-to_be_bytes_2 (4 + length rest) (omega (arith, small)) ∙ omega arith

written_length : (p : Packet) → length (packet_text p) ≤ 4096 → length_of (packet_text p) ≡ length (packet_text p)
written_length (packet.Success id) small = whole_length (end_code true) id [] small
written_length (packet.Failure id) small = whole_length (end_code false) id [] small
written_length (packet.Identity request id text) small = whole_length (message_code request) id (1 ∷ text) small
written_length (packet.Aka request id m s list) small =
    whole_length (message_code request) id (method_type m ∷ subtype_number s ∷ 0 ∷ 0 ∷ spelling list) small

cut : (bytes : List ℕ) (short : Bool) → length_of bytes ≡ length bytes → (if short then bytes else take (length_of bytes) bytes) ≡ bytes
cut bytes true e = refl
cut bytes false e = take_all (length_of bytes) bytes (omega (arith, e))

-- what was written of a packet is the packet in it
pub packet_there : (p : Packet) → MayBeWritten p → packet_in (packet_text p) ≡ packet_text p
packet_there p may = cut (packet_text p) (nat_lt (length (packet_text p)) 4) (written_length p may.size)

-- ---- repetitions

-- bytes that differ at a place are not the same
pub unlike : (bytes other : List ℕ) (i : ℕ) → (slice_index bytes i ≡ slice_index other i → ⊥) → bytes_eq bytes other ≡ false
unlike bytes other i differ = by (bytes_eq bytes other) refl
  where
    by : (b : Bool) → bytes_eq bytes other ≡ b → b ≡ false
    by true e = absurd (differ (ap (λ (l : List ℕ). slice_index l i) ((bytes_eq-Decides bytes other).0 e)))
    by false e = refl
