-- The laws of packets.
use Rattle.std.proofs.Common.{◌≡◌, ◌≢◌, ℕ, ◌+◌, ◌≤◌, Bool, true, false, List, [], ◌∷◌, ◌++◌, length, take, drop, None, Result, Ok, Err, refl, sym, ap, ◌∙◌, subst, arith, if◌then◌else◌}
use Rattle.std.specs.List.{list_all}
use Rattle.std.specs.Int.{w16, to_be_bytes}
use Rattle.std.proofs.lemmas.List.{take_at, drop_at}
use Rattle.auc_attr.specs.declared.frame.FrameFault.{FrameFault}
use Rattle.auc_attr.specs.declared.frame.FrameFault.TheVariants as faults
use Rattle.auc_attr.specs.declared.refusal.AttrRefusal.TheVariants as attr_refusal
use Rattle.auc_attr.specs.declared.table.Table.TheVariants as tables
use Rattle.auc_attr.specs.Frame.{Frame, Ended, Named, Message, message_code, is_subtype_in, length_of, IsEnded, IsMessageIn, IsFramedIn}
use Rattle.auc_attr.specs.Grammar.{FirstFaultIn}
use Rattle.auc_attr.specs.PacketFault.{PacketFault, Before, Within}
use Rattle.auc_attr.specs.Spelling.{writable_in}
use Rattle.auc_attr.proofs.Facts.{IsBytes-take, IsBytes-drop, and_from, and_parts, attrs_within_in, frame_again_in, one_fault_in, read_is_writable_in, one_walk_in, refused_is_not_read_in, written_is_read_in}
use Rattle.auc_sim_packet.specs.declared.attr.SimAttr.{SimAttr}
use Rattle.auc_sim_packet.specs.declared.packet.SimPacket.{SimPacket}
use Rattle.auc_sim_packet.specs.declared.packet.SimPacket.TheVariants as packet
use Rattle.auc_sim_packet.specs.declared.refusal.SimRefusal.{SimRefusal}
use Rattle.auc_sim_packet.specs.declared.refusal.SimRefusal.TheVariants as refusal
use Rattle.auc_sim_packet.specs.Attributes.{items, is_named, is_value}
use Rattle.auc_sim_packet.specs.Packet.{sim_type, IsFirstSimFault, ReadsSim, ReadsSimAttrs, FirstSimFault, has_values}
use Rattle.auc_sim_packet.specs.PacketLaws.{OnePacket, OneFault, RefusedIsNotRead, WrittenIsRead, ReadIsWritable}
use Rattle.auc_attr.specs.Laws.{AreBytes}
use Rattle.auc_sim_packet.specs.Spelling.{spelling, writable}
use Rattle.auc_sim_packet.proofs.AttrLemmas.{same_list}

-- ---- what is written is read

-- what is written of a list is read as that list
written_list : (list : List SimAttr) → writable list ≡ true → ReadsSimAttrs (spelling list) list
written_list list e =
    let p = and_parts (writable_in tables.Sim (items list)) (list_all is_named list) e in
    (written_is_read_in tables.Sim (items list) p.0, p.1)

-- what is written is read, whatever follows it
pub written_is_read : WrittenIsRead
written_is_read (packet.Success id) past w = record { past = past; parts = refl }
written_is_read (packet.Failure id) past w = record { past = past; parts = refl }
written_is_read (packet.Sim request id subtype list) past w =
    let attrs = spelling list in
    let p = and_parts (is_subtype_in tables.Sim subtype) (writable list) w.parts in (
      attrs,
      record {
        method = refl;
        known = p.0;
        size = omega (arith, w.size);
        reserved = 0 ∷ 0 ∷ [];
        two = refl;
        past = past;
        parts = ap (λ (n : ℕ). message_code request ∷ id ∷ (to_be_bytes w16 n ++ (sim_type ∷ subtype ∷ 0 ∷ 0 ∷ (attrs ++ past)))) (omega arith);
      },
      written_list list p.1,
    )

-- ---- bytes are one packet

-- two answers that are one have one frame
ok_frame : (f g : Frame) → ◌≡◌ {A = Result Frame FrameFault} (Ok f) (Ok g) → f ≡ g
ok_frame f g e = cc

-- one frame stands in bytes
one_frame : (bytes : List ℕ) (f g : Frame) → IsFramedIn tables.Sim f bytes → IsFramedIn tables.Sim g bytes → f ≡ g
one_frame bytes f g p q = ok_frame f g (sym (frame_again_in tables.Sim f bytes p) ∙ frame_again_in tables.Sim g bytes q)

-- a packet from its frame and its list; a name is no packet of EAP-SIM
abbrev packet_from : Frame → List SimAttr → SimPacket
packet_from (Ended success id) list = if success then packet.Success id else packet.Failure id
packet_from (Named request id text) list = packet.Failure id
packet_from (Message request id kind number attrs) list = packet.Sim request id number list

-- a packet's attributes
abbrev list_of : SimPacket → List SimAttr
list_of (packet.Sim request id subtype list) = list
list_of _ = []

-- a packet's frame around the bytes of its attributes
abbrev frame_of : SimPacket → List ℕ → Frame
frame_of (packet.Success id) attrs = Ended true id
frame_of (packet.Failure id) attrs = Ended false id
frame_of (packet.Sim request id subtype list) attrs = Message request id sim_type subtype attrs

-- a frame's bytes of attributes
abbrev attrs_of : Frame → List ℕ
attrs_of (Message request id kind number attrs) = attrs
attrs_of _ = []

-- a packet is that of its frame and its attributes
from_frame : (p : SimPacket) (attrs : List ℕ) → packet_from (frame_of p attrs) (list_of p) ≡ p
from_frame (packet.Success id) attrs = refl
from_frame (packet.Failure id) attrs = refl
from_frame (packet.Sim request id subtype list) attrs = refl

-- a packet's frame stands in the bytes, and its list in the attributes
record IsRead (bytes : List ℕ) (p : SimPacket) : Type 0 where
  attrs : List ℕ
  framed : IsFramedIn tables.Sim (frame_of p attrs) bytes
  own : attrs_of (frame_of p attrs) ≡ attrs
  listed : ReadsSimAttrs attrs (list_of p)

-- a packet that bytes are has its frame and its attributes there
read_is : (bytes : List ℕ) (p : SimPacket) → ReadsSim bytes p → IsRead bytes p
read_is bytes (packet.Success id) r = record { attrs = []; framed = r; own = refl; listed = (refl, refl) }
read_is bytes (packet.Failure id) r = record { attrs = []; framed = r; own = refl; listed = (refl, refl) }
read_is bytes (packet.Sim request id subtype list) r = record { attrs = r.0; framed = r.1; own = refl; listed = r.2 }

-- the numbers of a packet are those of its attributes
values_of : (p : SimPacket) → has_values p ≡ true → list_all is_value (list_of p) ≡ true
values_of (packet.Success id) e = refl
values_of (packet.Failure id) e = refl
values_of (packet.Sim request id subtype list) e = e

-- bytes are one list of attributes
one_list : (bytes : List ℕ) (list other : List SimAttr) → list_all is_value list ≡ true → list_all is_value other ≡ true → ReadsSimAttrs bytes list → ReadsSimAttrs bytes other → list ≡ other
one_list bytes list other va vb p q = same_list list other p.1 va q.1 vb (one_walk_in tables.Sim [] bytes (items list) (items other) None None p.0 q.0).0

-- bytes are one packet
pub one_packet : OnePacket
one_packet bytes p q vp vq rp rq =
    let a = read_is bytes p rp in
    let b = read_is bytes q rq in
    let frames : frame_of p a.attrs ≡ frame_of q b.attrs = one_frame bytes _ _ a.framed b.framed in
    let attrs : a.attrs ≡ b.attrs = sym a.own ∙ ap (λ (f : Frame). attrs_of f) frames ∙ b.own in
    let lists : list_of p ≡ list_of q =
    one_list a.attrs (list_of p) (list_of q) (values_of p vp) (values_of q vq) a.listed (subst (λ (x : List ℕ). ReadsSimAttrs x (list_of q)) (sym attrs) b.listed) in
    sym (from_frame p a.attrs) ∙ ap (λ (f : Frame). packet_from f (list_of p)) frames ∙ ap (λ (l : List SimAttr). packet_from (frame_of q b.attrs) l) lists ∙ from_frame q b.attrs

-- ---- faults

-- the fault that a refusal names
abbrev fault_of : SimRefusal → PacketFault
fault_of refusal.Short = Before faults.Short
fault_of refusal.BadCode = Before faults.BadCode
fault_of refusal.LengthDisagrees = Before faults.LengthDisagrees
fault_of (refusal.OtherType kind) = Before (faults.OtherType kind)
fault_of (refusal.UnknownSubtype number) = Before (faults.UnknownSubtype number)
fault_of (refusal.Attr fault) = Within fault
fault_of refusal.NoMemory = Within attr_refusal.NoMemory

-- the refusal that names a fault
abbrev refusal_of : PacketFault → SimRefusal
refusal_of (Before faults.Short) = refusal.Short
refusal_of (Before faults.BadCode) = refusal.BadCode
refusal_of (Before faults.LengthDisagrees) = refusal.LengthDisagrees
refusal_of (Before (faults.OtherType kind)) = refusal.OtherType kind
refusal_of (Before (faults.UnknownSubtype number)) = refusal.UnknownSubtype number
refusal_of (Within fault) = refusal.Attr fault

-- a refusal is that of its fault
from_fault : (f : SimRefusal) → f ≢ refusal.NoMemory → refusal_of (fault_of f) ≡ f
from_fault refusal.Short n = refl
from_fault refusal.BadCode n = refl
from_fault refusal.LengthDisagrees n = refl
from_fault (refusal.OtherType kind) n = refl
from_fault (refusal.UnknownSubtype number) n = refl
from_fault (refusal.Attr fault) n = refl
from_fault refusal.NoMemory n = absurd (n refl)

-- a refusal names the first fault
first_is : (bytes : List ℕ) (f : SimRefusal) → f ≢ refusal.NoMemory → FirstSimFault bytes f → IsFirstSimFault bytes (fault_of f)
first_is bytes refusal.Short n p = p
first_is bytes refusal.BadCode n p = p
first_is bytes refusal.LengthDisagrees n p = p
first_is bytes (refusal.OtherType kind) n p = p
first_is bytes (refusal.UnknownSubtype number) n p = p
first_is bytes (refusal.Attr fault) n p = p
first_is bytes refusal.NoMemory n p = absurd (n refl)

-- two refusals that are one have one fault
err_is : (e f : FrameFault) → ◌≡◌ {A = Result Frame FrameFault} (Err e) (Err f) → e ≡ f
err_is e f h = cc

-- a frame is no fault
ok_or_err : (f : Frame) (e : FrameFault) → ◌≡◌ {A = Result Frame FrameFault} (Ok f) (Err e) → ⊥
ok_or_err f e h = cc

-- bytes have one first fault, before their attributes or in them
one_packet_fault : (bytes : List ℕ) (x y : PacketFault) → IsFirstSimFault bytes x → IsFirstSimFault bytes y → x ≡ y
one_packet_fault bytes (Before e) (Before f) p q = ap (λ x. Before x) (err_is e f (sym p ∙ q))
one_packet_fault bytes (Before e) (Within f) p q =
    absurd (ok_or_err _ e (sym (frame_again_in tables.Sim (Message q.1.request q.1.id q.1.kind q.1.subtype q.1.attrs) bytes q.1.framed) ∙ p))
one_packet_fault bytes (Within e) (Before f) p q =
    absurd (ok_or_err _ f (sym (frame_again_in tables.Sim (Message p.1.request p.1.id p.1.kind p.1.subtype p.1.attrs) bytes p.1.framed) ∙ q))
one_packet_fault bytes (Within e) (Within f) p q =
    let a = p.1 in
    let b = q.1 in
    let frames = one_frame bytes (Message a.request a.id a.kind a.subtype a.attrs) (Message b.request b.id b.kind b.subtype b.attrs) a.framed b.framed in
    let attrs : a.attrs ≡ b.attrs = ap (λ (f : Frame). attrs_of f) frames in
    ap (λ x. Within x) (one_fault_in tables.Sim a.attrs e f p.0 q.0 a.first (subst (λ (x : List ℕ). FirstFaultIn tables.Sim x f) (sym attrs) b.first))

-- bytes have one refusal
pub one_first_fault : OneFault
one_first_fault bytes f g nf ng p q =
    sym (from_fault f nf) ∙ ap (λ (x : PacketFault). refusal_of x) (one_packet_fault bytes (fault_of f) (fault_of g) (first_is bytes f nf p) (first_is bytes g ng q)) ∙ from_fault g ng

-- bytes with a first fault are no packet
not_both : (bytes : List ℕ) (p : SimPacket) (x : PacketFault) → IsFirstSimFault bytes x → IsRead bytes p → ⊥
not_both bytes p (Before e) q a = ok_or_err (frame_of p a.attrs) e (sym (frame_again_in tables.Sim (frame_of p a.attrs) bytes a.framed) ∙ q)
not_both bytes p (Within e) q a =
    let b = q.1 in
    let frames = one_frame bytes (frame_of p a.attrs) (Message b.request b.id b.kind b.subtype b.attrs) a.framed b.framed in
    let attrs : a.attrs ≡ b.attrs = sym a.own ∙ ap (λ (f : Frame). attrs_of f) frames in
    refused_is_not_read_in tables.Sim b.attrs (items (list_of p)) e q.0 b.first (subst (λ (x : List ℕ). ReadsSimAttrs x (list_of p)) attrs a.listed).0

-- bytes that are refused are no packet
pub refused_is_no_packet : RefusedIsNotRead
refused_is_no_packet bytes p f nf q r = not_both bytes p (fault_of f) (first_is bytes f nf q) (read_is bytes p r)

-- ---- what is read may be written

-- the attributes of a message are bytes
attrs_are_bytes : (request : Bool) (id kind number : ℕ) (attrs bytes : List ℕ) → AreBytes bytes → IsMessageIn tables.Sim request id kind number attrs bytes → AreBytes attrs
attrs_are_bytes request id kind number attrs bytes fits p =
    let front = message_code request ∷ id ∷ (to_be_bytes w16 (8 + length attrs) ++ (kind ∷ number ∷ p.reserved)) in
    let behind : drop 8 bytes ≡ attrs ++ p.past = ap (λ (b : List ℕ). drop 8 b) p.parts ∙ drop_at front (attrs ++ p.past) 8 (omega (arith, p.two)) in
    let these : take (length attrs) (drop 8 bytes) ≡ attrs = ap (λ (b : List ℕ). take (length attrs) b) behind ∙ take_at attrs p.past (length attrs) refl in
    subst AreBytes these (IsBytes-take (length attrs) (drop 8 bytes) (IsBytes-drop 8 bytes fits))

-- Length of a Success or Failure is 4
ended_length : (success : Bool) (id : ℕ) (bytes : List ℕ) → IsEnded success id bytes → (4 ≡ length_of bytes) × (length_of bytes ≤ length bytes)
ended_length success id bytes p =
    let number : length_of bytes ≡ 4 = ap (λ (b : List ℕ). length_of b) p.parts in
    (sym number, omega (arith, number, ap length p.parts))

-- what is read may be written, in as many bytes as Length says
pub read_may_be_written : ReadIsWritable
read_may_be_written bytes (packet.Success id) fits r = let e = ended_length true id bytes r in (refl, e.0, e.1)
read_may_be_written bytes (packet.Failure id) fits r = let e = ended_length false id bytes r in (refl, e.0, e.1)
read_may_be_written bytes (packet.Sim request id subtype list) fits r =
    let w = read_is_writable_in tables.Sim r.0 (items list) (attrs_are_bytes request id sim_type subtype r.0 bytes fits r.1) r.2.0 in
    let within = attrs_within_in tables.Sim request id sim_type subtype r.0 bytes r.1 in (
      and_from (is_subtype_in tables.Sim subtype) (writable list) r.1.known (and_from (writable_in tables.Sim (items list)) (list_all is_named list) w.0 r.2.1),
      omega (arith, w.1, within.0),
      within.1,
    )
