-- The laws of packets.
use Rattle.std.proofs.Common.{◌≡◌, ◌≢◌, ℕ, ◌+◌, ◌≤◌, Bool, true, false, ◌==◌, List, [], ◌∷◌, ◌++◌, length, take, drop, Result, Ok, Err, refl, sym, ap, ◌∙◌, subst, arith, length-append, if◌then◌else◌}
use Rattle.std.specs.List.{list_all}
use Rattle.std.specs.Int.{w16, to_be_bytes}
use Rattle.std.proofs.lemmas.List.{take_at, drop_at}
use Rattle.std.proofs.lemmas.Nat.{from_be_bytes-to_be_bytes_2}
use Rattle.auc_hmac.specs.declared.method.Method.{Method}
use Rattle.auc_hmac.specs.declared.method.Method.TheVariants as method
use Rattle.auc_attr.specs.declared.attr.Attr.{Attr}
use Rattle.auc_attr.specs.declared.frame.FrameFault.{FrameFault}
use Rattle.auc_attr.specs.declared.frame.FrameFault.TheVariants as faults
use Rattle.auc_attr.specs.declared.refusal.AttrRefusal.TheVariants as attr_refusal
use Rattle.auc_attr.specs.Frame.{Frame, Ended, Named, Message, is_method, is_subtype, length_of, message_code, IsEnded, IsMessage, IsFramed}
use Rattle.auc_attr.specs.Grammar.{FirstFault, ReadsAttrs}
use Rattle.auc_attr.specs.Laws.{AreBytes, is_value}
use Rattle.auc_attr.specs.PacketFault.{PacketFault, Before, Within, IsFirstFault}
use Rattle.auc_attr.specs.Spelling.{spelling}
use Rattle.auc_attr.proofs.Facts.{frame_again, attrs_within, one_list, one_fault, refused_is_not_read, read_is_writable, written_attributes_are_read, IsBytes-take, IsBytes-drop}
use Rattle.auc_packet.specs.declared.packet.Packet.{Packet}
use Rattle.auc_packet.specs.declared.packet.Packet.TheVariants as packet
use Rattle.auc_packet.specs.declared.refusal.PacketRefusal.{PacketRefusal}
use Rattle.auc_packet.specs.declared.refusal.PacketRefusal.TheVariants as refusal
use Rattle.auc_packet.specs.declared.subtype.Subtype.{Subtype}
use Rattle.auc_packet.specs.declared.subtype.Subtype.TheVariants as subtype
use Rattle.auc_packet.specs.Laws.{has_values, OnePacket, OneFault, RefusedIsNotRead, WrittenIsRead, ReadIsWritable}
use Rattle.auc_packet.specs.Packet.{method_type, subtype_number, ReadsPacket, FirstPacketFault}

-- ---- what is written is read

-- each method has its type
method_known : (m : Method) → is_method (method_type m) ≡ true
method_known method.Aka = refl
method_known method.Prime = refl

-- each Subtype has its number
subtype_known : (s : Subtype) → is_subtype (subtype_number s) ≡ true
subtype_known subtype.Challenge = refl
subtype_known subtype.AuthenticationReject = refl
subtype_known subtype.SynchronizationFailure = refl
subtype_known subtype.Identity = refl
subtype_known subtype.Notification = refl
subtype_known subtype.Reauthentication = refl
subtype_known subtype.ClientError = refl

-- what is written is read, whatever follows it
pub written_is_read : WrittenIsRead
written_is_read (packet.Success id) past w = record { past = past; parts = refl }
written_is_read (packet.Failure id) past w = record { past = past; parts = refl }
written_is_read (packet.Identity request id text) past w = record {
  size = omega (arith, w.size);
  past = past;
  parts = ap (λ (n : ℕ). message_code request ∷ id ∷ (to_be_bytes w16 n ++ (1 ∷ (text ++ past)))) (omega arith);
}
written_is_read (packet.Aka request id m s list) past w =
    let attrs = spelling list in (
      attrs,
      record {
        method = method_known m;
        known = subtype_known s;
        size = omega (arith, w.size);
        reserved = 0 ∷ 0 ∷ [];
        two = refl;
        past = past;
        parts = ap (λ (n : ℕ). message_code request ∷ id ∷ (to_be_bytes w16 n ++ (method_type m ∷ subtype_number s ∷ 0 ∷ 0 ∷ (attrs ++ past)))) (omega arith);
      },
      written_attributes_are_read list w.attrs,
    )

-- ---- bytes are one packet

-- two answers that are one have one frame
ok_frame : (f g : Frame) → ◌≡◌ {A = Result Frame FrameFault} (Ok f) (Ok g) → f ≡ g
ok_frame f g e = cc

-- one frame stands in bytes
one_frame : (bytes : List ℕ) (f g : Frame) → IsFramed f bytes → IsFramed g bytes → f ≡ g
one_frame bytes f g p q = ok_frame f g (sym (frame_again f bytes p) ∙ frame_again g bytes q)

-- the method of a type
abbrev method_from : ℕ → Method
method_from n = if n == 23 then method.Aka else method.Prime

-- the Subtype of a number
abbrev subtype_from : ℕ → Subtype
subtype_from n =
    if n == 1 then subtype.Challenge
    else if n == 2 then subtype.AuthenticationReject
    else if n == 4 then subtype.SynchronizationFailure
    else if n == 5 then subtype.Identity
    else if n == 12 then subtype.Notification
    else if n == 13 then subtype.Reauthentication
    else subtype.ClientError

-- a method is that of its type
from_kind : (m : Method) → method_from (method_type m) ≡ m
from_kind method.Aka = refl
from_kind method.Prime = refl

-- a Subtype is that of its number
from_number : (s : Subtype) → subtype_from (subtype_number s) ≡ s
from_number subtype.Challenge = refl
from_number subtype.AuthenticationReject = refl
from_number subtype.SynchronizationFailure = refl
from_number subtype.Identity = refl
from_number subtype.Notification = refl
from_number subtype.Reauthentication = refl
from_number subtype.ClientError = refl

-- a packet from its frame and its list
abbrev packet_from : Frame → List Attr → Packet
packet_from (Ended success id) list = if success then packet.Success id else packet.Failure id
packet_from (Named request id text) list = packet.Identity request id text
packet_from (Message request id kind number attrs) list = packet.Aka request id (method_from kind) (subtype_from number) list

-- a packet's attributes
abbrev list_of : Packet → List Attr
list_of (packet.Aka request id m s list) = list
list_of _ = []

-- a packet's frame around the bytes of its attributes
abbrev frame_of : Packet → List ℕ → Frame
frame_of (packet.Success id) attrs = Ended true id
frame_of (packet.Failure id) attrs = Ended false id
frame_of (packet.Identity request id text) attrs = Named request id text
frame_of (packet.Aka request id m s list) attrs = Message request id (method_type m) (subtype_number s) attrs

-- a frame's bytes of attributes
abbrev attrs_of : Frame → List ℕ
attrs_of (Message request id kind number attrs) = attrs
attrs_of _ = []

-- a packet is that of its frame and its attributes
from_frame : (p : Packet) (attrs : List ℕ) → packet_from (frame_of p attrs) (list_of p) ≡ p
from_frame (packet.Success id) attrs = refl
from_frame (packet.Failure id) attrs = refl
from_frame (packet.Identity request id text) attrs = refl
from_frame (packet.Aka request id m s list) attrs =
    ap (λ n. packet.Aka request id n (subtype_from (subtype_number s)) list) (from_kind m) ∙ ap (λ t. packet.Aka request id m t list) (from_number s)

-- a packet's frame stands in the bytes, and its list in the attributes
record IsRead (bytes : List ℕ) (p : Packet) : Type 0 where
  attrs : List ℕ
  framed : IsFramed (frame_of p attrs) bytes
  own : attrs_of (frame_of p attrs) ≡ attrs
  listed : ReadsAttrs attrs (list_of p)

-- a packet that bytes are has its frame and its attributes there
read_is : (bytes : List ℕ) (p : Packet) → ReadsPacket bytes p → IsRead bytes p
read_is bytes (packet.Success id) r = record { attrs = []; framed = r; own = refl; listed = (refl, refl) }
read_is bytes (packet.Failure id) r = record { attrs = []; framed = r; own = refl; listed = (refl, refl) }
read_is bytes (packet.Identity request id text) r = record { attrs = []; framed = r; own = refl; listed = (refl, refl) }
read_is bytes (packet.Aka request id m s list) r = record { attrs = r.0; framed = r.1; own = refl; listed = r.2 }

-- the numbers of a packet are those of its attributes
values_of : (p : Packet) → has_values p ≡ true → list_all is_value (list_of p) ≡ true
values_of (packet.Success id) e = refl
values_of (packet.Failure id) e = refl
values_of (packet.Identity request id text) e = refl
values_of (packet.Aka request id m s list) e = e

-- bytes are one packet
pub one_packet : OnePacket
one_packet bytes p q vp vq rp rq =
    let a = read_is bytes p rp in
    let b = read_is bytes q rq in
    let frames : frame_of p a.attrs ≡ frame_of q b.attrs = one_frame bytes _ _ a.framed b.framed in
    let attrs : a.attrs ≡ b.attrs = sym a.own ∙ ap (λ (f : Frame). attrs_of f) frames ∙ b.own in
    let lists : list_of p ≡ list_of q =
    one_list a.attrs (list_of p) (list_of q) (values_of p vp) (values_of q vq) a.listed (subst (λ (x : List ℕ). ReadsAttrs x (list_of q)) (sym attrs) b.listed) in
    sym (from_frame p a.attrs) ∙ ap (λ (f : Frame). packet_from f (list_of p)) frames ∙ ap (λ (l : List Attr). packet_from (frame_of q b.attrs) l) lists ∙ from_frame q b.attrs

-- ---- faults

-- the fault that a refusal names
abbrev fault_of : PacketRefusal → PacketFault
fault_of refusal.Short = Before faults.Short
fault_of refusal.BadCode = Before faults.BadCode
fault_of refusal.LengthDisagrees = Before faults.LengthDisagrees
fault_of (refusal.OtherType kind) = Before (faults.OtherType kind)
fault_of (refusal.UnknownSubtype number) = Before (faults.UnknownSubtype number)
fault_of (refusal.Attr fault) = Within fault
fault_of refusal.NoMemory = Within attr_refusal.NoMemory

-- the refusal that names a fault
abbrev refusal_of : PacketFault → PacketRefusal
refusal_of (Before faults.Short) = refusal.Short
refusal_of (Before faults.BadCode) = refusal.BadCode
refusal_of (Before faults.LengthDisagrees) = refusal.LengthDisagrees
refusal_of (Before (faults.OtherType kind)) = refusal.OtherType kind
refusal_of (Before (faults.UnknownSubtype number)) = refusal.UnknownSubtype number
refusal_of (Within fault) = refusal.Attr fault

-- a refusal is that of its fault
from_fault : (f : PacketRefusal) → f ≢ refusal.NoMemory → refusal_of (fault_of f) ≡ f
from_fault refusal.Short n = refl
from_fault refusal.BadCode n = refl
from_fault refusal.LengthDisagrees n = refl
from_fault (refusal.OtherType kind) n = refl
from_fault (refusal.UnknownSubtype number) n = refl
from_fault (refusal.Attr fault) n = refl
from_fault refusal.NoMemory n = absurd (n refl)

-- a refusal names the first fault
first_is : (bytes : List ℕ) (f : PacketRefusal) → f ≢ refusal.NoMemory → FirstPacketFault bytes f → IsFirstFault bytes (fault_of f)
first_is bytes refusal.Short n p = p
first_is bytes refusal.BadCode n p = p
first_is bytes refusal.LengthDisagrees n p = p
first_is bytes (refusal.OtherType kind) n p = p
first_is bytes (refusal.UnknownSubtype number) n p = p
first_is bytes (refusal.Attr fault) n p = p
first_is bytes refusal.NoMemory n p = absurd (n refl)

-- two refusals that are one have one fault
err_is : (e f : FrameFault) → ◌≡◌ {A = Result Frame FrameFault} (Err e) (Err f) → e ≡ f
err_is e f h = cc

-- a frame is no fault
ok_or_err : (f : Frame) (e : FrameFault) → ◌≡◌ {A = Result Frame FrameFault} (Ok f) (Err e) → ⊥
ok_or_err f e h = cc

-- bytes have one first fault, before their attributes or in them
one_packet_fault : (bytes : List ℕ) (x y : PacketFault) → IsFirstFault bytes x → IsFirstFault bytes y → x ≡ y
one_packet_fault bytes (Before e) (Before f) p q = ap (λ x. Before x) (err_is e f (sym p ∙ q))
one_packet_fault bytes (Before e) (Within f) p q = absurd (ok_or_err _ e (sym (frame_again (Message q.1.request q.1.id q.1.kind q.1.subtype q.1.attrs) bytes q.1.framed) ∙ p))
one_packet_fault bytes (Within e) (Before f) p q = absurd (ok_or_err _ f (sym (frame_again (Message p.1.request p.1.id p.1.kind p.1.subtype p.1.attrs) bytes p.1.framed) ∙ q))
one_packet_fault bytes (Within e) (Within f) p q =
    let a = p.1 in
    let b = q.1 in
    let frames = one_frame bytes (Message a.request a.id a.kind a.subtype a.attrs) (Message b.request b.id b.kind b.subtype b.attrs) a.framed b.framed in
    let attrs : a.attrs ≡ b.attrs = ap (λ (f : Frame). attrs_of f) frames in
    ap (λ x. Within x) (one_fault a.attrs e f p.0 q.0 a.first (subst (λ (x : List ℕ). FirstFault x f) (sym attrs) b.first))

-- bytes have one refusal
pub one_first_fault : OneFault
one_first_fault bytes f g nf ng p q =
    sym (from_fault f nf) ∙ ap (λ (x : PacketFault). refusal_of x) (one_packet_fault bytes (fault_of f) (fault_of g) (first_is bytes f nf p) (first_is bytes g ng q)) ∙ from_fault g ng

-- bytes with a first fault are no packet
not_both : (bytes : List ℕ) (p : Packet) (x : PacketFault) → IsFirstFault bytes x → IsRead bytes p → ⊥
not_both bytes p (Before e) q a = ok_or_err (frame_of p a.attrs) e (sym (frame_again (frame_of p a.attrs) bytes a.framed) ∙ q)
not_both bytes p (Within e) q a =
    let b = q.1 in
    let frames = one_frame bytes (frame_of p a.attrs) (Message b.request b.id b.kind b.subtype b.attrs) a.framed b.framed in
    let attrs : a.attrs ≡ b.attrs = sym a.own ∙ ap (λ (f : Frame). attrs_of f) frames in
    refused_is_not_read b.attrs (list_of p) e q.0 b.first (subst (λ (x : List ℕ). ReadsAttrs x (list_of p)) attrs a.listed)

-- bytes that are refused are no packet
pub refused_is_no_packet : RefusedIsNotRead
refused_is_no_packet bytes p f nf q r = not_both bytes p (fault_of f) (first_is bytes f nf q) (read_is bytes p r)

-- ---- what is read may be written

-- the attributes of a message are bytes
attrs_are_bytes : (request : Bool) (id kind number : ℕ) (attrs bytes : List ℕ) → AreBytes bytes → IsMessage request id kind number attrs bytes → AreBytes attrs
attrs_are_bytes request id kind number attrs bytes fits p =
    let front = message_code request ∷ id ∷ (to_be_bytes w16 (8 + length attrs) ++ (kind ∷ number ∷ p.reserved)) in
    let behind : drop 8 bytes ≡ attrs ++ p.past = ap (λ (b : List ℕ). drop 8 b) p.parts ∙ drop_at front (attrs ++ p.past) 8 (omega (arith, p.two)) in
    let these : take (length attrs) (drop 8 bytes) ≡ attrs = ap (λ (b : List ℕ). take (length attrs) b) behind ∙ take_at attrs p.past (length attrs) refl in
    subst AreBytes these (IsBytes-take (length attrs) (drop 8 bytes) (IsBytes-drop 8 bytes fits))

-- Length of a Success or Failure is 4
ended_length : (success : Bool) (id : ℕ) (bytes : List ℕ) → IsEnded success id bytes → (4 ≡ length_of bytes) × (length_of bytes ≤ length bytes)
ended_length success id bytes p =
    let number : length_of bytes ≡ 4 = ap (λ (b : List ℕ). length_of b) p.parts in
    (sym number, omega (arith, number, ap length p.parts))

-- what is read may be written, in as many bytes as Length says
pub read_may_be_written : ReadIsWritable
read_may_be_written bytes (packet.Success id) fits r = let e = ended_length true id bytes r in (refl, e.0, e.1)
read_may_be_written bytes (packet.Failure id) fits r = let e = ended_length false id bytes r in (refl, e.0, e.1)
read_may_be_written bytes (packet.Identity request id text) fits r =
    let number : length_of bytes ≡ 5 + length text = ap (λ (b : List ℕ). length_of b) r.parts ∙ from_be_bytes-to_be_bytes_2 (5 + length text) r.size in
    (refl, omega (arith, number), omega (arith, number, ap length r.parts, length-append text r.past))
read_may_be_written bytes (packet.Aka request id m s list) fits r =
    let w = read_is_writable r.0 list (attrs_are_bytes request id (method_type m) (subtype_number s) r.0 bytes fits r.1) r.2 in
    let within = attrs_within request id (method_type m) (subtype_number s) r.0 bytes r.1 in
    (w.0, omega (arith, w.1, within.0), within.1)
