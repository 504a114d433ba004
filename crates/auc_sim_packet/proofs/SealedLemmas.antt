-- A sealed message: how it is written, and how it is received, whatever follows it.
use Rattle.std.proofs.Common.{◌≡◌, ℕ, ◌+◌, ◌≤◌, Bool, true, false, cond, ◌==◌, ◌&&◌, ◌||◌, List, [], ◌∷◌, ◌++◌, length, take, drop, Option, Some, None, Result, Ok, refl, sym, ap, ◌∙◌, subst, arith, append_assoc, length-append}
use Rattle.std.specs.Int.{w16, to_be_bytes}
use Rattle.std.specs.List.{list_all, list_any}
use Rattle.std.proofs.lemmas.List.{append-nil, take_at, drop_at}
use Rattle.std.proofs.lemmas.List.Concat.{flat_map-append}
use Rattle.std.proofs.lemmas.Nat.{from_be_bytes-to_be_bytes_2}
use Rattle.std.proofs.lemmas.Slice.Eq.{bytes_eq-Decides}
use Rattle.auc_attr.specs.declared.frame.FrameFault.{FrameFault}
use Rattle.auc_attr.specs.declared.table.Table.TheVariants as tables
use Rattle.auc_attr.specs.Frame.{Frame, Message, frame_at_in, is_subtype_in, length_of, message_code}
use Rattle.auc_attr.specs.Item.{Item, item}
use Rattle.auc_attr.specs.Mac.{mac_from_in, IsMacOfIn, IsMacPlaceIn}
use Rattle.auc_attr.specs.Spelling.{item_text_in, sim_item_text, texts_in, shape_text, may_follow_in, may_stand_row, stands_in, fits_item_in, sim_fits_item, fits, writable_from_in, writable_in}
use Rattle.auc_attr.specs.Table.{row_in, sim_row_of}
use Rattle.auc_attr.proofs.Facts.{and_from, and_parts, frame_again_in, one_place_in}
use Rattle.auc_hmac.specs.Mac.{no_mac, mac_value, mac_of, mac_at}
use Rattle.auc_hmac.specs.declared.method.Method.TheVariants as method
use Rattle.auc_hmac.proofs.Facts.{length-mac_of}
use Rattle.auc_sim_packet.specs.declared.attr.SimAttr.{SimAttr}
use Rattle.auc_sim_packet.specs.declared.attr.SimAttr.TheVariants as attr
use Rattle.auc_sim_packet.specs.declared.sealing.SimDraft.{SimDraft}
use Rattle.auc_sim_packet.specs.Attributes.{item_of, items, is_named, is_value}
use Rattle.auc_sim_packet.specs.InnerSealed.{front_of}
use Rattle.auc_sim_packet.specs.Packet.{sim_type}
use Rattle.auc_sim_packet.specs.Received.{is_sim_sealed_at, is_sim_sealed}
use Rattle.auc_sim_packet.specs.Sealed.{with_mac, draft_mac, sealed_packet, sim_sealed, MayBeSealedSim, SealedIsRead, SealedIsRight}
use Rattle.auc_sim_packet.specs.Spelling.{spelling, whole, sim_text, writable, MayBeWrittenSim}
use Rattle.auc_sim_packet.proofs.ListedLemmas.{all_push}
use Rattle.auc_sim_packet.proofs.PacketLemmas.{written_is_read}
use Rattle.auc_sim_packet.proofs.ReceivedLemmas.{written_is_received}

-- ---- the bytes of a message with AT_MAC

-- the spelling of AT_MAC
mac_text : (v : List ℕ) → length v ≡ 16 → item_text_in tables.Sim (item 11 v) ≡ 11 ∷ 5 ∷ 0 ∷ 0 ∷ v
unfolding sim_item_text sim_row_of shape_text
mac_text v sixteen =
    ap (λ (n : ℕ). 11 ∷ n ∷ 0 ∷ 0 ∷ (v ++ [])) (omega (arith, sixteen)) ∙ ap (λ (t : List ℕ). 11 ∷ 5 ∷ 0 ∷ 0 ∷ t) (append-nil v)

-- the items of a list with one more
items_push : (list : List SimAttr) (a : SimAttr) → items (list ++ a ∷ []) ≡ items list ++ item_of a ∷ []
items_push [] a = refl
items_push (b ∷ list) a = ap (λ (is : List Item). item_of b ∷ is) (items_push list a)

-- AT_MAC stands last
spelled : (list : List SimAttr) (v : List ℕ) → length v ≡ 16 → spelling (list ++ attr.Mac v ∷ []) ≡ spelling list ++ (11 ∷ 5 ∷ 0 ∷ 0 ∷ v)
spelled list v sixteen =
    ap (λ (is : List Item). texts_in tables.Sim is) (items_push list (attr.Mac v))
    ∙ flat_map-append (item_text_in tables.Sim) (items list) (item 11 v ∷ [])
    ∙ ap (λ (t : List ℕ). spelling list ++ t) (append-nil (item_text_in tables.Sim (item 11 v)) ∙ mac_text v sixteen)

-- how many bytes stand before the value
front_length : (d : SimDraft) → length (front_of d) ≡ 12 + length (spelling d.attrs)
front_length d = omega (arith, length-append (spelling d.attrs) (11 ∷ 5 ∷ 0 ∷ 0 ∷ []))

-- a message is what stands before the value, and the value
message_is : (d : SimDraft) (v : List ℕ) → length v ≡ 16 → sim_text (with_mac d v) ≡ front_of d ++ v
message_is d v sixteen =
    let s = spelling d.attrs in
    let t = s ++ (11 ∷ 5 ∷ 0 ∷ 0 ∷ v) in
    ap (λ (u : List ℕ). whole (message_code d.request) d.id (sim_type ∷ d.subtype ∷ 0 ∷ 0 ∷ u)) (spelled d.attrs v sixteen)
    ∙ ap (λ (n : ℕ). message_code d.request ∷ d.id ∷ (to_be_bytes w16 n ++ (sim_type ∷ d.subtype ∷ 0 ∷ 0 ∷ t)))
    (omega (arith, length-append s (11 ∷ 5 ∷ 0 ∷ 0 ∷ v), sixteen))
    ∙ ap (λ (u : List ℕ). message_code d.request ∷ d.id ∷ (to_be_bytes w16 (28 + length s) ++ (sim_type ∷ d.subtype ∷ 0 ∷ 0 ∷ u)))
    (sym (append_assoc s (11 ∷ 5 ∷ 0 ∷ 0 ∷ []) v))

-- how many bytes a message has
message_length : (d : SimDraft) (v : List ℕ) → length v ≡ 16 → length (sim_text (with_mac d v)) ≡ length (front_of d) + 16
message_length d v sixteen = omega (arith, ap length (message_is d v sixteen), length-append (front_of d) v, sixteen)

-- ---- what may be sealed

-- the facts of a message that may be sealed
record IsSealable (d : SimDraft) (v : List ℕ) : Type 0 where
  known : is_subtype_in tables.Sim d.subtype ≡ true
  fits : writable_from_in tables.Sim [] (items d.attrs ++ item 11 v ∷ []) ≡ true
  named : list_all is_named (d.attrs ++ attr.Mac v ∷ []) ≡ true

-- a message that may be written with a value is one
sealable : (d : SimDraft) (v : List ℕ) → MayBeWrittenSim (with_mac d v) → IsSealable d v
sealable d v may =
    let list = d.attrs ++ attr.Mac v ∷ [] in
    let p = and_parts (is_subtype_in tables.Sim d.subtype) (writable list) may.parts in
    let q = and_parts (writable_in tables.Sim (items list)) (list_all is_named list) p.1 in
    record { known = p.0; fits = ap (λ (is : List Item). writable_in tables.Sim is) (sym (items_push d.attrs (attr.Mac v))) ∙ q.0; named = q.1 }

-- the front of items that may be written may be
front_from : (seen : List ℕ) (is : List Item) (i : Item) → writable_from_in tables.Sim seen (is ++ i ∷ []) ≡ true → writable_from_in tables.Sim seen is ≡ true
front_from seen [] i e = refl
front_from seen (j ∷ is) i e =
    let parts = and_parts (may_follow_in tables.Sim j (stands_in seen j.kind)) (writable_from_in tables.Sim (seen ++ j.kind ∷ []) (is ++ i ∷ [])) e in
    and_from (may_follow_in tables.Sim j (stands_in seen j.kind)) (writable_from_in tables.Sim (seen ++ j.kind ∷ []) is) parts.0 (front_from (seen ++ j.kind ∷ []) is i parts.1)

-- the front of a list of which each passes a test
all_front : (test : SimAttr → Bool) (list : List SimAttr) (a : SimAttr) → list_all test (list ++ a ∷ []) ≡ true → list_all test list ≡ true
all_front test [] a e = refl
all_front test (b ∷ list) a e =
    let p = and_parts (test b) (list_all test (list ++ a ∷ [])) e in
    and_from (test b) (list_all test list) p.0 (all_front test list a p.1)

-- the attributes before AT_MAC may be written
pub front_writable : (d : SimDraft) → MayBeSealedSim d → writable d.attrs ≡ true
front_writable d may =
    let s = sealable d no_mac may in
    and_from (writable_in tables.Sim (items d.attrs)) (list_all is_named d.attrs) (front_from [] (items d.attrs) (item 11 no_mac) s.fits) (all_front is_named d.attrs (attr.Mac no_mac) s.named)

-- a message that may be sealed is small
pub front_small : (d : SimDraft) → MayBeSealedSim d → 28 + length (spelling d.attrs) ≤ 4096
front_small d may = omega (arith, may.size, message_length d no_mac refl, front_length d)

-- ---- what is written

-- the bytes that are written are those of the sealed message
pub sealed_is : (d : SimDraft) (k extra front mac : List ℕ) → front ≡ front_of d → mac ≡ mac_of method.Aka k (front ++ (no_mac ++ extra))
    → front ++ mac ≡ sim_sealed k extra d
sealed_is d k extra front mac is m =
    let input : front ++ (no_mac ++ extra) ≡ sim_text (with_mac d no_mac) ++ extra =
    ap (λ (t : List ℕ). t ++ (no_mac ++ extra)) is ∙ sym (append_assoc (front_of d) no_mac extra) ∙ ap (λ (t : List ℕ). t ++ extra) (sym (message_is d no_mac refl)) in
    let value : mac ≡ draft_mac k extra d = m ∙ ap (λ (t : List ℕ). mac_of method.Aka k t) input in
    ap (λ (t : List ℕ). t ++ mac) is ∙ ap (λ (v : List ℕ). front_of d ++ v) value
    ∙ sym (message_is d (draft_mac k extra d) (length-mac_of method.Aka k (sim_text (with_mac d no_mac) ++ extra)))

-- ---- any value of 16 bytes may stand there

-- AT_MAC may follow with any value
last_follows : (v w : List ℕ) (stood : Bool) → length v ≡ 16 → length w ≡ 16 → may_follow_in tables.Sim (item 11 v) stood ≡ may_follow_in tables.Sim (item 11 w) stood
unfolding sim_fits_item fits sim_row_of
last_follows v w stood e f = rw (e, f) refl

-- AT_MAC may stand last with any value
any_from : (seen : List ℕ) (is : List Item) (v w : List ℕ) → length v ≡ 16 → length w ≡ 16
    → writable_from_in tables.Sim seen (is ++ item 11 v ∷ []) ≡ writable_from_in tables.Sim seen (is ++ item 11 w ∷ [])
any_from seen [] v w e f = ap (λ (b : Bool). b && true) (last_follows v w (stands_in seen 11) e f)
any_from seen (i ∷ is) v w e f = ap (λ (b : Bool). may_follow_in tables.Sim i (stands_in seen i.kind) && b) (any_from (seen ++ i.kind ∷ []) is v w e f)

-- a message that may be sealed may be written with any value of 16 bytes
any_mac : (d : SimDraft) (v : List ℕ) → MayBeSealedSim d → length v ≡ 16 → MayBeWrittenSim (with_mac d v)
any_mac d v may e =
    let s = sealable d no_mac may in
    let list = d.attrs ++ attr.Mac v ∷ [] in
    let fits : writable_in tables.Sim (items list) ≡ true =
    ap (λ (is : List Item). writable_in tables.Sim is) (items_push d.attrs (attr.Mac v)) ∙ any_from [] (items d.attrs) v no_mac e refl ∙ s.fits in
    let named = all_push is_named d.attrs (attr.Mac v) (all_front is_named d.attrs (attr.Mac no_mac) s.named) refl in
    record {
      parts = and_from (is_subtype_in tables.Sim d.subtype) (writable list) s.known (and_from (writable_in tables.Sim (items list)) (list_all is_named list) fits named);
      size = omega (arith, may.size, message_length d v e, message_length d no_mac refl);
    }

-- the sealed message may be written
pub sealed_may : (k extra : List ℕ) (d : SimDraft) → MayBeSealedSim d → MayBeWrittenSim (sealed_packet k extra d)
sealed_may k extra d may = any_mac d (draft_mac k extra d) may (length-mac_of method.Aka k (sim_text (with_mac d no_mac) ++ extra))

-- ---- AT_MAC stands once

or_parts : (b c : Bool) → (b || c) ≡ false → (b ≡ false) × (c ≡ false)
or_parts true c e = absurd cc
or_parts false c e = (refl, e)

or_from : (b c : Bool) → b ≡ false → c ≡ false → (b || c) ≡ false
or_from b c e f = rw (e, f) refl

-- a type that doesn't stand in a list with one more stands neither there nor last
none_push : (seen : List ℕ) (kind : ℕ) → stands_in (seen ++ kind ∷ []) 11 ≡ false → (stands_in seen 11 ≡ false) × ((kind == 11) ≡ false)
none_push [] kind e = (refl, (or_parts (kind == 11) false e).0)
none_push (other ∷ seen) kind e =
    let p = or_parts (other == 11) (stands_in (seen ++ kind ∷ []) 11) e in
    let q = none_push seen kind p.1 in
    (or_from (other == 11) (stands_in seen 11) p.0 q.0, q.1)

-- an AT_MAC that may follow is the first
first_by : (stood : Bool) → may_stand_row (row_in tables.Sim 11) stood ≡ true → stood ≡ false
unfolding sim_row_of
first_by true e = absurd cc
first_by false e = refl

-- attributes that AT_MAC may follow have none
none_before : (seen : List ℕ) (is : List Item) (v : List ℕ) → writable_from_in tables.Sim seen (is ++ item 11 v ∷ []) ≡ true
    → (stands_in seen 11 ≡ false) × (list_any (λ i. i.kind == 11) is ≡ false)
none_before seen [] v e =
    let follows = (and_parts (may_follow_in tables.Sim (item 11 v) (stands_in seen 11)) true e).0 in
    (first_by (stands_in seen 11) (and_parts (fits_item_in tables.Sim (item 11 v)) (may_stand_row (row_in tables.Sim 11) (stands_in seen 11)) follows).1, refl)
none_before seen (i ∷ is) v e =
    let later = none_before (seen ++ i.kind ∷ []) is v (and_parts (may_follow_in tables.Sim i (stands_in seen i.kind)) (writable_from_in tables.Sim (seen ++ i.kind ∷ []) (is ++ item 11 v ∷ [])) e).1 in
    let p = none_push seen i.kind later.0 in
    (p.0, or_from (i.kind == 11) (list_any (λ j. j.kind == 11) is) p.1 later.1)

-- ---- the place of the value

last_by : (b c : Bool) (o p : Option ℕ) (start : ℕ) → (b || c) ≡ false → (c ≡ false → o ≡ p) → cond b (Some (start + 4)) o ≡ p
last_by true c o p start e f = absurd cc
last_by false c o p start e f = f e

last_there : (start : ℕ) (is : List Item) (v : List ℕ) → list_any (λ i. i.kind == 11) is ≡ false
    → mac_from_in tables.Sim start (is ++ item 11 v ∷ []) ≡ Some (start + length (texts_in tables.Sim is) + 4)
last_there start [] v e = ap (λ (n : ℕ). Some (n + 4)) (omega arith)
last_there start (i ∷ is) v e =
    let later = start + length (item_text_in tables.Sim i) in
    last_by (i.kind == 11) (list_any (λ j. j.kind == 11) is) (mac_from_in tables.Sim later (is ++ item 11 v ∷ [])) (Some (start + length (texts_in tables.Sim (i ∷ is)) + 4)) start e
    (λ f. last_there later is v f ∙ ap (λ (n : ℕ). Some (n + 4)) (omega (arith, length-append (item_text_in tables.Sim i) (texts_in tables.Sim is))))

-- a message's value stands after its front, whatever follows the message
place_past : (d : SimDraft) (v past : List ℕ) → MayBeSealedSim d → length v ≡ 16 → IsMacPlaceIn tables.Sim (sim_text (with_mac d v) ++ past) (Some (length (front_of d)))
place_past d v past may e =
    let text = sim_text (with_mac d v) ++ past in
    let list = d.attrs ++ attr.Mac v ∷ [] in
    let r = written_is_read (with_mac d v) past (any_mac d v may e) in
    let found : frame_at_in tables.Sim text ≡ Ok (Message d.request d.id sim_type d.subtype r.0) =
    frame_again_in tables.Sim (Message d.request d.id sim_type d.subtype r.0) text r.1 in
    let none = none_before [] (items d.attrs) no_mac (sealable d no_mac may).fits in
    let place : Some (length (front_of d)) ≡ mac_from_in tables.Sim 8 (items list) =
    ap (λ (n : ℕ). Some n) (front_length d ∙ omega arith)
    ∙ sym (last_there 8 (items d.attrs) v none.1) ∙ ap (λ (is : List Item). mac_from_in tables.Sim 8 is) (sym (items_push d.attrs (attr.Mac v))) in
    subst (λ (f : Result Frame FrameFault). IsMacOfIn tables.Sim f (Some (length (front_of d)))) (sym found) (items list, None, r.2.0, place)

-- ---- the value

-- bytes with 16 others in their place
abbrev with_value : List ℕ → ℕ → List ℕ → List ℕ
with_value bytes place w = take place bytes ++ (w ++ drop (place + 16) bytes)

value_between : (front v past w : List ℕ) → length v ≡ 16 → with_value ((front ++ v) ++ past) (length front) w ≡ (front ++ w) ++ past
value_between front v past w e =
    ap (λ (t : List ℕ). take (length front) t ++ (w ++ drop (length front + 16) ((front ++ v) ++ past))) (append_assoc front v past)
    ∙ ap (λ (t : List ℕ). t ++ (w ++ drop (length front + 16) ((front ++ v) ++ past))) (take_at front (v ++ past) (length front) refl)
    ∙ ap (λ (t : List ℕ). front ++ (w ++ t)) (drop_at (front ++ v) past (length front + 16) (length-append front v ∙ omega (arith, e)))
    ∙ sym (append_assoc front w past)

value_there : (front v past : List ℕ) → length v ≡ 16 → mac_value ((front ++ v) ++ past) (length front) ≡ v
value_there front v past e =
    ap (λ (t : List ℕ). take 16 (drop (length front) t)) (append_assoc front v past)
    ∙ ap (λ (t : List ℕ). take 16 t) (drop_at front (v ++ past) (length front) refl) ∙ take_at v past 16 e

-- Length counts the message alone
length_past : (code id : ℕ) (rest past : List ℕ) → length (whole code id rest) ≤ 4096 → length_of (whole code id rest ++ past) ≡ length (whole code id rest)
length_past code id rest past small = from_be_bytes-to_be_bytes_2 (4 + length rest) (omega (arith, small)) ∙ omega arith

-- the value of a sealed message is right, whatever follows the message
value_right : (k extra past : List ℕ) (d : SimDraft) → MayBeSealedSim d
    → mac_value (sim_sealed k extra d ++ past) (length (front_of d)) ≡ mac_at method.Aka k (length_of (sim_sealed k extra d ++ past)) (sim_sealed k extra d ++ past) (length (front_of d)) extra
value_right k extra past d may =
    let v = draft_mac k extra d in
    let e : length v ≡ 16 = length-mac_of method.Aka k (sim_text (with_mac d no_mac) ++ extra) in
    let place = length (front_of d) in
    let bytes = sim_sealed k extra d ++ past in
    let zeroed = sim_text (with_mac d no_mac) in
    let is : bytes ≡ (front_of d ++ v) ++ past = ap (λ (t : List ℕ). t ++ past) (message_is d v e) in
    let zero : with_value bytes place no_mac ≡ zeroed ++ past =
    ap (λ (b : List ℕ). with_value b place no_mac) is ∙ value_between (front_of d) v past no_mac e ∙ ap (λ (t : List ℕ). t ++ past) (sym (message_is d no_mac refl)) in
    let size : length_of bytes ≡ length zeroed =
    length_past (message_code d.request) d.id (sim_type ∷ d.subtype ∷ 0 ∷ 0 ∷ spelling (d.attrs ++ attr.Mac v ∷ [])) past (any_mac d v may e).size
    ∙ omega (arith, message_length d v e, message_length d no_mac refl) in
    ap (λ (b : List ℕ). mac_value b place) is ∙ value_there (front_of d) v past e
    ∙ sym (ap (λ (t : List ℕ). mac_of method.Aka k (take (length_of bytes) t ++ extra)) zero
    ∙ ap (λ (n : ℕ). mac_of method.Aka k (take n (zeroed ++ past) ++ extra)) size
    ∙ ap (λ (t : List ℕ). mac_of method.Aka k (t ++ extra)) (take_at zeroed past (length zeroed) refl))

-- a sealed message is received with a right MAC
pub sealed_is_right : SealedIsRight
unfolding is_sim_sealed
sealed_is_right k extra past d seen may received is =
    let bytes = sim_sealed k extra d ++ past in
    let place = length (front_of d) in
    let e : length (draft_mac k extra d) ≡ 16 = length-mac_of method.Aka k (sim_text (with_mac d no_mac) ++ extra) in
    let there : seen.place ≡ Some place =
    one_place_in tables.Sim bytes seen.place (Some place) (subst (λ (b : List ℕ). IsMacPlaceIn tables.Sim b seen.place) is received.placed) (place_past d (draft_mac k extra d) past may e) in
    ap (λ (b : List ℕ). is_sim_sealed_at k extra b seen.place) is
    ∙ ap (λ (o : Option ℕ). is_sim_sealed_at k extra bytes o) there
    ∙ (bytes_eq-Decides (mac_value bytes place) (mac_at method.Aka k (length_of bytes) bytes place extra)).1 (value_right k extra past d may)

-- ---- the reading

-- a sealed message is received as itself
pub sealed_is_read : SealedIsRead
sealed_is_read k extra past d seen may values received is =
    written_is_received (sealed_packet k extra d) past seen (sealed_may k extra d may) (all_push is_value d.attrs (attr.Mac (draft_mac k extra d)) values refl) received is
