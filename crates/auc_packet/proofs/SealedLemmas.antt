-- A sealed message: how it is written, and how it is received, whatever follows it.
use Rattle.std.proofs.Common.{◌≡◌, ℕ, ◌+◌, ◌-◌, ◌≤◌, Bool, true, false, cond, ◌==◌, ◌&&◌, ◌||◌, List, [], ◌∷◌, ◌++◌, length, take, drop, Option, Some, None, Result, Ok, refl, sym, ap, ◌∙◌, subst, arith, append_assoc, length-append}
use Rattle.std.specs.Int.{w16, to_be_bytes}
use Rattle.std.specs.List.{list_all, list_any}
use Rattle.std.proofs.lemmas.List.{append-nil, take_at, drop_at}
use Rattle.std.proofs.lemmas.List.Concat.{flat_map-append}
use Rattle.std.proofs.lemmas.Nat.{from_be_bytes-to_be_bytes_2}
use Rattle.std.proofs.lemmas.Slice.Eq.{bytes_eq-Decides}
use Rattle.auc_attr.specs.declared.attr.Attr.{Attr}
use Rattle.auc_attr.specs.declared.attr.Attr.TheVariants as attr
use Rattle.auc_attr.specs.declared.frame.FrameFault.{FrameFault}
use Rattle.auc_attr.specs.Frame.{Frame, Message, frame_at, length_of, message_code}
use Rattle.auc_attr.specs.Item.{Item, item, item_of, items, has}
use Rattle.auc_attr.specs.Laws.{is_value}
use Rattle.auc_attr.specs.Mac.{mac_from, IsMacOf, IsMacPlace}
use Rattle.auc_attr.specs.Spelling.{item_text, texts, spelling, shape_text, writable, writable_from, may_follow, may_stand_row, stands_in, fits_item, fits}
use Rattle.auc_attr.specs.Table.{row_of}
use Rattle.auc_attr.proofs.Facts.{and_from, and_parts, frame_again, one_place}
use Rattle.auc_memory.specs.Reserved.{Reserved, wrote}
use Rattle.auc_hmac.specs.Mac.{no_mac, mac_value, mac_of, mac_at}
use Rattle.auc_hmac.proofs.Facts.{length-mac_of}
use Rattle.auc_packet.specs.declared.received.Reading.TheVariants as reading
use Rattle.auc_packet.specs.declared.sealing.Draft.{Draft}
use Rattle.auc_packet.specs.InnerSealed.{front_of}
use Rattle.auc_packet.specs.Packet.{method_type, subtype_number}
use Rattle.auc_packet.specs.Received.{IsReading, is_sealed_at, is_sealed}
use Rattle.auc_packet.specs.Sealed.{with_mac, draft_mac, sealed, MayBeSealed, SealedIsRead, SealedIsRight}
use Rattle.auc_packet.specs.Spelling.{packet_text, whole, MayBeWritten}
use Rattle.auc_packet.proofs.LawLemmas.{written_is_read}
use Rattle.auc_packet.proofs.ReceivedLemmas.{one_reading}

-- ---- the bytes of a message with AT_MAC

-- the spelling of AT_MAC
mac_text : (v : List ℕ) → length v ≡ 16 → item_text (item 11 v) ≡ 11 ∷ 5 ∷ 0 ∷ 0 ∷ v
unfolding item_text row_of shape_text
mac_text v sixteen =
    ap (λ (n : ℕ). 11 ∷ n ∷ 0 ∷ 0 ∷ (v ++ [])) (omega (arith, sixteen)) ∙ ap (λ (t : List ℕ). 11 ∷ 5 ∷ 0 ∷ 0 ∷ t) (append-nil v)

-- the items of a list with one more
items_push : (list : List Attr) (a : Attr) → items (list ++ a ∷ []) ≡ items list ++ item_of a ∷ []
items_push [] a = refl
items_push (b ∷ list) a = ap (λ (is : List Item). item_of b ∷ is) (items_push list a)

-- AT_MAC stands last
spelled : (list : List Attr) (v : List ℕ) → length v ≡ 16 → spelling (list ++ attr.Mac v ∷ []) ≡ spelling list ++ (11 ∷ 5 ∷ 0 ∷ 0 ∷ v)
spelled list v sixteen =
    ap (λ (is : List Item). texts is) (items_push list (attr.Mac v))
    ∙ flat_map-append item_text (items list) (item 11 v ∷ [])
    ∙ ap (λ (t : List ℕ). spelling list ++ t) (append-nil (item_text (item 11 v)) ∙ mac_text v sixteen)

front_length : (d : Draft) → length (front_of d) ≡ 12 + length (spelling d.attrs)
front_length d = omega (arith, length-append (spelling d.attrs) (11 ∷ 5 ∷ 0 ∷ 0 ∷ []))

-- a message is what stands before the value, and the value
message_is : (d : Draft) (v : List ℕ) → length v ≡ 16 → packet_text (with_mac d v) ≡ front_of d ++ v
message_is d v sixteen =
    let s = spelling d.attrs in
    let t = s ++ (11 ∷ 5 ∷ 0 ∷ 0 ∷ v) in
    ap (λ (u : List ℕ). whole (message_code d.request) d.id (method_type d.method ∷ subtype_number d.subtype ∷ 0 ∷ 0 ∷ u)) (spelled d.attrs v sixteen)
    ∙ ap (λ (n : ℕ). message_code d.request ∷ d.id ∷ (to_be_bytes w16 n ++ (method_type d.method ∷ subtype_number d.subtype ∷ 0 ∷ 0 ∷ t)))
    (omega (arith, length-append s (11 ∷ 5 ∷ 0 ∷ 0 ∷ v), sixteen))
    ∙ ap (λ (u : List ℕ). message_code d.request ∷ d.id ∷ (to_be_bytes w16 (28 + length s) ++ (method_type d.method ∷ subtype_number d.subtype ∷ 0 ∷ 0 ∷ u)))
    (sym (append_assoc s (11 ∷ 5 ∷ 0 ∷ 0 ∷ []) v))

message_length : (d : Draft) (v : List ℕ) → length v ≡ 16 → length (packet_text (with_mac d v)) ≡ length (front_of d) + 16
message_length d v sixteen = omega (arith, ap length (message_is d v sixteen), length-append (front_of d) v, sixteen)

-- ---- what may be sealed

front_from : (seen : List ℕ) (list : List Attr) (a : Attr) → writable_from seen (list ++ a ∷ []) ≡ true → writable_from seen list ≡ true
front_from seen [] a e = refl
front_from seen (b ∷ list) a e =
    let parts = and_parts (may_follow b (stands_in seen (item_of b).kind)) (writable_from (seen ++ (item_of b).kind ∷ []) (list ++ a ∷ [])) e in
    and_from (may_follow b (stands_in seen (item_of b).kind)) (writable_from (seen ++ (item_of b).kind ∷ []) list) parts.0 (front_from (seen ++ (item_of b).kind ∷ []) list a parts.1)

-- the attributes before AT_MAC may be written
pub front_writable : (d : Draft) → MayBeSealed d → writable d.attrs ≡ true
front_writable d may = front_from [] d.attrs (attr.Mac no_mac) may.attrs

pub front_small : (d : Draft) → MayBeSealed d → 28 + length (spelling d.attrs) ≤ 4096
front_small d may = omega (arith, may.size, message_length d no_mac refl, front_length d)

-- there is room for the value after the front
pub front_fits : (d : Draft) (left : ℕ) → length (packet_text (with_mac d no_mac)) ≤ left → length (front_of d) + 16 ≤ left
front_fits d left fits = omega (arith, fits, message_length d no_mac refl)

-- ---- what is written

same_room : (w v : List ℕ) (l m : ℕ) → w ≡ v → l ≡ m → ◌≡◌ {A = Reserved ℕ} (record { written = w; left = l }) (record { written = v; left = m })
same_room w v l m e f = rw (e, f) refl

pub put_done : (d : Draft) (k extra front mac : List ℕ) (r0 r1 r2 : Reserved ℕ) → r0.written ≡ [] → r1 ≡ wrote r0 (front_of d) → front ≡ r1.written
    → mac ≡ mac_of d.method k (front ++ (no_mac ++ extra)) → r2 ≡ wrote r1 mac → r2 ≡ wrote r0 (sealed k extra d)
put_done d k extra front mac r0 r1 r2 empty e1 is m e2 =
    let text : r1.written ≡ front_of d = ap (λ (r : Reserved ℕ). r.written) e1 ∙ ap (λ (t : List ℕ). t ++ front_of d) empty in
    let input : front ++ (no_mac ++ extra) ≡ packet_text (with_mac d no_mac) ++ extra =
    ap (λ (t : List ℕ). t ++ (no_mac ++ extra)) (is ∙ text) ∙ sym (append_assoc (front_of d) no_mac extra) ∙ ap (λ (t : List ℕ). t ++ extra) (sym (message_is d no_mac refl)) in
    let value : mac ≡ draft_mac k extra d = m ∙ ap (λ (t : List ℕ). mac_of d.method k t) input in
    let all : front_of d ++ mac ≡ sealed k extra d =
    ap (λ (v : List ℕ). front_of d ++ v) value ∙ sym (message_is d (draft_mac k extra d) (length-mac_of d.method k (packet_text (with_mac d no_mac) ++ extra))) in
    let left : r1.left - length mac ≡ r0.left - length (sealed k extra d) =
    omega (arith, ap (λ (r : Reserved ℕ). r.left) e1, ap length all, length-append (front_of d) mac) in
    e2 ∙ same_room (r1.written ++ mac) (r0.written ++ sealed k extra d) (r1.left - length mac) (r0.left - length (sealed k extra d))
    (ap (λ (t : List ℕ). t ++ mac) text ∙ all ∙ sym (ap (λ (t : List ℕ). t ++ sealed k extra d) empty)) left

-- ---- any value of 16 bytes may stand there

last_follows : (v w : List ℕ) (stood : Bool) → length v ≡ 16 → length w ≡ 16 → may_follow (attr.Mac v) stood ≡ may_follow (attr.Mac w) stood
unfolding fits_item fits row_of
last_follows v w stood e f = rw (e, f) refl

any_from : (seen : List ℕ) (list : List Attr) (v w : List ℕ) → length v ≡ 16 → length w ≡ 16 → writable_from seen (list ++ attr.Mac v ∷ []) ≡ writable_from seen (list ++ attr.Mac w ∷ [])
any_from seen [] v w e f = ap (λ (b : Bool). b && true) (last_follows v w (stands_in seen 11) e f)
any_from seen (a ∷ list) v w e f = ap (λ (b : Bool). may_follow a (stands_in seen (item_of a).kind) && b) (any_from (seen ++ (item_of a).kind ∷ []) list v w e f)

any_mac : (d : Draft) (v : List ℕ) → MayBeSealed d → length v ≡ 16 → MayBeWritten (with_mac d v)
any_mac d v may e = record {
  attrs = any_from [] d.attrs v no_mac e refl ∙ may.attrs;
  size = omega (arith, may.size, message_length d v e, message_length d no_mac refl);
}

-- ---- AT_MAC stands once

or_parts : (b c : Bool) → (b || c) ≡ false → (b ≡ false) × (c ≡ false)
or_parts true c e = absurd cc
or_parts false c e = (refl, e)

or_from : (b c : Bool) → b ≡ false → c ≡ false → (b || c) ≡ false
or_from b c e f = rw (e, f) refl

-- a type that doesn't stand in a list with one more stands neither there nor last
none_push : (seen : List ℕ) (kind : ℕ) → stands_in (seen ++ kind ∷ []) 11 ≡ false → (stands_in seen 11 ≡ false) × ((kind == 11) ≡ false)
none_push [] kind e = (refl, (or_parts (kind == 11) false e).0)
none_push (other ∷ seen) kind e =
    let p = or_parts (other == 11) (stands_in (seen ++ kind ∷ []) 11) e in
    let q = none_push seen kind p.1 in
    (or_from (other == 11) (stands_in seen 11) p.0 q.0, q.1)

-- an AT_MAC that may follow is the first
first_by : (stood : Bool) → may_stand_row (row_of 11) stood ≡ true → stood ≡ false
unfolding row_of
first_by true e = absurd cc
first_by false e = refl

-- attributes that AT_MAC may follow have none
none_before : (seen : List ℕ) (list : List Attr) (v : List ℕ) → writable_from seen (list ++ attr.Mac v ∷ []) ≡ true
    → (stands_in seen 11 ≡ false) × (list_any (λ i. i.kind == 11) (items list) ≡ false)
none_before seen [] v e =
    let follows = (and_parts (may_follow (attr.Mac v) (stands_in seen 11)) true e).0 in
    (first_by (stands_in seen 11) (and_parts (fits_item (item 11 v) && true) (may_stand_row (row_of 11) (stands_in seen 11)) follows).1, refl)
none_before seen (a ∷ list) v e =
    let kind = (item_of a).kind in
    let later = none_before (seen ++ kind ∷ []) list v (and_parts (may_follow a (stands_in seen kind)) (writable_from (seen ++ kind ∷ []) (list ++ attr.Mac v ∷ [])) e).1 in
    let p = none_push seen kind later.0 in
    (p.0, or_from (kind == 11) (list_any (λ i. i.kind == 11) (items list)) p.1 later.1)

-- AT_MAC may follow attributes that may be written and have none
stands_push : (seen : List ℕ) (kind : ℕ) → stands_in seen 11 ≡ false → (kind == 11) ≡ false → stands_in (seen ++ kind ∷ []) 11 ≡ false
stands_push [] kind e f = or_from (kind == 11) false f refl
stands_push (other ∷ seen) kind e f =
    let p = or_parts (other == 11) (stands_in seen 11) e in
    or_from (other == 11) (stands_in (seen ++ kind ∷ []) 11) p.0 (stands_push seen kind p.1 f)

first_follows : (stood : Bool) → stood ≡ false → may_follow (attr.Mac no_mac) stood ≡ true
unfolding fits_item fits row_of
first_follows true e = absurd cc
first_follows false e = refl

mac_follows : (seen : List ℕ) (list : List Attr) → writable_from seen list ≡ true → stands_in seen 11 ≡ false → has list 11 ≡ false → writable_from seen (list ++ attr.Mac no_mac ∷ []) ≡ true
mac_follows seen [] w e f = and_from (may_follow (attr.Mac no_mac) (stands_in seen 11)) true (first_follows (stands_in seen 11) e) refl
mac_follows seen (a ∷ list) w e f =
    let kind = (item_of a).kind in
    let p = and_parts (may_follow a (stands_in seen kind)) (writable_from (seen ++ kind ∷ []) list) w in
    let q = or_parts (kind == 11) (has list 11) f in
    and_from (may_follow a (stands_in seen kind)) (writable_from (seen ++ kind ∷ []) (list ++ attr.Mac no_mac ∷ [])) p.0
    (mac_follows (seen ++ kind ∷ []) list p.1 (stands_push seen kind e q.0) q.1)

-- a message with short attributes, none of which is AT_MAC, may be sealed
pub may_be_sealed : (d : Draft) → writable d.attrs ≡ true → has d.attrs 11 ≡ false → length (spelling d.attrs) ≤ 4068 → MayBeSealed d
may_be_sealed d w n small = record {
  attrs = mac_follows [] d.attrs w refl n;
  size = omega (arith, small, message_length d no_mac refl, front_length d);
}

-- in a list and in its items
has_items : (list : List Attr) → has list 11 ≡ list_any (λ i. i.kind == 11) (items list)
has_items [] = refl
has_items (a ∷ list) = ap (λ (b : Bool). (item_of a).kind == 11 || b) (has_items list)

-- a message that may be sealed has no AT_MAC before
pub none_stands : (d : Draft) → MayBeSealed d → has d.attrs 11 ≡ false
none_stands d may = has_items d.attrs ∙ (none_before [] d.attrs no_mac may.attrs).1

-- ---- the place of the value

last_by : (b c : Bool) (o p : Option ℕ) (start : ℕ) → (b || c) ≡ false → (c ≡ false → o ≡ p) → cond b (Some (start + 4)) o ≡ p
last_by true c o p start e f = absurd cc
last_by false c o p start e f = f e

last_there : (start : ℕ) (is : List Item) (v : List ℕ) → list_any (λ i. i.kind == 11) is ≡ false
    → mac_from start (is ++ item 11 v ∷ []) ≡ Some (start + length (texts is) + 4)
last_there start [] v e = ap (λ (n : ℕ). Some (n + 4)) (omega arith)
last_there start (i ∷ is) v e =
    let later = start + length (item_text i) in
    last_by (i.kind == 11) (list_any (λ j. j.kind == 11) is) (mac_from later (is ++ item 11 v ∷ [])) (Some (start + length (texts (i ∷ is)) + 4)) start e
    (λ f. last_there later is v f ∙ ap (λ (n : ℕ). Some (n + 4)) (omega (arith, length-append (item_text i) (texts is))))

-- a message's value stands after its front, whatever follows the message
place_past : (d : Draft) (v past : List ℕ) → MayBeSealed d → length v ≡ 16 → IsMacPlace (packet_text (with_mac d v) ++ past) (Some (length (front_of d)))
place_past d v past may e =
    let text = packet_text (with_mac d v) ++ past in
    let list = d.attrs ++ attr.Mac v ∷ [] in
    let r = written_is_read (with_mac d v) past (any_mac d v may e) in
    let found : frame_at text ≡ Ok (Message d.request d.id (method_type d.method) (subtype_number d.subtype) r.0) =
    frame_again (Message d.request d.id (method_type d.method) (subtype_number d.subtype) r.0) text r.1 in
    let place : Some (length (front_of d)) ≡ mac_from 8 (items list) =
    ap (λ (n : ℕ). Some n) (front_length d ∙ omega arith)
    ∙ sym (last_there 8 (items d.attrs) v (none_before [] d.attrs no_mac may.attrs).1) ∙ ap (λ (is : List Item). mac_from 8 is) (sym (items_push d.attrs (attr.Mac v))) in
    subst (λ (f : Result Frame FrameFault). IsMacOf f (Some (length (front_of d)))) (sym found) (items list, None, r.2.0, place)

-- ---- the value

-- bytes with 16 others in their place
abbrev with_value : List ℕ → ℕ → List ℕ → List ℕ
with_value bytes place w = take place bytes ++ (w ++ drop (place + 16) bytes)

value_between : (front v past w : List ℕ) → length v ≡ 16 → with_value ((front ++ v) ++ past) (length front) w ≡ (front ++ w) ++ past
value_between front v past w e =
    ap (λ (t : List ℕ). take (length front) t ++ (w ++ drop (length front + 16) ((front ++ v) ++ past))) (append_assoc front v past)
    ∙ ap (λ (t : List ℕ). t ++ (w ++ drop (length front + 16) ((front ++ v) ++ past))) (take_at front (v ++ past) (length front) refl)
    ∙ ap (λ (t : List ℕ). front ++ (w ++ t)) (drop_at (front ++ v) past (length front + 16) (length-append front v ∙ omega (arith, e)))
    ∙ sym (append_assoc front w past)

value_there : (front v past : List ℕ) → length v ≡ 16 → mac_value ((front ++ v) ++ past) (length front) ≡ v
value_there front v past e =
    ap (λ (t : List ℕ). take 16 (drop (length front) t)) (append_assoc front v past)
    ∙ ap (λ (t : List ℕ). take 16 t) (drop_at front (v ++ past) (length front) refl) ∙ take_at v past 16 e

-- Length counts the message alone
length_past : (code id : ℕ) (rest past : List ℕ) → length (whole code id rest) ≤ 4096 → length_of (whole code id rest ++ past) ≡ length (whole code id rest)
length_past code id rest past small = from_be_bytes-to_be_bytes_2 (4 + length rest) (omega (arith, small)) ∙ omega arith

-- the value of a sealed message is right, whatever follows the message
value_right : (k extra past : List ℕ) (d : Draft) → MayBeSealed d
    → mac_value (sealed k extra d ++ past) (length (front_of d)) ≡ mac_at d.method k (length_of (sealed k extra d ++ past)) (sealed k extra d ++ past) (length (front_of d)) extra
value_right k extra past d may =
    let v = draft_mac k extra d in
    let e : length v ≡ 16 = length-mac_of d.method k (packet_text (with_mac d no_mac) ++ extra) in
    let place = length (front_of d) in
    let bytes = sealed k extra d ++ past in
    let zeroed = packet_text (with_mac d no_mac) in
    let is : bytes ≡ (front_of d ++ v) ++ past = ap (λ (t : List ℕ). t ++ past) (message_is d v e) in
    let zero : with_value bytes place no_mac ≡ zeroed ++ past =
    ap (λ (b : List ℕ). with_value b place no_mac) is ∙ value_between (front_of d) v past no_mac e ∙ ap (λ (t : List ℕ). t ++ past) (sym (message_is d no_mac refl)) in
    let size : length_of bytes ≡ length zeroed =
    length_past (message_code d.request) d.id (method_type d.method ∷ subtype_number d.subtype ∷ 0 ∷ 0 ∷ spelling (d.attrs ++ attr.Mac v ∷ [])) past (any_mac d v may e).size
    ∙ omega (arith, message_length d v e, message_length d no_mac refl) in
    ap (λ (b : List ℕ). mac_value b place) is ∙ value_there (front_of d) v past e
    ∙ sym (ap (λ (t : List ℕ). mac_of d.method k (take (length_of bytes) t ++ extra)) zero
    ∙ ap (λ (n : ℕ). mac_of d.method k (take n (zeroed ++ past) ++ extra)) size
    ∙ ap (λ (t : List ℕ). mac_of d.method k (t ++ extra)) (take_at zeroed past (length zeroed) refl))

-- a sealed message is received with a right MAC
pub sealed_is_right : SealedIsRight
unfolding is_sealed
sealed_is_right k extra past d seen may received is =
    let bytes = sealed k extra d ++ past in
    let place = length (front_of d) in
    let e : length (draft_mac k extra d) ≡ 16 = length-mac_of d.method k (packet_text (with_mac d no_mac) ++ extra) in
    let there : seen.place ≡ Some place =
    one_place bytes seen.place (Some place) (subst (λ (b : List ℕ). IsMacPlace b seen.place) is received.placed) (place_past d (draft_mac k extra d) past may e) in
    ap (λ (b : List ℕ). is_sealed_at d.method k extra b seen.place) is
    ∙ ap (λ (o : Option ℕ). is_sealed_at d.method k extra bytes o) there
    ∙ (bytes_eq-Decides (mac_value bytes place) (mac_at d.method k (length_of bytes) bytes place extra)).1 (value_right k extra past d may)

-- ---- the reading

values_push : (list : List Attr) (v : List ℕ) → list_all is_value list ≡ true → list_all is_value (list ++ attr.Mac v ∷ []) ≡ true
values_push [] v e = refl
values_push (a ∷ list) v e =
    let p = and_parts (is_value a) (list_all is_value list) e in
    and_from (is_value a) (list_all is_value (list ++ attr.Mac v ∷ [])) p.0 (values_push list v p.1)

-- a sealed message is received as itself
pub sealed_is_read : SealedIsRead
sealed_is_read k extra past d seen may values received is =
    let v = draft_mac k extra d in
    let e : length v ≡ 16 = length-mac_of d.method k (packet_text (with_mac d no_mac) ++ extra) in
    one_reading (sealed k extra d ++ past) seen.reading (reading.Read (with_mac d v)) (subst (λ (b : List ℕ). IsReading b seen.reading) is received.reads)
    (written_is_read (with_mac d v) past (any_mac d v may e), values_push d.attrs v values)
