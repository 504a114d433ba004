-- A network's name that was received is short.
use Rattle.std.proofs.Common.{◌≡◌, ℕ, ◌≤◌, ◌&&◌, true, List, [], ◌∷◌, ◌++◌, length, Option, Some, None, arith}
use Rattle.std.specs.Option.{option_or}
use Rattle.std.proofs.lemmas.Bool.{leb-true}
use Rattle.auc_attr.proofs.Facts.{and_parts}
use Rattle.auc_attr.specs.declared.attr.Attr.{Attr}
use Rattle.auc_attr.specs.declared.attr.Attr.TheVariants as attr
use Rattle.auc_attr.specs.Item.{is_named, item_of}
use Rattle.auc_attr.specs.Laws.{AreBytes}
use Rattle.auc_attr.specs.Spelling.{fits, fits_item, may_follow, may_stand_row, stands_in, writable_from}
use Rattle.auc_attr.specs.Table.{row_of}
use Rattle.auc_packet.specs.Laws.{ReadIsWritable}
use Rattle.auc_packet.specs.Received.{IsReading, IsReceived, Seen, attrs_in}
use Rattle.auc_packet.specs.declared.packet.Packet.TheVariants as packet
use Rattle.auc_packet.specs.declared.received.Reading.{Reading}
use Rattle.auc_packet.specs.declared.received.Reading.TheVariants as reading
use Rattle.auc_request.specs.Request.{first_value, name_in, name_of, text_or_none}

-- the name in an attribute that may be written
attr_name : (a : Attr) → fits_item (item_of a) ≡ true → length (text_or_none (name_of a)) ≤ 1016
unfolding fits_item fits row_of
attr_name (attr.KdfInput v) e = leb-true (length v) 1016 e
attr_name (attr.Rand v) e = omega arith
attr_name (attr.Autn v) e = omega arith
attr_name (attr.Res v) e = omega arith
attr_name (attr.Auts v) e = omega arith
attr_name (attr.Padding v) e = omega arith
attr_name attr.PermanentIdReq e = omega arith
attr_name (attr.Mac v) e = omega arith
attr_name (attr.Notification n) e = omega arith
attr_name attr.AnyIdReq e = omega arith
attr_name (attr.Identity v) e = omega arith
attr_name attr.FullauthIdReq e = omega arith
attr_name (attr.Counter n) e = omega arith
attr_name attr.CounterTooSmall e = omega arith
attr_name (attr.NonceS v) e = omega arith
attr_name (attr.ClientErrorCode n) e = omega arith
attr_name (attr.Kdf n) e = omega arith
attr_name (attr.Iv v) e = omega arith
attr_name (attr.EncrData v) e = omega arith
attr_name (attr.NextPseudonym v) e = omega arith
attr_name (attr.NextReauthId v) e = omega arith
attr_name (attr.Checkcode v) e = omega arith
attr_name attr.ResultInd e = omega arith
attr_name (attr.Bidding d) e = omega arith
attr_name (attr.Skipped kind v) e = omega arith

one_name : (first later : Option (List ℕ)) → length (text_or_none first) ≤ 1016 → length (text_or_none later) ≤ 1016 → length (text_or_none (option_or first later)) ≤ 1016
one_name None later f g = g
one_name (Some name) later f g = f

-- the name in attributes that may be written
list_name : (seen : List ℕ) (list : List Attr) → writable_from seen list ≡ true → length (name_in list) ≤ 1016
list_name seen [] e = omega arith
list_name seen (a ∷ list) e =
    let kind = (item_of a).kind in
    let p = and_parts (may_follow a (stands_in seen kind)) (writable_from (seen ++ kind ∷ []) list) e in
    let q = and_parts (fits_item (item_of a) && is_named a) (may_stand_row (row_of kind) (stands_in seen kind)) p.0 in
    one_name (name_of a) (first_value name_of list) (attr_name a (and_parts (fits_item (item_of a)) (is_named a) q.0).0) (list_name (seen ++ kind ∷ []) list p.1)

read_name : ReadIsWritable → (bytes : List ℕ) (r : Reading) → AreBytes bytes → IsReading bytes r → length (name_in (attrs_in r)) ≤ 1016
read_name law bytes (reading.Read (packet.Aka request id m s list)) are is = list_name [] list (law bytes (packet.Aka request id m s list) are is.0).0
read_name law bytes (reading.Read (packet.Identity request id text)) are is = omega arith
read_name law bytes (reading.Read (packet.Success id)) are is = omega arith
read_name law bytes (reading.Read (packet.Failure id)) are is = omega arith
read_name law bytes (reading.Fault fault) are is = omega arith

-- the name in a message that was received
pub received_name : ReadIsWritable → (seen : Seen) → AreBytes seen.bytes → IsReceived seen → length (name_in (attrs_in seen.reading)) ≤ 1016
received_name law seen are is = read_name law seen.bytes seen.reading are is.reads
