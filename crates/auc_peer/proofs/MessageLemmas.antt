-- The messages of a peer may be written, and are short.
use Rattle.std.proofs.Common.{◌≡◌, ℕ, ◌+◌, ◌≤◌, true, false, List, [], ◌∷◌, ◌++◌, length, replicate, inl, inr, refl, sym, ap, ◌∙◌, subst, arith, length-append}
use Rattle.std.proofs.lemmas.Bool.{le-leb}
use Rattle.std.proofs.lemmas.List.{length-replicate}
use Rattle.auc_attr.specs.declared.attr.Attr.{Attr}
use Rattle.auc_attr.specs.declared.attr.Attr.TheVariants as attr
use Rattle.auc_attr.specs.Item.{item}
use Rattle.auc_attr.specs.Spelling.{writable, spelling, item_text, shape_text, fill, fits_item, fits}
use Rattle.auc_attr.specs.Table.{row_of}
use Rattle.auc_memory.specs.Reserved.{Reserved, wrote}
use Rattle.auc_hmac.specs.Mac.{no_mac}
use Rattle.auc_hmac.specs.declared.method.Method.{Method}
use Rattle.auc_hmac.specs.declared.method.Method.TheVariants as method
use Rattle.auc_packet.specs.Spelling.{MayBeWritten, packet_text}
use Rattle.auc_packet.specs.declared.subtype.Subtype.{Subtype}
use Rattle.auc_packet.specs.declared.packet.Packet.TheVariants as packet
use Rattle.auc_packet.specs.declared.subtype.Subtype.TheVariants as subtype
use Rattle.auc_seal.specs.Checkcode.{IsHash}
use Rattle.auc_peer.specs.InnerRooms.{IsShort, IsShortDraft}
use Rattle.auc_peer.specs.Messages.{client_error, draft_of, identified, identity_response, own_kdf, response, sync_failure}

-- ---- the Identity response

pub identity_may : (id : ℕ) (text : List ℕ) → length text ≤ 511 → MayBeWritten (identity_response id text)
identity_may id text short = record { attrs = refl; size = omega (arith, short) }

pub identity_size : (id : ℕ) (text : List ℕ) → length (packet_text (identity_response id text)) ≡ 5 + length text
identity_size id text = omega arith

-- ---- the AKA-Identity response

identity_writable : (text : List ℕ) → length text ≤ 511 → writable (attr.Identity text ∷ []) ≡ true
unfolding fits_item fits row_of
identity_writable text short = rw (le-leb (length text) 1016 (omega (arith, short))) refl

-- the text, its length and the least fill
identity_length : (text : List ℕ) → length (spelling (attr.Identity text ∷ [])) ≤ 7 + length text
unfolding item_text row_of shape_text
identity_length text =
    let zeros : List ℕ = replicate (fill (length text)) 0 in
    omega (arith, length-append text zeros, length-append (text ++ zeros) [], length-replicate {A = ℕ} (fill (length text)) 0)

pub identified_may : (m : Method) (id : ℕ) (text : List ℕ) → length text ≤ 511 → MayBeWritten (identified m id text)
identified_may m id text short = record { attrs = identity_writable text short; size = omega (arith, short, identity_length text) }

pub identified_size : (m : Method) (id : ℕ) (text : List ℕ) → length (packet_text (identified m id text)) ≤ 15 + length text
identified_size m id text = omega (arith, identity_length text)

-- the same of attributes that are an AT_IDENTITY
pub identified_may_of : (m : Method) (id : ℕ) (text : List ℕ) (list : List Attr) → length text ≤ 511 → list ≡ attr.Identity text ∷ []
    → MayBeWritten (packet.Aka false id m subtype.Identity list)
identified_may_of m id text list short e = subst (λ (l : List Attr). MayBeWritten (packet.Aka false id m subtype.Identity l)) (sym e) (identified_may m id text short)

pub identified_size_of : (m : Method) (id : ℕ) (text : List ℕ) (list : List Attr) → list ≡ attr.Identity text ∷ []
    → length (packet_text (packet.Aka false id m subtype.Identity list)) ≤ 15 + length text
identified_size_of m id text list e =
    subst (λ (l : List Attr). length (packet_text (packet.Aka false id m subtype.Identity l)) ≤ 15 + length text) (sym e) (identified_size m id text)

-- ---- responses without AT_MAC

client_writable : writable (attr.ClientErrorCode 0 ∷ []) ≡ true
unfolding fits_item fits row_of
client_writable = refl

client_size : length (spelling (attr.ClientErrorCode 0 ∷ [])) ≡ 4
unfolding item_text row_of shape_text
client_size = refl

client_short : (m : Method) (id : ℕ) → IsShort (client_error m id)
client_short m id = record { may = record { attrs = client_writable; size = omega (arith, client_size) }; size = omega (arith, client_size) }

empty_short : (m : Method) (id : ℕ) (s : Subtype) → IsShort (response m id s [])
empty_short m id s = record { may = record { attrs = refl; size = omega arith }; size = omega arith }

auts_writable : (m : Method) (auts : List ℕ) → length auts ≡ 14 → writable (attr.Auts auts ∷ own_kdf m) ≡ true
unfolding fits_item fits row_of
auts_writable method.Aka auts e = rw e refl
auts_writable method.Prime auts e = rw e refl

auts_length : (auts : List ℕ) → length auts ≡ 14 → length (item_text (item 4 auts)) ≡ 16
unfolding item_text row_of shape_text
auts_length auts e = omega (arith, length-append auts [], e)

kdf_length : length (spelling (attr.Kdf 1 ∷ [])) ≡ 4
unfolding item_text row_of shape_text
kdf_length = refl

-- AT_AUTS has 16 bytes, and AT_KDF 4
auts_size : (m : Method) (auts : List ℕ) → length auts ≡ 14 → length (spelling (attr.Auts auts ∷ own_kdf m)) ≤ 20
auts_size method.Aka auts e = omega (arith, length-append (item_text (item 4 auts)) [], auts_length auts e)
auts_size method.Prime auts e = omega (arith, length-append (item_text (item 4 auts)) (spelling (attr.Kdf 1 ∷ [])), auts_length auts e, kdf_length)

sync_short : (m : Method) (id : ℕ) (auts : List ℕ) → length auts ≡ 14 → IsShort (sync_failure m id auts)
sync_short m id auts e = record { may = record { attrs = auts_writable m auts e; size = omega (arith, auts_size m auts e) }; size = omega (arith, auts_size m auts e) }

-- the same of a list that is the message's
pub client_short_of : (m : Method) (id : ℕ) (list : List Attr) → list ≡ attr.ClientErrorCode 0 ∷ [] → IsShort (response m id subtype.ClientError list)
client_short_of m id list e = subst (λ (l : List Attr). IsShort (response m id subtype.ClientError l)) (sym e) (client_short m id)

pub empty_short_of : (m : Method) (id : ℕ) (s : Subtype) (list : List Attr) → list ≡ [] → IsShort (response m id s list)
empty_short_of m id s list e = subst (λ (l : List Attr). IsShort (response m id s l)) (sym e) (empty_short m id s)

pub sync_short_of : (m : Method) (id : ℕ) (auts : List ℕ) (list : List Attr) → length auts ≡ 14 → list ≡ attr.Auts auts ∷ own_kdf m → IsShort (response m id subtype.SynchronizationFailure list)
sync_short_of m id auts list whole e = subst (λ (l : List Attr). IsShort (response m id subtype.SynchronizationFailure l)) (sym e) (sync_short m id auts whole)

-- ---- the Challenge response

with_writable : (res own : List ℕ) → length res ≡ 8 → IsHash own → writable (attr.Res res ∷ attr.Checkcode own ∷ attr.Mac no_mac ∷ []) ≡ true
unfolding fits_item fits row_of
with_writable res own e (inl f) = rw (e, f) refl
with_writable res own e (inr (inl f)) = rw (e, f) refl
with_writable res own e (inr (inr f)) = rw (e, f) refl

without_writable : (res : List ℕ) → length res ≡ 8 → writable (attr.Res res ∷ attr.Mac no_mac ∷ []) ≡ true
unfolding fits_item fits row_of
without_writable res e = rw e refl

res_size : (res : List ℕ) → length res ≡ 8 → length (item_text (item 3 res)) ≡ 12
unfolding item_text row_of shape_text
res_size res e = rw e (omega (arith, length-append res [], e))

checkcode_length : (own : List ℕ) → length (item_text (item 134 own)) ≡ 4 + length own
unfolding item_text row_of shape_text
checkcode_length own = omega (arith, length-append own [])

hash_length : (own : List ℕ) → IsHash own → length own ≤ 32
hash_length own (inl f) = omega (arith, f)
hash_length own (inr (inl f)) = omega (arith, f)
hash_length own (inr (inr f)) = omega (arith, f)

checkcode_size : (own : List ℕ) → IsHash own → length (item_text (item 134 own)) ≤ 36
checkcode_size own h = omega (arith, checkcode_length own, hash_length own h)

mac_size : (mac : List ℕ) → length mac ≡ 16 → length (item_text (item 11 mac)) ≡ 20
unfolding item_text row_of shape_text
mac_size mac e = omega (arith, length-append mac [], e)

with_size : (res own mac : List ℕ) → length res ≡ 8 → IsHash own → length mac ≡ 16 → length (spelling (attr.Res res ∷ attr.Checkcode own ∷ attr.Mac mac ∷ [])) ≤ 68
with_size res own mac e h f =
    let last = item_text (item 11 mac) in
    let middle = item_text (item 134 own) in
    omega (arith, length-append (item_text (item 3 res)) (middle ++ (last ++ [])), length-append middle (last ++ []), length-append last [], res_size res e, checkcode_size own h, mac_size mac f)

without_size : (res mac : List ℕ) → length res ≡ 8 → length mac ≡ 16 → length (spelling (attr.Res res ∷ attr.Mac mac ∷ [])) ≡ 32
without_size res mac e f =
    let last = item_text (item 11 mac) in
    omega (arith, length-append (item_text (item 3 res)) (last ++ []), length-append last [], res_size res e, mac_size mac f)

with_short : (m : Method) (id : ℕ) (res own : List ℕ) → length res ≡ 8 → IsHash own → IsShortDraft (draft_of m id (attr.Res res ∷ attr.Checkcode own ∷ []))
with_short m id res own e h = record {
  zero = record { may = record { attrs = with_writable res own e h; size = omega (arith, with_size res own no_mac e h refl) }; size = omega (arith, with_size res own no_mac e h refl) };
  any = λ mac f. omega (arith, with_size res own mac e h f);
}

without_short : (m : Method) (id : ℕ) (res : List ℕ) → length res ≡ 8 → IsShortDraft (draft_of m id (attr.Res res ∷ []))
without_short m id res e = record {
  zero = record { may = record { attrs = without_writable res e; size = omega (arith, without_size res no_mac e refl) }; size = omega (arith, without_size res no_mac e refl) };
  any = λ mac f. omega (arith, without_size res mac e f);
}

-- attributes were put into places
one_put : (p q : Reserved Attr) (x : Attr) → p.written ≡ [] → q ≡ wrote p (x ∷ []) → q.written ≡ x ∷ []
one_put p q x e f = ap (λ (t : Reserved Attr). t.written) f ∙ ap (λ (l : List Attr). l ++ x ∷ []) e

two_put : (p q r : Reserved Attr) (x y : Attr) → p.written ≡ [] → q ≡ wrote p (x ∷ []) → r ≡ wrote q (y ∷ []) → r.written ≡ x ∷ y ∷ []
two_put p q r x y e f g = ap (λ (t : Reserved Attr). t.written) g ∙ ap (λ (l : List Attr). l ++ y ∷ []) (one_put p q x e f)

-- AT_RES alone
pub without_list : (p q : Reserved Attr) (list : List Attr) (res : List ℕ) → p.written ≡ [] → q ≡ wrote p (attr.Res res ∷ []) → list ≡ q.written → list ≡ attr.Res res ∷ []
without_list p q list res e f l = l ∙ one_put p q (attr.Res res) e f

pub without_short_of : (m : Method) (id : ℕ) (res : List ℕ) (list : List Attr) → length res ≡ 8 → list ≡ attr.Res res ∷ [] → IsShortDraft (draft_of m id list)
without_short_of m id res list e is = subst (λ (l : List Attr). IsShortDraft (draft_of m id l)) (sym is) (without_short m id res e)

-- AT_RES and AT_CHECKCODE
pub with_list : (p q r : Reserved Attr) (list : List Attr) (res own : List ℕ) → p.written ≡ [] → q ≡ wrote p (attr.Res res ∷ []) → r ≡ wrote q (attr.Checkcode own ∷ []) → list ≡ r.written
    → list ≡ attr.Res res ∷ attr.Checkcode own ∷ []
with_list p q r list res own e f g l = l ∙ two_put p q r (attr.Res res) (attr.Checkcode own) e f g

pub with_short_of : (m : Method) (id : ℕ) (res own : List ℕ) (list : List Attr) → length res ≡ 8 → IsHash own → list ≡ attr.Res res ∷ attr.Checkcode own ∷ [] → IsShortDraft (draft_of m id list)
with_short_of m id res own list e h is = subst (λ (l : List Attr). IsShortDraft (draft_of m id l)) (sym is) (with_short m id res own e h)

-- what was written into empty memory is as short as its text
pub written_size : (room later : Reserved ℕ) (bytes text : List ℕ) → room.written ≡ [] → later ≡ wrote room text → bytes ≡ later.written → length text ≤ 76 → length bytes ≤ 76
written_size room later bytes text e f g h =
    subst (λ (t : List ℕ). length t ≤ 76) (sym (g ∙ ap (λ (r : Reserved ℕ). r.written) f ∙ ap (λ (w : List ℕ). w ++ text) e)) h
