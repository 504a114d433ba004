-- For plain sessions: the messages of both ends may be written.
use Rattle.std.proofs.Common.{◌≡◌, ℕ, ◌+◌, ◌≤◌, nat_le, true, List, [], ◌∷◌, ◌++◌, length, replicate, inl, inr, refl, arith, length-append}
use Rattle.std.proofs.lemmas.Bool.Decides.{nat_tests}
use Rattle.std.proofs.lemmas.List.{length-replicate}
use Rattle.std.specs.Int.{w16, to_be_bytes}
use Rattle.auc_attr.specs.Item.{item}
use Rattle.auc_attr.specs.Spelling.{fill, fits, fits_item, item_text, shape_text, spelling, writable}
use Rattle.auc_attr.specs.Table.{row_of}
use Rattle.auc_attr.specs.declared.attr.Attr.TheVariants as attr
use Rattle.auc_hmac.specs.Mac.{no_mac}
use Rattle.auc_hmac.specs.declared.method.Method.{Method}
use Rattle.auc_hmac.specs.declared.method.Method.TheVariants as method
use Rattle.auc_packet.specs.Sealed.{MayBeSealed, with_mac}
use Rattle.auc_packet.specs.Spelling.{MayBeWritten, packet_text}
use Rattle.auc_packet.specs.declared.packet.Packet.TheVariants as packet
use Rattle.auc_peer.specs.Messages.{draft_of, identified, identity_response, own_kdf, sync_failure}
use Rattle.auc_seal.specs.Checkcode.{IsHash}
use Rattle.auc_server.specs.Messages.{identity_request}

-- ---- Identity, Success

pub request_may : (id : ℕ) → MayBeWritten (identity_request id)
request_may id = record { attrs = refl; size = omega arith }

pub identity_may : (id : ℕ) (text : List ℕ) → length text ≤ 4091 → MayBeWritten (identity_response id text)
identity_may id text short = record { attrs = refl; size = omega (arith, short) }

pub success_may : (id : ℕ) → MayBeWritten (packet.Success id)
success_may id = record { attrs = refl; size = omega arith }

-- ---- the AKA-Identity response

short_text : (text : List ℕ) → length text ≤ 1016 → nat_le (length text) 1016 ≡ true
short_text text short = grind (arith, nat_tests, short)

identity_writable : (text : List ℕ) → length text ≤ 1016 → writable (attr.Identity text ∷ []) ≡ true
unfolding fits_item fits row_of
identity_writable text short = rw (short_text text short) refl

identity_length : (text : List ℕ) → length text ≤ 1016 → length (item_text (item 14 text)) ≤ 1024
unfolding item_text row_of shape_text
identity_length text short = omega (
  arith,
  length-append (to_be_bytes w16 (length text)) (text ++ replicate (fill (length text)) 0),
  length-append text (replicate (fill (length text)) 0),
  length-replicate {A = ℕ} (fill (length text)) 0,
  short,
)

pub identified_may : (m : Method) (id : ℕ) (text : List ℕ) → length text ≤ 1016 → MayBeWritten (identified m id text)
identified_may m id text short = record {
  attrs = identity_writable text short;
  size = omega (arith, length-append (item_text (item 14 text)) [], identity_length text short);
}

-- ---- the responses to a Challenge

mac_text : length (item_text (item 11 no_mac)) ≡ 20
unfolding item_text row_of shape_text
mac_text = refl

checkcode_text : (own : List ℕ) → length (item_text (item 134 own)) ≡ 4 + length own
unfolding item_text row_of shape_text
checkcode_text own = omega (arith, length-append own [])

hash_text : (own : List ℕ) → IsHash own → length own ≤ 32
hash_text own (inl e) = omega (arith, e)
hash_text own (inr (inl e)) = omega (arith, e)
hash_text own (inr (inr e)) = omega (arith, e)

res_text : (v : List ℕ) → length v ≡ 8 → length (item_text (item 3 v)) ≡ 12
unfolding item_text row_of shape_text
res_text v eight = rw eight (omega (arith, length-append v [], eight))

response_writable : (res own : List ℕ) → length res ≡ 8 → IsHash own → writable (attr.Res res ∷ attr.Checkcode own ∷ attr.Mac no_mac ∷ []) ≡ true
unfolding fits_item fits row_of
response_writable res own e (inl f) = rw (e, f) refl
response_writable res own e (inr (inl f)) = rw (e, f) refl
response_writable res own e (inr (inr f)) = rw (e, f) refl

response_size : (m : Method) (id : ℕ) (res own : List ℕ) → length res ≡ 8 → IsHash own
    → length (packet_text (with_mac (draft_of m id (attr.Res res ∷ attr.Checkcode own ∷ [])) no_mac)) ≤ 76
response_size m id res own e h =
    let last = item_text (item 11 no_mac) ++ [] in
    let middle = item_text (item 134 own) in
    omega (
      arith,
      length-append (item_text (item 3 res)) (middle ++ last),
      length-append middle last,
      length-append (item_text (item 11 no_mac)) [],
      res_text res e,
      checkcode_text own,
      hash_text own h,
      mac_text,
    )

pub response_may : (m : Method) (id : ℕ) (res own : List ℕ) → length res ≡ 8 → IsHash own → MayBeSealed (draft_of m id (attr.Res res ∷ attr.Checkcode own ∷ []))
response_may m id res own e h = record { attrs = response_writable res own e h; size = omega (arith, response_size m id res own e h) }

auts_writable : (m : Method) (auts : List ℕ) → length auts ≡ 14 → writable (attr.Auts auts ∷ own_kdf m) ≡ true
unfolding fits_item fits row_of
auts_writable method.Aka auts e = rw e refl
auts_writable method.Prime auts e = rw e refl

auts_text : (auts : List ℕ) → length auts ≡ 14 → length (item_text (item 4 auts)) ≡ 16
unfolding item_text row_of shape_text
auts_text auts e = omega (arith, length-append auts [], e)

kdf_text : length (item_text (item 24 (to_be_bytes w16 1))) ≡ 4
unfolding item_text row_of shape_text
kdf_text = refl

sync_text : (m : Method) (auts : List ℕ) → length auts ≡ 14 → length (spelling (attr.Auts auts ∷ own_kdf m)) ≤ 20
sync_text method.Aka auts e = omega (arith, length-append (item_text (item 4 auts)) [], auts_text auts e)
sync_text method.Prime auts e =
    let kdf = item_text (item 24 (to_be_bytes w16 1)) in
    omega (arith, length-append (item_text (item 4 auts)) (kdf ++ []), length-append kdf [], auts_text auts e, kdf_text)

pub sync_may : (m : Method) (id : ℕ) (auts : List ℕ) → length auts ≡ 14 → MayBeWritten (sync_failure m id auts)
sync_may m id auts e = record { attrs = auts_writable m auts e; size = omega (arith, sync_text m auts e) }
