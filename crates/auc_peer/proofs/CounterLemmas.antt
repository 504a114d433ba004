-- The Reauthentication response may be written, and is short.
use Rattle.std.proofs.Common.{◌≡◌, ℕ, zero, suc, ◌+◌, ◌≤◌, Bool, true, false, List, [], ◌∷◌, ◌++◌, length, inl, inr, refl, sym, subst, arith, length-append}
use Rattle.std.specs.Int.{w16, to_be_bytes}
use Rattle.auc_aes.proofs.Facts.{bytes_append}
use Rattle.auc_aes.specs.Bytes.{IsBlock}
use Rattle.auc_aes.specs.Cbc.{cbc_encrypted}
use Rattle.auc_attr.specs.declared.attr.Attr.{Attr}
use Rattle.auc_attr.specs.declared.attr.Attr.TheVariants as attr
use Rattle.auc_attr.specs.Item.{item}
use Rattle.auc_attr.specs.Laws.{AreBytes}
use Rattle.auc_attr.specs.Spelling.{writable, spelling, item_text, shape_text, fits_item, fits}
use Rattle.auc_attr.specs.Table.{row_of}
use Rattle.auc_hmac.proofs.Facts.{length-mac_of}
use Rattle.auc_hmac.specs.Mac.{no_mac}
use Rattle.auc_hmac.specs.declared.method.Method.{Method}
use Rattle.auc_packet.specs.Sealed.{MayBeSealed, draft_mac, sealed, with_mac}
use Rattle.auc_packet.specs.Spelling.{packet_text}
use Rattle.auc_seal.specs.Checkcode.{IsHash}
use Rattle.auc_seal.specs.Encrypted.{MayBeEncrypted, padded}
use Rattle.auc_seal.specs.Laws.{EncryptedIsWritable}
use Rattle.auc_peer.specs.InnerRooms.{IsOneBlock}
use Rattle.auc_peer.specs.Messages.{counter_attrs, own_checkcode, reauth_draft}

-- ---- a counter that is encrypted

no_counter : (counter : ℕ) (small : Bool) → counter_attrs counter small ≡ [] → ⊥
no_counter counter true e = cc
no_counter counter false e = cc

counter_writable : (counter : ℕ) (small : Bool) → writable (counter_attrs counter small) ≡ true
unfolding fits_item fits row_of
counter_writable counter true = refl
counter_writable counter false = refl

counter_length : (counter : ℕ) (small : Bool) → length (spelling (counter_attrs counter small)) ≤ 8
unfolding item_text row_of shape_text
counter_length counter true = omega arith
counter_length counter false = omega arith

-- padded to one block
block_length : (counter : ℕ) (small : Bool) → length (spelling (padded (counter_attrs counter small))) ≡ 16
unfolding item_text row_of shape_text
block_length counter true = refl
block_length counter false = refl

-- it may be encrypted
pub counter_may : (counter : ℕ) (small : Bool) → MayBeEncrypted (counter_attrs counter small)
counter_may counter true = record { some = no_counter counter true; writable = counter_writable counter true; unpadded = refl; size = omega (arith, counter_length counter true) }
counter_may counter false = record { some = no_counter counter false; writable = counter_writable counter false; unpadded = refl; size = omega (arith, counter_length counter false) }

number_bytes : (n : ℕ) → AreBytes (to_be_bytes w16 n)
number_bytes n zero = omega arith
number_bytes n (suc zero) = omega arith
number_bytes n (suc (suc i)) = omega arith

front_bytes : AreBytes (19 ∷ 1 ∷ [])
front_bytes zero = omega arith
front_bytes (suc zero) = omega arith
front_bytes (suc (suc i)) = omega arith

small_bytes : AreBytes (20 ∷ 1 ∷ 0 ∷ 0 ∷ [])
small_bytes zero = omega arith
small_bytes (suc zero) = omega arith
small_bytes (suc (suc zero)) = omega arith
small_bytes (suc (suc (suc zero))) = omega arith
small_bytes (suc (suc (suc (suc i)))) = omega arith

counter_is : (counter : ℕ) → spelling (counter_attrs counter false) ≡ (19 ∷ 1 ∷ []) ++ to_be_bytes w16 counter
unfolding item_text row_of shape_text
counter_is counter = refl

small_is : (counter : ℕ) → spelling (counter_attrs counter true) ≡ (19 ∷ 1 ∷ []) ++ (to_be_bytes w16 counter ++ (20 ∷ 1 ∷ 0 ∷ 0 ∷ []))
unfolding item_text row_of shape_text
small_is counter = refl

pub counter_bytes : (counter : ℕ) (small : Bool) → AreBytes (spelling (counter_attrs counter small))
counter_bytes counter true =
    subst AreBytes (sym (small_is counter))
    (bytes_append (19 ∷ 1 ∷ []) (to_be_bytes w16 counter ++ (20 ∷ 1 ∷ 0 ∷ 0 ∷ [])) front_bytes (bytes_append (to_be_bytes w16 counter) (20 ∷ 1 ∷ 0 ∷ 0 ∷ []) (number_bytes counter) small_bytes))
counter_bytes counter false = subst AreBytes (sym (counter_is counter)) (bytes_append (19 ∷ 1 ∷ []) (to_be_bytes w16 counter) front_bytes (number_bytes counter))

-- ---- sizes

iv_size : (v : List ℕ) → length v ≡ 16 → length (item_text (item 129 v)) ≡ 20
unfolding item_text row_of shape_text
iv_size v sixteen = omega (arith, length-append v [], sixteen)

ciphertext_size : (v : List ℕ) → length (item_text (item 130 v)) ≡ 4 + length v
unfolding item_text row_of shape_text
ciphertext_size v = omega (arith, length-append v [])

checkcode_size : (v : List ℕ) → length (item_text (item 134 v)) ≡ 4 + length v
unfolding item_text row_of shape_text
checkcode_size v = omega (arith, length-append v [])

mac_size : (v : List ℕ) → length v ≡ 16 → length (item_text (item 11 v)) ≡ 20
unfolding item_text row_of shape_text
mac_size v sixteen = omega (arith, length-append v [], sixteen)

hash_length : (own : List ℕ) → IsHash own → length own ≤ 32
hash_length own (inl e) = omega (arith, e)
hash_length own (inr (inl e)) = omega (arith, e)
hash_length own (inr (inr e)) = omega (arith, e)

pair_size : (iv ciphertext : List ℕ) → length iv ≡ 16 → length (spelling (attr.Iv iv ∷ attr.EncrData ciphertext ∷ [])) ≡ 24 + length ciphertext
pair_size iv ciphertext v = omega (
  arith,
  length-append (item_text (item 129 iv)) (item_text (item 130 ciphertext) ++ []),
  length-append (item_text (item 130 ciphertext)) [],
  iv_size iv v,
  ciphertext_size ciphertext,
)

-- the ciphertext of a counter has one block
pub counter_is_one_block : EncryptedIsWritable → (k_encr iv : List ℕ) (counter : ℕ) (small : Bool) → IsBlock k_encr → IsBlock iv → AreBytes (spelling (counter_attrs counter small))
    → IsOneBlock k_encr iv counter small
counter_is_one_block law k_encr iv counter small k v bytes =
    let size = (law k_encr iv (counter_attrs counter small) [] k v (counter_may counter small) bytes (record { iv = refl; ciphertext = refl }) refl).1 in record {
      block = v.size;
      ciphertext = omega (arith, size, pair_size iv (cbc_encrypted k_encr iv (spelling (padded (counter_attrs counter small)))) v.size, block_length counter small);
    }

-- ---- the message

-- its attributes, with AT_IV and AT_ENCR_DATA of one block
abbrev whole : Bool → List ℕ → List ℕ → List ℕ → List ℕ → List Attr
whole has iv ciphertext own mac = ((attr.Iv iv ∷ attr.EncrData ciphertext ∷ []) ++ own_checkcode has own) ++ attr.Mac mac ∷ []

whole_writable : (has : Bool) (iv ciphertext own : List ℕ) → length iv ≡ 16 → length ciphertext ≡ 16 → IsHash own → writable (whole has iv ciphertext own no_mac) ≡ true
unfolding fits_item fits row_of
whole_writable true iv ciphertext own v d (inl e) = rw (v, d, e) refl
whole_writable true iv ciphertext own v d (inr (inl e)) = rw (v, d, e) refl
whole_writable true iv ciphertext own v d (inr (inr e)) = rw (v, d, e) refl
whole_writable false iv ciphertext own v d h = rw (v, d) refl

whole_length : (has : Bool) (iv ciphertext own mac : List ℕ) → length iv ≡ 16 → length ciphertext ≡ 16 → IsHash own → length mac ≡ 16 → length (spelling (whole has iv ciphertext own mac)) ≤ 96
whole_length true iv ciphertext own mac v d h m =
    let first = item_text (item 129 iv) in
    let second = item_text (item 130 ciphertext) in
    let third = item_text (item 134 own) in
    let last = item_text (item 11 mac) in
    omega (
      arith,
      length-append first (second ++ (third ++ (last ++ []))),
      length-append second (third ++ (last ++ [])),
      length-append third (last ++ []),
      length-append last [],
      iv_size iv v,
      ciphertext_size ciphertext,
      checkcode_size own,
      hash_length own h,
      mac_size mac m,
      d,
    )
whole_length false iv ciphertext own mac v d h m =
    let first = item_text (item 129 iv) in
    let second = item_text (item 130 ciphertext) in
    let last = item_text (item 11 mac) in
    omega (
      arith,
      length-append first (second ++ (last ++ [])),
      length-append second (last ++ []),
      length-append last [],
      iv_size iv v,
      ciphertext_size ciphertext,
      mac_size mac m,
      d,
    )

-- a Reauthentication response takes at most 104 bytes
with_size : (m : Method) (id : ℕ) (k_encr iv : List ℕ) (counter : ℕ) (small has : Bool) (own mac : List ℕ) → IsOneBlock k_encr iv counter small → IsHash own → length mac ≡ 16
    → length (packet_text (with_mac (reauth_draft m id k_encr iv counter small has own) mac)) ≤ 104
with_size m id k_encr iv counter small has own mac one h e =
    omega (arith, whole_length has iv (cbc_encrypted k_encr iv (spelling (padded (counter_attrs counter small)))) own mac one.block one.ciphertext h e)

pub reauth_size : (m : Method) (id : ℕ) (k_encr iv : List ℕ) (counter : ℕ) (small has : Bool) (own : List ℕ) → IsOneBlock k_encr iv counter small → IsHash own
    → length (packet_text (with_mac (reauth_draft m id k_encr iv counter small has own) no_mac)) ≤ 104
reauth_size m id k_encr iv counter small has own one h = with_size m id k_encr iv counter small has own no_mac one h refl

pub reauth_may : (m : Method) (id : ℕ) (k_encr iv : List ℕ) (counter : ℕ) (small has : Bool) (own : List ℕ) → IsOneBlock k_encr iv counter small → IsHash own
    → MayBeSealed (reauth_draft m id k_encr iv counter small has own)
reauth_may m id k_encr iv counter small has own one h = record {
  attrs = whole_writable has iv (cbc_encrypted k_encr iv (spelling (padded (counter_attrs counter small)))) own one.block one.ciphertext h;
  size = omega (arith, reauth_size m id k_encr iv counter small has own one h);
}

pub sealed_size : (m : Method) (id : ℕ) (k_aut nonce k_encr iv : List ℕ) (counter : ℕ) (small has : Bool) (own : List ℕ) → IsOneBlock k_encr iv counter small → IsHash own
    → length (sealed k_aut nonce (reauth_draft m id k_encr iv counter small has own)) ≤ 104
sealed_size m id k_aut nonce k_encr iv counter small has own one h =
    let draft = reauth_draft m id k_encr iv counter small has own in
    with_size m id k_encr iv counter small has own (draft_mac k_aut nonce draft) one h (length-mac_of m k_aut (packet_text (with_mac draft no_mac) ++ nonce))
