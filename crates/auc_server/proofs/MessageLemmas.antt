-- The messages of a server may be written, and how many bytes they take.
use Rattle.std.proofs.Common.{◌≡◌, ◌≢◌, ℕ, zero, suc, ◌+◌, ◌-◌, ◌/◌, ◌%◌, ◌≤◌, ◌<◌, ◌==◌, ◌||◌, nat_le, Bool, true, false, cond, List, [], ◌∷◌, ◌++◌, length, replicate, Option, Some, None, inl, inr, refl, arith, length-append}
use Rattle.std.proofs.lemmas.Bool.Decides.{nat_tests}
use Rattle.std.proofs.lemmas.List.{length-replicate}
use Rattle.std.specs.Int.{w16, to_be_bytes}
use Rattle.std.specs.List.{list_any}
use Rattle.auc_aes.proofs.Facts.{bytes_append}
use Rattle.auc_aes.specs.Bytes.{IsBlock}
use Rattle.auc_aes.specs.Cbc.{cbc_encrypted}
use Rattle.auc_attr.specs.Laws.{AreBytes}
use Rattle.auc_attr.specs.declared.attr.Attr.{Attr}
use Rattle.auc_attr.specs.declared.attr.Attr.TheVariants as attr
use Rattle.auc_attr.specs.Item.{item, item_of}
use Rattle.auc_attr.specs.Spelling.{writable, spelling, item_text, shape_text, fits_item, fits, fill}
use Rattle.auc_attr.specs.Table.{row_of}
use Rattle.auc_hmac.specs.Mac.{no_mac}
use Rattle.auc_hmac.proofs.Facts.{length-mac_of}
use Rattle.auc_hmac.specs.declared.method.Method.{Method}
use Rattle.auc_hmac.specs.declared.method.Method.TheVariants as method
use Rattle.auc_ident.specs.Permanent.{with_realm}
use Rattle.auc_packet.specs.Sealed.{MayBeSealed, draft_mac, sealed, with_mac}
use Rattle.auc_packet.specs.Spelling.{MayBeWritten, packet_text}
use Rattle.auc_seal.specs.Checkcode.{IsHash}
use Rattle.auc_seal.specs.Encrypted.{HasNoneEncrypted, is_padding, missing, padded, padding_for}
use Rattle.auc_seal.specs.Laws.{EncryptedIsWritable}
use Rattle.auc_server.specs.InnerMessages.{AreEncryptable, AreNames, IsGiven, IsName, IsSmall}
use Rattle.auc_server.specs.Messages.{aka_identity, attrs_by, attrs_given, challenge_draft, id_req, names_in, next_in, notification, reauth_draft, reauth_in}
use Rattle.auc_request.specs.declared.identities.IdentityRequest.{IdentityRequest}
use Rattle.auc_request.specs.declared.identities.IdentityRequest.TheVariants as asks
use Rattle.auc_server.specs.declared.naming.GivenNames.{GivenNames}
use Rattle.auc_server.specs.declared.naming.NewNames.{NewNames}
use Rattle.auc_server.specs.declared.naming.NewNames.TheVariants as names
use Rattle.auc_server.specs.declared.options.ServerOptions.{ServerOptions}
use Rattle.auc_server.specs.declared.server.Resumed.{Resumed}

-- ---- Challenge

-- a name of at most 255 bytes fits AT_KDF_INPUT
short_name : (name : List ℕ) → length name ≤ 255 → nat_le (length name) 1016 ≡ true
short_name name short = grind (arith, nat_tests, short)

-- a checkcode fits AT_CHECKCODE
check_fits : (check : List ℕ) → IsHash check → (length check == 0 || length check == 20 || length check == 32) ≡ true
check_fits check (inl e) = rw e refl
check_fits check (inr (inl e)) = rw e refl
check_fits check (inr (inr e)) = rw e refl

-- the attributes before AT_CHECKCODE
abbrev before : Method → List ℕ → Bool → List ℕ → List ℕ → List Attr → List Attr
before by name bidding rand autn hidden = attr.Rand rand ∷ attr.Autn autn ∷ (attrs_by by name bidding ++ hidden)

abbrev whole : Method → List ℕ → Bool → List ℕ → List ℕ → List Attr → List ℕ → List ℕ → List Attr
whole by name bidding rand autn hidden check mac = (before by name bidding rand autn hidden ++ attr.Checkcode check ∷ []) ++ attr.Mac mac ∷ []

plain_writable : (by : Method) (name : List ℕ) (bidding : Bool) (rand autn check : List ℕ) → length name ≤ 255 → length rand ≡ 16 → length autn ≡ 16 → IsHash check
    → writable (whole by name bidding rand autn [] check no_mac) ≡ true
unfolding fits_item fits row_of
plain_writable method.Prime name bidding rand autn check short r a c = rw (r, a, short_name name short, check_fits check c) refl
plain_writable method.Aka name true rand autn check short r a c = rw (r, a, check_fits check c) refl
plain_writable method.Aka name false rand autn check short r a c = rw (r, a, check_fits check c) refl

-- a ciphertext of at most 336 bytes fits AT_ENCR_DATA
short_ciphertext : (ciphertext : List ℕ) → length ciphertext ≤ 336 → nat_le (length ciphertext) 1016 ≡ true
short_ciphertext ciphertext small = grind (arith, nat_tests, small)

-- with AT_IV and AT_ENCR_DATA
hidden_writable : (by : Method) (name : List ℕ) (bidding : Bool) (rand autn iv ciphertext check : List ℕ) → length name ≤ 255 → length rand ≡ 16 → length autn ≡ 16
    → length iv ≡ 16 → length ciphertext % 4 ≡ 0 → length ciphertext ≤ 336 → IsHash check
    → writable (whole by name bidding rand autn (attr.Iv iv ∷ attr.EncrData ciphertext ∷ []) check no_mac) ≡ true
unfolding fits_item fits row_of
hidden_writable method.Prime name bidding rand autn iv ciphertext check short r a v u d c =
    rw (r, a, v, u, short_ciphertext ciphertext d, short_name name short, check_fits check c) refl
hidden_writable method.Aka name true rand autn iv ciphertext check short r a v u d c = rw (r, a, v, u, short_ciphertext ciphertext d, check_fits check c) refl
hidden_writable method.Aka name false rand autn iv ciphertext check short r a v u d c = rw (r, a, v, u, short_ciphertext ciphertext d, check_fits check c) refl

challenge_writable : (by : Method) (name : List ℕ) (bidding : Bool) (realm rand autn k_encr : List ℕ) (given : Option GivenNames) (check : List ℕ) → length name ≤ 255 → length rand ≡ 16
    → length autn ≡ 16 → IsGiven realm k_encr given → IsHash check → writable (whole by name bidding rand autn (attrs_given realm k_encr given) check no_mac) ≡ true
challenge_writable by name bidding realm rand autn k_encr None check short r a g c = plain_writable by name bidding rand autn check short r a c
challenge_writable by name bidding realm rand autn k_encr (Some n) check short r a g c =
    hidden_writable by name bidding rand autn n.iv (cbc_encrypted k_encr n.iv (spelling (padded (names_in realm n.names)))) check short r a g.block g.units g.ciphertext c

-- an attribute of two reserved bytes and 16 others takes 20 bytes
rand_size : (v : List ℕ) → length v ≡ 16 → length (item_text (item 1 v)) ≡ 20
unfolding item_text row_of shape_text
rand_size v sixteen = omega (arith, length-append v [], sixteen)

autn_size : (v : List ℕ) → length v ≡ 16 → length (item_text (item 2 v)) ≡ 20
unfolding item_text row_of shape_text
autn_size v sixteen = omega (arith, length-append v [], sixteen)

mac_size : (v : List ℕ) → length v ≡ 16 → length (item_text (item 11 v)) ≡ 20
unfolding item_text row_of shape_text
mac_size v sixteen = omega (arith, length-append v [], sixteen)

iv_size : (v : List ℕ) → length v ≡ 16 → length (item_text (item 129 v)) ≡ 20
unfolding item_text row_of shape_text
iv_size v sixteen = omega (arith, length-append v [], sixteen)

ciphertext_size : (v : List ℕ) → length (item_text (item 130 v)) ≡ 4 + length v
unfolding item_text row_of shape_text
ciphertext_size v = omega (arith, length-append v [])

checkcode_size : (v : List ℕ) → length (item_text (item 134 v)) ≡ 4 + length v
unfolding item_text row_of shape_text
checkcode_size v = omega (arith, length-append v [])

-- AT_KDF_INPUT takes 4 bytes, and the name with its fill at most 256
name_size : (v : List ℕ) → length v ≤ 255 → length (item_text (item 23 v)) ≤ 260
unfolding item_text row_of shape_text
name_size v short = omega (
  arith,
  length-append (to_be_bytes w16 (length v)) (v ++ replicate (fill (length v)) 0),
  length-append v (replicate (fill (length v)) 0),
  length-replicate {A = ℕ} (fill (length v)) 0,
  short,
)

kdf_size : length (item_text (item 24 (to_be_bytes w16 1))) ≡ 4
unfolding item_text row_of shape_text
kdf_size = refl

bidding_size : length (item_text (item 136 (1 ∷ []))) ≡ 4
unfolding item_text row_of shape_text
bidding_size = refl

pub check_short : (check : List ℕ) → IsHash check → length check ≤ 32
check_short check (inl e) = omega (arith, e)
check_short check (inr (inl e)) = omega (arith, e)
check_short check (inr (inr e)) = omega (arith, e)

-- AT_CHECKCODE and AT_MAC, which stand last, take at most 56 bytes
abbrev last : List ℕ → List ℕ → List ℕ
last check mac = item_text (item 134 check) ++ (item_text (item 11 mac) ++ [])

last_size : (check mac : List ℕ) → IsHash check → length mac ≡ 16 → length (last check mac) ≤ 56
last_size check mac c m =
    omega (arith, length-append (item_text (item 134 check)) (item_text (item 11 mac) ++ []), length-append (item_text (item 11 mac)) [], checkcode_size check, mac_size mac m, check_short check c)

-- AT_IV and AT_ENCR_DATA before them take at most 360 bytes
abbrev hidden_last : List ℕ → List ℕ → List ℕ → List ℕ → List ℕ
hidden_last iv ciphertext check mac = item_text (item 129 iv) ++ (item_text (item 130 ciphertext) ++ last check mac)

hidden_size : (iv ciphertext check mac : List ℕ) → length iv ≡ 16 → length ciphertext ≤ 336 → IsHash check → length mac ≡ 16 → length (hidden_last iv ciphertext check mac) ≤ 416
hidden_size iv ciphertext check mac v d c m = omega (
  arith,
  length-append (item_text (item 129 iv)) (item_text (item 130 ciphertext) ++ last check mac),
  length-append (item_text (item 130 ciphertext)) (last check mac),
  iv_size iv v,
  ciphertext_size ciphertext,
  d,
  last_size check mac c m,
)

-- AT_RAND and AT_AUTN take 40 bytes
front_size : (rand autn rest : List ℕ) → length rand ≡ 16 → length autn ≡ 16 → length (item_text (item 1 rand) ++ (item_text (item 2 autn) ++ rest)) ≡ 40 + length rest
front_size rand autn rest r a = omega (arith, length-append (item_text (item 1 rand)) (item_text (item 2 autn) ++ rest), length-append (item_text (item 2 autn)) rest, rand_size rand r, autn_size autn a)

-- what a method has by itself takes at most 264 bytes
prime_size : (rand autn name rest : List ℕ) → length rand ≡ 16 → length autn ≡ 16 → length name ≤ 255 → length rest ≤ 416
    → length (item_text (item 1 rand) ++ (item_text (item 2 autn) ++ (item_text (item 23 name) ++ (item_text (item 24 (to_be_bytes w16 1)) ++ rest)))) ≤ 720
prime_size rand autn name rest r a short small =
    let kdf = item_text (item 24 (to_be_bytes w16 1)) ++ rest in
    omega (
      arith,
      front_size rand autn (item_text (item 23 name) ++ kdf) r a,
      length-append (item_text (item 23 name)) kdf,
      length-append (item_text (item 24 (to_be_bytes w16 1))) rest,
      name_size name short,
      kdf_size,
      small,
    )

bid_size : (rand autn rest : List ℕ) → length rand ≡ 16 → length autn ≡ 16 → length rest ≤ 416
    → length (item_text (item 1 rand) ++ (item_text (item 2 autn) ++ (item_text (item 136 (1 ∷ [])) ++ rest))) ≤ 720
bid_size rand autn rest r a small =
    omega (arith, front_size rand autn (item_text (item 136 (1 ∷ [])) ++ rest) r a, length-append (item_text (item 136 (1 ∷ []))) rest, bidding_size, small)

aka_size : (rand autn rest : List ℕ) → length rand ≡ 16 → length autn ≡ 16 → length rest ≤ 416 → length (item_text (item 1 rand) ++ (item_text (item 2 autn) ++ rest)) ≤ 720
aka_size rand autn rest r a small = omega (arith, front_size rand autn rest r a, small)

-- the attributes of a Challenge take at most 720 bytes
plain_length : (by : Method) (name : List ℕ) (bidding : Bool) (rand autn check mac : List ℕ) → length name ≤ 255 → length rand ≡ 16 → length autn ≡ 16 → IsHash check → length mac ≡ 16
    → length (spelling (whole by name bidding rand autn [] check mac)) ≤ 720
plain_length method.Prime name bidding rand autn check mac short r a c m = prime_size rand autn name (last check mac) r a short (omega (arith, last_size check mac c m))
plain_length method.Aka name true rand autn check mac short r a c m = bid_size rand autn (last check mac) r a (omega (arith, last_size check mac c m))
plain_length method.Aka name false rand autn check mac short r a c m = aka_size rand autn (last check mac) r a (omega (arith, last_size check mac c m))

hidden_length : (by : Method) (name : List ℕ) (bidding : Bool) (rand autn iv ciphertext check mac : List ℕ) → length name ≤ 255 → length rand ≡ 16 → length autn ≡ 16 → length iv ≡ 16
    → length ciphertext ≤ 336 → IsHash check → length mac ≡ 16
    → length (spelling (whole by name bidding rand autn (attr.Iv iv ∷ attr.EncrData ciphertext ∷ []) check mac)) ≤ 720
hidden_length method.Prime name bidding rand autn iv ciphertext check mac short r a v d c m =
    prime_size rand autn name (hidden_last iv ciphertext check mac) r a short (hidden_size iv ciphertext check mac v d c m)
hidden_length method.Aka name true rand autn iv ciphertext check mac short r a v d c m =
    bid_size rand autn (hidden_last iv ciphertext check mac) r a (hidden_size iv ciphertext check mac v d c m)
hidden_length method.Aka name false rand autn iv ciphertext check mac short r a v d c m =
    aka_size rand autn (hidden_last iv ciphertext check mac) r a (hidden_size iv ciphertext check mac v d c m)

length_by : (by : Method) (name : List ℕ) (bidding : Bool) (realm rand autn k_encr : List ℕ) (given : Option GivenNames) (check mac : List ℕ) → length name ≤ 255 → length rand ≡ 16
    → length autn ≡ 16 → IsGiven realm k_encr given → IsHash check → length mac ≡ 16 → length (spelling (whole by name bidding rand autn (attrs_given realm k_encr given) check mac)) ≤ 720
length_by by name bidding realm rand autn k_encr None check mac short r a g c m = plain_length by name bidding rand autn check mac short r a c m
length_by by name bidding realm rand autn k_encr (Some n) check mac short r a g c m =
    hidden_length by name bidding rand autn n.iv (cbc_encrypted k_encr n.iv (spelling (padded (names_in realm n.names)))) check mac short r a g.block g.ciphertext c m

-- a Challenge takes at most 728 bytes
with_size : (options : ServerOptions) (realm : List ℕ) (id : ℕ) (rand autn k_encr : List ℕ) (given : Option GivenNames) (check mac : List ℕ) → length options.name ≤ 255 → length rand ≡ 16 → length autn ≡ 16
    → IsGiven realm k_encr given → IsHash check → length mac ≡ 16 → length (packet_text (with_mac (challenge_draft options realm id rand autn k_encr given check) mac)) ≤ 728
with_size options realm id rand autn k_encr given check mac short r a g c m =
    omega (arith, length_by options.method options.name options.bidding realm rand autn k_encr given check mac short r a g c m)

pub challenge_size : (options : ServerOptions) (realm : List ℕ) (id : ℕ) (rand autn k_encr : List ℕ) (given : Option GivenNames) (check : List ℕ) → length options.name ≤ 255 → length rand ≡ 16
    → length autn ≡ 16 → IsGiven realm k_encr given → IsHash check → length (packet_text (with_mac (challenge_draft options realm id rand autn k_encr given check) no_mac)) ≤ 728
challenge_size options realm id rand autn k_encr given check short r a g c = with_size options realm id rand autn k_encr given check no_mac short r a g c refl

pub challenge_may : (options : ServerOptions) (realm : List ℕ) (id : ℕ) (rand autn k_encr : List ℕ) (given : Option GivenNames) (check : List ℕ) → length options.name ≤ 255 → length rand ≡ 16
    → length autn ≡ 16 → IsGiven realm k_encr given → IsHash check → MayBeSealed (challenge_draft options realm id rand autn k_encr given check)
challenge_may options realm id rand autn k_encr given check short r a g c = record {
  attrs = challenge_writable options.method options.name options.bidding realm rand autn k_encr given check short r a g c;
  size = omega (arith, challenge_size options realm id rand autn k_encr given check short r a g c);
}

pub sealed_size : (options : ServerOptions) (realm k_aut : List ℕ) (id : ℕ) (rand autn k_encr : List ℕ) (given : Option GivenNames) (check : List ℕ) → length options.name ≤ 255 → length rand ≡ 16
    → length autn ≡ 16 → IsGiven realm k_encr given → IsHash check → length (sealed k_aut [] (challenge_draft options realm id rand autn k_encr given check)) ≤ 728
sealed_size options realm k_aut id rand autn k_encr given check short r a g c =
    let draft = challenge_draft options realm id rand autn k_encr given check in
    with_size options realm id rand autn k_encr given check (draft_mac k_aut [] draft) short r a g c
    (length-mac_of options.method k_aut (packet_text (with_mac draft no_mac) ++ []))

-- ---- padding

zero_is : (m : ℕ) → (m == 0) ≡ true → m ≡ 0
zero_is m = grind (arith, nat_tests)

some_is : (m : ℕ) → (m == 0) ≡ false → m ≢ 0
some_is m = grind (arith, nat_tests)

-- how many bytes a list takes
spelled_size : (xs ys : List Attr) → length (spelling (xs ++ ys)) ≡ length (spelling xs) + length (spelling ys)
spelled_size [] ys = omega arith
spelled_size (x ∷ xs) ys =
    omega (arith, length-append (item_text (item_of x)) (spelling (xs ++ ys)), length-append (item_text (item_of x)) (spelling xs), spelled_size xs ys)

padding_size : (zeros : List ℕ) → length (spelling (attr.Padding zeros ∷ [])) ≡ length zeros + 2
unfolding item_text row_of shape_text
padding_size zeros = omega (arith, length-append (zeros ++ []) [], length-append zeros [])

padding_by : (b : Bool) (m : ℕ) → (m == 0) ≡ b → m % 4 ≡ 0 → length (spelling (cond b [] (attr.Padding (replicate (m - 2) 0) ∷ []))) ≡ m
padding_by true m e w = omega (arith, zero_is m e)
padding_by false m e w = omega (arith, padding_size (replicate (m - 2) 0), length-replicate {A = ℕ} (m - 2) 0, some_is m e, w)

-- the padding takes as many bytes as are missing
padding_fills : (n : ℕ) → n % 4 ≡ 0 → length (spelling (padding_for n)) ≡ missing n
padding_fills n w = padding_by (missing n == 0) (missing n) refl (omega arith)

padded_size : (inner : List Attr) → length (spelling inner) % 4 ≡ 0 → length (spelling (padded inner)) ≡ length (spelling inner) + missing (length (spelling inner))
padded_size inner w = omega (arith, spelled_size inner (padding_for (length (spelling inner))), padding_fills (length (spelling inner)) w)

-- ---- attributes that are encrypted

pair_size : (iv ciphertext : List ℕ) → length iv ≡ 16 → length (spelling (attr.Iv iv ∷ attr.EncrData ciphertext ∷ [])) ≡ 24 + length ciphertext
pair_size iv ciphertext v = omega (
  arith,
  length-append (item_text (item 129 iv)) (item_text (item 130 ciphertext) ++ []),
  length-append (item_text (item 130 ciphertext)) [],
  iv_size iv v,
  ciphertext_size ciphertext,
)

-- their ciphertext has at most 336 bytes
pub is_small : EncryptedIsWritable → (k_encr iv : List ℕ) (inner : List Attr) → IsBlock k_encr → IsBlock iv → AreEncryptable inner → IsSmall k_encr iv inner
is_small law k_encr iv inner k v a =
    let size = (law k_encr iv inner [] k v a.may a.bytes (record { iv = refl; ciphertext = refl }) refl).1 in
    let pair = pair_size iv (cbc_encrypted k_encr iv (spelling (padded inner))) v.size in
    let most = padded_size inner a.units in record {
      block = v.size;
      units = omega (arith, size, pair, most, a.units);
      ciphertext = omega (arith, size, pair, most, a.units, a.size);
    }

-- bytes in front of bytes
bytes_cons : (byte : ℕ) (bytes : List ℕ) → byte < 256 → AreBytes bytes → AreBytes (byte ∷ bytes)
bytes_cons byte bytes small are zero = small
bytes_cons byte bytes small are (suc i) = are i

no_bytes : AreBytes []
no_bytes i = omega arith

two_bytes : (n : ℕ) → AreBytes (to_be_bytes w16 n)
two_bytes n zero = omega arith
two_bytes n (suc zero) = omega arith
two_bytes n (suc (suc i)) = omega arith

zero_bytes : (n : ℕ) → AreBytes (replicate n 0)
zero_bytes zero = no_bytes
zero_bytes (suc n) = bytes_cons 0 (replicate n 0) (omega arith) (zero_bytes n)

-- an attribute with a text
pseudonym_size : (v : List ℕ) → length (item_text (item 132 v)) ≡ 4 + length v + fill (length v)
unfolding item_text row_of shape_text
pseudonym_size v = omega (
  arith,
  length-append (to_be_bytes w16 (length v)) (v ++ replicate (fill (length v)) 0),
  length-append v (replicate (fill (length v)) 0),
  length-replicate {A = ℕ} (fill (length v)) 0,
)

next_size : (v : List ℕ) → length (item_text (item 133 v)) ≡ 4 + length v + fill (length v)
unfolding item_text row_of shape_text
next_size v = omega (
  arith,
  length-append (to_be_bytes w16 (length v)) (v ++ replicate (fill (length v)) 0),
  length-append v (replicate (fill (length v)) 0),
  length-replicate {A = ℕ} (fill (length v)) 0,
)

pseudonym_bytes : (v : List ℕ) → length v ≤ 289 → AreBytes v → AreBytes (item_text (item 132 v))
unfolding item_text row_of shape_text
pseudonym_bytes v short are =
    let rest = to_be_bytes w16 (length v) ++ (v ++ replicate (fill (length v)) 0) in
    bytes_cons 132 (((2 + length v + fill (length v) + 2) / 4) ∷ rest) (omega arith) (bytes_cons ((2 + length v + fill (length v) + 2) / 4) rest (omega (arith, short))
    (bytes_append (to_be_bytes w16 (length v)) (v ++ replicate (fill (length v)) 0) (two_bytes (length v))
    (bytes_append v (replicate (fill (length v)) 0) are (zero_bytes (fill (length v))))))

next_bytes : (v : List ℕ) → length v ≤ 289 → AreBytes v → AreBytes (item_text (item 133 v))
unfolding item_text row_of shape_text
next_bytes v short are =
    let rest = to_be_bytes w16 (length v) ++ (v ++ replicate (fill (length v)) 0) in
    bytes_cons 133 (((2 + length v + fill (length v) + 2) / 4) ∷ rest) (omega arith) (bytes_cons ((2 + length v + fill (length v) + 2) / 4) rest (omega (arith, short))
    (bytes_append (to_be_bytes w16 (length v)) (v ++ replicate (fill (length v)) 0) (two_bytes (length v))
    (bytes_append v (replicate (fill (length v)) 0) are (zero_bytes (fill (length v))))))

-- a name with a realm
realm_size : (text realm : List ℕ) → length text ≡ 33 → length realm ≤ 255 → length (with_realm text realm) ≤ 289
realm_size text [] e short = omega (arith, e)
realm_size text (letter ∷ letters) e short = omega (arith, length-append text (64 ∷ letter ∷ letters), e, short)

realm_bytes : (text realm : List ℕ) → AreBytes text → AreBytes realm → AreBytes (with_realm text realm)
realm_bytes text [] are also = are
realm_bytes text (letter ∷ letters) are also = bytes_append text (64 ∷ letter ∷ letters) are (bytes_cons 64 (letter ∷ letters) (omega arith) also)

short_text : (v : List ℕ) → length v ≤ 289 → nat_le (length v) 1016 ≡ true
short_text v short = grind (arith, nat_tests, short)

-- the next pseudonym, and the next identity with its realm, of at most 289 bytes
pseudonym_alone : (v : List ℕ) → length v ≡ 33 → writable (attr.NextPseudonym v ∷ []) ≡ true
unfolding fits_item fits row_of
pseudonym_alone v e = rw e refl

next_alone : (v : List ℕ) → length v ≤ 289 → writable (attr.NextReauthId v ∷ []) ≡ true
unfolding fits_item fits row_of
next_alone v short = rw (short_text v short) refl

both_writable : (v w : List ℕ) → length v ≡ 33 → length w ≤ 289 → writable (attr.NextPseudonym v ∷ attr.NextReauthId w ∷ []) ≡ true
unfolding fits_item fits row_of
both_writable v w e short = rw (e, short_text w short) refl

one_encryptable : (a : Attr) → writable (a ∷ []) ≡ true → list_any is_padding (a ∷ []) ≡ false → AreBytes (item_text (item_of a)) → length (item_text (item_of a)) % 4 ≡ 0
    → length (item_text (item_of a)) ≤ 336 → AreEncryptable (a ∷ [])
one_encryptable a may unpadded are units size =
    let n = length-append (item_text (item_of a)) [] in record {
      may = record { some = λ e. cc; writable = may; unpadded = unpadded; size = omega (arith, n, size) };
      bytes = bytes_append (item_text (item_of a)) [] are no_bytes;
      units = omega (arith, n, units);
      size = omega (arith, n, size);
    }

two_encryptable : (a b : Attr) → writable (a ∷ b ∷ []) ≡ true → list_any is_padding (a ∷ b ∷ []) ≡ false → AreBytes (item_text (item_of a)) → AreBytes (item_text (item_of b))
    → length (item_text (item_of a)) % 4 ≡ 0 → length (item_text (item_of b)) % 4 ≡ 0 → length (item_text (item_of a)) + length (item_text (item_of b)) ≤ 336 → AreEncryptable (a ∷ b ∷ [])
two_encryptable a b may unpadded are also units more size =
    let n = length-append (item_text (item_of a)) (item_text (item_of b) ++ []) in
    let m = length-append (item_text (item_of b)) [] in record {
      may = record { some = λ e. cc; writable = may; unpadded = unpadded; size = omega (arith, n, m, size) };
      bytes = bytes_append (item_text (item_of a)) (item_text (item_of b) ++ []) are (bytes_append (item_text (item_of b)) [] also no_bytes);
      units = omega (arith, n, m, units, more);
      size = omega (arith, n, m, size);
    }

-- the names that a Challenge gives
pub names_encryptable : (realm : List ℕ) (n : NewNames) → length realm ≤ 255 → AreBytes realm → AreNames n → AreEncryptable (names_in realm n)
names_encryptable realm (names.Pseudonym text) short also are =
    one_encryptable (attr.NextPseudonym text) (pseudonym_alone text are.size) refl (pseudonym_bytes text (omega (arith, are.size)) are.bytes)
    (omega (arith, pseudonym_size text, are.size)) (omega (arith, pseudonym_size text, are.size))
names_encryptable realm (names.Identity text) short also are =
    let v = with_realm text realm in
    let most = realm_size text realm are.size short in
    one_encryptable (attr.NextReauthId v) (next_alone v most) refl (next_bytes v most (realm_bytes text realm are.bytes also))
    (omega (arith, next_size v)) (omega (arith, next_size v, most))
names_encryptable realm (names.Both text other) short also are =
    let v = with_realm other realm in
    let most = realm_size other realm are.1.size short in
    two_encryptable (attr.NextPseudonym text) (attr.NextReauthId v) (both_writable text v are.0.size most) refl (pseudonym_bytes text (omega (arith, are.0.size)) are.0.bytes)
    (next_bytes v most (realm_bytes other realm are.1.bytes also)) (omega (arith, pseudonym_size text, are.0.size)) (omega (arith, next_size v))
    (omega (arith, pseudonym_size text, are.0.size, next_size v, most))

-- no attribute before is encrypted
pub none_before : (by : Method) (name : List ℕ) (bidding : Bool) (rand autn : List ℕ) → HasNoneEncrypted (attr.Rand rand ∷ attr.Autn autn ∷ attrs_by by name bidding)
none_before method.Prime name bidding rand autn = record { iv = refl; ciphertext = refl }
none_before method.Aka name true rand autn = record { iv = refl; ciphertext = refl }
none_before method.Aka name false rand autn = record { iv = refl; ciphertext = refl }

-- ---- Reauthentication

counter_size : (n : ℕ) → length (item_text (item 19 (to_be_bytes w16 n))) ≡ 4
unfolding item_text row_of shape_text
counter_size n = refl

counter_bytes : (n : ℕ) → AreBytes (item_text (item 19 (to_be_bytes w16 n)))
unfolding item_text row_of shape_text
counter_bytes n =
    bytes_cons 19 (1 ∷ (to_be_bytes w16 n ++ [])) (omega arith) (bytes_cons 1 (to_be_bytes w16 n ++ []) (omega arith) (bytes_append (to_be_bytes w16 n) [] (two_bytes n) no_bytes))

nonce_size : (v : List ℕ) → length v ≡ 16 → length (item_text (item 21 v)) ≡ 20
unfolding item_text row_of shape_text
nonce_size v e = omega (arith, length-append v [], e)

nonce_bytes : (v : List ℕ) → length v ≡ 16 → AreBytes v → AreBytes (item_text (item 21 v))
unfolding item_text row_of shape_text
nonce_bytes v e are =
    let rest = 0 ∷ 0 ∷ (v ++ []) in
    bytes_cons 21 (((2 + length v + 0 + 2) / 4) ∷ rest) (omega arith) (bytes_cons ((2 + length v + 0 + 2) / 4) rest (omega (arith, e))
    (bytes_cons 0 (0 ∷ (v ++ [])) (omega arith) (bytes_cons 0 (v ++ []) (omega arith) (bytes_append v [] are no_bytes))))

plain_reauth : (n : ℕ) (nonce : List ℕ) → length nonce ≡ 16 → writable (attr.Counter n ∷ attr.NonceS nonce ∷ []) ≡ true
unfolding fits_item fits row_of
plain_reauth n nonce e = rw e refl

next_reauth : (n : ℕ) (nonce v : List ℕ) → length nonce ≡ 16 → length v ≤ 289 → writable (attr.Counter n ∷ attr.NonceS nonce ∷ attr.NextReauthId v ∷ []) ≡ true
unfolding fits_item fits row_of
next_reauth n nonce v e short = rw (e, short_text v short) refl

-- what a Reauthentication request encrypts
reauth_by : (realm nonce : List ℕ) (n : ℕ) (next : Option (List ℕ)) → length realm ≤ 255 → AreBytes realm → length nonce ≡ 16 → AreBytes nonce → IsName next
    → AreEncryptable (attr.Counter n ∷ attr.NonceS nonce ∷ next_in realm next)
reauth_by realm nonce n None short also e are name =
    two_encryptable (attr.Counter n) (attr.NonceS nonce) (plain_reauth n nonce e) refl (counter_bytes n) (nonce_bytes nonce e are)
    (omega (arith, counter_size n)) (omega (arith, nonce_size nonce e)) (omega (arith, counter_size n, nonce_size nonce e))
reauth_by realm nonce n (Some text) short also e are name =
    let v = with_realm text realm in
    let most = realm_size text realm name.size short in
    let counter = item_text (item 19 (to_be_bytes w16 n)) in
    let fresh = item_text (item 21 nonce) in
    let next = item_text (item 133 v) in
    let first = length-append counter (fresh ++ (next ++ [])) in
    let second = length-append fresh (next ++ []) in
    let third = length-append next [] in record {
      may = record {
        some = λ e. cc;
        writable = next_reauth n nonce v e most;
        unpadded = refl;
        size = omega (arith, first, second, third, counter_size n, nonce_size nonce e, next_size v, most);
      };
      bytes = bytes_append counter (fresh ++ (next ++ [])) (counter_bytes n)
          (bytes_append fresh (next ++ []) (nonce_bytes nonce e are) (bytes_append next [] (next_bytes v most (realm_bytes text realm name.bytes also)) no_bytes));
      units = omega (arith, first, second, third, counter_size n, nonce_size nonce e, next_size v);
      size = omega (arith, first, second, third, counter_size n, nonce_size nonce e, next_size v, most);
    }

pub reauth_encryptable : (realm : List ℕ) (r : Resumed) → length realm ≤ 255 → AreBytes realm → length r.nonce ≡ 16 → AreBytes r.nonce → IsName r.next → AreEncryptable (reauth_in realm r)
reauth_encryptable realm r short also e are name = reauth_by realm r.nonce r.context.counter r.next short also e are name

abbrev reauth_attrs : List ℕ → List ℕ → List ℕ → List ℕ → List Attr
reauth_attrs iv ciphertext check mac = (attr.Iv iv ∷ attr.EncrData ciphertext ∷ attr.Checkcode check ∷ []) ++ attr.Mac mac ∷ []

reauth_writable : (iv ciphertext check : List ℕ) → length iv ≡ 16 → length ciphertext % 4 ≡ 0 → length ciphertext ≤ 336 → IsHash check → writable (reauth_attrs iv ciphertext check no_mac) ≡ true
unfolding fits_item fits row_of
reauth_writable iv ciphertext check v u d c = rw (v, u, short_ciphertext ciphertext d, check_fits check c) refl

reauth_with : (by : Method) (realm : List ℕ) (id : ℕ) (iv : List ℕ) (r : Resumed) (check mac : List ℕ) → IsSmall r.context.k_encr iv (reauth_in realm r) → IsHash check → length mac ≡ 16
    → length (packet_text (with_mac (reauth_draft by realm id iv r check) mac)) ≤ 728
reauth_with by realm id iv r check mac g c m =
    omega (arith, hidden_size iv (cbc_encrypted r.context.k_encr iv (spelling (padded (reauth_in realm r)))) check mac g.block g.ciphertext c m)

pub reauth_size : (by : Method) (realm : List ℕ) (id : ℕ) (iv : List ℕ) (r : Resumed) (check : List ℕ) → IsSmall r.context.k_encr iv (reauth_in realm r) → IsHash check
    → length (packet_text (with_mac (reauth_draft by realm id iv r check) no_mac)) ≤ 728
reauth_size by realm id iv r check g c = reauth_with by realm id iv r check no_mac g c refl

pub reauth_may : (by : Method) (realm : List ℕ) (id : ℕ) (iv : List ℕ) (r : Resumed) (check : List ℕ) → IsSmall r.context.k_encr iv (reauth_in realm r) → IsHash check
    → MayBeSealed (reauth_draft by realm id iv r check)
reauth_may by realm id iv r check g c = record {
  attrs = reauth_writable iv (cbc_encrypted r.context.k_encr iv (spelling (padded (reauth_in realm r)))) check g.block g.units g.ciphertext c;
  size = omega (arith, reauth_size by realm id iv r check g c);
}

pub resealed_size : (by : Method) (realm : List ℕ) (id : ℕ) (iv : List ℕ) (r : Resumed) (check : List ℕ) → IsSmall r.context.k_encr iv (reauth_in realm r) → IsHash check
    → length (sealed r.context.k_aut [] (reauth_draft by realm id iv r check)) ≤ 728
resealed_size by realm id iv r check g c =
    let draft = reauth_draft by realm id iv r check in
    reauth_with by realm id iv r check (draft_mac r.context.k_aut [] draft) g c (length-mac_of by r.context.k_aut (packet_text (with_mac draft no_mac) ++ []))

-- ---- AKA-Identity

id_writable : (kind : IdentityRequest) → writable (id_req kind ∷ []) ≡ true
unfolding fits_item fits row_of
id_writable asks.Any = refl
id_writable asks.Fullauth = refl
id_writable asks.Permanent = refl

id_length : (kind : IdentityRequest) → length (spelling (id_req kind ∷ [])) ≡ 4
unfolding item_text row_of shape_text
id_length asks.Any = refl
id_length asks.Fullauth = refl
id_length asks.Permanent = refl

pub identity_may : (by : Method) (id : ℕ) (kind : IdentityRequest) → MayBeWritten (aka_identity by id kind)
identity_may by id kind = record { attrs = id_writable kind; size = omega (arith, id_length kind) }

pub identity_size : (by : Method) (id : ℕ) (kind : IdentityRequest) → length (packet_text (aka_identity by id kind)) ≤ 728
identity_size by id kind = omega (arith, id_length kind)

-- ---- Notification

notification_writable : writable (attr.Notification 16384 ∷ []) ≡ true
unfolding fits_item fits row_of
notification_writable = refl

notification_length : length (spelling (attr.Notification 16384 ∷ [])) ≡ 4
unfolding item_text row_of shape_text
notification_length = refl

pub notification_may : (by : Method) (id : ℕ) → MayBeWritten (notification by id)
notification_may by id = record { attrs = notification_writable; size = omega (arith, notification_length) }

pub notification_size : (by : Method) (id : ℕ) → length (packet_text (notification by id)) ≤ 728
notification_size by id = omega (arith, notification_length)
