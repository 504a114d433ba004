-- For plain sessions: the bytes of K_encr, of a checkcode, and of the pseudonym that a Challenge gives.
use Rattle.std.proofs.Common.{◌≡◌, ℕ, zero, suc, ◌+◌, ◌*◌, ◌/◌, ◌<◌, ◌≤◌, true, ltb, List, [], ◌∷◌, ◌++◌, length, take, codes, Option, Some, None, inl, inr, refl, ap, ◌∙◌, arith, length-append}
use Rattle.std.proofs.lemmas.Bool.{and_parts, ltb-true}
use Rattle.std.proofs.lemmas.List.{length-take-le}
use Rattle.std.specs.Int.{w32, to_be_bytes}
use Rattle.std.specs.List.{list_all}
use Rattle.std.specs.Prelude.{slice_index}
use Rattle.hex.proofs.HexLemmas.{IsAscii-encode_with, length-encode_with}
use Rattle.hex.specs.Hex.{encode_lower, lower_digits}
use Rattle.sha1.specs.Sha1.{sha1}
use Rattle.sha1.specs.Sha1 as One
use Rattle.sha2.proofs.Facts256.{length-sha256}
use Rattle.sha2.specs.Sha256.{sha256, digest_bytes, final_hash, initial_hash_256}
use Rattle.auc_aes.proofs.Facts.{bytes_append, bytes_take, length_xor}
use Rattle.auc_aes.specs.Bytes.{IsBlock, IsBytes}
use Rattle.auc_aes.specs.Cipher.{aes, final_round, next_key, round_constant, round_key, schedule_word, shift_rows, state_after, sub_bytes}
use Rattle.auc_hmac.specs.Hmac.{hmac, hmac_sha256, key_block, masked}
use Rattle.auc_hmac.specs.Piece.{piece}
use Rattle.auc_hmac.specs.declared.method.Method.{Method}
use Rattle.auc_hmac.specs.declared.method.Method.TheVariants as method
use Rattle.auc_ident.specs.Names.{name_block, name_digit, name_text}
use Rattle.auc_ident.specs.declared.names.NameKind.{NameKind}
use Rattle.auc_ident.specs.declared.names.NameKind.TheVariants as kinds
use Rattle.auc_kdf.specs.Prime.{prf_block, prf_blocks}
use Rattle.auc_prf.specs.Generator.{bytes_of, word_of, words, xkey_after, number_of}
use Rattle.auc_prf.specs.Keys.{aka_mk, stream}
use Rattle.auc_random.specs.Random.{nonce_of}
use Rattle.auc_seal.specs.Checkcode.{IsHash, checkcode_of, value_bytes}
use Rattle.auc_seal.specs.Laws.{EncryptedIsWritable}
use Rattle.auc_server.proofs.Facts.{is_small, names_encryptable}
use Rattle.auc_server.specs.InnerMessages.{AreNames, IsGiven, IsName}
use Rattle.auc_server.specs.Messages.{names_in}
use Rattle.auc_server.specs.Ordinals.{homes_given, ordinal_given}
use Rattle.auc_server.specs.Rounds.{checkcode}
use Rattle.auc_server.specs.Server.{ServerEnd}
use Rattle.auc_subs.specs.Setting.{Setting}
use Rattle.auc_server.specs.Table.{both_of, identity_given, name_of, names_given, pseudonym_given, random_at, under}
use Rattle.auc_server.specs.declared.naming.GivenNames.{GivenNames}
use Rattle.auc_server.specs.declared.setting.HomeRow.{HomeRow}
use Rattle.auc_vector.specs.Keys.{keys_of}
use Rattle.auc_world.proofs.PlainVectorLemmas.{high_first_are, sixteen_block}

-- ---- hashes

no_bytes : IsBytes []
no_bytes i = omega arith

-- words of a hash value are bytes, and so many
digest_are : (h : List ℕ) (n : ℕ) → IsBytes (digest_bytes h n)
unfolding digest_bytes
digest_are h zero = no_bytes
digest_are h (suc n) = bytes_append (digest_bytes h n) (to_be_bytes w32 (slice_index h n)) (digest_are h n) (high_first_are 4 (slice_index h n))

sha_are : (bytes : List ℕ) → IsBytes (sha256 bytes)
unfolding sha256
sha_are bytes = digest_are (final_hash initial_hash_256 bytes) 8

hmac_are : (key text : List ℕ) → IsBytes (hmac_sha256 key text)
unfolding hmac
hmac_are key text =
    let block = key_block sha256 64 key in sha_are (masked 0x5C block ++ sha256 (masked 0x36 block ++ text))

hmac_size : (key text : List ℕ) → length (hmac_sha256 key text) ≡ 32
unfolding hmac
hmac_size key text =
    let block = key_block sha256 64 key in length-sha256 (masked 0x5C block ++ sha256 (masked 0x36 block ++ text))

digest_size : (h : List ℕ) (n : ℕ) → length (One.digest_bytes h n) ≡ n * 4
unfolding One.digest_bytes
digest_size h zero = refl
digest_size h (suc n) =
    let last : length (to_be_bytes w32 (slice_index h n)) ≡ 4 = refl in
    omega (arith, digest_size h n, last, length-append (One.digest_bytes h n) (to_be_bytes w32 (slice_index h n)))

sha1_size : (bytes : List ℕ) → length (sha1 bytes) ≡ 20
unfolding sha1
sha1_size bytes = digest_size (One.hash_after (One.padded_message bytes) (length (One.padded_message bytes) / 64)) 5

-- ---- a checkcode

-- a checkcode is empty or a hash
pub checkcode_hash : (m : Method) (packets : List (List ℕ)) → IsHash (checkcode m packets)
unfolding checkcode
checkcode_hash m [] = inl refl
checkcode_hash method.Aka (packet ∷ packets) = inr (inl (sha1_size _))
checkcode_hash method.Prime (packet ∷ packets) = inr (inr (length-sha256 _))

-- both ends mean one value by it
pub checkcode_is : (m : Method) (packets : List (List ℕ)) → value_bytes (checkcode_of m packets) ≡ checkcode m packets
unfolding checkcode
checkcode_is m packets = refl

-- ---- K_encr

front_block : (bytes : List ℕ) → 16 ≤ length bytes → IsBytes bytes → IsBlock (piece 0 16 bytes)
front_block bytes long are = record { size = length-take-le 16 bytes long; bytes = bytes_take 16 bytes are }

number_are : (n : ℕ) → IsBytes (bytes_of n)
unfolding bytes_of
number_are n = high_first_are 20 n

number_size : (n : ℕ) → length (bytes_of n) ≡ 20
unfolding bytes_of
number_size n = refl

words_are : (count xkey : ℕ) → IsBytes (words count xkey)
unfolding words
words_are zero xkey = no_bytes
words_are (suc count) xkey = bytes_append (bytes_of (word_of xkey)) (words count (xkey_after xkey)) (number_are (word_of xkey)) (words_are count (xkey_after xkey))

words_more : (count xkey : ℕ) → words (suc count) xkey ≡ bytes_of (word_of xkey) ++ words count (xkey_after xkey)
unfolding words
words_more count xkey = refl

words_long : (xkey : ℕ) → 16 ≤ length (words 8 xkey)
words_long xkey =
    let more : length (words 8 xkey) ≡ length (bytes_of (word_of xkey) ++ words 7 (xkey_after xkey)) = ap (λ (l : List ℕ). length l) (words_more 7 xkey) in
    omega (arith, more, length-append (bytes_of (word_of xkey)) (words 7 (xkey_after xkey)), number_size (word_of xkey))

block_are : (key seed : List ℕ) (n : ℕ) → IsBytes (prf_block key seed n)
unfolding prf_block
block_are key seed zero = no_bytes
block_are key seed (suc n) = hmac_are key (prf_block key seed n ++ seed ++ suc n ∷ [])

block_size : (key seed : List ℕ) (n : ℕ) → length (prf_block key seed (suc n)) ≡ 32
unfolding prf_block
block_size key seed n = hmac_size key (prf_block key seed n ++ seed ++ suc n ∷ [])

blocks_are : (key seed : List ℕ) (n : ℕ) → IsBytes (prf_blocks key seed n)
unfolding prf_blocks
blocks_are key seed zero = no_bytes
blocks_are key seed (suc n) = bytes_append (prf_blocks key seed n) (prf_block key seed (suc n)) (blocks_are key seed n) (block_are key seed (suc n))

blocks_size : (key seed : List ℕ) (n : ℕ) → length (prf_blocks key seed n) ≡ n * 32
unfolding prf_blocks
blocks_size key seed zero = refl
blocks_size key seed (suc n) =
    omega (arith, length-append (prf_blocks key seed n) (prf_block key seed (suc n)), blocks_size key seed n, block_size key seed n)

-- K_encr is a block
pub k_encr_block : (m : Method) (identity ik ck : List ℕ) → IsBlock (keys_of m identity ik ck).k_encr
unfolding keys_of
k_encr_block method.Aka identity ik ck =
    let xkey = number_of (aka_mk identity ik ck) in front_block (stream (aka_mk identity ik ck)) (words_long xkey) (words_are 8 xkey)
k_encr_block method.Prime identity ik ck =
    let blocks = prf_blocks (ik ++ ck) (codes "EAP-AKA'" ++ identity) 7 in
    let whole : length blocks ≡ 224 = blocks_size (ik ++ ck) (codes "EAP-AKA'" ++ identity) 7 in
    front_block (take 208 blocks) (omega (arith, length-take-le 208 blocks (omega (arith, whole))))
    (bytes_take 208 blocks (blocks_are (ik ++ ck) (codes "EAP-AKA'" ++ identity) 7))

-- ---- the pseudonym that is given

shift_size : (state : List ℕ) → length (shift_rows state) ≡ 16
unfolding shift_rows
shift_size state = refl

next_size : (key : List ℕ) (constant : ℕ) → length (next_key key constant) ≡ 16
unfolding next_key schedule_word
next_size key constant = refl

last_key : (key : List ℕ) → round_key key 10 ≡ next_key (round_key key 9) (round_constant 9)
unfolding round_key
last_key key = refl

-- a block under any key has 16 bytes
aes_size : (key block : List ℕ) → length (aes key block) ≡ 16
unfolding aes final_round
aes_size key block =
    let state = shift_rows (sub_bytes (state_after key block 9)) in
    let last : length (round_key key 10) ≡ 16 = ap (λ (l : List ℕ). length l) (last_key key) ∙ next_size (round_key key 9) (round_constant 9) in
    length_xor state (round_key key 10) (omega (arith, shift_size (sub_bytes (state_after key block 9)), last)) ∙ shift_size (sub_bytes (state_after key block 9))

pub name_size : (key : List ℕ) (kind : NameKind) (m : Method) (sub ordinal : ℕ) → length (name_text key kind m sub ordinal) ≡ 33
name_size key kind m sub ordinal =
    let hidden = aes key (name_block kind m sub ordinal) in
    omega (arith, length-encode_with lower_digits hidden, aes_size key (name_block kind m sub ordinal))

below_by : (bytes : List ℕ) → list_all (λ (b : ℕ). ltb b 128) bytes ≡ true → (i : ℕ) → slice_index bytes i < 128
below_by [] e i = omega arith
below_by (b ∷ bytes) e zero = ltb-true b 128 (and_parts (ltb b 128) (list_all (λ (b : ℕ). ltb b 128) bytes) e).0
below_by (b ∷ bytes) e (suc i) = below_by bytes (and_parts (ltb b 128) (list_all (λ (b : ℕ). ltb b 128) bytes) e).1 i

digit_byte : (kind : NameKind) (m : Method) → name_digit kind m < 256
digit_byte kinds.Pseudonym method.Aka = omega arith
digit_byte kinds.Pseudonym method.Prime = omega arith
digit_byte kinds.Reauth method.Aka = omega arith
digit_byte kinds.Reauth method.Prime = omega arith

name_are : (key : List ℕ) (kind : NameKind) (m : Method) (sub ordinal : ℕ) → IsBytes (name_text key kind m sub ordinal)
name_are key kind m sub ordinal zero = digit_byte kind m
name_are key kind m sub ordinal (suc i) =
    let low : slice_index (encode_lower (aes key (name_block kind m sub ordinal))) i < 128 =
    IsAscii-encode_with lower_digits (aes key (name_block kind m sub ordinal)) (below_by lower_digits refl) i in
    omega (arith, low)

pub nonce_block : (key : List ℕ) (session k : ℕ) → IsBlock (nonce_of key session k)
unfolding nonce_of
nonce_block key session k = sixteen_block key (4294967296 + session) (4 * k)

-- names that can be encrypted: their initialisation vector is a block, and each has 33 bytes
pub record IsNewNames (given : GivenNames) : Type 0 where
  pub iv : IsBlock given.iv
  pub names : AreNames given.names

abbrev pub AreNewNames : Option GivenNames → Type 0
AreNewNames None = Unit {0}
AreNewNames (Some given) = IsNewNames given

-- a name of an ordinal is one
pub name_named : (set : Setting) (kind : NameKind) (s : ServerEnd) (sub : ℕ) (ordinal : Option ℕ) → IsName (name_of set kind s sub ordinal)
name_named set kind s sub None = tt
name_named set kind s sub (Some ordinal) =
    record { size = name_size set.names kind s.options.method sub ordinal; bytes = name_are set.names kind s.options.method sub ordinal }

under_both : (iv : List ℕ) (a b : Option (List ℕ)) → IsBlock iv → IsName a → IsName b → AreNewNames (under iv (both_of a b))
under_both iv None None block a b = tt
under_both iv (Some text) None block a b = record { iv = block; names = a }
under_both iv None (Some other) block a b = record { iv = block; names = b }
under_both iv (Some text) (Some other) block a b = record { iv = block; names = (a, b) }

pub names_are : (set : Setting) (homes : List HomeRow) (s : ServerEnd) (sub : ℕ) → AreNewNames (names_given set homes s sub)
names_are set homes s sub =
    under_both (random_at set s s.next_iv) (pseudonym_given set homes s sub) (identity_given set homes s sub) (nonce_block set.key s.options.session s.next_iv)
    (name_named set kinds.Pseudonym s sub (ordinal_given s.options.pseudonym homes sub))
    (name_named set kinds.Reauth s sub (ordinal_given s.options.reauth (homes_given s.options.pseudonym homes sub) sub))

-- they are small enough for a Challenge
pub names_fit : EncryptedIsWritable → (realm k_encr : List ℕ) (given : Option GivenNames) → length realm ≤ 255 → IsBytes realm → IsBlock k_encr → AreNewNames given → IsGiven realm k_encr given
names_fit law realm k_encr None short also block is = tt
names_fit law realm k_encr (Some given) short also block is =
    is_small law k_encr given.iv (names_in realm given.names) block is.iv (names_encryptable realm given.names short also is.names)
