-- For Agreement: what a peer decrypts of a Reauthentication is what its server encrypted (RFC 4187 §10.12).
use Rattle.std.proofs.Common.{◌≡◌, ◌⊎◌, ℕ, ◌<◌, ◌==◌, Bool, true, false, not, if◌then◌else◌, List, [], ◌∷◌, ◌++◌, length, Option, Some, None, Ok, Err, Result, refl, sym, ap, ◌∙◌, subst, append-nil}
use Rattle.std.proofs.lemmas.Nat.{from_be_bytes-to_be_bytes_2}
use Rattle.std.specs.Int.{w16, to_be_bytes}
use Rattle.auc_aes.specs.Bytes.{IsBlock}
use Rattle.auc_attr.proofs.Facts.{one_walk}
use Rattle.auc_attr.specs.Item.{item_of, items}
use Rattle.auc_attr.specs.Grammar.{ReadsAttrs}
use Rattle.auc_attr.specs.Value.{IsValueIn, first_of_kind, value_of}
use Rattle.auc_attr.specs.declared.attr.Attr.{Attr}
use Rattle.auc_attr.specs.declared.attr.Attr.TheVariants as attr
use Rattle.auc_attr.specs.declared.refusal.AttrRefusal.{AttrRefusal}
use Rattle.auc_hmac.specs.declared.method.Method.{Method}
use Rattle.auc_packet.specs.Laws.{WrittenIsRead, has_values}
use Rattle.auc_packet.specs.Messages.{is_missing}
use Rattle.auc_packet.specs.Packet.{ReadsPacket}
use Rattle.auc_packet.specs.Received.{IsReceived, OneReceived, Seen, attrs_in}
use Rattle.auc_packet.specs.Sealed.{SealedIsRead, draft_mac, sealed}
use Rattle.auc_packet.specs.Spelling.{MayBeWritten, packet_text}
use Rattle.auc_packet.specs.declared.packet.Packet.{Packet}
use Rattle.auc_packet.specs.declared.received.Reading.{Reading}
use Rattle.auc_packet.specs.declared.received.Reading.TheVariants as reading
use Rattle.auc_packet.specs.declared.subtype.Subtype.TheVariants as subtype
use Rattle.auc_peer.specs.Turn.{IsInner}
use Rattle.auc_peer.specs.declared.decrypted.Decrypted.TheVariants as decrypted
use Rattle.auc_request.specs.Request.{block_in, number_in}
use Rattle.auc_request.specs.declared.enclosed.Enclosed.{Enclosed}
use Rattle.auc_seal.specs.Checkcode.{IsHash}
use Rattle.auc_seal.specs.Encrypted.{IsDecrypted, decrypted_bytes, encrypted, is_padding, without_padding}
use Rattle.auc_seal.specs.Laws.{EncryptedIsDecrypted, EncryptedIsWritable}
use Rattle.auc_seal.specs.declared.refusal.SealRefusal.{SealRefusal}
use Rattle.auc_server.proofs.Facts.{is_small, reauth_encryptable, reauth_may}
use Rattle.auc_server.specs.InnerMessages.{IsName}
use Rattle.auc_server.specs.Messages.{reauth_bytes, reauth_draft, reauth_in}
use Rattle.auc_server.specs.declared.server.Resumed.{Resumed}
use Rattle.auc_world.specs.Agreement.{IsRealm, IsSized}

-- the laws of packets and of encrypted attributes
pub record Readings : Type 0 where
  pub alike : OneReceived
  pub written : WrittenIsRead
  pub sealed_read : SealedIsRead
  pub may_be_hidden : EncryptedIsWritable
  pub decrypted : EncryptedIsDecrypted

-- ---- what a server sends

-- a re-authentication that can be encrypted
pub record IsResumption (r : Resumed) : Type 0 where
  pub context : IsSized r.context
  pub nonce : IsBlock r.nonce
  pub next : IsName r.next

-- the request of a re-authentication
pub record IsAsking (realm : List ℕ) (r : Resumed) (bytes : List ℕ) : Type 0 where
  pub by : Method
  pub id : ℕ
  pub iv : List ℕ
  pub check : List ℕ
  pub block : IsBlock iv
  pub hash : IsHash check
  pub is : bytes ≡ reauth_bytes by realm id iv r check

-- a packet that has not what a Reauthentication must have
pub record IsOther (bytes : List ℕ) : Type 0 where
  pub text : Packet
  pub may : MayBeWritten text
  pub values : has_values text ≡ true
  pub lacks : is_missing subtype.Reauthentication true (attrs_in (reading.Read text)) ≡ true
  pub is : bytes ≡ packet_text text

abbrev pub IsText : List ℕ → Resumed → List ℕ → Type 0
IsText realm r bytes = IsAsking realm r bytes ⊎ IsOther bytes

-- ---- what is read

-- a packet that may be written is received as itself
itself : Readings → (seen : Seen) (p : Packet) → MayBeWritten p → has_values p ≡ true → IsReceived seen → seen.bytes ≡ packet_text p → seen.reading ≡ reading.Read p
itself laws seen p may values received e =
    let whole : seen.bytes ≡ packet_text p ++ [] = e ∙ sym (append-nil (packet_text p)) in
    let other : Seen = record { bytes = seen.bytes; reading = reading.Read p; place = seen.place } in
    let reads : ReadsPacket seen.bytes p = subst (λ (b : List ℕ). ReadsPacket b p) (sym whole) (laws.written p [] may) in
    ap (λ (s : Seen). s.reading) (laws.alike seen other refl received (record { reads = (reads, values); placed = received.placed }))

-- it isn't taken for a Reauthentication
pub lacks : Readings → (seen : Seen) → IsReceived seen → IsOther seen.bytes → is_missing subtype.Reauthentication true (attrs_in seen.reading) ≡ true
lacks laws seen received o =
    ap (λ (r : Reading). is_missing subtype.Reauthentication true (attrs_in r)) (itself laws seen o.text o.may o.values received o.is) ∙ o.lacks

-- ---- padding

padding_kind : (a : Attr) → is_padding a ≡ true → (item_of a).kind ≡ 6
padding_kind (attr.Rand v) e = cc
padding_kind (attr.Autn v) e = cc
padding_kind (attr.Res v) e = cc
padding_kind (attr.Auts v) e = cc
padding_kind (attr.Padding v) e = refl
padding_kind attr.PermanentIdReq e = cc
padding_kind (attr.Mac v) e = cc
padding_kind (attr.Notification n) e = cc
padding_kind attr.AnyIdReq e = cc
padding_kind (attr.Identity v) e = cc
padding_kind attr.FullauthIdReq e = cc
padding_kind (attr.Counter n) e = cc
padding_kind attr.CounterTooSmall e = cc
padding_kind (attr.NonceS v) e = cc
padding_kind (attr.ClientErrorCode n) e = cc
padding_kind (attr.KdfInput v) e = cc
padding_kind (attr.Kdf n) e = cc
padding_kind (attr.Iv v) e = cc
padding_kind (attr.EncrData v) e = cc
padding_kind (attr.NextPseudonym v) e = cc
padding_kind (attr.NextReauthId v) e = cc
padding_kind (attr.Checkcode v) e = cc
padding_kind attr.ResultInd e = cc
padding_kind (attr.Bidding d) e = cc
padding_kind (attr.Skipped kind v) e = cc

-- the first value of another type isn't that of padding
pub first_unpadded : (kind : ℕ) (list : List Attr) → (6 == kind) ≡ false → first_of_kind kind (items (without_padding list)) ≡ first_of_kind kind (items list)
first_unpadded kind [] apart = refl
first_unpadded kind (a ∷ list) apart = by (is_padding a) refl (first_unpadded kind list apart)
  where
    skip : (b : Bool) → b ≡ false → first_of_kind kind (items list) ≡ (if b then Some (item_of a).value else first_of_kind kind (items list))
    skip true e = cc
    skip false e = refl

    same : (b : Bool) → first_of_kind kind (items (without_padding list)) ≡ first_of_kind kind (items list)
        → (if b then Some (item_of a).value else first_of_kind kind (items (without_padding list))) ≡ (if b then Some (item_of a).value else first_of_kind kind (items list))
    same true rest = refl
    same false rest = rest

    by : (b : Bool) → is_padding a ≡ b → first_of_kind kind (items (without_padding list)) ≡ first_of_kind kind (items list)
        → first_of_kind kind (items (if not b then a ∷ without_padding list else without_padding list)) ≡ (if (item_of a).kind == kind then Some (item_of a).value else first_of_kind kind (items list))
    by true e rest = rest ∙ skip ((item_of a).kind == kind) (ap (λ (n : ℕ). n == kind) (padding_kind a e) ∙ apart)
    by false e rest = same ((item_of a).kind == kind) rest

-- ---- what is decrypted

no_refusal : (bytes : List ℕ) (refused : SealRefusal) (o : Result (List ℕ) SealRefusal) → o ≡ Ok bytes → o ≡ Err refused → ⊥
no_refusal bytes refused o e f = cc

same_bytes : (o : Result (List ℕ) SealRefusal) (a b : List ℕ) → o ≡ Ok a → o ≡ Ok b → a ≡ b
same_bytes o a b e f = cc

-- the value of a type in bytes that are attributes
pub value_is : (bytes : List ℕ) (whole : List Attr) (kind : ℕ) (value : Option (List ℕ)) → ReadsAttrs bytes whole → IsValueIn kind bytes value → value ≡ first_of_kind kind (items whole)
value_is bytes whole kind value reads (is, end, walks, same) =
    let (one, over) = one_walk [] bytes is (items whole) end None walks reads.0 in
    same ∙ ap (value_of kind end) one ∙ ap (λ (f : Option AttrRefusal). value_of kind f (items whole)) over

pub block_is : (v : List ℕ) → length v ≡ 16 → block_in (Some v) ≡ Some v
block_is v e = rw e refl

pub number_is : (n : ℕ) → n < 65536 → number_in (Some (to_be_bytes w16 n)) ≡ Some n
number_is n small = ap Some (from_be_bytes-to_be_bytes_2 n small)

-- the attributes of a request, with its AT_MAC
abbrev list_of : List ℕ → List ℕ → Resumed → List ℕ → List ℕ → List Attr
list_of realm iv r check mac = (encrypted r.context.k_encr iv (reauth_in realm r) ++ attr.Checkcode check ∷ []) ++ attr.Mac mac ∷ []

-- a peer has the counter and the NONCE_S of the re-authentication
abbrev pub HasCounter : Resumed → Enclosed → Type 0
HasCounter r given = (given.counter ≡ Some r.context.counter) × (given.nonce ≡ Some r.nonce)

gives_counter : Readings → (realm iv : List ℕ) (r : Resumed) (check mac : List ℕ) (given : Enclosed) → IsRealm realm → IsResumption r → IsBlock iv
    → IsInner r.context.k_encr (list_of realm iv r check mac) (decrypted.Attributes given) → HasCounter r given
gives_counter laws realm iv r check mac given is fits block (bytes, opens, gives) =
    let inner = reauth_in realm r in
    let may = reauth_encryptable realm r is.short is.bytes fits.nonce.size fits.nonce.bytes fits.next in
    let alone : IsDecrypted r.context.k_encr (encrypted r.context.k_encr iv inner) inner =
    laws.decrypted r.context.k_encr iv inner [] fits.context.k_encr block may.may may.bytes (record { iv = refl; ciphertext = refl }) in
    let same : alone.bytes ≡ bytes = same_bytes (decrypted_bytes r.context.k_encr (encrypted r.context.k_encr iv inner)) alone.bytes bytes alone.plain opens.plain in
    let reads : ReadsAttrs bytes alone.whole = subst (λ (b : List ℕ). ReadsAttrs b alone.whole) same alone.reads in
    let first : (kind : ℕ) (value : Option (List ℕ)) → (6 == kind) ≡ false → IsValueIn kind bytes value → value ≡ first_of_kind kind (items inner) =
    λ kind value apart there. value_is bytes alone.whole kind value reads there ∙ sym (first_unpadded kind alone.whole apart)
    ∙ ap (λ (list : List Attr). first_of_kind kind (items list)) (sym alone.rest) in (
      gives.counter.same ∙ ap number_in (first 19 gives.counter.value refl gives.counter.there) ∙ number_is r.context.counter fits.context.counter,
      gives.nonce.same ∙ ap block_in (first 21 gives.nonce.value refl gives.nonce.there) ∙ block_is r.nonce fits.nonce.size,
    )

-- so it is if the bytes are the request
pub asked_counter : Readings → (realm : List ℕ) (r : Resumed) (seen : Seen) (given : Enclosed) → IsRealm realm → IsResumption r → IsReceived seen → IsAsking realm r seen.bytes
    → IsInner r.context.k_encr (attrs_in seen.reading) (decrypted.Attributes given) → HasCounter r given
unfolding reauth_bytes
asked_counter laws realm r seen given is fits received a opens =
    let inner = reauth_in realm r in
    let may = reauth_encryptable realm r is.short is.bytes fits.nonce.size fits.nonce.bytes fits.next in
    let small = is_small laws.may_be_hidden r.context.k_encr a.iv inner fits.context.k_encr a.block may in
    let draft = reauth_draft a.by realm a.id a.iv r a.check in
    let mac = draft_mac r.context.k_aut [] draft in
    let reads = laws.sealed_read r.context.k_aut [] [] draft seen (reauth_may a.by realm a.id a.iv r a.check small a.hash) refl received
    (a.is ∙ sym (append-nil (sealed r.context.k_aut [] draft))) in
    gives_counter laws realm a.iv r a.check mac given is fits a.block
    (subst (λ (list : List Attr). IsInner r.context.k_encr list (decrypted.Attributes given)) (ap attrs_in reads) opens)
