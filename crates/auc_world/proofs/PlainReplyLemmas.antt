-- For plain sessions: the response to a re-authentication may be sent, and what is encrypted in a message is read as it was.
use Rattle.std.proofs.Common.{◌≡◌, ℕ, zero, suc, ◌+◌, ◌%◌, ◌<◌, ◌≤◌, ◌==◌, ◌||◌, nat_le, Bool, true, false, if◌then◌else◌, List, [], ◌∷◌, ◌++◌, length, Option, Some, Result, Ok, Err, inl, inr, refl, sym, ap, ◌∙◌, arith, eq-eqb, length-append}
use Rattle.std.proofs.lemmas.Bool.Decides.{nat_tests}
use Rattle.std.specs.Int.{w16, to_be_bytes}
use Rattle.std.specs.List.{list_all}
use Rattle.auc_aes.proofs.Facts.{bytes_append}
use Rattle.auc_aes.specs.Bytes.{IsBlock}
use Rattle.auc_aes.specs.Cbc.{cbc_encrypted}
use Rattle.auc_attr.specs.Item.{item, items}
use Rattle.auc_attr.specs.Laws.{AreBytes, is_value}
use Rattle.auc_attr.specs.Spelling.{fits, fits_item, item_text, shape_text, spelling, writable}
use Rattle.auc_attr.specs.Table.{row_of}
use Rattle.auc_attr.specs.Value.{IsValueIn, first_of_kind}
use Rattle.auc_attr.specs.declared.attr.Attr.{Attr}
use Rattle.auc_attr.specs.declared.attr.Attr.TheVariants as attr
use Rattle.auc_hmac.specs.Mac.{no_mac}
use Rattle.auc_hmac.specs.declared.method.Method.{Method}
use Rattle.auc_packet.specs.Sealed.{MayBeSealed, sealed}
use Rattle.auc_packet.specs.declared.sealing.Draft.{Draft}
use Rattle.auc_peer.specs.Messages.{reauth_bytes, reauth_draft}
use Rattle.auc_peer.specs.Turn.{IsInner}
use Rattle.auc_peer.specs.declared.decrypted.Decrypted.{Decrypted}
use Rattle.auc_peer.specs.declared.decrypted.Decrypted.TheVariants as decrypted
use Rattle.auc_request.specs.Request.{block_in, number_in}
use Rattle.auc_request.specs.declared.enclosed.Enclosed.{Enclosed}
use Rattle.auc_seal.specs.Checkcode.{IsHash}
use Rattle.auc_seal.specs.Encrypted.{IsDecrypted, Opens, encrypted, padded}
use Rattle.auc_seal.specs.declared.refusal.SealRefusal.{SealRefusal}
use Rattle.auc_seal.specs.declared.refusal.SealRefusal.TheVariants as refusal
use Rattle.auc_server.proofs.Facts.{is_small, reauth_encryptable}
use Rattle.auc_server.specs.InnerMessages.{AreEncryptable, IsName, IsSmall}
use Rattle.auc_server.specs.Messages.{reauth_in}
use Rattle.auc_server.specs.Replies.{IsReply, IsReplyBy, reply_of}
use Rattle.auc_server.specs.declared.reply.Reply.{Reply}
use Rattle.auc_server.specs.declared.reply.Reply.TheVariants as reply
use Rattle.auc_server.specs.declared.server.Resumed.{Resumed}
use Rattle.auc_world.proofs.AgainReadLemmas.{block_is, first_unpadded, number_is, value_is}
use Rattle.auc_world.proofs.PlainPacketLemmas.{Laws}
use Rattle.auc_world.specs.Agreement.{IsRealm, IsSized}

-- ---- what the response encrypts

no_bytes : AreBytes []
no_bytes i = omega arith

counter_writable : (n : ℕ) → writable (attr.Counter n ∷ []) ≡ true
unfolding fits_item fits row_of
counter_writable n = refl

counter_size : (n : ℕ) → length (item_text (item 19 (to_be_bytes w16 n))) ≡ 4
unfolding item_text row_of shape_text
counter_size n = refl

counter_bytes : (n : ℕ) → AreBytes (item_text (item 19 (to_be_bytes w16 n)))
unfolding item_text row_of shape_text
counter_bytes n zero = omega arith
counter_bytes n (suc zero) = omega arith
counter_bytes n (suc (suc zero)) = omega arith
counter_bytes n (suc (suc (suc zero))) = omega arith
counter_bytes n (suc (suc (suc (suc i)))) = omega arith

-- AT_COUNTER may be encrypted
counter_encryptable : (n : ℕ) → AreEncryptable (attr.Counter n ∷ [])
counter_encryptable n =
    let text = item_text (item 19 (to_be_bytes w16 n)) in
    let long = length-append text [] in
    let four = counter_size n in record {
      may = record { some = λ e. cc; writable = counter_writable n; unpadded = refl; size = omega (arith, long, four) };
      bytes = bytes_append text [] (counter_bytes n) no_bytes;
      units = omega (arith, long, four);
      size = omega (arith, long, four);
    }

-- ---- the response

short_ciphertext : (ciphertext : List ℕ) → length ciphertext ≤ 336 → nat_le (length ciphertext) 1016 ≡ true
short_ciphertext ciphertext small = grind (arith, nat_tests, small)

check_fits : (check : List ℕ) → IsHash check → (length check == 0 || length check == 20 || length check == 32) ≡ true
check_fits check (inl e) = rw e refl
check_fits check (inr (inl e)) = rw e refl
check_fits check (inr (inr e)) = rw e refl

check_short : (check : List ℕ) → IsHash check → length check ≤ 32
check_short check (inl e) = omega (arith, e)
check_short check (inr (inl e)) = omega (arith, e)
check_short check (inr (inr e)) = omega (arith, e)

reply_writable : (iv ciphertext check : List ℕ) → length iv ≡ 16 → length ciphertext % 4 ≡ 0 → length ciphertext ≤ 336 → IsHash check
    → writable ((attr.Iv iv ∷ attr.EncrData ciphertext ∷ attr.Checkcode check ∷ []) ++ attr.Mac no_mac ∷ []) ≡ true
unfolding fits_item fits row_of
reply_writable iv ciphertext check v u d c = rw (v, u, short_ciphertext ciphertext d, check_fits check c) refl

iv_text : (v : List ℕ) → length v ≡ 16 → length (item_text (item 129 v)) ≡ 20
unfolding item_text row_of shape_text
iv_text v sixteen = omega (arith, length-append v [], sixteen)

ciphertext_text : (v : List ℕ) → length (item_text (item 130 v)) ≡ 4 + length v
unfolding item_text row_of shape_text
ciphertext_text v = omega (arith, length-append v [])

checkcode_text : (v : List ℕ) → length (item_text (item 134 v)) ≡ 4 + length v
unfolding item_text row_of shape_text
checkcode_text v = omega (arith, length-append v [])

mac_text : length (item_text (item 11 no_mac)) ≡ 20
unfolding item_text row_of shape_text
mac_text = refl

reply_size : (iv ciphertext check : List ℕ) → length iv ≡ 16 → length ciphertext ≤ 336 → IsHash check
    → length (spelling ((attr.Iv iv ∷ attr.EncrData ciphertext ∷ attr.Checkcode check ∷ []) ++ attr.Mac no_mac ∷ [])) ≤ 416
reply_size iv ciphertext check v d c =
    let last = item_text (item 11 no_mac) ++ [] in
    let third = item_text (item 134 check) in
    let second = item_text (item 130 ciphertext) in
    omega (
      arith,
      length-append (item_text (item 129 iv)) (second ++ (third ++ last)),
      length-append second (third ++ last),
      length-append third last,
      length-append (item_text (item 11 no_mac)) [],
      iv_text iv v,
      ciphertext_text ciphertext,
      d,
      checkcode_text check,
      check_short check c,
      mac_text,
    )

-- the response to a counter that is accepted
abbrev pub reply_draft : Method → ℕ → List ℕ → List ℕ → ℕ → List ℕ → Draft
reply_draft m id k_encr iv counter check = reauth_draft m id k_encr iv counter false true check

-- it may be sent
pub reply_may : Laws → (m : Method) (id : ℕ) (k_encr iv : List ℕ) (counter : ℕ) (check : List ℕ) → IsBlock k_encr → IsBlock iv → IsHash check
    → MayBeSealed (reply_draft m id k_encr iv counter check)
reply_may laws m id k_encr iv counter check key block hash =
    let inner = attr.Counter counter ∷ [] in
    let ciphertext = cbc_encrypted k_encr iv (spelling (padded inner)) in
    let small : IsSmall k_encr iv inner = is_small laws.may_be_hidden k_encr iv inner key block (counter_encryptable counter) in
    record {
      attrs = reply_writable iv ciphertext check small.block small.units small.ciphertext hash;
      size = omega (arith, reply_size iv ciphertext check small.block small.ciphertext hash);
    }

pub reply_values : (m : Method) (id : ℕ) (k_encr iv : List ℕ) (counter : ℕ) (check : List ℕ) → list_all is_value (reply_draft m id k_encr iv counter check).attrs ≡ true
reply_values m id k_encr iv counter check = refl

pub reply_is : (m : Method) (id : ℕ) (k_encr k_aut iv nonce : List ℕ) (counter : ℕ) (check : List ℕ)
    → reauth_bytes m id k_encr k_aut iv nonce counter false true check ≡ sealed k_aut nonce (reply_draft m id k_encr iv counter check)
unfolding reauth_bytes
reply_is m id k_encr k_aut iv nonce counter check = refl

-- ---- what is encrypted in a message

-- the attributes of a message that encrypts others
abbrev pub list_hiding : List ℕ → List ℕ → List Attr → List ℕ → List ℕ → List Attr
list_hiding k_encr iv inner check mac = (encrypted k_encr iv inner ++ attr.Checkcode check ∷ []) ++ attr.Mac mac ∷ []

no_error : {A : Type 0} (inner : A) (refused : SealRefusal) → ◌≡◌ {A = Result A SealRefusal} (Ok inner) (Err refused) → ⊥
no_error inner refused e = cc

-- they are decrypted
hides : Laws → (k_encr iv check mac : List ℕ) (inner : List Attr) → IsBlock k_encr → IsBlock iv → AreEncryptable inner → IsDecrypted k_encr (list_hiding k_encr iv inner check mac) inner
hides laws k_encr iv check mac inner key block may =
    let alone : IsDecrypted k_encr (encrypted k_encr iv inner) inner =
    laws.decrypted k_encr iv inner [] key block may.may may.bytes (record { iv = refl; ciphertext = refl }) in
    record { bytes = alone.bytes; plain = alone.plain; whole = alone.whole; reads = alone.reads; rest = alone.rest }

-- opened bytes have the values of some attributes
abbrev AreOf : List Attr → Result (List ℕ) SealRefusal → Type 0
AreOf inner (Ok bytes) = (kind : ℕ) (value : Option (List ℕ)) → (6 == kind) ≡ false → IsValueIn kind bytes value → value ≡ first_of_kind kind (items inner)
AreOf inner (Err refused) = ⊥

opens_to : Laws → (k_encr iv check mac : List ℕ) (inner : List Attr) (opened : Result (List ℕ) SealRefusal) → IsBlock k_encr → IsBlock iv → AreEncryptable inner
    → Opens k_encr (list_hiding k_encr iv inner check mac) opened → AreOf inner opened
opens_to laws k_encr iv check mac inner (Err refused) key block may opens =
    laws.opened k_encr (list_hiding k_encr iv inner check mac) (Err refused) (Ok inner) (no_error inner refusal.NoMemory) opens (hides laws k_encr iv check mac inner key block may)
opens_to laws k_encr iv check mac inner (Ok bytes) key block may opens =
    let (whole, reads, rest) = laws.opened k_encr (list_hiding k_encr iv inner check mac) (Ok bytes) (Ok inner) (no_error inner refusal.NoMemory) opens
    (hides laws k_encr iv check mac inner key block may) in
    λ kind value apart there. value_is bytes whole kind value reads there ∙ sym (first_unpadded kind whole apart) ∙ ap (λ (list : List Attr). first_of_kind kind (items list)) (sym rest)

-- what a peer decrypts of a request: the counter and NONCE_S of the re-authentication
pub record Discloses (r : Resumed) (inner : Decrypted) : Type 0 where
  pub given : Enclosed
  pub attributes : inner ≡ decrypted.Attributes given
  pub counter : given.counter ≡ Some r.context.counter
  pub nonce : given.nonce ≡ Some r.nonce

pub discloses : Laws → (realm iv : List ℕ) (r : Resumed) (check mac : List ℕ) (inner : Decrypted) → IsRealm realm → IsSized r.context → IsBlock r.nonce → IsName r.next → IsBlock iv
    → IsInner r.context.k_encr (list_hiding r.context.k_encr iv (reauth_in realm r) check mac) inner → Discloses r inner
discloses laws realm iv r check mac decrypted.Unreadable real sized nonce name block (refused, opens) =
    let may = reauth_encryptable realm r real.short real.bytes nonce.size nonce.bytes name in
    absurd (opens_to laws r.context.k_encr iv check mac (reauth_in realm r) (Err refused) sized.k_encr block may opens)
discloses laws realm iv r check mac (decrypted.Attributes given) real sized nonce name block (bytes, opens, gives) =
    let may = reauth_encryptable realm r real.short real.bytes nonce.size nonce.bytes name in
    let values = opens_to laws r.context.k_encr iv check mac (reauth_in realm r) (Ok bytes) sized.k_encr block may opens in
    record {
      given = given;
      attributes = refl;
      counter = gives.counter.same ∙ ap number_in (values 19 gives.counter.value refl gives.counter.there) ∙ number_is r.context.counter sized.counter;
      nonce = gives.nonce.same ∙ ap block_in (values 21 gives.nonce.value refl gives.nonce.there) ∙ block_is r.nonce nonce.size;
    }

-- what a server makes of a response with its counter
pub right_reply : Laws → (k_encr iv : List ℕ) (counter : ℕ) (check mac : List ℕ) (said : Reply) → IsBlock k_encr → IsBlock iv → counter < 65536
    → IsReply k_encr counter (list_hiding k_encr iv (attr.Counter counter ∷ []) check mac) said → said ≡ reply.Right
right_reply laws k_encr iv counter check mac said key block small is = by is.opened is.opens is.is
  where
    by : (opened : Result (List ℕ) SealRefusal) → Opens k_encr (list_hiding k_encr iv (attr.Counter counter ∷ []) check mac) opened → IsReplyBy counter opened said → said ≡ reply.Right
    by (Err refused) opens c = absurd (opens_to laws k_encr iv check mac (attr.Counter counter ∷ []) (Err refused) key block (counter_encryptable counter) opens)
    by (Ok bytes) opens c =
        let values = opens_to laws k_encr iv check mac (attr.Counter counter ∷ []) (Ok bytes) key block (counter_encryptable counter) opens in
        let found : c.found ≡ Some counter = c.number.same ∙ ap number_in (values 19 c.number.value refl c.number.there) ∙ number_is counter small in
        c.is ∙ ap (λ (n : Option ℕ). reply_of counter n c.value) found ∙ ap (reply_of counter (Some counter)) (values 20 c.value refl c.small)
        ∙ ap (λ (b : Bool). if b then reply.Right else reply.Wrong) (eq-eqb counter counter refl)
