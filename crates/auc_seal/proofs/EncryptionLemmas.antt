-- For attributes that are encrypted and decrypted again.
use Rattle.std.proofs.Common.{◌≡◌, ◌≢◌, ℕ, zero, suc, ◌+◌, ◌*◌, ◌/◌, ◌%◌, ◌<◌, ◌≤◌, ◌==◌, Bool, true, false, not, cond, ◌&&◌, ◌||◌, if◌then◌else◌, List, [], ◌∷◌, ◌++◌, length, take, drop, Option, Some, None, Result, Ok, Err, refl, sym, ap, ◌∙◌, subst, arith, append_assoc, length-append, length-drop}
use Rattle.std.specs.List.{list_all, list_any}
use Rattle.std.specs.Option.{option_or, is_some}
use Rattle.std.proofs.lemmas.Bool.Decides.{nat_tests}
use Rattle.std.proofs.lemmas.List.{length-take-le}
use Rattle.auc_aes.specs.Bytes.{xor, IsBytes, IsBlock}
use Rattle.auc_aes.specs.Cipher.{aes}
use Rattle.auc_aes.specs.Cbc.{encrypted_blocks, cbc_encrypted, cbc_decrypted}
use Rattle.auc_aes.proofs.Facts.{bytes_take, bytes_drop, xor_block, aes_block, cbc_encrypted_undone}
use Rattle.auc_memory.specs.Reserved.{Reserved, wrote}
use Rattle.auc_attr.specs.declared.attr.Attr.{Attr}
use Rattle.auc_attr.specs.declared.attr.Attr.TheVariants as attr
use Rattle.auc_attr.specs.declared.refusal.AttrRefusal.{AttrRefusal}
use Rattle.auc_attr.specs.Grammar.{ReadsAttrs, FirstFault}
use Rattle.auc_attr.specs.Laws.{AreBytes, is_value}
use Rattle.auc_attr.specs.Table.{row_of}
use Rattle.auc_attr.specs.Item.{item_of, is_named}
use Rattle.auc_attr.specs.Spelling.{stands_in, fits, fits_item, may_follow, writable, item_text, shape_text, spelling}
use Rattle.auc_attr.proofs.Facts.{one_list, one_fault, refused_is_not_read, and_parts, and_from, written_attributes_are_read}
use Rattle.auc_seal.specs.declared.refusal.SealRefusal.{SealRefusal}
use Rattle.auc_seal.specs.declared.refusal.SealRefusal.TheVariants as refusal
use Rattle.auc_seal.specs.Encrypted.{is_padding, iv_of, data_of, first_value, padded, encrypted, MayBeEncrypted, HasNoneEncrypted, is_ciphertext, bytes_under, decrypted_bytes, without_padding, IsDecrypted, IsFaulty, Decrypts}
use Rattle.auc_seal.specs.Laws.{has_values, EncryptedIsDecrypted, EncryptedIsWritable}
use Rattle.auc_seal.proofs.PaddingLemmas.{kinds, stands_nowhere, foreign_kind, writable_more, spelling-append, padded_size, some_blocks, padded_writable, padded_bytes, unpadded_again}

-- what is written into memory that was empty
pub written_is : (room after : Reserved ℕ) (text : List ℕ) → room.written ≡ [] → after ≡ wrote room text → after.written ≡ text
written_is room after text e f = ap (λ (r : Reserved ℕ). r.written) f ∙ ap (λ (w : List ℕ). w ++ text) e

-- a list behind which two attributes were put, one after the other
pub put_twice : (old one two : List Attr) (a b : Attr) → one ≡ old ++ a ∷ [] → two ≡ one ++ b ∷ [] → two ≡ old ++ a ∷ b ∷ []
put_twice old one two a b e f = f ∙ ap (λ (l : List Attr). l ++ b ∷ []) e ∙ append_assoc old (a ∷ []) (b ∷ [])

-- n blocks encrypted have 16 n bytes
blocks_size : (key : List ℕ) (n : ℕ) (iv bytes : List ℕ) → IsBlock key → IsBlock iv → IsBytes bytes → length bytes ≡ 16 * n → length (encrypted_blocks key iv n bytes) ≡ 16 * n
unfolding encrypted_blocks
blocks_size key zero iv bytes k v b e = refl
blocks_size key (suc n) iv bytes k v b e =
    let first : IsBlock (take 16 bytes) = record { size = length-take-le 16 bytes (omega arith); bytes = bytes_take 16 bytes b } in
    let block = aes key (xor (take 16 bytes) iv) in
    let block_is : IsBlock block = aes_block key (xor (take 16 bytes) iv) k (xor_block (take 16 bytes) iv first v) in
    let rest : length (encrypted_blocks key block n (drop 16 bytes)) ≡ 16 * n =
    blocks_size key n block (drop 16 bytes) k block_is (bytes_drop 16 bytes b) (omega (arith, length-drop 16 bytes)) in
    length-append block (encrypted_blocks key block n (drop 16 bytes)) ∙ omega (arith, block_is.size)

-- a ciphertext of whole blocks has as many bytes
pub ciphertext_size : (key iv bytes : List ℕ) → IsBlock key → IsBlock iv → IsBytes bytes → length bytes % 16 ≡ 0 → length (cbc_encrypted key iv bytes) ≡ length bytes
ciphertext_size key iv bytes k v b whole =
    let blocks : length bytes ≡ 16 * (length bytes / 16) = omega arith in
    blocks_size key (length bytes / 16) iv bytes k v b blocks ∙ sym blocks

none_parts : (o p : Option (List ℕ)) → option_or o p ≡ None → (o ≡ None) × (p ≡ None)
none_parts None p e = (refl, e)
none_parts (Some x) p e = absurd cc

-- the first value of a list whose front has none
value_behind : (value : Attr → Option (List ℕ)) (front list : List Attr) → first_value value front ≡ None → first_value value (front ++ list) ≡ first_value value list
value_behind value [] list e = refl
value_behind value (a ∷ front) list e =
    let p = none_parts (value a) (first_value value front) e in
    ap (λ (o : Option (List ℕ)). option_or o (first_value value (front ++ list))) p.0 ∙ value_behind value front list p.1

-- bytes of some whole blocks are a ciphertext
is_some_blocks : (bytes : List ℕ) → 0 < length bytes → length bytes % 16 ≡ 0 → is_ciphertext bytes ≡ true
is_some_blocks bytes some whole = grind (arith, nat_tests)

-- what was encrypted is decrypted
pub decrypted_again : (key iv : List ℕ) (inner out : List Attr) → IsBlock key → IsBlock iv → MayBeEncrypted inner → AreBytes (spelling (padded inner)) → HasNoneEncrypted out
    → Decrypts key (out ++ encrypted key iv inner) (Ok inner)
decrypted_again key iv inner out k v m b none =
    let text = spelling (padded inner) in
    let ciphertext = cbc_encrypted key iv text in
    let blocks = some_blocks inner m in
    let size : length ciphertext ≡ length text = ciphertext_size key iv text k v b blocks.1 in
    let there : is_ciphertext ciphertext ≡ true = is_some_blocks ciphertext (omega (arith, size, blocks.0)) (ap (λ (n : ℕ). n % 16) size ∙ blocks.1) in
    record {
      bytes = text;
      plain =
          ap (λ (d : Option (List ℕ)). bytes_under key d (first_value iv_of (out ++ encrypted key iv inner))) (value_behind data_of out (encrypted key iv inner) none.ciphertext)
          ∙ ap (λ (o : Option (List ℕ)). bytes_under key (Some ciphertext) o) (value_behind iv_of out (encrypted key iv inner) none.iv)
          ∙ ap (λ (t : Bool). if t then Ok (cbc_decrypted key iv ciphertext) else Err refusal.BadSize) there
          ∙ ap (λ (bytes : List ℕ). Ok bytes) (cbc_encrypted_undone key k iv text v b blocks.1);
      whole = padded inner;
      reads = written_attributes_are_read (padded inner) (padded_writable inner m);
      rest = sym (unpadded_again inner m.unpadded);
    }

-- ---- one answer

-- padding has no number
no_number : (a : Attr) → is_padding a ≡ true → is_value a ≡ true
no_number (attr.Padding v) e = refl
no_number _ e = absurd cc

values_by : (b : Bool) (a : Attr) (rest list : List Attr) → is_padding a ≡ b → list_all is_value (cond (not b) (a ∷ rest) rest) ≡ true
    → (list_all is_value rest ≡ true → list_all is_value list ≡ true) → (is_value a && list_all is_value list) ≡ true
values_by true a rest list e v f = and_from (is_value a) (list_all is_value list) (no_number a e) (f v)
values_by false a rest list e v f =
    let p = and_parts (is_value a) (list_all is_value rest) v in
    and_from (is_value a) (list_all is_value list) p.0 (f p.1)

-- each number of a list has 16 bits where each of the list without its padding has
values_whole : (list : List Attr) → list_all is_value (without_padding list) ≡ true → list_all is_value list ≡ true
values_whole [] v = refl
values_whole (a ∷ list) v = values_by (is_padding a) a (without_padding list) list refl v (values_whole list)

-- the whole list that was decrypted has values
values_of : (key : List ℕ) (list inner : List Attr) → list_all is_value inner ≡ true → (p : IsDecrypted key list inner) → list_all is_value p.whole ≡ true
values_of key list inner v p = values_whole p.whole (ap (λ (l : List Attr). list_all is_value l) (sym p.rest) ∙ v)

ok_is : (a b : List ℕ) → ◌≡◌ {A = Result (List ℕ) SealRefusal} (Ok a) (Ok b) → a ≡ b
ok_is a b e = cc

-- a list has decrypted bytes, and these are one string
module _ (key : List ℕ) (list : List Attr) where
  both_decrypted : (x y : List Attr) → list_all is_value x ≡ true → list_all is_value y ≡ true → IsDecrypted key list x → IsDecrypted key list y → x ≡ y
  both_decrypted x y v w p q =
      let same : q.bytes ≡ p.bytes = ok_is q.bytes p.bytes (sym q.plain ∙ p.plain) in
      p.rest
      ∙ ap without_padding (one_list p.bytes p.whole q.whole (values_of key list x v p) (values_of key list y w q) p.reads (subst (λ (b : List ℕ). ReadsAttrs b q.whole) same q.reads))
      ∙ sym q.rest

  both_faulty : (f g : AttrRefusal) → IsFaulty key list f → IsFaulty key list g → f ≡ g
  both_faulty f g p q =
      let same : q.bytes ≡ p.bytes = ok_is q.bytes p.bytes (sym q.plain ∙ p.plain) in
      one_fault p.bytes f g p.a_fault q.a_fault p.first (subst (λ (b : List ℕ). FirstFault b g) same q.first)

  not_both : (x : List Attr) (f : AttrRefusal) → IsDecrypted key list x → IsFaulty key list f → ⊥
  not_both x f p q =
      let same : q.bytes ≡ p.bytes = ok_is q.bytes p.bytes (sym q.plain ∙ p.plain) in
      refused_is_not_read p.bytes p.whole f q.a_fault (subst (λ (b : List ℕ). FirstFault b f) same q.first) p.reads

  no_bytes : (bytes : List ℕ) (refused : SealRefusal) → decrypted_bytes key list ≡ Ok bytes → decrypted_bytes key list ≡ Err refused → ⊥
  no_bytes bytes refused p q = cc

  other_refusal : decrypted_bytes key list ≡ Err refusal.NoIv → decrypted_bytes key list ≡ Err refusal.BadSize → ⊥
  other_refusal p q = cc

  pub one_answer : (a b : Result (List Attr) SealRefusal) → a ≢ Err refusal.NoMemory → b ≢ Err refusal.NoMemory → has_values a ≡ true → has_values b ≡ true
      → Decrypts key list a → Decrypts key list b → a ≡ b
  one_answer (Err refusal.NoMemory) b na nb va vb p q = absurd (na refl)
  one_answer (Ok x) (Ok y) na nb va vb p q = ap (λ (l : List Attr). Ok l) (both_decrypted x y va vb p q)
  one_answer (Ok x) (Err refusal.NoIv) na nb va vb p q = absurd (no_bytes p.bytes refusal.NoIv p.plain q)
  one_answer (Ok x) (Err refusal.BadSize) na nb va vb p q = absurd (no_bytes p.bytes refusal.BadSize p.plain q)
  one_answer (Ok x) (Err (refusal.Attr g)) na nb va vb p q = absurd (not_both x g p q)
  one_answer (Ok x) (Err refusal.NoMemory) na nb va vb p q = absurd (nb refl)
  one_answer (Err refusal.NoIv) (Ok y) na nb va vb p q = absurd (no_bytes q.bytes refusal.NoIv q.plain p)
  one_answer (Err refusal.NoIv) (Err refusal.NoIv) na nb va vb p q = refl
  one_answer (Err refusal.NoIv) (Err refusal.BadSize) na nb va vb p q = absurd (other_refusal p q)
  one_answer (Err refusal.NoIv) (Err (refusal.Attr g)) na nb va vb p q = absurd (no_bytes q.bytes refusal.NoIv q.plain p)
  one_answer (Err refusal.NoIv) (Err refusal.NoMemory) na nb va vb p q = absurd (nb refl)
  one_answer (Err refusal.BadSize) (Ok y) na nb va vb p q = absurd (no_bytes q.bytes refusal.BadSize q.plain p)
  one_answer (Err refusal.BadSize) (Err refusal.NoIv) na nb va vb p q = absurd (other_refusal q p)
  one_answer (Err refusal.BadSize) (Err refusal.BadSize) na nb va vb p q = refl
  one_answer (Err refusal.BadSize) (Err (refusal.Attr g)) na nb va vb p q = absurd (no_bytes q.bytes refusal.BadSize q.plain p)
  one_answer (Err refusal.BadSize) (Err refusal.NoMemory) na nb va vb p q = absurd (nb refl)
  one_answer (Err (refusal.Attr f)) (Ok y) na nb va vb p q = absurd (not_both y f q p)
  one_answer (Err (refusal.Attr f)) (Err refusal.NoIv) na nb va vb p q = absurd (no_bytes p.bytes refusal.NoIv p.plain q)
  one_answer (Err (refusal.Attr f)) (Err refusal.BadSize) na nb va vb p q = absurd (no_bytes p.bytes refusal.BadSize p.plain q)
  one_answer (Err (refusal.Attr f)) (Err (refusal.Attr g)) na nb va vb p q = ap (λ (e : AttrRefusal). Err (refusal.Attr e)) (both_faulty f g p q)
  one_answer (Err (refusal.Attr f)) (Err refusal.NoMemory) na nb va vb p q = absurd (nb refl)

-- ---- what was encrypted may be written

-- a list without a first value has none
any_none : (value : Attr → Option (List ℕ)) (list : List Attr) → first_value value list ≡ None → list_any (λ (a : Attr). is_some (value a)) list ≡ false
any_none value [] e = refl
any_none value (a ∷ list) e =
    let p = none_parts (value a) (first_value value list) e in
    ap (λ (o : Option (List ℕ)). is_some o || list_any (λ (x : Attr). is_some (value x)) list) p.0 ∙ any_none value list p.1

-- an attribute that is no AT_IV has another type
no_iv_kind : (a : Attr) → is_named a ≡ true → is_some (iv_of a) ≡ false → ((item_of a).kind == 129) ≡ false
unfolding row_of
no_iv_kind (attr.Iv v) n p = absurd cc
no_iv_kind (attr.Skipped kind v) n p = foreign_kind kind 129 refl n
no_iv_kind _ n p = refl

-- nor is one that is no AT_ENCR_DATA of its type
no_data_kind : (a : Attr) → is_named a ≡ true → is_some (data_of a) ≡ false → ((item_of a).kind == 130) ≡ false
unfolding row_of
no_data_kind (attr.EncrData v) n p = absurd cc
no_data_kind (attr.Skipped kind v) n p = foreign_kind kind 130 refl n
no_data_kind _ n p = refl

iv_follows : (iv : List ℕ) → length iv ≡ 16 → may_follow (attr.Iv iv) false ≡ true
unfolding row_of fits_item fits
iv_follows iv e = ap (λ (n : ℕ). (n == 16) && true && true) e

data_follows : (ciphertext : List ℕ) → length ciphertext ≤ 1016 → length ciphertext % 4 ≡ 0 → may_follow (attr.EncrData ciphertext) false ≡ true
unfolding row_of fits_item fits
data_follows ciphertext small whole = grind (arith, nat_tests)

pair_size : (iv ciphertext : List ℕ) → length (spelling (attr.Iv iv ∷ attr.EncrData ciphertext ∷ [])) ≡ length iv + length ciphertext + 8
unfolding row_of item_text shape_text
pair_size iv ciphertext =
    omega (arith, length-append (iv ++ []) (130 ∷ (2 + length ciphertext + 0 + 2) / 4 ∷ 0 ∷ 0 ∷ ((ciphertext ++ []) ++ [])), length-append iv [], length-append (ciphertext ++ []) [], length-append ciphertext [])

-- a list behind which two attributes are written may be written
module _ (out : List Attr) (iv ciphertext : List ℕ) (w : writable out ≡ true) (none : HasNoneEncrypted out) (block : length iv ≡ 16)
    (small : length ciphertext ≤ 1016) (whole : length ciphertext % 4 ≡ 0) where
  with_iv : writable (out ++ attr.Iv iv ∷ []) ≡ true
  with_iv =
      let nowhere : stands_in (kinds out) 129 ≡ false =
      stands_nowhere (λ (a : Attr). is_some (iv_of a)) 129 no_iv_kind out (written_attributes_are_read out w).1 (any_none iv_of out none.iv) in
      writable_more [] out (attr.Iv iv) w (ap (λ (b : Bool). may_follow (attr.Iv iv) b) nowhere ∙ iv_follows iv block)

  with_pair : writable (out ++ attr.Iv iv ∷ attr.EncrData ciphertext ∷ []) ≡ true
  with_pair =
      let front = out ++ attr.Iv iv ∷ [] in
      let nowhere : stands_in (kinds front) 130 ≡ false =
      stands_nowhere (λ (a : Attr). is_some (data_of a)) 130 no_data_kind front (written_attributes_are_read front with_iv).1
      (any_none data_of front (value_behind data_of out (attr.Iv iv ∷ []) none.ciphertext)) in
      ap (λ (l : List Attr). writable l) (sym (append_assoc out (attr.Iv iv ∷ []) (attr.EncrData ciphertext ∷ [])))
      ∙ writable_more [] front (attr.EncrData ciphertext) with_iv (ap (λ (b : Bool). may_follow (attr.EncrData ciphertext) b) nowhere ∙ data_follows ciphertext small whole)

-- the law
pub encrypted_writable : EncryptedIsWritable
encrypted_writable key iv inner out k v m b none w =
    let text = spelling (padded inner) in
    let ciphertext = cbc_encrypted key iv text in
    let blocks = some_blocks inner m in
    let size : length ciphertext ≡ length text = ciphertext_size key iv text k v (padded_bytes inner m.writable b) blocks.1 in
    let most : length text ≤ 992 = (padded_size inner m.writable).small m.size in (
      with_pair out iv ciphertext w none v.size (omega arith) (omega (arith, blocks.1)),
      ap length (spelling-append out (encrypted key iv inner)) ∙ length-append (spelling out) (spelling (encrypted key iv inner)) ∙ omega (arith, pair_size iv ciphertext, v.size, size),
    )

-- what was encrypted is decrypted, for the law
pub encrypted_decrypts : EncryptedIsDecrypted
encrypted_decrypts key iv inner out k v m b none = decrypted_again key iv inner out k v m (padded_bytes inner m.writable b) none
