-- For encrypted attributes that are opened: the decrypted bytes one block after another, and that opening has one answer.
use Rattle.std.proofs.Common.{◌≡◌, ◌≢◌, ℕ, suc, ◌+◌, ◌-◌, ◌/◌, ◌%◌, ◌<◌, ◌≤◌, List, [], ◌++◌, length, take, drop, Some, None, Result, Ok, Err, refl, sym, ap, ◌∙◌, subst, arith, append_assoc, length-append}
use Rattle.std.proofs.lemmas.List.{drop-drop, append-nil}
use Rattle.auc_aes.specs.Bytes.{xor}
use Rattle.auc_aes.specs.Cipher.{aes_inverse}
use Rattle.auc_aes.specs.Cbc.{decrypted_blocks, cbc_decrypted}
use Rattle.auc_memory.specs.Reserved.{Reserved, wrote}
use Rattle.auc_attr.specs.declared.attr.Attr.{Attr}
use Rattle.auc_attr.specs.declared.refusal.AttrRefusal.{AttrRefusal}
use Rattle.auc_attr.specs.declared.refusal.AttrRefusal.TheVariants as attr_refusal
use Rattle.auc_attr.specs.Grammar.{Walks, ReadsAttrs, FirstFault}
use Rattle.auc_attr.specs.Item.{Item, items}
use Rattle.auc_attr.proofs.Facts.{one_walk}
use Rattle.auc_seal.specs.declared.refusal.SealRefusal.{SealRefusal}
use Rattle.auc_seal.specs.declared.refusal.SealRefusal.TheVariants as refusal
use Rattle.auc_seal.specs.Encrypted.{decrypted_bytes, IsDecrypted, IsFaulty, Decrypts, IsOpened, Opens}
use Rattle.auc_seal.specs.Laws.{AreAlike, OneOpening, OpensAsDecrypts}
use Rattle.auc_seal.proofs.EncryptionLemmas.{one_answer}

-- ---- one block after another

-- memory after two parts were appended
wrote_twice : (room : Reserved ℕ) (a b : List ℕ) → wrote (wrote room a) b ≡ wrote room (a ++ b)
wrote_twice room a b =
    let left : room.left - length a - length b ≡ room.left - length (a ++ b) = omega (arith, length-append a b) in
    λ i. record { written = append_assoc room.written a b i; left = left i }

-- memory after nothing was appended
wrote_none : (room : Reserved ℕ) → wrote room [] ≡ room
wrote_none room =
    let left : room.left - 0 ≡ room.left = omega arith in
    λ i. record { written = append-nil room.written i; left = left i }

-- the ciphertext is decrypted up to a place, and what was written grows to the whole
pub record IsPlainTo (start room : Reserved ℕ) (key iv last ciphertext : List ℕ) (place : ℕ) : Type 0 where
  pub whole : length ciphertext % 16 ≡ 0
  pub at_block : place % 16 ≡ 0
  pub within : place ≤ length ciphertext
  pub left : length ciphertext - place ≤ room.left
  pub written : wrote room (decrypted_blocks key last ((length ciphertext - place) / 16) (drop place ciphertext)) ≡ wrote start (cbc_decrypted key iv ciphertext)

pub plain_begins : (room : Reserved ℕ) (key iv ciphertext : List ℕ) → length ciphertext % 16 ≡ 0 → length ciphertext ≤ room.left → IsPlainTo room room key iv iv ciphertext 0
plain_begins room key iv ciphertext whole left = record {
  whole = whole;
  at_block = refl;
  within = omega arith;
  left = omega (arith, left);
  written = ap (λ (n : ℕ). wrote room (decrypted_blocks key iv (n / 16) ciphertext)) (omega arith);
}

-- the next block
block_is : (key last bytes : List ℕ) (count fewer : ℕ) → count ≡ suc fewer
    → decrypted_blocks key last count bytes ≡ xor (aes_inverse key (take 16 bytes)) last ++ decrypted_blocks key (take 16 bytes) fewer (drop 16 bytes)
unfolding decrypted_blocks
block_is key last bytes count fewer e = ap (λ (n : ℕ). decrypted_blocks key last n bytes) e

pub plain_goes_on : (start room later : Reserved ℕ) (key iv last block plain ciphertext : List ℕ) (place next : ℕ) → IsPlainTo start room key iv last ciphertext place → place < length ciphertext
    → block ≡ take 16 (drop place ciphertext) → plain ≡ xor (aes_inverse key block) last → length plain ≡ 16 → later ≡ wrote room plain → next ≡ place + 16
    → IsPlainTo start later key iv block ciphertext next
plain_goes_on start room later key iv last block plain ciphertext place next p more block_from plain_from size put step =
    let fewer = (length ciphertext - next) / 16 in
    let one : (length ciphertext - place) / 16 ≡ suc fewer = omega (arith, p.whole, p.at_block, p.within, more, step) in
    let rest = drop place ciphertext in
    let after : drop 16 rest ≡ drop next ciphertext = drop-drop 16 place ciphertext ∙ ap (λ (n : ℕ). drop n ciphertext) (omega (arith, step)) in
    let parts : decrypted_blocks key last ((length ciphertext - place) / 16) rest ≡ plain ++ decrypted_blocks key block fewer (drop next ciphertext) =
    block_is key last rest ((length ciphertext - place) / 16) fewer one
    ∙ ap (λ (b : List ℕ). xor (aes_inverse key b) last ++ decrypted_blocks key b fewer (drop 16 rest)) (sym block_from)
    ∙ ap (λ (t : List ℕ). t ++ decrypted_blocks key block fewer (drop 16 rest)) (sym plain_from)
    ∙ ap (λ (t : List ℕ). plain ++ decrypted_blocks key block fewer t) after in
    record {
      whole = p.whole;
      at_block = omega (arith, p.at_block, step);
      within = omega (arith, p.whole, p.at_block, p.within, more, step);
      left = omega (arith, p.left, step, size, ap (λ (r : Reserved ℕ). r.left) put);
      written = ap (λ (r : Reserved ℕ). wrote r (decrypted_blocks key block fewer (drop next ciphertext))) put
          ∙ wrote_twice room plain (decrypted_blocks key block fewer (drop next ciphertext))
          ∙ ap (λ (t : List ℕ). wrote room t) (sym parts) ∙ p.written;
    }

no_blocks : (key last bytes : List ℕ) (count : ℕ) → count ≡ 0 → decrypted_blocks key last count bytes ≡ []
unfolding decrypted_blocks
no_blocks key last bytes count e = ap (λ (n : ℕ). decrypted_blocks key last n bytes) e

pub plain_ends : (start room : Reserved ℕ) (key iv last ciphertext : List ℕ) (place : ℕ) → IsPlainTo start room key iv last ciphertext place → length ciphertext ≤ place
    → room ≡ wrote start (cbc_decrypted key iv ciphertext)
plain_ends start room key iv last ciphertext place p done =
    sym (wrote_none room)
    ∙ ap (λ (t : List ℕ). wrote room t) (sym (no_blocks key last (drop place ciphertext) ((length ciphertext - place) / 16) (omega (arith, done))))
    ∙ p.written

-- ---- one answer

ok_is : (a b : List ℕ) → ◌≡◌ {A = Result (List ℕ) SealRefusal} (Ok a) (Ok b) → a ≡ b
ok_is a b e = cc

err_is : (a b : SealRefusal) → ◌≡◌ {A = Result (List Attr) SealRefusal} (Err a) (Err b) → a ≡ b
err_is a b e = cc

no_bytes : (r : Result (List ℕ) SealRefusal) (bytes : List ℕ) (refused : SealRefusal) → r ≡ Ok bytes → r ≡ Err refused → ⊥
no_bytes r bytes refused p q = cc

-- bytes with a fault are attributes up to it
fault_walk : (bytes : List ℕ) (f : AttrRefusal) → f ≢ attr_refusal.NoMemory → FirstFault bytes f → (is : List Item) × Walks [] bytes is (Some f)
fault_walk bytes attr_refusal.Truncated n w = w
fault_walk bytes attr_refusal.ZeroLength n w = w
fault_walk bytes (attr_refusal.BadLength k) n w = w
fault_walk bytes (attr_refusal.UnknownType k) n w = w
fault_walk bytes (attr_refusal.Twice k) n w = w
fault_walk bytes attr_refusal.BadPadding n w = w
fault_walk bytes attr_refusal.NoMemory n w = absurd (n refl)

none_or_some : (f : AttrRefusal) → None ≡ Some f → ⊥
none_or_some f e = cc

module _ (key : List ℕ) (list : List Attr) where
  -- bytes that are opened have no fault
  opened_or_faulty : (bytes : List ℕ) (f : AttrRefusal) → IsOpened key list bytes → IsFaulty key list f → ⊥
  opened_or_faulty bytes f p q =
      let same : q.bytes ≡ bytes = ok_is q.bytes bytes (sym q.plain ∙ p.plain) in
      let walk = fault_walk bytes f q.a_fault (subst (λ (b : List ℕ). FirstFault b f) same q.first) in
      none_or_some f (one_walk [] bytes p.items walk.0 None (Some f) p.reads walk.1).1

  -- a list that is opened isn't refused
  opened_or_refused : (bytes : List ℕ) (r : SealRefusal) → r ≢ refusal.NoMemory → IsOpened key list bytes → Decrypts key list (Err r) → ⊥
  opened_or_refused bytes refusal.NoIv n p q = no_bytes (decrypted_bytes key list) bytes refusal.NoIv p.plain q
  opened_or_refused bytes refusal.BadSize n p q = no_bytes (decrypted_bytes key list) bytes refusal.BadSize p.plain q
  opened_or_refused bytes (refusal.Attr f) n p q = opened_or_faulty bytes f p q
  opened_or_refused bytes refusal.NoMemory n p q = n refl

  one_refusal : (r s : SealRefusal) → r ≢ refusal.NoMemory → s ≢ refusal.NoMemory → Decrypts key list (Err r) → Decrypts key list (Err s) → r ≡ s
  one_refusal r s n m p q = err_is r s (one_answer key list (Err r) (Err s) (λ e. n (err_is r refusal.NoMemory e)) (λ e. m (err_is s refusal.NoMemory e)) refl refl p q)

  one_answered : (a b : Result (List ℕ) SealRefusal) → Opens key list a → Opens key list b → a ≡ b
  one_answered (Ok x) (Ok y) p q = ap (λ (t : List ℕ). Ok t) (ok_is x y (sym p.plain ∙ q.plain))
  one_answered (Ok x) (Err s) p q = absurd (opened_or_refused x s q.0 p q.1)
  one_answered (Err r) (Ok y) p q = absurd (opened_or_refused y r p.0 q p.1)
  one_answered (Err r) (Err s) p q = ap (λ (t : SealRefusal). Err t) (one_refusal r s p.0 q.0 p.1 q.1)

  -- bytes that were decrypted are those that are opened
  decrypted_opens : (bytes : List ℕ) (inner : List Attr) → IsOpened key list bytes → IsDecrypted key list inner → AreAlike (Ok bytes) (Ok inner)
  decrypted_opens bytes inner p q =
      let same : q.bytes ≡ bytes = ok_is q.bytes bytes (sym q.plain ∙ p.plain) in
      (q.whole, subst (λ (b : List ℕ). ReadsAttrs b q.whole) same q.reads, q.rest)

  -- so a list that decrypts isn't refused
  decrypted_or_refused : (inner : List Attr) (r : SealRefusal) → r ≢ refusal.NoMemory → IsDecrypted key list inner → Decrypts key list (Err r) → ⊥
  decrypted_or_refused inner r n p q = opened_or_refused p.bytes r n (record { plain = p.plain; items = items p.whole; reads = p.reads.0 }) q

  alike : (a : Result (List ℕ) SealRefusal) (b : Result (List Attr) SealRefusal) → b ≢ Err refusal.NoMemory → Opens key list a → Decrypts key list b → AreAlike a b
  alike (Ok x) (Ok inner) n p q = decrypted_opens x inner p q
  alike (Ok x) (Err s) n p q = opened_or_refused x s (λ e. n (ap (λ (t : SealRefusal). Err t) e)) p q
  alike (Err r) (Ok inner) n p q = decrypted_or_refused inner r p.0 q p.1
  alike (Err r) (Err s) n p q = one_refusal r s p.0 (λ e. n (ap (λ (t : SealRefusal). Err t) e)) p.1 q

pub one_opening : OneOpening
one_opening key list a b p q = one_answered key list a b p q

pub opens_as_decrypts : OpensAsDecrypts
opens_as_decrypts key list a b n p q = alike key list a b n p q
