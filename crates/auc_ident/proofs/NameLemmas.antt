-- A name is read back from its text, and different names have different texts.
use Rattle.std.proofs.Common.{◌≡◌, ℕ, zero, suc, ◌%◌, ◌/◌, ◌<◌, ◌^◌, Bool, true, false, cond, List, [], ◌∷◌, ◌++◌, Option, drop, Some, None, Ok, refl, sym, ap, ◌∙◌, arith}
use Rattle.std.specs.Int.{w32, w64, to_be_bytes, from_be_bytes}
use Rattle.std.proofs.lemmas.Nat.{from_be_bytes-to_be_bytes_4, from_be_bytes-to_be_bytes_8}
use Rattle.std.specs.Str.{bytes_eq}
use Rattle.std.proofs.lemmas.Slice.Eq.{bytes_eq-Decides}
use Rattle.auc_aes.specs.Bytes.{IsBlock, IsBytes}
use Rattle.auc_aes.specs.Cipher.{aes}
use Rattle.auc_aes.specs.Law.{DecryptionUndoesEncryption}
use Rattle.auc_aes.proofs.Facts.{aes_block, bytes_append, bytes_drop}
use Rattle.auc_hmac.specs.Method.{method_type}
use Rattle.auc_hmac.specs.declared.method.Method.{Method}
use Rattle.auc_hmac.specs.declared.method.Method.TheVariants as methods
use Rattle.auc_ident.specs.Names.{name_block, name_digit, name_text, named, named_by, named_in, if_named, kind_byte, resolved, AreNameable, EachNameIsResolved, EqualNamesAreOne}
use Rattle.auc_ident.specs.Permanent.{username}
use Rattle.auc_ident.specs.declared.names.NameKind.{NameKind}
use Rattle.auc_ident.specs.declared.names.NameKind.TheVariants as kinds
use Rattle.hex.specs.Hex.{encode_lower, decode_sized}
use Rattle.hex.proofs.HexLemmas.{decode_sized-encode_lower}

-- the upper two bytes of an ordinal are zero
upper_are_zero : (n : ℕ) → n < 2 ^ 48 → to_be_bytes w64 n ≡ 0 ∷ 0 ∷ drop 2 (to_be_bytes w64 n)
upper_are_zero n l =
    let first : n / 72057594037927936 % 256 ≡ 0 = omega arith in
    let second : n / 281474976710656 % 256 ≡ 0 = omega arith in
    ap (λ (b : ℕ). b ∷ drop 1 (to_be_bytes w64 n)) first ∙ ap (λ (b : ℕ). 0 ∷ b ∷ drop 2 (to_be_bytes w64 n)) second

-- the block of a name tells subscriber and ordinal
named_in-block : (kind : NameKind) (method : Method) (sub ordinal : ℕ) → sub < 2 ^ 32 → ordinal < 2 ^ 48
    → named_in (name_block kind method sub ordinal) ≡ (sub, ordinal)
unfolding name_block
named_in-block kind method sub ordinal l m =
    let s : from_be_bytes w32 (to_be_bytes w32 sub) ≡ sub = from_be_bytes-to_be_bytes_4 sub l in
    let wide : ordinal < 2 ^ 64 = omega arith in
    let o : from_be_bytes w64 (0 ∷ 0 ∷ drop 2 (to_be_bytes w64 ordinal)) ≡ ordinal =
    ap (from_be_bytes w64) (sym (upper_are_zero ordinal m)) ∙ from_be_bytes-to_be_bytes_8 ordinal wide in
    ap (λ (a : ℕ). (a, from_be_bytes w64 (0 ∷ 0 ∷ drop 2 (to_be_bytes w64 ordinal)))) s ∙ ap (λ (b : ℕ). (sub, b)) o

-- ---- the block is one of sixteen bytes

bytes_cons : (x : ℕ) (xs : List ℕ) → x < 256 → IsBytes xs → IsBytes (x ∷ xs)
bytes_cons x xs l h zero = l
bytes_cons x xs l h (suc i) = h i

bytes_nil : IsBytes []
bytes_nil i = omega arith

below : (n : ℕ) → n % 256 < 256
below n = omega arith

four_bytes : (n : ℕ) → IsBytes (to_be_bytes w32 n)
four_bytes n =
    bytes_cons (n / 16777216 % 256) (drop 1 (to_be_bytes w32 n)) (below (n / 16777216)) (
    bytes_cons (n / 65536 % 256) (drop 2 (to_be_bytes w32 n)) (below (n / 65536)) (
    bytes_cons (n / 256 % 256) (drop 3 (to_be_bytes w32 n)) (below (n / 256)) (
    bytes_cons (n % 256) [] (below n) bytes_nil)))

kind_is_byte : (kind : NameKind) → kind_byte kind < 256
kind_is_byte kinds.Pseudonym = omega arith
kind_is_byte kinds.Reauth = omega arith

type_is_byte : (method : Method) → method_type method < 256
type_is_byte methods.Aka = omega arith
type_is_byte methods.Prime = omega arith

eight_bytes : (n : ℕ) → IsBytes (to_be_bytes w64 n)
eight_bytes n =
    bytes_cons (n / 72057594037927936 % 256) (drop 1 (to_be_bytes w64 n)) (below (n / 72057594037927936)) (
    bytes_cons (n / 281474976710656 % 256) (drop 2 (to_be_bytes w64 n)) (below (n / 281474976710656)) (
    bytes_cons (n / 1099511627776 % 256) (drop 3 (to_be_bytes w64 n)) (below (n / 1099511627776)) (
    bytes_cons (n / 4294967296 % 256) (drop 4 (to_be_bytes w64 n)) (below (n / 4294967296)) (
    bytes_cons (n / 16777216 % 256) (drop 5 (to_be_bytes w64 n)) (below (n / 16777216)) (
    bytes_cons (n / 65536 % 256) (drop 6 (to_be_bytes w64 n)) (below (n / 65536)) (
    bytes_cons (n / 256 % 256) (drop 7 (to_be_bytes w64 n)) (below (n / 256)) (
    bytes_cons (n % 256) [] (below n) bytes_nil)))))))

zeros : IsBytes (0 ∷ 0 ∷ 0 ∷ 0 ∷ [])
zeros =
    bytes_cons 0 (0 ∷ 0 ∷ 0 ∷ []) (omega arith) (bytes_cons 0 (0 ∷ 0 ∷ []) (omega arith) (bytes_cons 0 (0 ∷ []) (omega arith) (
    bytes_cons 0 [] (omega arith) bytes_nil)))

block_is : (kind : NameKind) (method : Method) (sub ordinal : ℕ) → IsBlock (name_block kind method sub ordinal)
unfolding name_block
block_is kind method sub ordinal = record {
  size = refl;
  bytes = bytes_cons (kind_byte kind) (method_type method ∷ (to_be_bytes w32 sub ++ (drop 2 (to_be_bytes w64 ordinal) ++ (0 ∷ 0 ∷ 0 ∷ 0 ∷ []))))
      (kind_is_byte kind) (bytes_cons (method_type method) (to_be_bytes w32 sub ++ (drop 2 (to_be_bytes w64 ordinal) ++ (0 ∷ 0 ∷ 0 ∷ 0 ∷ [])))
      (type_is_byte method) (bytes_append (to_be_bytes w32 sub) (drop 2 (to_be_bytes w64 ordinal) ++ (0 ∷ 0 ∷ 0 ∷ 0 ∷ [])) (four_bytes sub)
      (bytes_append (drop 2 (to_be_bytes w64 ordinal)) (0 ∷ 0 ∷ 0 ∷ 0 ∷ []) (bytes_drop 2 (to_be_bytes w64 ordinal) (eight_bytes ordinal)) zeros)));
}

-- ---- a name is read back

named_back : (undone : DecryptionUndoesEncryption) (key : List ℕ) (kind : NameKind) (method : Method) (sub ordinal : ℕ) → IsBlock key
    → sub < 2 ^ 32 → ordinal < 2 ^ 48 → named key (name_text key kind method sub ordinal) ≡ Some (sub, ordinal)
named_back undone key kind method sub ordinal k l m =
    let block : List ℕ = name_block kind method sub ordinal in
    let is : IsBlock block = block_is kind method sub ordinal in
    let hidden : IsBlock (aes key block) = aes_block key block k is in
    let read : decode_sized (encode_lower (aes key block)) 16 ≡ Ok (aes key block) = decode_sized-encode_lower (aes key block) 16 hidden.size hidden.bytes in
    ap (named_by key) read
    ∙ ap (λ (b : List ℕ). Some (named_in b)) (undone key block k is)
    ∙ ap Some (named_in-block kind method sub ordinal l m)

if_same : (key : List ℕ) (kind : NameKind) (method : Method) (name : List ℕ) (sub ordinal : ℕ) → name ≡ name_text key kind method sub ordinal
    → if_named key kind method name (Some (sub, ordinal)) ≡ Some (sub, ordinal)
if_same key kind method name sub ordinal e =
    ap (λ (b : Bool). cond b (Some (sub, ordinal)) None) ((bytes_eq-Decides (name_text key kind method sub ordinal) name).1 (sym e))

-- what is found under a test passed it
passed : (b : Bool) (of found : ℕ × ℕ) → cond b (Some of) None ≡ Some found → (b ≡ true) × (of ≡ found)
passed true of found e = (refl, cc)
passed false of found e = absurd cc

-- what is found has that name
is_name : (key : List ℕ) (kind : NameKind) (method : Method) (name : List ℕ) (found : Option (ℕ × ℕ)) (sub ordinal : ℕ)
    → if_named key kind method name found ≡ Some (sub, ordinal) → (name ≡ name_text key kind method sub ordinal) × (found ≡ Some (sub, ordinal))
is_name key kind method name None sub ordinal e = absurd cc
is_name key kind method name (Some of) sub ordinal e =
    let p : (bytes_eq (name_text key kind method of.0 of.1) name ≡ true) × (of ≡ (sub, ordinal)) =
    passed (bytes_eq (name_text key kind method of.0 of.1) name) of (sub, ordinal) e in
    let same : name_text key kind method of.0 of.1 ≡ name = (bytes_eq-Decides (name_text key kind method of.0 of.1) name).0 p.0 in
    (sym same ∙ ap (λ (q : ℕ × ℕ). name_text key kind method q.0 q.1) p.1, ap Some p.1)

-- ---- the laws

resolved_name : (undone : DecryptionUndoesEncryption) (key : List ℕ) (kind : NameKind) (method : Method) (text : List ℕ) (sub ordinal : ℕ) → IsBlock key
    → AreNameable sub ordinal → username text ≡ name_text key kind method sub ordinal → resolved key kind method text ≡ Some (sub, ordinal)
unfolding resolved
resolved_name undone key kind method text sub ordinal k a e =
    ap (λ (name : List ℕ). if_named key kind method (username text) (named key name)) e
    ∙ ap (if_named key kind method (username text)) (named_back undone key kind method sub ordinal k a.four a.six)
    ∙ if_same key kind method (username text) sub ordinal e

name_resolved : (key : List ℕ) (kind : NameKind) (method : Method) (text : List ℕ) (sub ordinal : ℕ)
    → resolved key kind method text ≡ Some (sub, ordinal) → username text ≡ name_text key kind method sub ordinal
unfolding resolved
name_resolved key kind method text sub ordinal e =
    (is_name key kind method (username text) (named key (username text)) sub ordinal e).0

pub each_name_is_resolved : DecryptionUndoesEncryption → EachNameIsResolved
each_name_is_resolved undone key kind method text sub ordinal k a =
    (name_resolved key kind method text sub ordinal, resolved_name undone key kind method text sub ordinal k a)

-- the leading digit tells kind and method
digit_tells : (k l : NameKind) (m n : Method) → name_digit k m ≡ name_digit l n → (k ≡ l) × (m ≡ n)
digit_tells kinds.Pseudonym kinds.Pseudonym methods.Aka methods.Aka e = (refl, refl)
digit_tells kinds.Pseudonym kinds.Pseudonym methods.Aka methods.Prime e = absurd omega (arith, e)
digit_tells kinds.Pseudonym kinds.Pseudonym methods.Prime methods.Aka e = absurd omega (arith, e)
digit_tells kinds.Pseudonym kinds.Pseudonym methods.Prime methods.Prime e = (refl, refl)
digit_tells kinds.Pseudonym kinds.Reauth methods.Aka methods.Aka e = absurd omega (arith, e)
digit_tells kinds.Pseudonym kinds.Reauth methods.Aka methods.Prime e = absurd omega (arith, e)
digit_tells kinds.Pseudonym kinds.Reauth methods.Prime methods.Aka e = absurd omega (arith, e)
digit_tells kinds.Pseudonym kinds.Reauth methods.Prime methods.Prime e = absurd omega (arith, e)
digit_tells kinds.Reauth kinds.Pseudonym methods.Aka methods.Aka e = absurd omega (arith, e)
digit_tells kinds.Reauth kinds.Pseudonym methods.Aka methods.Prime e = absurd omega (arith, e)
digit_tells kinds.Reauth kinds.Pseudonym methods.Prime methods.Aka e = absurd omega (arith, e)
digit_tells kinds.Reauth kinds.Pseudonym methods.Prime methods.Prime e = absurd omega (arith, e)
digit_tells kinds.Reauth kinds.Reauth methods.Aka methods.Aka e = (refl, refl)
digit_tells kinds.Reauth kinds.Reauth methods.Aka methods.Prime e = absurd omega (arith, e)
digit_tells kinds.Reauth kinds.Reauth methods.Prime methods.Aka e = absurd omega (arith, e)
digit_tells kinds.Reauth kinds.Reauth methods.Prime methods.Prime e = (refl, refl)

abbrev head_of : List ℕ → ℕ
head_of [] = 0
head_of (x ∷ xs) = x

abbrev or_zero : Option (ℕ × ℕ) → ℕ × ℕ
or_zero None = (0, 0)
or_zero (Some pair) = pair

pub equal_names_are_one : DecryptionUndoesEncryption → EqualNamesAreOne
equal_names_are_one undone key k l m n sub other i j block a b e =
    let d : (k ≡ l) × (m ≡ n) = digit_tells k l m n (ap head_of e) in
    let one : named key (name_text key k m sub i) ≡ Some (sub, i) = named_back undone key k m sub i block a.four a.six in
    let two : named key (name_text key l n other j) ≡ Some (other, j) = named_back undone key l n other j block b.four b.six in
    let same : Some (sub, i) ≡ Some (other, j) = sym one ∙ ap (named key) e ∙ two in
    record { kind = d.0; method = d.1; subscriber = ap (λ (o : Option (ℕ × ℕ)). (or_zero o).0) same; ordinal = ap (λ (o : Option (ℕ × ℕ)). (or_zero o).1) same }
