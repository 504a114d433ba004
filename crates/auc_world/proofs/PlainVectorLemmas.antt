-- For plain sessions: how many bytes the values of a vector and an AUTS have.
use Rattle.std.proofs.Common.{◌≡◌, ℕ, zero, suc, ◌+◌, ◌*◌, ◌<◌, List, [], ◌∷◌, ◌++◌, length, refl, sym, ◌∙◌, arith, length-append}
use Rattle.std.proofs.lemmas.List.{length-drop, length-take-le}
use Rattle.std.specs.Int.{w128, bytes_high_first, bytes_low_first, byte_at, from_be_bytes, rotate_left, to_be_bytes}
use Rattle.auc_aes.proofs.Facts.{aes_block, bytes_append, length_xor, xor_block}
use Rattle.auc_aes.specs.Bytes.{IsBlock, IsBytes, rot, xor}
use Rattle.auc_aes.specs.Cipher.{aes}
use Rattle.auc_milenage.proofs.Facts.{f5_size, out_block}
use Rattle.auc_milenage.specs.Milenage.{auts, c1, c2, c5, f1, f1_star, f2, f5, f5_star, in1_of, out, out1, r1, r2, r5, temp_of}
use Rattle.auc_sqn.specs.Number.{sqn_bytes}
use Rattle.auc_random.specs.Random.{rand_of, sixteen_at, word_bytes}
use Rattle.auc_vector.specs.Vector.{autn_of}

-- ---- numbers as bytes

byte_lt : (i n : ℕ) → byte_at i n < 256
byte_lt zero n = omega arith
byte_lt (suc i) n = omega arith

pub high_first_are : (k n : ℕ) → IsBytes (bytes_high_first k n)
high_first_are zero n i = omega arith
high_first_are (suc k) n zero = byte_lt k n
high_first_are (suc k) n (suc i) = high_first_are k n i

low_first_are : (from k n : ℕ) → IsBytes (bytes_low_first from k n)
low_first_are from zero n i = omega arith
low_first_are from (suc k) n zero = byte_lt from n
low_first_are from (suc k) n (suc i) = low_first_are (suc from) k n i

number_block : (n : ℕ) → IsBlock (to_be_bytes w128 n)
number_block n = record { size = refl; bytes = high_first_are 16 n }

rot_block : (block : List ℕ) (r : ℕ) → IsBlock (rot block r)
unfolding rot
rot_block block r = number_block (rotate_left w128 (from_be_bytes w128 block) r)

-- ---- RAND

word_are : (key : List ℕ) (stream place : ℕ) → IsBytes (word_bytes key stream place)
word_are key stream place = low_first_are 0 4 _

-- the bytes of four words are a block
pub sixteen_block : (key : List ℕ) (stream p : ℕ) → IsBlock (sixteen_at key stream p)
unfolding sixteen_at
sixteen_block key stream p =
    let w = word_bytes key stream in
    record {
      size = refl;
      bytes = bytes_append ((w p ++ w (p + 1)) ++ w (p + 2)) (w (p + 3))
          (bytes_append (w p ++ w (p + 1)) (w (p + 2)) (bytes_append (w p) (w (p + 1)) (word_are key stream p) (word_are key stream (p + 1))) (word_are key stream (p + 2)))
          (word_are key stream (p + 3));
    }

-- RAND is a block
pub rand_block : (key : List ℕ) (sub n : ℕ) → IsBlock (rand_of key sub n)
unfolding rand_of
rand_block key sub n = sixteen_block key sub (4 * n)

-- ---- the functions

-- TEMP is a block
temp_block : (k opc rand : List ℕ) → IsBlock k → IsBlock opc → IsBlock rand → IsBlock (temp_of k opc rand)
unfolding temp_of
temp_block k opc rand hk ho hr = aes_block k (xor rand opc) hk (xor_block rand opc hr ho)

-- OUT1 is a block
out1_block : (k opc temp sqn amf : List ℕ) → IsBlock k → IsBlock opc → IsBlock temp → IsBlock (out1 k opc temp sqn amf)
unfolding out1
out1_block k opc temp sqn amf hk ho ht =
    let turned = rot (xor (in1_of sqn amf) opc) r1 in
    let input = xor (xor temp turned) (to_be_bytes w128 c1) in
    let is : IsBlock input = xor_block (xor temp turned) (to_be_bytes w128 c1) (xor_block temp turned ht (rot_block (xor (in1_of sqn amf) opc) r1)) (number_block c1) in
    xor_block (aes k input) opc (aes_block k input hk is) ho

f1_size : (k opc rand sqn amf : List ℕ) → IsBlock k → IsBlock opc → IsBlock rand → length (f1 k opc rand sqn amf) ≡ 8
unfolding f1
f1_size k opc rand sqn amf hk ho hr =
    let o = out1 k opc (temp_of k opc rand) sqn amf in
    let block : IsBlock o = out1_block k opc (temp_of k opc rand) sqn amf hk ho (temp_block k opc rand hk ho hr) in
    length-take-le 8 o (omega (arith, block.size))

f1_star_size : (k opc rand sqn amf : List ℕ) → IsBlock k → IsBlock opc → IsBlock rand → length (f1_star k opc rand sqn amf) ≡ 8
unfolding f1_star
f1_star_size k opc rand sqn amf hk ho hr =
    let o = out1 k opc (temp_of k opc rand) sqn amf in
    let block : IsBlock o = out1_block k opc (temp_of k opc rand) sqn amf hk ho (temp_block k opc rand hk ho hr) in
    omega (arith, length-drop 8 o, block.size)

-- XRES has 8 bytes
pub f2_size : (k opc rand : List ℕ) → IsBlock k → IsBlock opc → length (f2 k opc rand) ≡ 8
unfolding f2
f2_size k opc rand hk ho =
    let o = out r2 c2 k opc (temp_of k opc rand) in
    let block : IsBlock o = out_block r2 c2 k opc (temp_of k opc rand) hk ho in
    omega (arith, length-drop 8 o, block.size)

f5_star_size : (k opc rand : List ℕ) → IsBlock k → IsBlock opc → length (f5_star k opc rand) ≡ 6
unfolding f5_star
f5_star_size k opc rand hk ho =
    let o = out r5 c5 k opc (temp_of k opc rand) in
    let block : IsBlock o = out_block r5 c5 k opc (temp_of k opc rand) hk ho in
    length-take-le 6 o (omega (arith, block.size))

-- ---- AUTN and AUTS

-- AUTN has 16 bytes
pub autn_size : (k opc rand amf : List ℕ) (bits n : ℕ) → IsBlock k → IsBlock opc → IsBlock rand → length amf ≡ 2 → length (autn_of k opc rand amf bits n) ≡ 16
unfolding autn_of
autn_size k opc rand amf bits n hk ho hr two =
    let sqn = sqn_bytes bits n in
    let six : length sqn ≡ 6 = refl in
    let ak = f5 k opc rand in
    let mac = f1 k opc rand sqn amf in
    let masked : length (xor sqn ak) ≡ 6 = length_xor sqn ak (six ∙ sym (f5_size k opc rand hk ho)) ∙ six in
    omega (arith, length-append (xor sqn ak ++ amf) mac, length-append (xor sqn ak) amf, masked, two, f1_size k opc rand sqn amf hk ho hr)

-- AUTS has 14 bytes
pub auts_size : (k opc rand sqn : List ℕ) → IsBlock k → IsBlock opc → IsBlock rand → length sqn ≡ 6 → length (auts k opc rand sqn) ≡ 14
unfolding auts
auts_size k opc rand sqn hk ho hr six =
    let ak = f5_star k opc rand in
    let mac = f1_star k opc rand sqn (0 ∷ 0 ∷ []) in
    let masked : length (xor sqn ak) ≡ 6 = length_xor sqn ak (six ∙ sym (f5_star_size k opc rand hk ho)) ∙ six in
    omega (arith, length-append (xor sqn ak) mac, masked, f1_star_size k opc rand sqn (0 ∷ 0 ∷ []) hk ho hr)
