-- What AUTN says of its number, for the law.
use Rattle.std.proofs.Common.{◌≡◌, ℕ, ◌≤◌, List, ◌++◌, length, take, drop, refl, sym, ap, ◌∙◌, append_assoc, arith}
use Rattle.std.proofs.lemmas.List.{take_at, drop_at, length-append}
use Rattle.auc_aes.specs.Bytes.{xor, IsBlock}
use Rattle.auc_aes.proofs.Facts.{xor_twice, length_xor}
use Rattle.auc_milenage.specs.Milenage.{f1, f5}
use Rattle.auc_milenage.proofs.Facts.{f5_size}
use Rattle.auc_sqn.specs.Number.{sqn_bytes, top_of, most_bits}
use Rattle.auc_sqn.proofs.Facts.{each_number_has_its_own_sqn}
use Rattle.auc_vector.specs.Vector.{autn_of, sqn_in}

-- the SQN of a number has 6 bytes
sqn_size : (bits n : ℕ) → length (sqn_bytes bits n) ≡ 6
sqn_size bits n = refl

-- the SQN that is found in the AUTN of a number is that of the number
pub autn_carries : (k opc rand amf : List ℕ) (bits n : ℕ) → IsBlock k → IsBlock opc
    → sqn_in k opc rand (autn_of k opc rand amf bits n) ≡ sqn_bytes bits n
unfolding sqn_in autn_of
autn_carries k opc rand amf bits n hk ho =
    let ak : List ℕ = f5 k opc rand in
    let mac : List ℕ = f1 k opc rand (sqn_bytes bits n) amf in
    let same : length (sqn_bytes bits n) ≡ length ak = sqn_size bits n ∙ sym (f5_size k opc rand hk ho) in
    let masked : length (xor (sqn_bytes bits n) ak) ≡ 6 = length_xor (sqn_bytes bits n) ak same ∙ sqn_size bits n in
    ap (λ b. xor (take 6 b) ak) (append_assoc (xor (sqn_bytes bits n) ak) amf mac)
    ∙ ap (λ b. xor b ak) (take_at (xor (sqn_bytes bits n) ak) (amf ++ mac) 6 masked) ∙ xor_twice (sqn_bytes bits n) ak same

-- AUTNs with one index length in which one SQN is found are of one number
pub one_number : (k opc amf r s : List ℕ) (bits m n : ℕ) → IsBlock k → IsBlock opc → bits ≤ most_bits → m ≤ top_of bits → n ≤ top_of bits
    → sqn_in k opc r (autn_of k opc r amf bits m) ≡ sqn_in k opc s (autn_of k opc s amf bits n) → m ≡ n
one_number k opc amf r s bits m n hk ho few lm ln e =
    each_number_has_its_own_sqn bits m n few lm ln
    (sym (autn_carries k opc r amf bits m hk ho) ∙ e ∙ autn_carries k opc s amf bits n hk ho)

-- the parts of bytes that stand one after the other
parts_of : (xs ys zs : List ℕ) → length xs ≡ 6 → length ys ≡ 2
    → (take 2 (drop 6 (xs ++ ys ++ zs)) ≡ ys) × (drop 8 (xs ++ ys ++ zs) ≡ zs)
parts_of xs ys zs six two =
    let front : length (xs ++ ys) ≡ 8 = omega (arith, length-append xs ys) in (
      ap (λ b. take 2 (drop 6 b)) (append_assoc xs ys zs) ∙ ap (take 2) (drop_at xs (ys ++ zs) 6 six) ∙ take_at ys zs 2 two,
      drop_at (xs ++ ys) zs 8 front,
    )

-- the MAC of an AUTN is f1 of the SQN and the AMF that are found there
pub autn_has_its_mac : (k opc rand amf : List ℕ) (bits n : ℕ) → IsBlock k → IsBlock opc → length amf ≡ 2
    → drop 8 (autn_of k opc rand amf bits n)
    ≡ f1 k opc rand (sqn_in k opc rand (autn_of k opc rand amf bits n)) (take 2 (drop 6 (autn_of k opc rand amf bits n)))
unfolding autn_of
autn_has_its_mac k opc rand amf bits n hk ho two =
    let ak : List ℕ = f5 k opc rand in
    let sqn : List ℕ = sqn_bytes bits n in
    let mac : List ℕ = f1 k opc rand sqn amf in
    let same : length sqn ≡ length ak = sqn_size bits n ∙ sym (f5_size k opc rand hk ho) in
    let masked : length (xor sqn ak) ≡ 6 = length_xor sqn ak same ∙ sqn_size bits n in
    let (amf_there, mac_there) = parts_of (xor sqn ak) amf mac masked two in
    mac_there ∙ ap (λ b. f1 k opc rand b amf) (sym (autn_carries k opc rand amf bits n hk ho))
    ∙ ap (f1 k opc rand (sqn_in k opc rand (xor sqn ak ++ amf ++ mac))) (sym amf_there)
