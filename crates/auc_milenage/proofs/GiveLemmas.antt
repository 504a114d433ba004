-- What the ciphers of the four blocks give.
use Rattle.std.proofs.Common.{◌≡◌, ℕ, List, [], ◌∷◌, map, get_or, refl, ap, ◌∙◌}
use Rattle.std.proofs.lemmas.Simd.{map-map}
use Rattle.std.specs.Int.{w128, to_be_bytes}
use Rattle.auc_aes.specs.Bytes.{xor, rot}
use Rattle.auc_aes.specs.Cipher.{aes}
use Rattle.auc_milenage.specs.Lanes.{GiveOuts, input, input1}
use Rattle.auc_milenage.specs.Milenage.{temp_of, in1_of, out1, out, r2, r3, r4, c2, c3, c4}

-- they are, with OPc added, OUT1 to OUT4
given : (k opc rand sqn amf : List ℕ)
    → GiveOuts (record { k = k; opc = opc }) rand sqn amf (aes k (input1 opc (temp_of k opc rand) (in1_of sqn amf)))
    (aes k (input r2 c2 opc (temp_of k opc rand))) (aes k (input r3 c3 opc (temp_of k opc rand))) (aes k (input r4 c4 opc (temp_of k opc rand)))
unfolding out1 out input1 input
given k opc rand sqn amf = record { first = refl; second = refl; third = refl; fourth = refl }

pub give_outs : (k opc rand sqn amf temp in1 : List ℕ) (made : List (List ℕ)) → temp ≡ temp_of k opc rand → in1 ≡ in1_of sqn amf
    → made ≡ input1 opc temp in1 ∷ input r2 c2 opc temp ∷ input r3 c3 opc temp ∷ input r4 c4 opc temp ∷ []
    → GiveOuts (record { k = k; opc = opc }) rand sqn amf (aes k (get_or made 0 [])) (aes k (get_or made 1 [])) (aes k (get_or made 2 [])) (aes k (get_or made 3 []))
give_outs k opc rand sqn amf temp in1 made et ei em = rw (em, et, ei) (given k opc rand sqn amf)

-- TEMP of each RAND, by masking all and encrypting all
pub temps_are : (k opc : List ℕ) (rands masked temps : List (List ℕ)) → masked ≡ map (λ block. xor block opc) rands → temps ≡ map (aes k) masked
    → temps ≡ map (temp_of k opc) rands
unfolding temp_of
temps_are k opc rands masked temps em et = et ∙ ap (map (aes k)) em ∙ map-map (aes k) (λ block. xor block opc) rands

-- the four blocks, step by step
pub inputs_are : (opc temp in1 mixed masked turned first none word half a b c d : List ℕ)
    → mixed ≡ xor temp opc → masked ≡ xor in1 opc → turned ≡ rot masked 64 → first ≡ xor temp turned
    → none ≡ rot mixed 0 → word ≡ rot mixed 32 → half ≡ rot mixed 64
    → a ≡ xor first (to_be_bytes w128 0) → b ≡ xor none (to_be_bytes w128 1) → c ≡ xor word (to_be_bytes w128 2) → d ≡ xor half (to_be_bytes w128 4)
    → a ∷ b ∷ c ∷ d ∷ [] ≡ input1 opc temp in1 ∷ input r2 c2 opc temp ∷ input r3 c3 opc temp ∷ input r4 c4 opc temp ∷ []
unfolding input1 input
inputs_are opc temp in1 mixed masked turned first none word half a b c d em ek et ef en ew eh ea eb ec ed =
    let a_is : a ≡ xor (xor temp (rot (xor in1 opc) 64)) (to_be_bytes w128 0) =
    ea ∙ ap (λ x. xor x (to_be_bytes w128 0)) (ef ∙ ap (xor temp) (et ∙ ap (λ m. rot m 64) ek)) in
    let b_is : b ≡ xor (rot (xor temp opc) 0) (to_be_bytes w128 1) = eb ∙ ap (λ x. xor x (to_be_bytes w128 1)) (en ∙ ap (λ m. rot m 0) em) in
    let c_is : c ≡ xor (rot (xor temp opc) 32) (to_be_bytes w128 2) = ec ∙ ap (λ x. xor x (to_be_bytes w128 2)) (ew ∙ ap (λ m. rot m 32) em) in
    let d_is : d ≡ xor (rot (xor temp opc) 64) (to_be_bytes w128 4) = ed ∙ ap (λ x. xor x (to_be_bytes w128 4)) (eh ∙ ap (λ m. rot m 64) em) in
    rw (a_is, b_is, c_is, d_is) refl
