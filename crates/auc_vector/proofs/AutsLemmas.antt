-- AUTS as it is read, for `read_auts` and its law.
use Rattle.std.proofs.Common.{◌≡◌, ℕ, Bool, true, false, if◌then◌else◌, List, [], ◌∷◌, ◌++◌, length, take, sym, ap, ◌∙◌, arith}
use Rattle.std.specs.Str.{bytes_eq}
use Rattle.std.proofs.lemmas.List.{length-take-le, take_at, drop_at}
use Rattle.std.proofs.lemmas.Slice.Eq.{bytes_eq-Decides}
use Rattle.auc_aes.specs.Bytes.{xor, IsBlock}
use Rattle.auc_aes.proofs.Facts.{xor_twice, length_xor}
use Rattle.auc_milenage.specs.Milenage.{f1_star, f5_star, auts, out, r5, c5, temp_of}
use Rattle.auc_milenage.specs.declared.secret.Secret.{Secret}
use Rattle.auc_milenage.proofs.Facts.{out_block}
use Rattle.auc_vector.specs.declared.auts.Auts.{Auts}
use Rattle.auc_vector.specs.declared.auts.Auts.TheVariants.{WrongMac}
use Rattle.auc_vector.specs.Auts.{sqn_ms_in, mac_s_in, xmac_s, seq_said, read_auts_of, EachAutsIsReadBack}

-- f5* has 6 bytes
f5_star_size : (k opc rand : List ℕ) → IsBlock k → IsBlock opc → length (f5_star k opc rand) ≡ 6
unfolding f5_star
f5_star_size k opc rand hk ho =
    let block : IsBlock (out r5 c5 k opc (temp_of k opc rand)) = out_block r5 c5 k opc (temp_of k opc rand) hk ho in
    length-take-le 6 (out r5 c5 k opc (temp_of k opc rand)) (omega (arith, block.size))

-- what is masked, with f5* taken off, is SQN_MS in AUTS
sqn_ms_is : (s : Secret) (rand answer masked ak sqn : List ℕ) → masked ≡ take 6 answer → ak ≡ f5_star s.k s.opc rand → sqn ≡ xor masked ak
    → sqn ≡ sqn_ms_in s rand answer
unfolding sqn_ms_in
sqn_ms_is s rand answer masked ak sqn front key is = is ∙ ap (λ b. xor b ak) front ∙ ap (xor (take 6 answer)) key

-- f1* of it is XMAC-S
xmac_s_is : (s : Secret) (rand answer sqn mac : List ℕ) → sqn ≡ sqn_ms_in s rand answer → mac ≡ f1_star s.k s.opc rand sqn (0 ∷ 0 ∷ [])
    → mac ≡ xmac_s s rand answer
unfolding xmac_s
xmac_s_is s rand answer sqn mac same is = is ∙ ap (λ b. f1_star s.k s.opc rand b (0 ∷ 0 ∷ [])) same

-- what the home network has computed, and what it found in AUTS
pub record Computes (s : Secret) (rand answer masked ak sqn expected mac_s : List ℕ) : Type 0 where
  pub masked_is : masked ≡ take 6 answer
  pub mac_s_is : mac_s ≡ mac_s_in answer
  pub key_is : ak ≡ f5_star s.k s.opc rand
  pub sqn_is : sqn ≡ xor masked ak
  pub expected_is : expected ≡ f1_star s.k s.opc rand sqn (0 ∷ 0 ∷ [])

-- the test that it makes is the one that decides
test_is : (s : Secret) (rand answer masked ak sqn expected mac_s : List ℕ) → Computes s rand answer masked ak sqn expected mac_s
    → bytes_eq expected mac_s ≡ bytes_eq (xmac_s s rand answer) (mac_s_in answer)
test_is s rand answer masked ak sqn expected mac_s c =
    let same = sqn_ms_is s rand answer masked ak sqn c.masked_is c.key_is c.sqn_is in
    ap (λ b. bytes_eq b mac_s) (xmac_s_is s rand answer sqn expected same c.expected_is) ∙ ap (bytes_eq (xmac_s s rand answer)) c.mac_s_is

-- the choice by a test that came out as `b`
chosen : (test b : Bool) (x y : Auts) → test ≡ b → (if test then x else y) ≡ (if b then x else y)
chosen test b x y e = ap (λ t. if t then x else y) e

-- MAC-S is right
pub reads_said : (s : Secret) (rand answer masked ak sqn expected mac_s : List ℕ) (bits : ℕ) (said : Auts)
    → Computes s rand answer masked ak sqn expected mac_s → bytes_eq expected mac_s ≡ true → said ≡ seq_said bits sqn
    → said ≡ read_auts_of s rand answer bits
reads_said s rand answer masked ak sqn expected mac_s bits said c right is =
    is ∙ ap (seq_said bits) (sqn_ms_is s rand answer masked ak sqn c.masked_is c.key_is c.sqn_is)
    ∙ sym (chosen (bytes_eq (xmac_s s rand answer) (mac_s_in answer)) true (seq_said bits (sqn_ms_in s rand answer)) WrongMac
    (sym (test_is s rand answer masked ak sqn expected mac_s c) ∙ right))

-- MAC-S is wrong
pub reads_wrong : (s : Secret) (rand answer masked ak sqn expected mac_s : List ℕ) (bits : ℕ)
    → Computes s rand answer masked ak sqn expected mac_s → bytes_eq expected mac_s ≡ false
    → WrongMac ≡ read_auts_of s rand answer bits
reads_wrong s rand answer masked ak sqn expected mac_s bits c wrong =
    sym (chosen (bytes_eq (xmac_s s rand answer) (mac_s_in answer)) false (seq_said bits (sqn_ms_in s rand answer)) WrongMac
    (sym (test_is s rand answer masked ak sqn expected mac_s c) ∙ wrong))

-- the AUTS of an SQN_MS is read as what the SQN_MS says
pub auts_is_read_back : EachAutsIsReadBack
unfolding auts sqn_ms_in xmac_s
auts_is_read_back s rand sqn_ms bits hk ho six =
    let ak : List ℕ = f5_star s.k s.opc rand in
    let mac_s : List ℕ = f1_star s.k s.opc rand sqn_ms (0 ∷ 0 ∷ []) in
    let same : length sqn_ms ≡ length ak = six ∙ sym (f5_star_size s.k s.opc rand hk ho) in
    let masked : length (xor sqn_ms ak) ≡ 6 = length_xor sqn_ms ak same ∙ six in
    let answer : List ℕ = xor sqn_ms ak ++ mac_s in
    let sqn_there : sqn_ms_in s rand answer ≡ sqn_ms =
    ap (λ b. xor b ak) (take_at (xor sqn_ms ak) mac_s 6 masked) ∙ xor_twice sqn_ms ak same in
    let mac_there : mac_s_in answer ≡ mac_s = drop_at (xor sqn_ms ak) mac_s 6 masked in
    let expected : xmac_s s rand answer ≡ mac_s = ap (λ b. f1_star s.k s.opc rand b (0 ∷ 0 ∷ [])) sqn_there in
    let right : bytes_eq (xmac_s s rand answer) (mac_s_in answer) ≡ true =
    (bytes_eq-Decides (xmac_s s rand answer) (mac_s_in answer)).1 (expected ∙ sym mac_there) in
    chosen (bytes_eq (xmac_s s rand answer) (mac_s_in answer)) true (seq_said bits (sqn_ms_in s rand answer)) WrongMac right
    ∙ ap (seq_said bits) sqn_there
