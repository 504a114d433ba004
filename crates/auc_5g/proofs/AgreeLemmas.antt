-- Both ends have one SQN XOR AK, and so the same values.
use Rattle.std.proofs.Common.{◌≡◌, ◌≢◌, ℕ, Bool, true, false, Option, List, [], ◌++◌, length, take, refl, sym, ap, ◌∙◌, append_assoc}
use Rattle.std.specs.Str.{bytes_eq}
use Rattle.std.proofs.lemmas.List.{take_at}
use Rattle.std.proofs.lemmas.Slice.Eq.{bytes_eq-Decides}
use Rattle.auc_aes.specs.Bytes.{xor, IsBlock}
use Rattle.auc_aes.proofs.Facts.{length_xor, xor_twice}
use Rattle.auc_hmac.specs.declared.method.Method.TheVariants.{Aka}
use Rattle.auc_milenage.specs.Milenage.{f1, f2, f3, f4, f5}
use Rattle.auc_milenage.specs.declared.secret.Secret.{Secret}
use Rattle.auc_milenage.proofs.Facts.{f5_size}
use Rattle.auc_sqn.specs.Number.{sqn_bytes}
use Rattle.auc_sqn.specs.Past.{Past}
use Rattle.auc_sqn.specs.declared.verdict.Verdict.{Verdict}
use Rattle.auc_sqn.specs.declared.verdict.Verdict.TheVariants.{Fresh, Old, Far, Aged}
use Rattle.auc_usim.specs.Usim.{IsAnswer, FollowsVerdict, acceptance, mac_in, sqn_in, verdict_on, xmac}
use Rattle.auc_usim.specs.declared.answer.Answer.TheVariants.{Accepted, WrongMac}
use Rattle.auc_vector.specs.Vector.{vector_of, autn_of}
use Rattle.auc_vector.specs.declared.parts.Vector.{Vector}
use Rattle.auc_5g.specs.Keys.{home_of, device_of, ausf_of, seaf_of}
use Rattle.auc_5g.specs.Agree.{Agree}

-- one SQN XOR AK, and the same RES, CK and IK
pub device_agrees : (v : Vector) (ak sqn name : List ℕ) → xor sqn ak ≡ take 6 v.autn → Agree (home_of v name) (device_of v.xres v.ck v.ik ak sqn v.rand name)
device_agrees v ak sqn name same = record {
  star = refl;
  ausf = ap (λ (masked : List ℕ). ausf_of v.ck v.ik name masked) same;
  seaf = ap (λ (masked : List ℕ). seaf_of (ausf_of v.ck v.ik name masked) name) same;
}

-- ---- a USIM that accepts

-- AUTN begins with SQN XOR AK
masked_is : (k opc rand amf : List ℕ) (bits n : ℕ) → IsBlock k → IsBlock opc → take 6 (autn_of k opc rand amf bits n) ≡ xor (sqn_bytes bits n) (f5 k opc rand)
unfolding autn_of
masked_is k opc rand amf bits n hk ho =
    let ak : List ℕ = f5 k opc rand in
    let size : length (sqn_bytes bits n) ≡ 6 = refl in
    let same : length (sqn_bytes bits n) ≡ length ak = size ∙ sym (f5_size k opc rand hk ho) in
    let six : length (xor (sqn_bytes bits n) ak) ≡ 6 = length_xor (sqn_bytes bits n) ak same ∙ size in
    ap (take 6) (append_assoc (xor (sqn_bytes bits n) ak) amf (f1 k opc rand (sqn_bytes bits n) amf)) ∙ take_at (xor (sqn_bytes bits n) ak) (amf ++ f1 k opc rand (sqn_bytes bits n) amf) 6 six

-- the SQN that the USIM finds there, masked again
masked_again : (s : Secret) (rand amf : List ℕ) (bits n : ℕ) → IsBlock s.k → IsBlock s.opc
    → xor (sqn_in s rand (autn_of s.k s.opc rand amf bits n)) (f5 s.k s.opc rand) ≡ take 6 (autn_of s.k s.opc rand amf bits n)
unfolding sqn_in
masked_again s rand amf bits n hk ho =
    let ak : List ℕ = f5 s.k s.opc rand in
    let is : take 6 (autn_of s.k s.opc rand amf bits n) ≡ xor (sqn_bytes bits n) ak = masked_is s.k s.opc rand amf bits n hk ho in
    let size : length (sqn_bytes bits n) ≡ 6 = refl in
    let same : length (sqn_bytes bits n) ≡ length ak = size ∙ sym (f5_size s.k s.opc rand hk ho) in
    let six : length (xor (sqn_bytes bits n) ak) ≡ length ak = length_xor (sqn_bytes bits n) ak same ∙ same in
    ap (λ (masked : List ℕ). xor (xor masked ak) ak) is ∙ xor_twice (xor (sqn_bytes bits n) ak) ak six ∙ sym is

-- what a USIM accepts with is what its secret makes of RAND and AUTN
accepted_is : (s : Secret) (own : ℕ) (age : Option ℕ) (past : Past) (rand autn res ck ik ak amf sqn : List ℕ) → IsAnswer s own age past rand autn (Accepted res ck ik ak amf sqn)
    → Accepted res ck ik ak amf sqn ≡ acceptance s rand autn
accepted_is s own age past rand autn res ck ik ak amf sqn is =
    by (bytes_eq (mac_in autn) (xmac s rand autn)) refl
  where
    fresh : (v : Verdict) → FollowsVerdict s own past rand autn v (Accepted res ck ik ak amf sqn) → Accepted res ck ik ak amf sqn ≡ acceptance s rand autn
    fresh Fresh same = same
    fresh (Old entry) (sqn_ms, highest, same) = absurd cc
    fresh (Far greatest) (sqn_ms, highest, same) = absurd cc
    fresh (Aged greatest) (sqn_ms, highest, same) = absurd cc

    never : Accepted res ck ik ak amf sqn ≡ WrongMac → ⊥
    never same = cc

    apart : bytes_eq (mac_in autn) (xmac s rand autn) ≡ false → mac_in autn ≢ xmac s rand autn
    apart differ same = let alike = (bytes_eq-Decides (mac_in autn) (xmac s rand autn)).1 same in let bad : ⊥ = cc in bad

    by : (b : Bool) → bytes_eq (mac_in autn) (xmac s rand autn) ≡ b → Accepted res ck ik ak amf sqn ≡ acceptance s rand autn
    by true same = fresh (verdict_on s own age past rand autn) (is.right_mac ((bytes_eq-Decides (mac_in autn) (xmac s rand autn)).0 same))
    by false differ = absurd (never (is.wrong_mac (apart differ)))

-- the values of an answer
record IsOf (s : Secret) (rand autn res ck ik ak sqn : List ℕ) : Type 0 where
  res_is : res ≡ f2 s.k s.opc rand
  ck_is : ck ≡ f3 s.k s.opc rand
  ik_is : ik ≡ f4 s.k s.opc rand
  ak_is : ak ≡ f5 s.k s.opc rand
  sqn_is : sqn ≡ sqn_in s rand autn

parts_of : (s : Secret) (rand autn res ck ik ak amf sqn : List ℕ) → Accepted res ck ik ak amf sqn ≡ acceptance s rand autn → IsOf s rand autn res ck ik ak sqn
unfolding acceptance
parts_of s rand autn res ck ik ak amf sqn same = record {
  res_is = cc;
  ck_is = cc;
  ik_is = cc;
  ak_is = cc;
  sqn_is = cc;
}

pub accepting_agrees : (s : Secret) (amf rand name : List ℕ) (bits n own : ℕ) (age : Option ℕ) (past : Past) (res ck ik ak amf_seen sqn : List ℕ) → IsBlock s.k → IsBlock s.opc
    → IsAnswer s own age past rand (autn_of s.k s.opc rand amf bits n) (Accepted res ck ik ak amf_seen sqn)
    → Agree (home_of (vector_of s Aka amf [] bits n rand) name) (device_of res ck ik ak sqn rand name)
accepting_agrees s amf rand name bits n own age past res ck ik ak amf_seen sqn hk ho is =
    let autn = autn_of s.k s.opc rand amf bits n in
    let parts = parts_of s rand autn res ck ik ak amf_seen sqn (accepted_is s own age past rand autn res ck ik ak amf_seen sqn is) in
    rw (parts.res_is, parts.ck_is, parts.ik_is, parts.ak_is, parts.sqn_is)
    (device_agrees (vector_of s Aka amf [] bits n rand) (f5 s.k s.opc rand) (sqn_in s rand autn) name (masked_again s rand amf bits n hk ho))
