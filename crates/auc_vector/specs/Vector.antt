-- The authentication vector of a number (TS 33.102 §6.3.2), and the SQN that its AUTN carries.
use Rattle.std.specs.Prelude.{◌≡◌, ℕ, ◌≤◌, List, ◌++◌, length, take, drop}
use Rattle.auc_aes.specs.Bytes.{xor, IsBlock}
use Rattle.auc_hmac.specs.declared.method.Method.{Method}
use Rattle.auc_milenage.specs.Milenage.{f1, f2, f3, f4, f5}
use Rattle.auc_milenage.specs.declared.secret.Secret.{Secret}
use Rattle.auc_sqn.specs.Number.{sqn_bytes, top_of, most_bits}
use Rattle.auc_vector.specs.declared.parts.Vector.{Vector}
use Rattle.auc_random.specs.Random.{Stream}
use Rattle.auc_vector.specs.Keys.{ck_by, ik_by}

-- AUTN: SQN masked by AK, AMF, and the MAC f1; an index has so many bits
unfoldable pub autn_of : List ℕ → List ℕ → List ℕ → List ℕ → ℕ → ℕ → List ℕ
autn_of k opc rand amf bits n =
    xor (sqn_bytes bits n) (f5 k opc rand) ++ amf ++ f1 k opc rand (sqn_bytes bits n) amf

-- the vector of a number with a RAND, under a secret and an AMF, for a method and the network's name, where an index has
-- so many bits: XRES is f2 of the RAND, and CK and IK are what the method makes of f3 and f4
abbrev pub vector_of : Secret → Method → List ℕ → List ℕ → ℕ → ℕ → List ℕ → Vector
vector_of s method amf name bits n rand = record {
  n = n;
  rand = rand;
  autn = autn_of s.k s.opc rand amf bits n;
  xres = f2 s.k s.opc rand;
  ck = ck_by method name (autn_of s.k s.opc rand amf bits n) (f3 s.k s.opc rand) (f4 s.k s.opc rand);
  ik = ik_by method name (autn_of s.k s.opc rand amf bits n) (f3 s.k s.opc rand) (f4 s.k s.opc rand);
}

-- what the vectors of one subscriber are made from
pub record Source : Type 0 where
  pub secret : Secret
  pub amf : List ℕ
  pub bits : ℕ
  pub rands : Stream

-- the SQN that a USIM finds in AUTN
unfoldable pub sqn_in : List ℕ → List ℕ → List ℕ → List ℕ → List ℕ
sqn_in k opc rand autn = xor (take 6 autn) (f5 k opc rand)

-- a USIM finds in the AUTN of a number its SQN
abbrev pub AutnCarriesTheSqn : Type 0
AutnCarriesTheSqn =
    (k opc rand amf : List ℕ) (bits n : ℕ) → IsBlock k → IsBlock opc
    → sqn_in k opc rand (autn_of k opc rand amf bits n) ≡ sqn_bytes bits n

-- two vectors under one secret and one index length, with any RANDs, in which one SQN is found, are of one number
abbrev pub NumbersHaveDifferentSqns : Type 0
NumbersHaveDifferentSqns =
    (k opc amf r s : List ℕ) (bits m n : ℕ) → IsBlock k → IsBlock opc → bits ≤ most_bits → m ≤ top_of bits → n ≤ top_of bits
    → sqn_in k opc r (autn_of k opc r amf bits m) ≡ sqn_in k opc s (autn_of k opc s amf bits n) → m ≡ n

-- the MAC of an AUTN is the one that a USIM expects: f1 of the SQN and the AMF that it finds there
abbrev pub AutnHasTheMac : Type 0
AutnHasTheMac =
    (k opc rand amf : List ℕ) (bits n : ℕ) → IsBlock k → IsBlock opc → length amf ≡ 2
    → drop 8 (autn_of k opc rand amf bits n)
    ≡ f1 k opc rand (sqn_in k opc rand (autn_of k opc rand amf bits n)) (take 2 (drop 6 (autn_of k opc rand amf bits n)))
