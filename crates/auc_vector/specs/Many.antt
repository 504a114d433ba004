-- The vectors of consecutive numbers; and blocks of which four belong to each number.
use Rattle.std.specs.Prelude.{ℕ, ◌+◌, ◌*◌, List, [], ◌∷◌, slice_index_or}
use Rattle.auc_aes.specs.Cipher.{aes}
use Rattle.auc_hmac.specs.declared.method.Method.{Method}
use Rattle.auc_milenage.specs.Lanes.{GiveOuts}
use Rattle.auc_milenage.specs.declared.secret.Secret.{Secret}
use Rattle.auc_sqn.specs.Number.{sqn_bytes}
use Rattle.auc_vector.specs.Keys.{ck_by, ik_by}
use Rattle.auc_vector.specs.Vector.{vector_of}
use Rattle.auc_vector.specs.declared.parts.Vector.{Vector}

-- the vectors of the numbers from one on, as many as there are RANDs, where an index has so many bits
abbrev pub vectors_of : Secret → Method → List ℕ → List ℕ → ℕ → ℕ → List (List ℕ) → List Vector
vectors_of s method amf name bits n [] = []
vectors_of s method amf name bits n (rand ∷ rands) =
    vector_of s method amf name bits n rand ∷ vectors_of s method amf name bits (n + 1) rands

-- a vector of EAP-AKA with CK and IK by the method
abbrev pub keyed_by : Method → List ℕ → Vector → Vector
keyed_by method name v = record {
  n = v.n;
  rand = v.rand;
  autn = v.autn;
  xres = v.xres;
  ck = ck_by method name v.autn v.ck v.ik;
  ik = ik_by method name v.autn v.ck v.ik;
}

-- the ciphers from place 4 j on give the outs of RAND j and number first + j
abbrev pub AreCiphers : Secret → List ℕ → ℕ → ℕ → List (List ℕ) → List (List ℕ) → ℕ → Type 0
AreCiphers s amf bits first rands ciphers j =
    GiveOuts s (slice_index_or rands j []) (sqn_bytes bits (first + j)) amf (slice_index_or ciphers (4 * j) [])
    (slice_index_or ciphers (4 * j + 1) []) (slice_index_or ciphers (4 * j + 2) []) (slice_index_or ciphers (4 * j + 3) [])

-- the blocks from place 4 j on are those whose ciphers do
abbrev pub AreInputs : Secret → List ℕ → ℕ → ℕ → List (List ℕ) → List (List ℕ) → ℕ → Type 0
AreInputs s amf bits first rands blocks j =
    GiveOuts s (slice_index_or rands j []) (sqn_bytes bits (first + j)) amf (aes s.k (slice_index_or blocks (4 * j) []))
    (aes s.k (slice_index_or blocks (4 * j + 1) [])) (aes s.k (slice_index_or blocks (4 * j + 2) [])) (aes s.k (slice_index_or blocks (4 * j + 3) []))
