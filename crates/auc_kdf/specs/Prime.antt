-- The keys of EAP-AKA' (RFC 9048 §3) on lists of bytes.
use Rattle.std.specs.Prelude.{ℕ, zero, suc, ◌+◌, ◌/◌, List, [], ◌∷◌, ◌++◌, length, take, codes}
use Rattle.std.specs.Int.{w16, to_be_bytes}
use Rattle.auc_hmac.specs.Hmac.{hmac_sha256}
use Rattle.auc_hmac.specs.declared.keys.KeySet.{KeySet}
use Rattle.auc_hmac.specs.declared.keys.Pair.{Pair}
use Rattle.auc_hmac.specs.Piece.{piece}

-- FC | name | length of name | SQN XOR AK | length of SQN XOR AK, where FC is 0x20 and each length has 2
-- bytes (TS 33.402 Annex A.2)
abbrev pub primed_input : List ℕ → List ℕ → List ℕ
primed_input name sqn_xor_ak =
    0x20 ∷ name ++ to_be_bytes w16 (length name) ++ sqn_xor_ak ++ to_be_bytes w16 6

-- CK' | IK' = HMAC-SHA-256(CK | IK, S), where S is that input (TS 33.402 Annex A.2)
abbrev pub primed_ck_ik : List ℕ → List ℕ → List ℕ → List ℕ → List ℕ
primed_ck_ik ck ik name sqn_xor_ak = hmac_sha256 (ck ++ ik) (primed_input name sqn_xor_ak)

-- T1 = HMAC-SHA-256(K, S | 0x01), and T(n) = HMAC-SHA-256(K, T(n-1) | S | n) (RFC 9048 §3.4.1)
unfoldable pub prf_block : List ℕ → List ℕ → ℕ → List ℕ
prf_block key seed zero = []
prf_block key seed (suc n) = hmac_sha256 key (prf_block key seed n ++ seed ++ suc n ∷ [])

-- T1 | T2 | .. | T(n)
unfoldable pub prf_blocks : List ℕ → List ℕ → ℕ → List ℕ
prf_blocks key seed zero = []
prf_blocks key seed (suc n) = prf_blocks key seed n ++ prf_block key seed (suc n)

-- the first `count` bytes of PRF'(K, S) = T1 | T2 | .. (RFC 9048 §3.4.1)
abbrev pub prf : ℕ → List ℕ → List ℕ → List ℕ
prf count key seed = take count (prf_blocks key seed ((count + 31) / 32))

-- MK = PRF'(IK' | CK', "EAP-AKA'" | Identity) (RFC 9048 §3.3)
abbrev pub prime_mk : List ℕ → List ℕ → List ℕ → List ℕ
prime_mk identity ik ck = prf 208 (ik ++ ck) (codes "EAP-AKA'" ++ identity)

-- the keys that MK is cut into: of 16, 32, 32, 64 and 64 bytes (RFC 9048 §3.3)
abbrev pub prime_key_set : List ℕ → KeySet
prime_key_set mk = record {
  k_encr = piece 0 16 mk;
  k_aut = piece 16 32 mk;
  k_re = piece 48 32 mk;
  msk = piece 80 64 mk;
  emsk = piece 144 64 mk;
}

-- MK = PRF'(K_re, "EAP-AKA' re-auth" | Identity | counter | NONCE_S) (RFC 9048 §3.3)
abbrev pub prime_reauth_mk : List ℕ → ℕ → List ℕ → List ℕ → List ℕ
prime_reauth_mk identity counter nonce k_re =
    prf 128 k_re (codes "EAP-AKA' re-auth" ++ identity ++ to_be_bytes w16 counter ++ nonce)

-- the keys that this MK is cut into, of 64 bytes each (RFC 9048 §3.3)
abbrev pub prime_key_pair : List ℕ → Pair
prime_key_pair mk = record { msk = piece 0 64 mk; emsk = piece 64 64 mk }
