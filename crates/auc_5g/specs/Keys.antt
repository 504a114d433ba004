-- The keys of EPS (TS 33.401 Annex A.2) and of 5G (TS 33.501 Annexes A.2 and A.4 to A.6) on lists of bytes. A derivation
-- is HMAC-SHA-256 of an input S: FC, and then each parameter followed by its length (TS 33.220 Annex B.2).
use Rattle.std.specs.Prelude.{ℕ, List, ◌∷◌, ◌++◌, length, take}
use Rattle.std.specs.Int.{w16, to_be_bytes}
use Rattle.sha2.specs.Sha256.{sha256}
use Rattle.auc_aes.specs.Bytes.{xor}
use Rattle.auc_hmac.specs.Hmac.{hmac_sha256}
use Rattle.auc_hmac.specs.Piece.{piece}
use Rattle.auc_vector.specs.declared.parts.Vector.{Vector}
use Rattle.auc_5g.specs.declared.device_keys.DeviceKeys.{DeviceKeys}
use Rattle.auc_5g.specs.declared.home_keys.HomeKeys.{HomeKeys}

-- ---- the inputs

-- a parameter, followed by its length in 2 bytes
abbrev pub with_length : List ℕ → List ℕ
with_length parameter = parameter ++ to_be_bytes w16 (length parameter)

-- of K_ASME: the SN id of 3 bytes, and SQN XOR AK; FC is 0x10 (TS 33.401 Annex A.2)
abbrev pub asme_input : List ℕ → List ℕ → List ℕ
asme_input snid sqn_xor_ak = 0x10 ∷ with_length snid ++ with_length sqn_xor_ak

-- of K_AUSF: the name of the serving network, and SQN XOR AK; FC is 0x6A (TS 33.501 Annex A.2)
abbrev pub ausf_input : List ℕ → List ℕ → List ℕ
ausf_input name sqn_xor_ak = 0x6A ∷ with_length name ++ with_length sqn_xor_ak

-- of RES* and XRES*: the name, RAND, and RES or XRES; FC is 0x6B (TS 33.501 Annex A.4)
abbrev pub star_input : List ℕ → List ℕ → List ℕ → List ℕ
star_input name rand res = 0x6B ∷ with_length name ++ with_length rand ++ with_length res

-- of K_SEAF: the name; FC is 0x6C (TS 33.501 Annex A.6)
abbrev pub seaf_input : List ℕ → List ℕ
seaf_input name = 0x6C ∷ with_length name

-- ---- the values

-- K_ASME from CK, IK, the SN id and SQN XOR AK (TS 33.401 Annex A.2)
abbrev pub asme_of : List ℕ → List ℕ → List ℕ → List ℕ → List ℕ
asme_of ck ik snid sqn_xor_ak = hmac_sha256 (ck ++ ik) (asme_input snid sqn_xor_ak)

-- K_AUSF from CK, IK, the name and SQN XOR AK (TS 33.501 Annex A.2)
unfoldable pub ausf_of : List ℕ → List ℕ → List ℕ → List ℕ → List ℕ
ausf_of ck ik name sqn_xor_ak = hmac_sha256 (ck ++ ik) (ausf_input name sqn_xor_ak)

-- RES* from CK, IK, the name, RAND and RES, and XRES* from XRES: the last 16 bytes (TS 33.501 Annex A.4)
unfoldable pub star_of : List ℕ → List ℕ → List ℕ → List ℕ → List ℕ → List ℕ
star_of ck ik name rand res = piece 16 16 (hmac_sha256 (ck ++ ik) (star_input name rand res))

-- K_SEAF from K_AUSF and the name (TS 33.501 Annex A.6)
unfoldable pub seaf_of : List ℕ → List ℕ → List ℕ
seaf_of k_ausf name = hmac_sha256 k_ausf (seaf_input name)

-- HRES* from RAND and RES*, and HXRES* from XRES*: the last 16 bytes of the digest (TS 33.501 Annex A.5)
abbrev pub standard_of : List ℕ → List ℕ → List ℕ
standard_of rand star = piece 16 16 (sha256 (rand ++ star))

-- the first 16 bytes of the same digest, which the calls here compare in place of them
abbrev pub front_of : List ℕ → List ℕ → List ℕ
front_of rand star = piece 0 16 (sha256 (rand ++ star))

-- ---- both ends

-- the home network's values of a vector, for a name; SQN XOR AK is the first 6 bytes of AUTN (TS 33.102 §6.3.2)
abbrev pub home_of : Vector → List ℕ → HomeKeys
home_of v name = record {
  rand = v.rand;
  autn = v.autn;
  xres_star = star_of v.ck v.ik name v.rand v.xres;
  hxres_star = front_of v.rand (star_of v.ck v.ik name v.rand v.xres);
  k_ausf = ausf_of v.ck v.ik name (take 6 v.autn);
  k_seaf = seaf_of (ausf_of v.ck v.ik name (take 6 v.autn)) name;
}

-- the device's values, from RES, CK, IK, AK, SQN, RAND and a name
abbrev pub device_of : List ℕ → List ℕ → List ℕ → List ℕ → List ℕ → List ℕ → List ℕ → DeviceKeys
device_of res ck ik ak sqn rand name = record {
  res_star = star_of ck ik name rand res;
  k_ausf = ausf_of ck ik name (xor sqn ak);
  k_seaf = seaf_of (ausf_of ck ik name (xor sqn ak)) name;
}
