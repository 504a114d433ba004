-- The home network and the device have the same values.
use Rattle.std.specs.Prelude.{◌≡◌, ℕ, List, [], Option, take}
use Rattle.auc_aes.specs.Bytes.{xor, IsBlock}
use Rattle.auc_hmac.specs.declared.method.Method.TheVariants.{Aka}
use Rattle.auc_milenage.specs.declared.secret.Secret.{Secret}
use Rattle.auc_sqn.specs.Past.{Past}
use Rattle.auc_usim.specs.Usim.{IsAnswer}
use Rattle.auc_usim.specs.declared.answer.Answer.TheVariants.{Accepted}
use Rattle.auc_vector.specs.Vector.{vector_of, autn_of}
use Rattle.auc_vector.specs.declared.parts.Vector.{Vector}
use Rattle.auc_5g.specs.declared.device_keys.DeviceKeys.{DeviceKeys}
use Rattle.auc_5g.specs.declared.home_keys.HomeKeys.{HomeKeys}
use Rattle.auc_5g.specs.Keys.{home_of, device_of}

-- RES* is XRES*, and the keys are equal
pub record Agree (h : HomeKeys) (d : DeviceKeys) : Type 0 where
  pub star : d.res_star ≡ h.xres_star
  pub ausf : d.k_ausf ≡ h.k_ausf
  pub seaf : d.k_seaf ≡ h.k_seaf

-- so it is for one name, if the device has RES, CK and IK of the vector, and its SQN XOR AK is that of AUTN
abbrev pub EachDeviceAgreesWithItsHome : Type 0
EachDeviceAgreesWithItsHome =
    (v : Vector) (ak sqn name : List ℕ) → xor sqn ak ≡ take 6 v.autn
    → Agree (home_of v name) (device_of v.xres v.ck v.ik ak sqn v.rand name)

-- and so it is for one name, if a USIM with the secret accepted RAND and AUTN of a number's vector, whatever it had accepted
-- before, and whatever its index length and its age limit are
abbrev pub EachAcceptingDeviceAgrees : Type 0
EachAcceptingDeviceAgrees =
    (s : Secret) (amf rand name : List ℕ) (bits n own : ℕ) (age : Option ℕ) (past : Past) (res ck ik ak amf_seen sqn : List ℕ)
    → IsBlock s.k → IsBlock s.opc
    → IsAnswer s own age past rand (autn_of s.k s.opc rand amf bits n) (Accepted res ck ik ak amf_seen sqn)
    → Agree (home_of (vector_of s Aka amf [] bits n rand) name) (device_of res ck ik ak sqn rand name)
