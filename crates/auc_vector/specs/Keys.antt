-- CK and IK as a method uses them, and the keys of full authentications and of fast re-authentications (RFC 4187 §7,
-- RFC 9048 §3.3).
use Rattle.std.specs.Prelude.{ℕ, List, replicate, take}
use Rattle.auc_hmac.specs.Piece.{piece}
use Rattle.auc_hmac.specs.declared.keys.KeySet.{KeySet}
use Rattle.auc_hmac.specs.declared.keys.Master.{Master}
use Rattle.auc_hmac.specs.declared.keys.Master.TheVariants as master
use Rattle.auc_hmac.specs.declared.keys.Pair.{Pair}
use Rattle.auc_hmac.specs.declared.method.Method.{Method}
use Rattle.auc_hmac.specs.declared.method.Method.TheVariants.{Aka, Prime}
use Rattle.auc_kdf.specs.Prime.{primed_ck_ik, prime_key_pair, prime_key_set, prime_mk, prime_reauth_mk}
use Rattle.auc_prf.specs.Keys.{aka_key_pair, aka_key_set, aka_mk, reauth_xkey, stream}

-- CK by the method, from the network's name, AUTN, CK and IK: EAP-AKA uses CK itself, and EAP-AKA' uses CK', where SQN
-- XOR AK is the first 6 bytes of AUTN (RFC 9048 §3.3, TS 33.402 Annex A.2)
abbrev pub ck_by : Method → List ℕ → List ℕ → List ℕ → List ℕ → List ℕ
ck_by Aka name autn ck ik = ck
ck_by Prime name autn ck ik = piece 0 16 (primed_ck_ik ck ik name (take 6 autn))

-- IK by the method, in the same way
abbrev pub ik_by : Method → List ℕ → List ℕ → List ℕ → List ℕ → List ℕ
ik_by Aka name autn ck ik = ik
ik_by Prime name autn ck ik = piece 16 16 (primed_ck_ik ck ik name (take 6 autn))

-- the keys of a full authentication, from the identity that the peer sent last, and IK and CK by the method
unfoldable pub keys_of : Method → List ℕ → List ℕ → List ℕ → KeySet
keys_of Aka identity ik ck = aka_key_set (stream (aka_mk identity ik ck))
keys_of Prime identity ik ck = prime_key_set (prime_mk identity ik ck)

-- the key that the keys of the fast re-authentications after it are derived from: MK, or K_re of EAP-AKA'
unfoldable pub master_of : Method → List ℕ → List ℕ → List ℕ → Master
master_of Aka identity ik ck = master.Aka (aka_mk identity ik ck)
master_of Prime identity ik ck = master.Prime (prime_key_set (prime_mk identity ik ck)).k_re

-- K_re by that key; EAP-AKA has none
abbrev pub k_re_of : Master → List ℕ
k_re_of (master.Aka mk) = replicate 32 0
k_re_of (master.Prime k_re) = k_re

-- MSK and EMSK of a fast re-authentication, from the identity that the peer sent, the counter and NONCE_S
unfoldable pub reauth_pair : Master → List ℕ → ℕ → List ℕ → Pair
reauth_pair (master.Aka mk) identity counter nonce = aka_key_pair (stream (reauth_xkey identity counter nonce mk))
reauth_pair (master.Prime k_re) identity counter nonce = prime_key_pair (prime_reauth_mk identity counter nonce k_re)

-- the keys of a fast re-authentication: K_encr, K_aut and K_re of the full authentication, and a new MSK and EMSK
abbrev pub reauth_keys_of : List ℕ → List ℕ → Master → List ℕ → ℕ → List ℕ → KeySet
reauth_keys_of k_encr k_aut m identity counter nonce = record {
  k_encr = k_encr;
  k_aut = k_aut;
  k_re = k_re_of m;
  msk = (reauth_pair m identity counter nonce).msk;
  emsk = (reauth_pair m identity counter nonce).emsk;
}
