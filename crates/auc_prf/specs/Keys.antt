-- The keys of EAP-AKA (RFC 4187 §7) on lists of bytes.
use Rattle.std.specs.Prelude.{ℕ, List, ◌++◌, replicate}
use Rattle.std.specs.Int.{w16, to_be_bytes}
use Rattle.sha1.specs.Sha1.{sha1}
use Rattle.auc_hmac.specs.declared.keys.KeySet.{KeySet}
use Rattle.auc_hmac.specs.declared.keys.Pair.{Pair}
use Rattle.auc_hmac.specs.Piece.{piece}
use Rattle.auc_prf.specs.Generator.{number_of, words}

-- eight words of the generator, 160 bytes, with a hash as the first XKEY
abbrev pub stream : List ℕ → List ℕ
stream xkey = words 8 (number_of xkey)

-- MK = SHA1(Identity | IK | CK)
abbrev pub aka_mk : List ℕ → List ℕ → List ℕ → List ℕ
aka_mk identity ik ck = sha1 (identity ++ ik ++ ck)

-- the keys that the generator's bytes are cut into: K_encr and K_aut of 16 bytes, MSK and EMSK of 64.
-- K_aut is followed by 16 zero bytes, and K_re is zero
abbrev pub aka_key_set : List ℕ → KeySet
aka_key_set bytes = record {
  k_encr = piece 0 16 bytes;
  k_aut = piece 16 16 bytes ++ replicate 16 0;
  k_re = replicate 32 0;
  msk = piece 32 64 bytes;
  emsk = piece 96 64 bytes;
}

-- XKEY' = SHA1(Identity | counter | NONCE_S | MK), where the counter has 2 bytes
abbrev pub reauth_xkey : List ℕ → ℕ → List ℕ → List ℕ → List ℕ
reauth_xkey identity counter nonce mk = sha1 (identity ++ to_be_bytes w16 counter ++ nonce ++ mk)

-- the keys that the generator's first 128 bytes are cut into: MSK and EMSK of 64 bytes
abbrev pub aka_key_pair : List ℕ → Pair
aka_key_pair bytes = record { msk = piece 0 64 bytes; emsk = piece 64 64 bytes }
