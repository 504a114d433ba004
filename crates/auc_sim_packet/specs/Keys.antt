-- The keys of a full authentication (RFC 4186 §7), and what AT_MAC authenticates besides a packet (§10.14), on lists of
-- bytes.
use Rattle.std.specs.Prelude.{ℕ, List, [], ◌∷◌, ◌++◌, flat_map}
use Rattle.sha1.specs.Sha1.{sha1}
use Rattle.auc_hmac.specs.declared.keys.KeySet.{KeySet}
use Rattle.auc_prf.specs.Keys.{aka_key_set, stream}
use Rattle.auc_sim_packet.specs.declared.parts.Triplet.{Triplet}

abbrev pub rand_in : Triplet → List ℕ
rand_in t = t.rand

abbrev pub sres_in : Triplet → List ℕ
sres_in t = t.sres

abbrev pub kc_in : Triplet → List ℕ
kc_in t = t.kc

-- the SRES values in the order of the RANDs, which the Challenge response authenticates besides
abbrev pub all_sres : List Triplet → List ℕ
all_sres triplets = flat_map sres_in triplets

-- MK = SHA1(Identity | n*Kc | NONCE_MT | Version List | Selected Version): the versions alone, without their lengths, and
-- the selected version is 1
abbrev pub sim_mk : List ℕ → List Triplet → List ℕ → List ℕ → List ℕ
sim_mk identity triplets nonce versions = sha1 (identity ++ (flat_map kc_in triplets ++ (nonce ++ (versions ++ 0 ∷ 1 ∷ []))))

-- the keys that the generator of EAP-AKA makes of MK
unfoldable pub sim_key_set : List ℕ → List Triplet → List ℕ → List ℕ → KeySet
sim_key_set identity triplets nonce versions = aka_key_set (stream (sim_mk identity triplets nonce versions))
