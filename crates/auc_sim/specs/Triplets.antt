-- GSM triplets, on lists of bytes.
use Rattle.std.specs.Prelude.{ℕ, List}
use Rattle.auc_aes.specs.Bytes.{xor}
use Rattle.auc_hmac.specs.Piece.{piece}
use Rattle.auc_milenage.specs.Milenage.{f2, f3, f4}
use Rattle.auc_milenage.specs.declared.secret.Secret.{Secret}
use Rattle.auc_vector.specs.declared.parts.Vector.{Vector}
use Rattle.auc_sim_packet.specs.declared.parts.Triplet.{Triplet}

-- the exclusive or of the halves of 16 bytes
abbrev pub halves : List ℕ → List ℕ
halves key = xor (piece 0 8 key) (piece 8 8 key)

-- SRES is the exclusive or of the halves of RES, and Kc that of the halves of CK and IK (TS 33.102 §6.8.1.2)
abbrev pub triplet_of : List ℕ → List ℕ → List ℕ → List ℕ → Triplet
triplet_of rand res ck ik = record { rand = rand; sres = xor (piece 0 4 res) (piece 4 4 res); kc = xor (halves ck) (halves ik) }

-- the triplet of a vector
abbrev pub of_vector : Vector → Triplet
of_vector v = triplet_of v.rand v.xres v.ck v.ik

-- the triplet that a USIM with a secret makes of a RAND
abbrev pub card_of : Secret → List ℕ → Triplet
card_of s rand = triplet_of rand (f2 s.k s.opc rand) (f3 s.k s.opc rand) (f4 s.k s.opc rand)
