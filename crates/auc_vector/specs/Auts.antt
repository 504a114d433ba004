-- AUTS as the home network reads it (TS 33.102 §6.3.3 and §6.3.5): SQN_MS masked by f5*, 6 bytes, and MAC-S, 8 bytes.
use Rattle.std.specs.Prelude.{◌≡◌, ℕ, ◌≤◌, nat_le, if◌then◌else◌, List, [], ◌∷◌, length, take, drop}
use Rattle.std.specs.Str.{bytes_eq}
use Rattle.auc_aes.specs.Bytes.{xor, IsBlock}
use Rattle.auc_milenage.specs.Milenage.{f1_star, f5_star, auts}
use Rattle.auc_milenage.specs.declared.secret.Secret.{Secret}
use Rattle.auc_sqn.specs.Number.{seq_of, top_of}
use Rattle.auc_vector.specs.declared.auts.Auts.{Auts}
use Rattle.auc_vector.specs.declared.auts.Auts.TheVariants.{SeqMs, WrongMac}

-- SQN_MS, when f5* is taken off
unfoldable pub sqn_ms_in : Secret → List ℕ → List ℕ → List ℕ
sqn_ms_in s rand answer = xor (take 6 answer) (f5_star s.k s.opc rand)

-- MAC-S
abbrev pub mac_s_in : List ℕ → List ℕ
mac_s_in answer = drop 6 answer

-- XMAC-S, the MAC-S that the home network expects: f1* over an AMF of two zero bytes
unfoldable pub xmac_s : Secret → List ℕ → List ℕ → List ℕ
xmac_s s rand answer = f1_star s.k s.opc rand (sqn_ms_in s rand answer) (0 ∷ 0 ∷ [])

-- what AUTS with a right MAC-S says, where an index has so many bits: the SEQ of its SQN_MS if that is a number of the
-- subscriber; one above the greatest counts as a wrong MAC-S
abbrev pub seq_said : ℕ → List ℕ → Auts
seq_said bits sqn_ms = if nat_le (seq_of bits sqn_ms) (top_of bits) then SeqMs (seq_of bits sqn_ms) else WrongMac

-- what AUTS says, in answer to a RAND
abbrev pub read_auts_of : Secret → List ℕ → List ℕ → ℕ → Auts
read_auts_of s rand answer bits =
    if bytes_eq (xmac_s s rand answer) (mac_s_in answer) then seq_said bits (sqn_ms_in s rand answer) else WrongMac

-- the SEQ, if there is one, is a number of a subscriber whose index has so many bits
abbrev pub IsNumber : ℕ → Auts → Type 0
IsNumber bits (SeqMs seq) = seq ≤ top_of bits
IsNumber bits WrongMac = Unit {0}

-- the AUTS of an SQN_MS is read as its SEQ, under the same secret and RAND, if that is a number of the subscriber
abbrev pub EachAutsIsReadBack : Type 0
EachAutsIsReadBack =
    (s : Secret) (rand sqn_ms : List ℕ) (bits : ℕ) → IsBlock s.k → IsBlock s.opc → length sqn_ms ≡ 6
    → read_auts_of s rand (auts s.k s.opc rand sqn_ms) bits ≡ seq_said bits sqn_ms
