-- A USIM's answer to a challenge by its secret and by all that it accepted (TS 33.102 §6.3.3). Bytes are
-- lists of numbers, and AUTN is SQN masked by AK, AMF and the MAC (TS 33.102 §6.3.2).
use Rattle.std.specs.Prelude.{◌≡◌, ◌≢◌, ℕ, List, ◌∷◌, Option, take, drop}
use Rattle.auc_aes.specs.Bytes.{xor}
use Rattle.auc_milenage.specs.Milenage.{f1, f2, f3, f4, f5, auts}
use Rattle.auc_milenage.specs.declared.secret.Secret.{Secret}
use Rattle.auc_sqn.specs.Number.{seq_of, ind_of}
use Rattle.auc_sqn.specs.Past.{ArrayValue, Past, verdict_of, IsSqnMs}
use Rattle.auc_sqn.specs.declared.verdict.Verdict.{Verdict}
use Rattle.auc_sqn.specs.declared.verdict.Verdict.TheVariants.{Fresh, Old, Far, Aged}
use Rattle.auc_usim.specs.declared.answer.Answer.{Answer}
use Rattle.auc_usim.specs.declared.answer.Answer.TheVariants.{Accepted, WrongMac, SyncFailure}

-- what a USIM keeps: K and OPc, and its index array, with the index length and the age limit
pub record Memory : Type 0 where
  pub secret : Secret
  pub array : ArrayValue

-- ---- the parts of AUTN

-- SQN, when AK is taken off
unfoldable pub sqn_in : Secret → List ℕ → List ℕ → List ℕ
sqn_in s rand autn = xor (take 6 autn) (f5 s.k s.opc rand)

-- AMF
abbrev pub amf_in : List ℕ → List ℕ
amf_in autn = take 2 (drop 6 autn)

-- the MAC
abbrev pub mac_in : List ℕ → List ℕ
mac_in autn = drop 8 autn

-- ---- the answer

-- XMAC, the MAC that the USIM expects
unfoldable pub xmac : Secret → List ℕ → List ℕ → List ℕ
xmac s rand autn = f1 s.k s.opc rand (sqn_in s rand autn) (amf_in autn)

-- RES, CK, IK and AK, and what AUTN says
unfoldable pub acceptance : Secret → List ℕ → List ℕ → Answer
acceptance s rand autn =
    Accepted (f2 s.k s.opc rand) (f3 s.k s.opc rand) (f4 s.k s.opc rand) (f5 s.k s.opc rand)
    (amf_in autn) (sqn_in s rand autn)

-- a synchronisation failure, with SQN_MS of the past and its AUTS
abbrev pub IsSyncFailure : Secret → ℕ → Past → List ℕ → Answer → Type 0
IsSyncFailure s bits past rand answer =
    (sqn_ms : List ℕ) × IsSqnMs bits past sqn_ms × (answer ≡ SyncFailure (auts s.k s.opc rand sqn_ms) sqn_ms)

-- the verdict of the past on the SQN in AUTN
abbrev pub verdict_on : Secret → ℕ → Option ℕ → Past → List ℕ → List ℕ → Verdict
verdict_on s bits age past rand autn =
    verdict_of age past (seq_of bits (sqn_in s rand autn)) (ind_of bits (sqn_in s rand autn))

-- the answer if the MAC is right, by the verdict
abbrev pub FollowsVerdict : Secret → ℕ → Past → List ℕ → List ℕ → Verdict → Answer → Type 0
FollowsVerdict s bits past rand autn Fresh answer = answer ≡ acceptance s rand autn
FollowsVerdict s bits past rand autn (Old entry) answer = IsSyncFailure s bits past rand answer
FollowsVerdict s bits past rand autn (Far greatest) answer = IsSyncFailure s bits past rand answer
FollowsVerdict s bits past rand autn (Aged greatest) answer = IsSyncFailure s bits past rand answer

-- the answer to RAND and AUTN: the MAC is checked first
pub record IsAnswer (s : Secret) (bits : ℕ) (age : Option ℕ) (past : Past) (rand autn : List ℕ) (answer : Answer) : Type 0 where
  pub wrong_mac : mac_in autn ≢ xmac s rand autn → answer ≡ WrongMac
  pub right_mac : mac_in autn ≡ xmac s rand autn
      → FollowsVerdict s bits past rand autn (verdict_on s bits age past rand autn) answer

-- the past after an answer: an SQN that was accepted joins it
abbrev pub past_after_answer : ℕ → Past → Answer → Past
past_after_answer bits past (Accepted res ck ik ak amf sqn) = (seq_of bits sqn, ind_of bits sqn) ∷ past
past_after_answer bits past WrongMac = past
past_after_answer bits past (SyncFailure auts_sent sqn_ms) = past
