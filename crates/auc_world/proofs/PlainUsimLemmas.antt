-- For plain sessions: what a USIM answers to a vector of its own subscriber.
use Rattle.std.proofs.Common.{◌≡◌, ◌⊎◌, ℕ, List, length, Option, Some, None, refl, ap, ◌∙◌, inl, inr}
use Rattle.auc_aes.specs.Bytes.{IsBlock}
use Rattle.auc_milenage.specs.Milenage.{auts, f2, f3, f4, f5}
use Rattle.auc_milenage.specs.declared.secret.Secret.{Secret}
use Rattle.auc_sqn.specs.Past.{Past}
use Rattle.auc_subs.specs.declared.row.Row.{Row}
use Rattle.auc_sqn.specs.declared.verdict.Verdict.{Verdict}
use Rattle.auc_sqn.specs.declared.verdict.Verdict.TheVariants.{Fresh, Old, Far, Aged}
use Rattle.auc_usim.specs.Usim.{FollowsVerdict, acceptance, amf_in, mac_in, sqn_in, verdict_on, xmac}
use Rattle.auc_usim.specs.declared.answer.Answer.TheVariants as answer
use Rattle.auc_vector.specs.Vector.{autn_of, sqn_in as sqn_found}
use Rattle.auc_vector.specs.declared.notes.UsimNote.{UsimNote}
use Rattle.auc_vector.specs.declared.notes.UsimNote.TheVariants as usim
use Rattle.auc_world.proofs.PlainPeerLemmas.{of_vector}
use Rattle.auc_world.proofs.PlainPacketLemmas.{Laws}
use Rattle.auc_world.specs.Given.{UsimNotes}

-- a USIM accepted a challenge, or reported an SQN of 6 bytes
abbrev pub Accepts : Option UsimNote → Type 0
Accepts note = (sqn : List ℕ) × (note ≡ Some (usim.Accepted sqn))

abbrev pub Reports : Option UsimNote → Type 0
Reports note = (sqn : List ℕ) × (note ≡ Some (usim.Sync sqn)) × (length sqn ≡ 6)

mac_is_right : Laws → (s : Secret) (rand amf : List ℕ) (bits n : ℕ) → IsBlock s.k → IsBlock s.opc → length amf ≡ 2
    → mac_in (autn_of s.k s.opc rand amf bits n) ≡ xmac s rand (autn_of s.k s.opc rand amf bits n)
unfolding xmac sqn_in sqn_found
mac_is_right laws s rand amf bits n hk ho two = laws.macs s.k s.opc rand amf bits n hk ho two

no_wrong_mac : (s : Secret) (bits : ℕ) (past : Past) (rand autn : List ℕ) (v : Verdict) → FollowsVerdict s bits past rand autn v answer.WrongMac → ⊥
unfolding acceptance
no_wrong_mac s bits past rand autn Fresh f = cc
no_wrong_mac s bits past rand autn (Old entry) (sqn, is, f) = cc
no_wrong_mac s bits past rand autn (Far greatest) (sqn, is, f) = cc
no_wrong_mac s bits past rand autn (Aged greatest) (sqn, is, f) = cc

one_sqn : (a b sqn sqn_ms : List ℕ) → answer.SyncFailure a sqn ≡ answer.SyncFailure b sqn_ms → sqn ≡ sqn_ms
one_sqn a b sqn sqn_ms e = cc

reported_size : (s : Secret) (bits : ℕ) (past : Past) (rand autn a sqn : List ℕ) (v : Verdict) → FollowsVerdict s bits past rand autn v (answer.SyncFailure a sqn) → length sqn ≡ 6
unfolding acceptance
reported_size s bits past rand autn a sqn Fresh f = absurd cc
reported_size s bits past rand autn a sqn (Old entry) (sqn_ms, is, f) =
    ap (λ (l : List ℕ). length l) (one_sqn a (auts s.k s.opc rand sqn_ms) sqn sqn_ms f ∙ is.3)
reported_size s bits past rand autn a sqn (Far greatest) (sqn_ms, is, f) =
    ap (λ (l : List ℕ). length l) (one_sqn a (auts s.k s.opc rand sqn_ms) sqn sqn_ms f ∙ is.3)
reported_size s bits past rand autn a sqn (Aged greatest) (sqn_ms, is, f) =
    ap (λ (l : List ℕ). length l) (one_sqn a (auts s.k s.opc rand sqn_ms) sqn sqn_ms f ∙ is.3)

-- to a vector of its own subscriber it answers no other
pub usim_answers : Laws → (s : Secret) (row : Row) (past : Past) (rand amf : List ℕ) (bits n : ℕ) (note : Option UsimNote) → IsBlock s.k → IsBlock s.opc → length amf ≡ 2
    → UsimNotes s row past (Some (of_vector rand (autn_of s.k s.opc rand amf bits n))) note → Accepts note ⊎ Reports note
usim_answers laws s row past rand amf bits n None hk ho two u = absurd u
usim_answers laws s row past rand amf bits n (Some (usim.Accepted sqn)) hk ho two u = inl (sqn, refl)
usim_answers laws s row past rand amf bits n (Some (usim.Sync sqn)) hk ho two u =
    let autn = autn_of s.k s.opc rand amf bits n in
    inr (sqn, refl, reported_size s row.bits past rand autn (auts s.k s.opc rand sqn) sqn (verdict_on s row.bits row.age past rand autn) (u.right_mac (mac_is_right laws s rand amf bits n hk ho two)))
usim_answers laws s row past rand amf bits n (Some usim.WrongMac) hk ho two u =
    let autn = autn_of s.k s.opc rand amf bits n in
    absurd (no_wrong_mac s row.bits past rand autn (verdict_on s row.bits row.age past rand autn) (u.right_mac (mac_is_right laws s rand amf bits n hk ho two)))

-- what it accepts
pub acceptance_is : (s : Secret) (rand autn : List ℕ)
    → acceptance s rand autn ≡ answer.Accepted (f2 s.k s.opc rand) (f3 s.k s.opc rand) (f4 s.k s.opc rand) (f5 s.k s.opc rand) (amf_in autn) (sqn_in s rand autn)
unfolding acceptance
acceptance_is s rand autn = refl
