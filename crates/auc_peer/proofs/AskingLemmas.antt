-- A USIM's answer is the one of its note.
use Rattle.std.proofs.Common.{◌≡◌, ℕ, Option, Bool, true, false, refl, sym, ap, ◌∙◌}
use Rattle.std.specs.Str.{bytes_eq}
use Rattle.std.proofs.lemmas.Slice.Eq.{bytes_eq-Decides}
use Rattle.auc_milenage.specs.Milenage.{auts}
use Rattle.auc_milenage.specs.declared.secret.Secret.{Secret}
use Rattle.auc_sqn.specs.Past.{Past}
use Rattle.auc_sqn.specs.declared.verdict.Verdict.{Verdict}
use Rattle.auc_sqn.specs.declared.verdict.Verdict.TheVariants.{Fresh, Old, Far, Aged}
use Rattle.auc_usim.specs.Usim.{IsAnswer, IsSyncFailure, FollowsVerdict, acceptance, verdict_on, mac_in, xmac}
use Rattle.auc_usim.specs.declared.answer.Answer.{Answer}
use Rattle.auc_usim.specs.declared.answer.Answer.TheVariants as answer
use Rattle.auc_peer.specs.Asking.{note_of, answer_noted}
use Rattle.auc_peer.specs.declared.peer.Challenge.{Challenge}

-- an answer that is another one has its note
again : (s : Secret) (c : Challenge) (x y : Answer) → x ≡ y → y ≡ answer_noted s c (note_of y) → x ≡ answer_noted s c (note_of x)
again s c x y e f = e ∙ f ∙ ap (λ (a : Answer). answer_noted s c (note_of a)) (sym e)

-- an acceptance
accepted_again : (s : Secret) (c : Challenge) → acceptance s c.rand c.autn ≡ answer_noted s c (note_of (acceptance s c.rand c.autn))
unfolding acceptance
accepted_again s c = refl

-- a synchronisation failure
failed_again : (s : Secret) (bits : ℕ) (past : Past) (c : Challenge) (a : Answer) → IsSyncFailure s bits past c.rand a → a ≡ answer_noted s c (note_of a)
failed_again s bits past c a f = again s c a (answer.SyncFailure (auts s.k s.opc c.rand f.0) f.0) f.2 refl

-- the answer to a right MAC
by_verdict : (s : Secret) (bits : ℕ) (past : Past) (c : Challenge) (v : Verdict) (a : Answer) → FollowsVerdict s bits past c.rand c.autn v a → a ≡ answer_noted s c (note_of a)
by_verdict s bits past c Fresh a e = again s c a (acceptance s c.rand c.autn) e (accepted_again s c)
by_verdict s bits past c (Old entry) a f = failed_again s bits past c a f
by_verdict s bits past c (Far greatest) a f = failed_again s bits past c a f
by_verdict s bits past c (Aged greatest) a f = failed_again s bits past c a f

-- the answer by the MAC
by_mac : (s : Secret) (bits : ℕ) (age : Option ℕ) (past : Past) (c : Challenge) (a : Answer) (b : Bool) → bytes_eq (mac_in c.autn) (xmac s c.rand c.autn) ≡ b → IsAnswer s bits age past c.rand c.autn a → a ≡ answer_noted s c (note_of a)
by_mac s bits age past c a true e is =
    by_verdict s bits past c (verdict_on s bits age past c.rand c.autn) a (is.right_mac ((bytes_eq-Decides (mac_in c.autn) (xmac s c.rand c.autn)).0 e))
by_mac s bits age past c a false e is = again s c a answer.WrongMac (is.wrong_mac (λ same. true≢false (sym ((bytes_eq-Decides (mac_in c.autn) (xmac s c.rand c.autn)).1 same) ∙ e))) refl
  where
    true≢false : ◌≡◌ {A = Bool} true false → ⊥
    true≢false h = cc

-- the answer of a USIM is that of its note
pub answer_is_noted : (s : Secret) (bits : ℕ) (age : Option ℕ) (past : Past) (c : Challenge) (a : Answer) → IsAnswer s bits age past c.rand c.autn a → a ≡ answer_noted s c (note_of a)
answer_is_noted s bits age past c a is = by_mac s bits age past c a (bytes_eq (mac_in c.autn) (xmac s c.rand c.autn)) refl is
