-- A permanent identity is read back from its text.
use Rattle.std.proofs.Common.{◌≡◌, ℕ, Bool, true, false, ◌==◌, cond, List, [], ◌∷◌, Some, None, refl, sym, ap, ◌∙◌}
use Rattle.std.proofs.lemmas.Bool.{eqb-true}
use Rattle.auc_memory.specs.Identity.{Identity, IsIdentity, digits_of, identity_of, EachIdentityIsReadBack, EachTextIsWrittenBack}
use Rattle.auc_hmac.specs.declared.method.Method.{Method}
use Rattle.auc_hmac.specs.declared.method.Method.TheVariants as methods
use Rattle.auc_ident.specs.Permanent.{leading, permanent_in, permanent_text, EachPermanentIsReadBack}

-- what is read after the leading digit
after_digit : (b : Bool) (digits : List ℕ) (imsi : Identity) → cond b (identity_of digits) None ≡ Some imsi → (b ≡ true) × (identity_of digits ≡ Some imsi)
after_digit true digits imsi e = (refl, e)
after_digit false digits imsi e = absurd cc

read_from : (written : EachTextIsWrittenBack) (method : Method) (text : List ℕ) (imsi : Identity) → permanent_in method text ≡ Some imsi → text ≡ permanent_text method imsi
read_from written method [] imsi e = absurd cc
read_from written method (first ∷ digits) imsi e =
    let p = after_digit (first == leading method) digits imsi e in
    let one : first ≡ leading method = eqb-true first (leading method) p.0 in
    let rest : digits_of imsi ≡ digits = written digits imsi p.1 in
    ap (λ (d : ℕ). d ∷ digits) one ∙ ap (λ (ds : List ℕ). leading method ∷ ds) (sym rest)

written_is : (read : EachIdentityIsReadBack) (method : Method) (text : List ℕ) (imsi : Identity) → IsIdentity imsi.digits imsi.number → text ≡ permanent_text method imsi → permanent_in method text ≡ Some imsi
written_is read methods.Aka text imsi is e = ap (permanent_in methods.Aka) e ∙ read imsi is
written_is read methods.Prime text imsi is e = ap (permanent_in methods.Prime) e ∙ read imsi is

pub each_permanent_is_read_back : EachIdentityIsReadBack → EachTextIsWrittenBack → EachPermanentIsReadBack
each_permanent_is_read_back read written method text imsi is = (read_from written method text imsi, written_is read method text imsi is)
