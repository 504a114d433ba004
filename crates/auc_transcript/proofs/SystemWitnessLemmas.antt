-- For the witness of the law of 5G: what its lines are.
use Rattle.std.proofs.Common.{◌≡◌, ℕ, List, [], ◌∷◌, ◌++◌, Some, true, refl, sym, ap, ◌∙◌, subst, append-nil}
use Rattle.auc_5g.specs.Keys.{home_of}
use Rattle.auc_5g.specs.declared.home_keys.HomeKeys.{HomeKeys}
use Rattle.auc_subs.specs.declared.row.Row.{Row}
use Rattle.auc_record.specs.Draws.{OneGives}
use Rattle.auc_record.specs.VectorAt.{vector_of_row}
use Rattle.auc_record.specs.declared.further.FivegOutcome.{FivegOutcome}
use Rattle.auc_record.specs.declared.further.FivegOutcome.TheVariants as fiveg
use Rattle.auc_record.specs.declared.further.Further.TheVariants as further
use Rattle.auc_record.specs.declared.record.GiveVerdict.{GiveVerdict}
use Rattle.auc_record.specs.declared.record.GiveVerdict.TheVariants as given
use Rattle.auc_record.specs.declared.record.LineRecord.{LineRecord}
use Rattle.auc_record.specs.declared.record.LineRecord.TheVariants.{Number, Give, Further}
use Rattle.auc_vector.specs.declared.notes.NumberNote.TheVariants as number
use Rattle.auc_transcript.specs.Systems.{IsAnsweredWith, IsConfirmed, confirmed_lines, has_separation}
use Rattle.auc_transcript.specs.Witnesses.{AuthenticationIsConfirmed, authentication, setting, subscriber}
use Rattle.auc_transcript.proofs.OneLineLemmas.{heads, tails}

-- the answer is told, and the outcome if there is one
answers : (m n : ℕ) (a b : GiveVerdict) → Give 0 m a ≡ Give 0 n b → a ≡ b
answers m n a b e = cc

outcomes : (a b : FivegOutcome) → Further (further.Fiveg 0 a) ≡ Further (further.Fiveg 0 b) → a ≡ b
outcomes a b e = cc

-- the USIM's answer and the outcome are all that is given
abbrev told : GiveVerdict → FivegOutcome → List LineRecord
told answer outcome = Give 0 1 answer ∷ Further (further.Fiveg 0 outcome) ∷ []

abbrev Confirmed : GiveVerdict → FivegOutcome → Type 0
Confirmed answer outcome = (answer ≡ given.Accepted) × ((k_seaf : List ℕ) × (outcome ≡ fiveg.Confirmed k_seaf k_seaf))

after_answer : (home : HomeKeys) (a : GiveVerdict) (outcome : FivegOutcome) → Further (further.Fiveg 0 outcome) ∷ [] ≡ confirmed_lines authentication home a → Confirmed a outcome
after_answer home given.Accepted outcome e =
    (refl, (home.k_seaf, outcomes outcome (fiveg.Confirmed home.k_seaf home.k_seaf) (heads (Further (further.Fiveg 0 outcome)) (Further (further.Fiveg 0 (fiveg.Confirmed home.k_seaf home.k_seaf))) [] [] e)))
after_answer home (given.Sync sqn_ms) outcome e = absurd (let no : ⊥ = cc in no)
after_answer home given.Absent outcome e = absurd (let no : ⊥ = cc in no)

answered : (n : ℕ) (home : HomeKeys) (answer : GiveVerdict) (outcome : FivegOutcome) → IsAnsweredWith authentication n home (told answer outcome) → Confirmed answer outcome
answered n home answer outcome (a, present, are) =
    let same = answers 1 n answer a (heads (Give 0 1 answer) (Give 0 n a) (Further (further.Fiveg 0 outcome) ∷ []) (confirmed_lines authentication home a) are) in
    let after = after_answer home a outcome (tails (Give 0 1 answer) (Give 0 n a) (Further (further.Fiveg 0 outcome) ∷ []) (confirmed_lines authentication home a) are) in
    (same ∙ after.0, after.1)

-- there is one row, and it has the separation bit
one_row : (row : Row) → Some subscriber ≡ Some row → has_separation row ≡ true
one_row row e = let same : subscriber ≡ row = cc in ap has_separation (sym same)

given_own : (key : List ℕ) (answer : GiveVerdict) (outcome : FivegOutcome) (own : List LineRecord) → Number 0 (number.Drew 1) ∷ told answer outcome ≡ own
    → OneGives (setting key) 0 (λ n lines. IsConfirmed (setting key) authentication n lines) own → Confirmed answer outcome
given_own key answer outcome own are holds = by (subst (OneGives (setting key) 0 (λ n lines. IsConfirmed (setting key) authentication n lines)) (sym are) holds)
  where
    by : OneGives (setting key) 0 (λ n lines. IsConfirmed (setting key) authentication n lines) (Number 0 (number.Drew 1) ∷ told answer outcome) → Confirmed answer outcome
    by (same, is, confirmed) = answered 1 (home_of (vector_of_row (setting key) confirmed.row 0 1) authentication.home) answer outcome (confirmed.separated (one_row confirmed.row confirmed.there))

pub authentication_is_confirmed : AuthenticationIsConfirmed
authentication_is_confirmed key answer outcome net promise =
    let gave = promise.0.0 [] [] authentication refl (record { untouched = refl; named = refl }) in
    given_own key answer outcome gave.own
    (gave.records_are ∙ ap (λ (ls : List LineRecord). ls ++ (gave.own ++ gave.late)) gave.first.0 ∙ ap (λ (ls : List LineRecord). gave.own ++ ls) gave.rest.0 ∙ append-nil gave.own)
    gave.holds
