-- For plain sessions: the first line that opens a session under a number.
use Rattle.std.proofs.Common.{◌≡◌, ℕ, List, [], ◌∷◌, Contains, Option, Some, None, zero, refl, sym, ap, ◌∙◌, arith}
use Rattle.std.specs.Option.{option_or}
use Rattle.std.proofs.lemmas.List.Elements.{Contains-append_right}
use Rattle.auc_lines.specs.declared.part.Line.{Line}
use Rattle.auc_lines.specs.declared.part.Line.TheVariants as line
use Rattle.auc_lines.specs.declared.part.SessionLine.{SessionLine}
use Rattle.auc_transcript.specs.Completeness.{opening_by, opening_in}
use Rattle.auc_transcript.proofs.KindLemmas.{opens_only}
use Rattle.auc_transcript.proofs.StayingLemmas.{SuitsAt}

-- a line among some opens a session under a number
abbrev pub IsAmong : ℕ → List Line → SessionLine → Type 0
IsAmong session lines opening = (opening.session ≡ session) × Contains lines (line.Session opening)

-- it is the first line, or among the later ones
here_or_later : (session : ℕ) (l : Line) (lines : List Line) (opening : SessionLine) → (opening_in session lines ≡ Some opening → IsAmong session lines opening)
    → opening_in session (l ∷ lines) ≡ Some opening → IsAmong session (l ∷ lines) opening
here_or_later session l lines opening rest = by (opening_by session l) refl
  where
    by : (o : Option SessionLine) → opening_by session l ≡ o → option_or o (opening_in session lines) ≡ Some opening → IsAmong session (l ∷ lines) opening
    by (Some other) is same =
        let one : other ≡ opening = cc in
        let (line_is, named) = opens_only session opening l (is ∙ ap Some one) in (named, (zero, omega arith, line_is))
    by None is first = let (named, there) = rest first in (named, Contains-append_right (l ∷ []) lines (line.Session opening) there)

-- the line that opens a session is among the lines
pub opening_among : (session : ℕ) (lines : List Line) (opening : SessionLine) → opening_in session lines ≡ Some opening → IsAmong session lines opening
opening_among session [] opening first = absurd (let no : ⊥ = cc in no)
opening_among session (l ∷ lines) opening first = here_or_later session l lines opening (opening_among session lines opening) first

-- the first of some lines opens no session under the number but this one
pub first_suits : (opening : SessionLine) (l : Line) (lines : List Line) → opening_in opening.session (l ∷ lines) ≡ Some opening → SuitsAt opening l
first_suits opening l lines first other is =
    let one = ap (λ (o : Option SessionLine). option_or o (opening_in opening.session lines)) (sym is) ∙ first in
    let same : other ≡ opening = cc in
    same
