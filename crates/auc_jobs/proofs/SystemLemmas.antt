-- For EPS and 5G: what the parts of a line give together.
use Rattle.std.proofs.Common.{◌≡◌, ◌≢◌, ℕ, Bool, true, false, List, [], ◌∷◌, ◌++◌, map, take, refl, sym, ap, ◌∙◌, subst, append-nil}
use Rattle.std.specs.Prelude.{Option, Some, None, not, slice_get, if◌then◌else◌}
use Rattle.std.specs.Str.{bytes_eq}
use Rattle.std.proofs.lemmas.Slice.Eq.{bytes_eq-Decides}
use Rattle.auc_5g.specs.Keys.{asme_of, device_of, front_of, home_of}
use Rattle.auc_5g.specs.declared.device_keys.DeviceKeys.{DeviceKeys}
use Rattle.auc_5g.specs.declared.home_keys.HomeKeys.{HomeKeys}
use Rattle.auc_5g.specs.declared.judging.Judged.{Judged}
use Rattle.auc_5g.specs.declared.judging.Judged.TheVariants as judged
use Rattle.auc_memory.specs.declared.stop.Stop.{Stop}
use Rattle.auc_history.specs.declared.entry.Entry.{Entry}
use Rattle.auc_lines.specs.declared.part.FivegLine.{FivegLine}
use Rattle.auc_random.specs.Random.{rand_of}
use Rattle.auc_request.specs.Request.{is_separated}
use Rattle.auc_subs.specs.declared.row.Row.{Row}
use Rattle.auc_vector.specs.declared.parts.Vector.{Vector as AuthVector}
use Rattle.auc_world.specs.Given.{Authenticates, AuthenticatesIf, Before, EpsGives, FivegFollows, FivegGives, behind, device_of_row, hxres_lines, judged_lines, kasme_line, outcome_of, turned}
use Rattle.auc_subs.specs.Setting.{Setting}
use Rattle.auc_record.specs.VectorAt.{vector_at, vector_of_row, vector_with}
use Rattle.auc_record.specs.Vectors.{IsOfRow}
use Rattle.auc_record.specs.declared.further.FivegOutcome.{FivegOutcome}
use Rattle.auc_record.specs.declared.further.FivegOutcome.TheVariants as fiveg
use Rattle.auc_record.specs.declared.further.Further.{Further as Said}
use Rattle.auc_record.specs.declared.further.Further.TheVariants as further
use Rattle.auc_record.specs.declared.record.GiveVerdict.{GiveVerdict}
use Rattle.auc_record.specs.declared.record.GiveVerdict.TheVariants as given
use Rattle.auc_record.specs.declared.record.LineRecord.{LineRecord}
use Rattle.auc_record.specs.declared.record.LineRecord.TheVariants.{Number, Further}
use Rattle.auc_vector.specs.declared.notes.NumberNote.TheVariants as number
use Rattle.auc_jobs.specs.declared.giving.UsimAnswer.{UsimAnswer}
use Rattle.auc_jobs.specs.declared.giving.UsimAnswer.TheVariants as answered
use Rattle.auc_jobs.specs.declared.giving.UsimKeys.{UsimKeys}
use Rattle.auc_jobs.specs.InnerServing.{AddsLines, AreTold, GivesVerdict, IsNext}
use Rattle.auc_jobs.specs.InnerUsims.{usim_keys, verdict_by}
use Rattle.auc_jobs.proofs.DrawingLemmas.{next_ends, next_then}
use Rattle.auc_jobs.proofs.JobLemmas.{no_numbers}
use Rattle.auc_jobs.proofs.SayingLemmas.{say_one, told_quiet}

-- ---- what follows from a vector

-- its line asks nothing of the centre
pub further_adds : (goes : ℕ → List Entry → List (ℕ × Stop) → Type 0) (rows : List Row) (kept : ℕ → Option ℕ) (beside old new : List LineRecord) (said : Said) → ((i : ℕ) → goes i [] [])
    → AreTold kept (beside ++ old) → new ≡ old ++ Further said ∷ [] → AddsLines goes rows kept beside old new (λ lines. lines ≡ Further said ∷ [])
further_adds goes rows kept beside old new said stays told pushed = record {
  lines = Further said ∷ [];
  added = pushed;
  given = refl;
  said = say_one goes kept (beside ++ old) (Further said) (record { made = stays; told = λ i. told_quiet i (kept i) (beside ++ old) (Further said) (λ word. refl) (told i) });
  quiet = λ bits i. refl;
  numbers = no_numbers rows (Further said) (λ i. refl);
}

-- ---- EPS

-- K_ASME of the vector
kasme_is : (set : Setting) (sub n : ℕ) (snid : List ℕ) (made : AuthVector) (key : List ℕ) (lines : List LineRecord) → IsOfRow set.key set.rows sub n made
    → key ≡ asme_of made.ck made.ik snid (take 6 made.autn) → lines ≡ Further (further.Kasme key) ∷ [] → lines ≡ map (kasme_line snid) (vector_at set sub n)
kasme_is set sub n snid made key lines of_row is said =
    said ∙ ap (λ (k : List ℕ). Further (further.Kasme k) ∷ []) is ∙ ap (λ (v : AuthVector). kasme_line snid v ∷ []) of_row.made
    ∙ sym (ap (λ (row : Option Row). map (kasme_line snid) (vector_with row n (rand_of set.key sub n))) of_row.there)

pub eps_then : (set : Setting) (sub n : ℕ) (snid : List ℕ) (made : AuthVector) (key : List ℕ) (front rest : List LineRecord) → IsOfRow set.key set.rows sub n made
    → key ≡ asme_of made.ck made.ik snid (take 6 made.autn) → IsNext set sub (Some n) front → rest ≡ Further (further.Kasme key) ∷ [] → EpsGives set sub snid (front ++ rest)
eps_then set sub n snid made key front rest of_row is next said =
    next_then set sub n (λ m more. more ≡ map (kasme_line snid) (vector_at set sub m)) front rest next (kasme_is set sub n snid made key rest of_row is said)

pub eps_ends : (set : Setting) (sub : ℕ) (snid : List ℕ) (lines : List LineRecord) → IsNext set sub None lines → EpsGives set sub snid lines
eps_ends set sub snid lines next = next_ends set sub (λ m more. more ≡ map (kasme_line snid) (vector_at set sub m)) lines next

-- ---- 5G

-- what follows the vector of a number
pub fiveg_then : (set : Setting) (before : Before) (line : FivegLine) (n : ℕ) (front rest : List LineRecord) → IsNext set line.sub (Some n) front
    → FivegFollows set (behind before front) line n rest → FivegGives set before line (front ++ rest)
fiveg_then set before line n front rest next follows =
    next_then set line.sub n (λ m more. FivegFollows set (behind before (Number line.sub (number.Drew m) ∷ [])) line m more) front rest next
    (subst (λ (lines : List LineRecord). FivegFollows set (behind before lines) line n rest) next.0 follows)

pub fiveg_ends : (set : Setting) (before : Before) (line : FivegLine) (lines : List LineRecord) → IsNext set line.sub None lines → FivegGives set before line lines
fiveg_ends set before line lines next = next_ends set line.sub (λ m more. FivegFollows set (behind before (Number line.sub (number.Drew m) ∷ [])) line m more) lines next

-- a vector of a row whose separation bit is set, or isn't
separated : (set : Setting) (before : Before) (line : FivegLine) (n : ℕ) (lines : List LineRecord) (made : AuthVector) (bit : Bool) (of_row : IsOfRow set.key set.rows line.sub n made)
    → is_separated made.autn ≡ bit → AuthenticatesIf bit set before line of_row.row n lines → FivegFollows set before line n lines
separated set before line n lines made bit of_row is authenticates = record {
  row = of_row.row;
  there = of_row.there;
  follows = subst (λ (b : Bool). AuthenticatesIf b set before line of_row.row n lines) (sym is ∙ ap (λ (v : AuthVector). is_separated v.autn) of_row.made) authenticates;
}

pub fiveg_authenticates : (set : Setting) (before : Before) (line : FivegLine) (n : ℕ) (lines : List LineRecord) (made : AuthVector) (home : HomeKeys) → IsOfRow set.key set.rows line.sub n made
    → is_separated made.autn ≡ true → home ≡ home_of made line.home
    → ((row : Row) → slice_get set.rows line.sub ≡ Some row → home ≡ home_of (vector_of_row set row line.sub n) line.home → Authenticates set before line row n lines)
    → FivegFollows set before line n lines
fiveg_authenticates set before line n lines made home of_row bit is authenticates =
    separated set before line n lines made true of_row bit
    (authenticates of_row.row of_row.there (is ∙ ap (λ (v : AuthVector). home_of v line.home) of_row.made))

pub fiveg_is_refused : (set : Setting) (before : Before) (line : FivegLine) (n : ℕ) (lines : List LineRecord) (made : AuthVector) → IsOfRow set.key set.rows line.sub n made
    → is_separated made.autn ≡ false → lines ≡ Further (further.Fiveg line.sub fiveg.NoSeparation) ∷ [] → FivegFollows set before line n lines
fiveg_is_refused set before line n lines made of_row bit said = separated set before line n lines made false of_row bit said

-- what a device makes of what the row's USIM hands it
device_is : (set : Setting) (line : FivegLine) (row : Row) (n : ℕ) (home : HomeKeys) (keys : UsimKeys) (device : DeviceKeys) → home ≡ home_of (vector_of_row set row line.sub n) line.home
    → keys ≡ usim_keys row n (rand_of set.key line.sub n) → device ≡ device_of keys.res keys.ck keys.ik keys.ak keys.sqn home.rand line.device
    → device ≡ device_of_row row n (rand_of set.key line.sub n) line.device
device_is set line row n home keys device home_is keys_are is =
    let told : UsimKeys = usim_keys row n (rand_of set.key line.sub n) in
    is ∙ ap (λ (k : UsimKeys). device_of k.res k.ck k.ik k.ak k.sqn home.rand line.device) keys_are
    ∙ ap (λ (h : HomeKeys). device_of told.res told.ck told.ik told.ak told.sqn h.rand line.device) home_is

-- the USIM accepted
pub fiveg_accepted : (set : Setting) (before : Before) (line : FivegLine) (row : Row) (n : ℕ) (home : HomeKeys) (keys : UsimKeys) (device : DeviceKeys) (front rest : List LineRecord)
    → keys ≡ usim_keys row n (rand_of set.key line.sub n) → device ≡ device_of keys.res keys.ck keys.ik keys.ak keys.sqn home.rand line.device
    → GivesVerdict set before line.sub n given.Accepted front → rest ≡ judged_lines line home device given.Accepted
    → home ≡ home_of (vector_of_row set row line.sub n) line.home → Authenticates set before line row n (front ++ rest)
fiveg_accepted set before line row n home keys device front rest keys_are is gives said home_is = record {
  front = front;
  more = rest;
  lines_are = refl;
  gives = gives.gives;
  judged =
      said ∙ ap (λ (h : HomeKeys). judged_lines line h device given.Accepted) home_is
      ∙ ap (λ (d : DeviceKeys). judged_lines line (home_of (vector_of_row set row line.sub n) line.home) d given.Accepted) (device_is set line row n home keys device home_is keys_are is)
      ∙ ap (λ (v : GiveVerdict). judged_lines line (home_of (vector_of_row set row line.sub n) line.home) (device_of_row row n (rand_of set.key line.sub n) line.device) v) (sym gives.is);
}

-- or it didn't, and nothing follows
pub fiveg_ignored : (set : Setting) (before : Before) (line : FivegLine) (row : Row) (n : ℕ) (answer : UsimAnswer) (lines : List LineRecord)
    → ((keys : UsimKeys) → answer ≡ answered.Accepted keys → ⊥) → GivesVerdict set before line.sub n (verdict_by answer) lines → Authenticates set before line row n lines
fiveg_ignored set before line row n answer lines other gives = record {
  front = lines;
  more = [];
  lines_are = sym (append-nil lines);
  gives = gives.gives;
  judged = sym (ap (λ (v : GiveVerdict). judged_lines line home device v) gives.is ∙ nothing answer other);
}
  where
    home : HomeKeys
    home = home_of (vector_of_row set row line.sub n) line.home

    device : DeviceKeys
    device = device_of_row row n (rand_of set.key line.sub n) line.device

    nothing : (a : UsimAnswer) → ((keys : UsimKeys) → a ≡ answered.Accepted keys → ⊥) → judged_lines line home device (verdict_by a) ≡ []
    nothing (answered.Accepted keys) other = absurd (other keys refl)
    nothing (answered.Sync sqn_ms) other = refl
    nothing answered.Absent other = refl

-- HXRES* if it is asked for, and the outcome
pub compared : (line : FivegLine) (home : HomeKeys) (device : DeviceKeys) (star : List ℕ) (outcome : FivegOutcome) (front rest : List LineRecord) → star ≡ turned line.bit device.res_star
    → outcome ≡ outcome_of home device star → front ≡ hxres_lines line.hxres home → rest ≡ Further (further.Fiveg line.sub outcome) ∷ []
    → front ++ rest ≡ judged_lines line home device given.Accepted
compared line home device star outcome front rest star_is is first second =
    ap (λ (lines : List LineRecord). lines ++ rest) first ∙ ap (λ (lines : List LineRecord). hxres_lines line.hxres home ++ lines) second
    ∙ ap (λ (o : FivegOutcome). hxres_lines line.hxres home ++ Further (further.Fiveg line.sub o) ∷ []) is
    ∙ ap (λ (s : List ℕ). hxres_lines line.hxres home ++ Further (further.Fiveg line.sub (outcome_of home device s)) ∷ []) star_is

-- ---- the networks

-- what their judgment comes to
abbrev pub outcome_by : HomeKeys → DeviceKeys → Judged → FivegOutcome
outcome_by home device judged.ServingRefused = fiveg.ServingRefused
outcome_by home device judged.HomeRefused = fiveg.HomeRefused
outcome_by home device judged.Confirmed = fiveg.Confirmed home.k_seaf device.k_seaf

pub outcome_is : (home : HomeKeys) (device : DeviceKeys) (star : List ℕ) (j : Judged) → (front_of home.rand star ≢ home.hxres_star → j ≡ judged.ServingRefused)
    → (front_of home.rand star ≡ home.hxres_star → star ≢ home.xres_star → j ≡ judged.HomeRefused)
    → (front_of home.rand star ≡ home.hxres_star → star ≡ home.xres_star → j ≡ judged.Confirmed)
    → outcome_by home device j ≡ outcome_of home device star
outcome_is home device star j serving refused confirmed =
    by (bytes_eq (front_of home.rand star) home.hxres_star) refl (bytes_eq star home.xres_star) refl
  where
    same : (xs ys : List ℕ) → bytes_eq xs ys ≡ true → xs ≡ ys
    same xs ys alike = (bytes_eq-Decides xs ys).0 alike

    apart : (xs ys : List ℕ) → bytes_eq xs ys ≡ false → xs ≢ ys
    apart xs ys differ is = let alike = (bytes_eq-Decides xs ys).1 is in let bad : ⊥ = cc in bad

    by : (b : Bool) → bytes_eq (front_of home.rand star) home.hxres_star ≡ b → (d : Bool) → bytes_eq star home.xres_star ≡ d
        → outcome_by home device j ≡ (if not b then fiveg.ServingRefused else if not d then fiveg.HomeRefused else fiveg.Confirmed home.k_seaf device.k_seaf)
    by false e d f = ap (outcome_by home device) (serving (apart (front_of home.rand star) home.hxres_star e))
    by true e false f = ap (outcome_by home device) (refused (same (front_of home.rand star) home.hxres_star e) (apart star home.xres_star f))
    by true e true f = ap (outcome_by home device) (confirmed (same (front_of home.rand star) home.hxres_star e) (same star home.xres_star f))
