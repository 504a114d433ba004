-- For the crates that serve lines for EAP-SIM, and for the laws of transcripts: what such a line draws, and that the records of a
-- session release nothing and name the line's subscriber.
use Rattle.std.proofs.Common.{◌≡◌, ℕ, ◌≤◌, ◌==◌, zero, suc, Bool, true, false, List, [], ◌∷◌, ◌++◌, flat_map, length, map, All, Some, None, refl, sym, ap, ◌∙◌, subst, arith, append-nil, eq-eqb}
use Rattle.std.specs.Prelude.{if◌then◌else◌}
use Rattle.std.proofs.lemmas.List.Concat.{flat_map-append}
use Rattle.std.proofs.lemmas.List.Elements.{All-append, All-cons, All-nil}
use Rattle.auc_lines.specs.Sim.{SimValue}
use Rattle.auc_vector.specs.declared.sim_note.SimNote.{SimNote}
use Rattle.auc_record.specs.Draws.{DrawGives, IsReleasable}
use Rattle.auc_record.specs.Event.{number_released}
use Rattle.auc_record.specs.Lines.{numbers_of, released_by}
use Rattle.auc_record.specs.Record.{subscriber_of}
use Rattle.auc_subs.specs.Setting.{Setting}
use Rattle.auc_world.specs.Sim.{SimFollowsIf, SimGives}
use Rattle.auc_record.specs.declared.further.Further.TheVariants as further
use Rattle.auc_record.specs.declared.record.LineRecord.{LineRecord}
use Rattle.auc_record.specs.declared.record.LineRecord.TheVariants.{Number, Sync, Give, Further, Event as Told}
use Rattle.auc_vector.specs.declared.notes.NumberNote.{NumberNote}
use Rattle.auc_vector.specs.declared.notes.NumberNote.TheVariants as number

-- ---- what is drawn

-- the numbers of some lines, the first of which asked for one
pub numbers_first : (s sub : ℕ) (note : NumberNote) (lines : List LineRecord) → s ≡ sub → numbers_of sub (Number s note ∷ lines) ≡ number_released (Some note) ++ numbers_of sub lines
numbers_first s sub note lines same = ap (λ b. number_released (if b then Some note else None) ++ numbers_of sub lines) (eq-eqb s sub same)

-- none, if it released none and is the last
refused_first : (s sub : ℕ) (note : NumberNote) (lines : List LineRecord) → s ≡ sub → number_released (Some note) ≡ [] → lines ≡ [] → numbers_of sub (Number s note ∷ lines) ≡ []
refused_first s sub note lines same refused last =
    numbers_first s sub note lines same ∙ ap (λ (ns : List ℕ). ns ++ numbers_of sub lines) refused ∙ ap (numbers_of sub) last

-- at most as many numbers are released as are asked for
pub draw_few : (set : Setting) (sub count : ℕ) (lines : List LineRecord) → DrawGives set sub count lines → length (numbers_of sub lines) ≤ count
draw_few set sub zero lines none = let same = ap (λ (ls : List LineRecord). length (numbers_of sub ls)) none in omega (arith, same)
draw_few set sub (suc count) [] gives = absurd gives
draw_few set sub (suc count) (Number s (number.Drew n) ∷ lines) (same, is, more) =
    let rest = draw_few set sub count lines more in
    let sizes : length (numbers_of sub (Number s (number.Drew n) ∷ lines)) ≡ suc (length (numbers_of sub lines)) = ap length (numbers_first s sub (number.Drew n) lines same) in
    omega (arith, rest, sizes)
draw_few set sub (suc count) (Number s (number.Withheld n stop) ∷ lines) (same, first, last, none) =
    let sizes : length (numbers_of sub (Number s (number.Withheld n stop) ∷ lines)) ≡ 0 = ap length (refused_first s sub (number.Withheld n stop) lines same refl none) in omega (arith, sizes)
draw_few set sub (suc count) (Number s (number.Exhausted word) ∷ lines) (same, spent, none) =
    let sizes : length (numbers_of sub (Number s (number.Exhausted word) ∷ lines)) ≡ 0 = ap length (refused_first s sub (number.Exhausted word) lines same refl none) in omega (arith, sizes)
draw_few set sub (suc count) (Sync s answer ∷ lines) gives = absurd gives
draw_few set sub (suc count) (Give s n answer ∷ lines) gives = absurd gives
draw_few set sub (suc count) (Further said ∷ lines) gives = absurd gives
draw_few set sub (suc count) (Told r ∷ lines) gives = absurd gives

-- each is one that a vector may have
pub draw_releasable : (set : Setting) (sub count : ℕ) (lines : List LineRecord) → DrawGives set sub count lines → All (IsReleasable set sub) (numbers_of sub lines)
draw_releasable set sub zero lines none = subst (λ (ls : List LineRecord). All (IsReleasable set sub) (numbers_of sub ls)) (sym none) (All-nil (IsReleasable set sub))
draw_releasable set sub (suc count) [] gives = absurd gives
draw_releasable set sub (suc count) (Number s (number.Drew n) ∷ lines) (same, is, more) =
    subst (All (IsReleasable set sub)) (sym (numbers_first s sub (number.Drew n) lines same))
    (All-cons (IsReleasable set sub) n (numbers_of sub lines) is (draw_releasable set sub count lines more))
draw_releasable set sub (suc count) (Number s (number.Withheld n stop) ∷ lines) (same, first, last, none) =
    subst (All (IsReleasable set sub)) (sym (refused_first s sub (number.Withheld n stop) lines same refl none)) (All-nil (IsReleasable set sub))
draw_releasable set sub (suc count) (Number s (number.Exhausted word) ∷ lines) (same, spent, none) =
    subst (All (IsReleasable set sub)) (sym (refused_first s sub (number.Exhausted word) lines same refl none)) (All-nil (IsReleasable set sub))
draw_releasable set sub (suc count) (Sync s answer ∷ lines) gives = absurd gives
draw_releasable set sub (suc count) (Give s n answer ∷ lines) gives = absurd gives
draw_releasable set sub (suc count) (Further said ∷ lines) gives = absurd gives
draw_releasable set sub (suc count) (Told r ∷ lines) gives = absurd gives

-- a line names a subscriber
abbrev pub Names : ℕ → LineRecord → Type 0
Names sub line = subscriber_of line ≡ Some sub

none_named : (sub : ℕ) (lines : List LineRecord) → lines ≡ [] → All (Names sub) lines
none_named sub lines none = subst (All (Names sub)) (sym none) (All-nil (Names sub))

pub draw_names : (set : Setting) (sub count : ℕ) (lines : List LineRecord) → DrawGives set sub count lines → All (Names sub) lines
draw_names set sub zero lines none = none_named sub lines none
draw_names set sub (suc count) [] gives = absurd gives
draw_names set sub (suc count) (Number s (number.Drew n) ∷ lines) (same, is, more) = All-cons (Names sub) (Number s (number.Drew n)) lines (ap Some same) (draw_names set sub count lines more)
draw_names set sub (suc count) (Number s (number.Withheld n stop) ∷ lines) (same, first, last, none) = All-cons (Names sub) (Number s (number.Withheld n stop)) lines (ap Some same) (none_named sub lines none)
draw_names set sub (suc count) (Number s (number.Exhausted word) ∷ lines) (same, spent, none) = All-cons (Names sub) (Number s (number.Exhausted word)) lines (ap Some same) (none_named sub lines none)
draw_names set sub (suc count) (Sync s answer ∷ lines) gives = absurd gives
draw_names set sub (suc count) (Give s n answer ∷ lines) gives = absurd gives
draw_names set sub (suc count) (Further said ∷ lines) gives = absurd gives
draw_names set sub (suc count) (Told r ∷ lines) gives = absurd gives

-- ---- what is said of a session

-- the records of a session
abbrev pub noted : ℕ → List SimNote → List LineRecord
noted sub notes = map (λ note. Further (further.Sim sub note)) notes

-- of what none of them gives, all of them give nothing
pub notes_nothing : {X : Type 0} (f : LineRecord → List X) (sub : ℕ) (notes : List SimNote) → ((note : SimNote) → f (Further (further.Sim sub note)) ≡ []) → flat_map f (noted sub notes) ≡ []
notes_nothing f sub [] nothing = refl
notes_nothing f sub (note ∷ notes) nothing = ap (λ xs. xs ++ flat_map f (noted sub notes)) (nothing note) ∙ notes_nothing f sub notes nothing

pub follows_nothing : {X : Type 0} (f : LineRecord → List X) (all : Bool) (set : Setting) (l : SimValue) (numbers : List ℕ) (rest : List LineRecord)
    → ((note : SimNote) → f (Further (further.Sim l.sub note)) ≡ []) → SimFollowsIf all set l numbers rest → flat_map f rest ≡ []
follows_nothing f false set l numbers rest nothing none = ap (flat_map f) none
follows_nothing f true set l numbers rest nothing follows = ap (flat_map f) follows.lines_are ∙ notes_nothing f l.sub follows.notes nothing

-- so a line gives what its draws give
pub sim_gives_drawn : {X : Type 0} (f : LineRecord → List X) (set : Setting) (l : SimValue) (lines : List LineRecord) → ((note : SimNote) → f (Further (further.Sim l.sub note)) ≡ [])
    → (gives : SimGives set l lines) → flat_map f lines ≡ flat_map f gives.drawn
sim_gives_drawn f set l lines nothing gives =
    ap (flat_map f) gives.lines_are ∙ flat_map-append f gives.drawn gives.rest
    ∙ ap (λ xs. flat_map f gives.drawn ++ xs) (follows_nothing f (length (numbers_of l.sub gives.drawn) == l.count) set l (numbers_of l.sub gives.drawn) gives.rest nothing gives.follows)
    ∙ append-nil (flat_map f gives.drawn)

-- its numbers are those of its draws
pub sim_numbers : (set : Setting) (l : SimValue) (sub : ℕ) (lines : List LineRecord) (gives : SimGives set l lines) → numbers_of sub lines ≡ numbers_of sub gives.drawn
sim_numbers set l sub lines gives = sim_gives_drawn (released_by sub) set l lines (λ note. refl) gives

-- what holds of each line that is drawn, and of each that says something of a session, holds of each line
notes_each : (P : LineRecord → Type 0) (sub : ℕ) (notes : List SimNote) → ((note : SimNote) → P (Further (further.Sim sub note))) → All P (noted sub notes)
notes_each P sub [] each = All-nil P
notes_each P sub (note ∷ notes) each = All-cons P (Further (further.Sim sub note)) (noted sub notes) (each note) (notes_each P sub notes each)

pub sim_each : (P : LineRecord → Type 0) (set : Setting) (l : SimValue) (lines : List LineRecord) → ((note : SimNote) → P (Further (further.Sim l.sub note)))
    → (gives : SimGives set l lines) → All P gives.drawn → All P lines
sim_each P set l lines each gives drawn =
    subst (All P) (sym gives.lines_are) (All-append P gives.drawn gives.rest drawn (by (length (numbers_of l.sub gives.drawn) == l.count) gives.follows))
  where
    by : (all : Bool) → SimFollowsIf all set l (numbers_of l.sub gives.drawn) gives.rest → All P gives.rest
    by false none = subst (All P) (sym none) (All-nil P)
    by true follows = subst (All P) (sym follows.lines_are) (notes_each P l.sub follows.notes each)

-- each names the subscriber
pub sim_names : (set : Setting) (l : SimValue) (lines : List LineRecord) → SimGives set l lines → All (Names l.sub) lines
sim_names set l lines gives = sim_each (Names l.sub) set l lines (λ note. refl) gives (draw_names set l.sub l.count gives.drawn gives.draws)
