-- What the calls of a pass add, and what they answer, in the words of a centre: for `Desk`.
use Rattle.std.proofs.Common.{◌≡◌, ◌≢◌, inl, inr, ℕ, ◌+◌, ◌≤◌, ◌<◌, ◌==◌, Bool, true, false, List, [], ◌∷◌, ◌++◌, All, Option, Some, None, Result, Ok, Err, arith, refl, sym, ap, subst, ◌∙◌, eq-eqb}
use Rattle.std.specs.Prelude.{slice_index}
use Rattle.std.proofs.lemmas.Bool.{eqb-true}
use Rattle.std.proofs.lemmas.Bool.Decides.{nat_tests}
use Rattle.std.proofs.lemmas.List.{append-nil}
use Rattle.std.proofs.lemmas.List.Elements.{All-cons, All-nil}
use Rattle.auc_memory.specs.declared.stop.Stop.{Stop}
use Rattle.auc_history.specs.declared.entry.Entry.{Entry}
use Rattle.auc_history.specs.declared.entry.Entry.TheVariants.{Drawn, Moved, Look}
use Rattle.auc_history.specs.History.{drawn}
use Rattle.auc_history.specs.Resynchronise.{resynchronise_of, Moved as found_lower}
use Rattle.auc_draw.specs.declared.rule.Deed.{Deed}
use Rattle.auc_draw.specs.declared.pass.Draw.{Draw}
use Rattle.auc_draw.specs.declared.pass.Draw.TheVariants.{Number, Exhausted as exhausted}
use Rattle.auc_draw.specs.declared.pass.Jump.{Jump}
use Rattle.auc_draw.specs.declared.pass.Jump.TheVariants.{Moved as moved_from, Stood}
use Rattle.auc_draw.specs.Deeds.{entries_of, released_of, kept_word, made, AreInOrder}
use Rattle.auc_draw.specs.Pass.{Draws, Jumps, unless_kept, IsWordKept as IsKeptWord}
use Rattle.auc_draw.specs.Values.{PassValue}
use Rattle.auc_draw.proofs.Facts.{kept_after}
use Rattle.auc_vector.specs.Centre.{AnswersNext, IsWordKept, unless_spent, entries_of_next, withheld_of_next, kept_after_next, AnswersResync, entries_of_resync}
use Rattle.auc_vector.specs.declared.centre.Resynced.{Resynced}
use Rattle.auc_vector.specs.declared.centre.Resynced.TheVariants.{Moved as moved, InRange}
use Rattle.auc_vector.specs.declared.centre.CentreRefusal.{CentreRefusal}
use Rattle.auc_vector.specs.declared.centre.CentreRefusal.TheVariants.{Exhausted, Withheld, Beyond}
use Rattle.auc_centre.specs.Adds.{AddsAtDesk, IsTold, kept_by}
use Rattle.auc_centre.specs.InnerSteps.{Steps, Settles}
use Rattle.auc_centre.proofs.StepLemmas.{makes_steps, steps_both, entries_here, entries_elsewhere, adds_here, adds_elsewhere}

-- the kept word by the greatest numbers that a pass had before
pub same_tops : (old new : PassValue) (i : ℕ) → new.tops ≡ old.tops → kept_by new i ≡ kept_word (slice_index old.tops i) (entries_of i new.deeds)
same_tops old new i same = ap (λ (ts : List ℕ). kept_word (slice_index ts i) (entries_of i new.deeds)) same

-- the word that is kept of another subscriber stays
pub kept_elsewhere : (old new : PassValue) (i sub : ℕ) (es : List Entry) (ws : List (ℕ × Stop)) → i ≢ sub → Steps old sub es ws new → kept_by new i ≡ kept_by old i
kept_elsewhere old new i sub es ws apart steps =
    same_tops old new i steps.tops ∙ ap (kept_word (slice_index old.tops i)) (entries_elsewhere old new i sub es ws apart steps ∙ append-nil (entries_of i old.deeds))

-- ---- the words of a pass and those of a centre

-- the entries that are made if no word is kept
same_entries : (kept : Option ℕ) (es : List Entry) → unless_kept kept es ≡ unless_spent kept es
same_entries None es = refl
same_entries (Some w) es = refl

-- the kept word
same_word : (kept : Option ℕ) (w : ℕ) → IsKeptWord kept w → IsWordKept kept w
same_word None w is = tt
same_word (Some v) w is = is

-- the answers of a pass, by its own greatest numbers
pub draws_by : (named own : List ℕ) (sub : ℕ) (old new : List Deed) (answer : Draw) → named ≡ own → Draws (slice_index named sub) sub old new answer → Draws (slice_index own sub) sub old new answer
draws_by named own sub old new answer same draws = subst (λ (ts : List ℕ). Draws (slice_index ts sub) sub old new answer) same draws

pub jumps_by : (named own : List ℕ) (sub to : ℕ) (old new : List Deed) (answer : Jump) → named ≡ own → Jumps (slice_index named sub) sub to old new answer → Jumps (slice_index own sub) sub to old new answer
jumps_by named own sub to old new answer same jumps = subst (λ (ts : List ℕ). Jumps (slice_index ts sub) sub to old new answer) same jumps

-- and the answers of a centre, by those of the book
pub answers_by : (own named : List ℕ) (sub : ℕ) (kept : Option ℕ) (answer : Result ℕ CentreRefusal) → own ≡ named → AnswersNext (slice_index own sub) kept answer → AnswersNext (slice_index named sub) kept answer
answers_by own named sub kept answer same answers = subst (λ (ts : List ℕ). AnswersNext (slice_index ts sub) kept answer) same answers

-- ---- a draw

-- a refused draw
pub refusal_steps : (sub w : ℕ) (old new : PassValue) → Draws (slice_index old.tops sub) sub old.deeds new.deeds (exhausted w) → new.ended ≡ old.ended → new.tops ≡ old.tops → AreInOrder new.deeds
    → Steps old sub (unless_spent (kept_by old sub) (Drawn (w + 1) ∷ [])) [] new
refusal_steps sub w old new draws ended tops order =
    makes_steps sub (unless_spent (kept_by old sub) (Drawn (w + 1) ∷ [])) old new
    (draws.2 ∙ ap (λ (es : List Entry). old.deeds ++ made sub es) (same_entries (kept_by old sub) (Drawn (w + 1) ∷ []))) ended tops order

-- its number is a mark
refusal_told : (top : ℕ) (kept : Option ℕ) (w : ℕ) (released : List ℕ) → top ≤ w → All (IsTold top [] released) (drawn (unless_spent kept (Drawn (w + 1) ∷ [])))
refusal_told top None w released high = All-cons (IsTold top [] released) (w + 1) [] (inl (omega (arith, high))) (All-nil (IsTold top [] released))
refusal_told top (Some v) w released high = All-nil (IsTold top [] released)

-- what it adds
pub refusal_adds : (sub w : ℕ) (old new : PassValue) → Draws (slice_index old.tops sub) sub old.deeds new.deeds (exhausted w) → new.ended ≡ old.ended → new.tops ≡ old.tops → AreInOrder new.deeds
    → AddsAtDesk old sub (unless_spent (kept_by old sub) (Drawn (w + 1) ∷ [])) [] new
refusal_adds sub w old new draws ended tops order =
    adds_here old new sub (unless_spent (kept_by old sub) (Drawn (w + 1) ∷ [])) [] (refusal_steps sub w old new draws ended tops order)
    (refusal_told (slice_index old.tops sub) (kept_by old sub) w (released_of sub new.deeds) draws.0)

-- its answer
pub refusal_answers : (sub w : ℕ) (old new : PassValue) → Draws (slice_index old.tops sub) sub old.deeds new.deeds (exhausted w) → IsWordKept (kept_by old sub) w
refusal_answers sub w old new draws = same_word (kept_by old sub) w draws.1

-- a number that was drawn and then settled, so that this is the answer
pub record IsSettled (sub n : ℕ) (old mid new : PassValue) (answer : Result ℕ CentreRefusal) : Type 0 where
  pub draws : Draws (slice_index old.tops sub) sub old.deeds mid.deeds (Number n)
  pub ended : mid.ended ≡ old.ended
  pub tops : mid.tops ≡ old.tops
  pub ordered : AreInOrder mid.deeds
  pub settles : Settles sub n mid new answer

-- the steps that settle it
settling_steps : (sub n : ℕ) (mid new : PassValue) (answer : Result ℕ CentreRefusal) → Settles sub n mid new answer → Steps mid sub [] (withheld_of_next answer) new
settling_steps sub n mid new (Ok m) settles = settles.1
settling_steps sub n mid new (Err (Exhausted w)) never = absurd never
settling_steps sub n mid new (Err (Withheld m stop)) settles = settles.1
settling_steps sub n mid new (Err (Beyond seen seq_ms)) never = absurd never

-- all steps of the draw
draw_steps : (sub n : ℕ) (old mid new : PassValue) (answer : Result ℕ CentreRefusal) → IsSettled sub n old mid new answer → Steps old sub (Drawn n ∷ []) (withheld_of_next answer) new
draw_steps sub n old mid new answer is =
    steps_both old mid new sub (Drawn n ∷ []) [] [] (withheld_of_next answer)
    (makes_steps sub (Drawn n ∷ []) old mid is.draws.3 is.ended is.tops is.ordered)
    (settling_steps sub n mid new answer is.settles)

-- the answer is one to a draw
pub settled_answers : (sub n : ℕ) (old mid new : PassValue) (answer : Result ℕ CentreRefusal) → IsSettled sub n old mid new answer → AnswersNext (slice_index old.tops sub) (kept_by old sub) answer
settled_answers sub n old mid new (Ok m) is = (is.draws.0, omega (arith, is.draws.1, is.settles.0), omega (arith, is.draws.2, is.settles.0))
settled_answers sub n old mid new (Err (Exhausted w)) is = absurd is.settles
settled_answers sub n old mid new (Err (Withheld m stop)) is = (is.draws.0, omega (arith, is.draws.1, is.settles.0), omega (arith, is.draws.2, is.settles.0))
settled_answers sub n old mid new (Err (Beyond seen seq_ms)) is = absurd is.settles

-- the number is released or withheld
settled_told : (top sub n : ℕ) (mid new : PassValue) (answer : Result ℕ CentreRefusal) → Settles sub n mid new answer → IsTold top (withheld_of_next answer) (released_of sub new.deeds) n
settled_told top sub n mid new (Ok m) settles = inr (inr settles.2)
settled_told top sub n mid new (Err (Exhausted w)) never = absurd never
settled_told top sub n mid new (Err (Withheld m stop)) settles = inr (inl (0, omega arith, settles.0))
settled_told top sub n mid new (Err (Beyond seen seq_ms)) never = absurd never

-- it is the entry that the answer names
settled_names : (sub n : ℕ) (mid new : PassValue) (kept : Option ℕ) (answer : Result ℕ CentreRefusal) → Settles sub n mid new answer → Drawn n ∷ [] ≡ entries_of_next kept answer
settled_names sub n mid new kept (Ok m) settles = ap (λ (k : ℕ). Drawn k ∷ []) (sym settles.0)
settled_names sub n mid new kept (Err (Exhausted w)) never = absurd never
settled_names sub n mid new kept (Err (Withheld m stop)) settles = ap (λ (k : ℕ). Drawn k ∷ []) (sym settles.0)
settled_names sub n mid new kept (Err (Beyond seen seq_ms)) never = absurd never

-- what the draw adds
pub settled_adds : (sub n : ℕ) (old mid new : PassValue) (answer : Result ℕ CentreRefusal) → IsSettled sub n old mid new answer
    → AddsAtDesk old sub (entries_of_next (kept_by old sub) answer) (withheld_of_next answer) new
settled_adds sub n old mid new answer is =
    let Told : ℕ → Type 0 = IsTold (slice_index old.tops sub) (withheld_of_next answer) (released_of sub new.deeds) in
    let told = All-cons Told n [] (settled_told (slice_index old.tops sub) sub n mid new answer is.settles) (All-nil Told) in
    subst (λ (es : List Entry). AddsAtDesk old sub es (withheld_of_next answer) new) (settled_names sub n mid new (kept_by old sub) answer is.settles)
    (adds_here old new sub (Drawn n ∷ []) (withheld_of_next answer) (draw_steps sub n old mid new answer is) told)

-- and for another subscriber
pub settled_elsewhere : (i sub n : ℕ) (old mid new : PassValue) (answer : Result ℕ CentreRefusal) → i ≢ sub → IsSettled sub n old mid new answer → AddsAtDesk old i [] [] new
settled_elsewhere i sub n old mid new answer apart is = adds_elsewhere old new i sub (Drawn n ∷ []) (withheld_of_next answer) apart (draw_steps sub n old mid new answer is)

-- the kept words stay: the one of the subscriber
no_word_after : (kept : Option ℕ) (sub n : ℕ) (mid new : PassValue) (answer : Result ℕ CentreRefusal) → Settles sub n mid new answer → kept_after_next kept answer ≡ kept
no_word_after kept sub n mid new (Ok m) settles = refl
no_word_after kept sub n mid new (Err (Exhausted w)) never = absurd never
no_word_after kept sub n mid new (Err (Withheld m stop)) settles = refl
no_word_after kept sub n mid new (Err (Beyond seen seq_ms)) never = absurd never

pub settled_kept : (sub n : ℕ) (old mid new : PassValue) (answer : Result ℕ CentreRefusal) → IsSettled sub n old mid new answer → kept_by new sub ≡ kept_after_next (kept_by old sub) answer
settled_kept sub n old mid new answer is =
    let steps = settling_steps sub n mid new answer is.settles in
    same_tops old new sub (steps.tops ∙ is.tops)
    ∙ ap (kept_word (slice_index old.tops sub)) (entries_here mid new sub [] (withheld_of_next answer) steps ∙ append-nil (entries_of sub mid.deeds))
    ∙ is.draws.4 ∙ sym is.draws.0 ∙ sym (no_word_after (kept_by old sub) sub n mid new answer is.settles)

-- and the one of another
pub settled_still : (i sub n : ℕ) (old mid new : PassValue) (answer : Result ℕ CentreRefusal) → i ≢ sub → IsSettled sub n old mid new answer → kept_by new i ≡ kept_by old i
settled_still i sub n old mid new answer apart is = kept_elsewhere old new i sub (Drawn n ∷ []) (withheld_of_next answer) apart (draw_steps sub n old mid new answer is)

-- ---- a resynchronisation

-- one that moves the number
pub move_steps : (sub to from : ℕ) (old new : PassValue) → Jumps (slice_index old.tops sub) sub to old.deeds new.deeds (moved_from from) → new.ended ≡ old.ended → new.tops ≡ old.tops → AreInOrder new.deeds
    → Steps old sub (Moved from to ∷ []) [] new
move_steps sub to from old new jumps ended tops order = makes_steps sub (Moved from to ∷ []) old new jumps.2 ended tops order

-- what it adds
pub move_adds : (sub to from : ℕ) (old new : PassValue) → Steps old sub (Moved from to ∷ []) [] new → AddsAtDesk old sub (Moved from to ∷ []) [] new
move_adds sub to from old new steps = adds_here old new sub (Moved from to ∷ []) [] steps (All-nil (IsTold (slice_index old.tops sub) [] (released_of sub new.deeds)))

-- one that finds it high enough
pub look_steps : (sub to seen : ℕ) (old new : PassValue) → Jumps (slice_index old.tops sub) sub to old.deeds new.deeds (Stood seen) → new.ended ≡ old.ended → new.tops ≡ old.tops → AreInOrder new.deeds
    → Steps old sub (unless_spent (kept_by old sub) (Look seen ∷ [])) [] new
look_steps sub to seen old new jumps ended tops order =
    makes_steps sub (unless_spent (kept_by old sub) (Look seen ∷ [])) old new
    (jumps.2 ∙ ap (λ (es : List Entry). old.deeds ++ made sub es) (same_entries (kept_by old sub) (Look seen ∷ []))) ended tops order

-- a look draws nothing
look_draws : (top : ℕ) (kept : Option ℕ) (seen : ℕ) (released : List ℕ) → All (IsTold top [] released) (drawn (unless_spent kept (Look seen ∷ [])))
look_draws top None seen released = All-nil (IsTold top [] released)
look_draws top (Some w) seen released = All-nil (IsTold top [] released)

-- what a look at the number adds, which is the one that is named
look_adds : (sub seen at : ℕ) (old new : PassValue) → at ≡ seen → Steps old sub (unless_spent (kept_by old sub) (Look seen ∷ [])) [] new
    → AddsAtDesk old sub (unless_spent (kept_by old sub) (Look at ∷ [])) [] new
look_adds sub seen at old new same steps =
    let P : ℕ → Type 0 = λ n. AddsAtDesk old sub (unless_spent (kept_by old sub) (Look n ∷ [])) [] new in
    subst P (sym same) (adds_here old new sub (unless_spent (kept_by old sub) (Look seen ∷ [])) [] steps (look_draws (slice_index old.tops sub) (kept_by old sub) seen (released_of sub new.deeds)))

-- the number stands: its verdict names the word that was found
pub standing_adds : (sub seq_ms seen : ℕ) (old new : PassValue) (answer : Result Resynced CentreRefusal) → Steps old sub (unless_spent (kept_by old sub) (Look seen ∷ [])) [] new
    → AnswersResync (Some seen) seq_ms answer → AddsAtDesk old sub (entries_of_resync (kept_by old sub) answer) [] new
standing_adds sub seq_ms seen old new (Ok (moved at seq)) steps (never, verdict) = let bad : ⊥ = cc in absurd bad
standing_adds sub seq_ms seen old new (Ok (InRange at seq)) steps (same, verdict) = look_adds sub seen at old new same steps
standing_adds sub seq_ms seen old new (Err (Exhausted w)) steps never = absurd never
standing_adds sub seq_ms seen old new (Err (Withheld n stop)) steps never = absurd never
standing_adds sub seq_ms seen old new (Err (Beyond at seq)) steps (same, verdict) = look_adds sub seen at old new same steps

-- a word that is the found one is kept, if one is
named_word : (kept : Option ℕ) (at seen : ℕ) → at ≡ seen → IsKeptWord kept seen → IsWordKept kept at
named_word kept at seen same is = subst (λ (n : ℕ). IsWordKept kept n) (sym same) (same_word kept seen is)

-- and it is the answer
pub standing_answers : (kept : Option ℕ) (seq_ms seen : ℕ) (answer : Result Resynced CentreRefusal) → IsKeptWord kept seen → AnswersResync (Some seen) seq_ms answer → AnswersResync kept seq_ms answer
standing_answers kept seq_ms seen (Ok (moved at seq)) word (never, verdict) = let bad : ⊥ = cc in absurd bad
standing_answers kept seq_ms seen (Ok (InRange at seq)) word (same, verdict) = (named_word kept at seen same word, verdict)
standing_answers kept seq_ms seen (Err (Exhausted w)) word never = absurd never
standing_answers kept seq_ms seen (Err (Withheld n stop)) word never = absurd never
standing_answers kept seq_ms seen (Err (Beyond at seq)) word (same, verdict) = (named_word kept at seen same word, verdict)

-- ---- the words that are kept after a resynchronisation

-- entries without a mark change no kept word
kept_here : (kept : Option ℕ) (sub : ℕ) (e : Entry) (old new : PassValue) → ((top : ℕ) → kept_word top (e ∷ []) ≡ None) → kept_by old sub ≡ kept → Steps old sub (unless_spent kept (e ∷ [])) [] new
    → kept_by new sub ≡ kept_by old sub
kept_here None sub e old new unmarked none steps =
    same_tops old new sub steps.tops ∙ ap (kept_word (slice_index old.tops sub)) (entries_here old new sub (e ∷ []) [] steps)
    ∙ kept_after (slice_index old.tops sub) (entries_of sub old.deeds) (e ∷ []) none ∙ unmarked (slice_index old.tops sub) ∙ sym none
kept_here (Some w) sub e old new unmarked some steps =
    same_tops old new sub steps.tops ∙ ap (kept_word (slice_index old.tops sub)) (entries_here old new sub [] [] steps ∙ append-nil (entries_of sub old.deeds))

-- so each kept word stays
pub kept_stays : (i sub : ℕ) (e : Entry) (old new : PassValue) → ((top : ℕ) → kept_word top (e ∷ []) ≡ None) → Steps old sub (unless_spent (kept_by old sub) (e ∷ [])) [] new
    → kept_by new i ≡ kept_by old i
kept_stays i sub e old new unmarked steps = at (i == sub) refl
  where
    at : (b : Bool) → (i == sub) ≡ b → kept_by new i ≡ kept_by old i
    at true same =
        let P : ℕ → Type 0 = λ k. kept_by new k ≡ kept_by old k in
        subst P (sym (eqb-true i sub same)) (kept_here (kept_by old sub) sub e old new unmarked refl steps)
    at false other =
        kept_elsewhere old new i sub (unless_spent (kept_by old sub) (e ∷ [])) [] (λ same. let yes = eq-eqb i sub same in let no : ⊥ = cc in no) steps

-- a move is made only if no word is kept
pub move_unless_kept : (sub to from : ℕ) (old new : PassValue) → Jumps (slice_index old.tops sub) sub to old.deeds new.deeds (moved_from from) → Steps old sub (Moved from to ∷ []) [] new
    → Steps old sub (unless_spent (kept_by old sub) (Moved from to ∷ [])) [] new
move_unless_kept sub to from old new jumps steps =
    subst (λ (kept : Option ℕ). Steps old sub (unless_spent kept (Moved from to ∷ [])) [] new) (sym jumps.0) steps

-- the verdict on a SEQ above the number
pub moves : (seen seq_ms : ℕ) → seen < seq_ms → resynchronise_of seen seq_ms ≡ found_lower seen seq_ms
moves seen seq_ms = grind (arith, nat_tests)
