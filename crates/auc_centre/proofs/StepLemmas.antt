-- Steps of a pass, for `Desk` and for the settling of a drawn number.
use Rattle.std.proofs.Common.{◌≡◌, ◌≢◌, ℕ, ◌==◌, Bool, true, false, if◌then◌else◌, List, [], ◌∷◌, ◌++◌, All, Contains, Option, Some, None, Result, Ok, Err, arith, refl, sym, ap, subst, ◌∙◌, eq-eqb}
use Rattle.std.specs.Prelude.{slice_index}
use Rattle.std.proofs.lemmas.Bool.{eqb-true}
use Rattle.std.proofs.lemmas.Grind.{flat_map-append}
use Rattle.std.proofs.lemmas.List.{append-nil, append_assoc}
use Rattle.std.proofs.lemmas.List.Elements.{All-nil, Contains-append_right}
use Rattle.auc_memory.specs.declared.stop.Stop.{Stop}
use Rattle.auc_history.specs.declared.entry.Entry.{Entry}
use Rattle.auc_history.specs.History.{IsInOrder, drawn}
use Rattle.auc_draw.specs.declared.rule.Deed.{Deed}
use Rattle.auc_draw.specs.declared.rule.Deed.TheVariants.{Released, Withheld}
use Rattle.auc_draw.specs.Deeds.{entries_by, entries_of, claims_by, claims_of, held_by, held_of, released_in, released_of, kept_stop, stop_read, withholding, made, AreInOrder}
use Rattle.auc_draw.specs.Values.{PassValue}
use Rattle.auc_draw.proofs.Facts.{in_order_last, after_last}
use Rattle.auc_centre.specs.Adds.{AddsAtDesk, IsTold}
use Rattle.auc_vector.specs.declared.centre.CentreRefusal.{CentreRefusal}
use Rattle.auc_vector.specs.declared.centre.CentreRefusal.TheVariants.{Exhausted, Withheld as refused, Beyond}
use Rattle.auc_centre.specs.InnerSteps.{Steps, Settles}

-- ---- tests on a subscriber

when_same : {X : Type 0} (sub : ℕ) (x : X) → (if sub == sub then x ∷ [] else []) ≡ x ∷ []
when_same sub x = ap (λ b. if b then x ∷ [] else []) (eq-eqb sub sub refl)

when_other : {X : Type 0} (i sub : ℕ) (x : X) → i ≢ sub → (if sub == i then x ∷ [] else []) ≡ []
when_other i sub x apart = at (sub == i) refl
  where
    at : (b : Bool) → (sub == i) ≡ b → (if b then x ∷ [] else []) ≡ []
    at true same = absurd (apart (sym (eqb-true sub i same)))
    at false other = refl

-- ---- entries of a subscriber as deeds

-- they are its entries
made_own : (sub : ℕ) (es : List Entry) → entries_of sub (made sub es) ≡ es
made_own sub [] = refl
made_own sub (e ∷ es) = ap (λ (xs : List Entry). xs ++ entries_of sub (made sub es)) (when_same sub e) ∙ ap (λ (xs : List Entry). e ∷ xs) (made_own sub es)

-- and no entries of another one
made_other : (i sub : ℕ) (es : List Entry) → i ≢ sub → entries_of i (made sub es) ≡ []
made_other i sub [] apart = refl
made_other i sub (e ∷ es) apart = ap (λ (xs : List Entry). xs ++ entries_of i (made sub es)) (when_other i sub e apart) ∙ made_other i sub es apart

-- they withhold nothing
made_frees : (i sub : ℕ) (es : List Entry) → held_of i (made sub es) ≡ []
made_frees i sub [] = refl
made_frees i sub (e ∷ es) = made_frees i sub es

-- they are no claims
made_claims : (sub : ℕ) (es : List Entry) → claims_of (made sub es) ≡ []
made_claims sub [] = refl
made_claims sub (e ∷ es) = made_claims sub es

-- ---- steps

-- a step that makes entries
pub makes_steps : (sub : ℕ) (es : List Entry) (old new : PassValue) → new.deeds ≡ old.deeds ++ made sub es → new.ended ≡ old.ended → new.tops ≡ old.tops → AreInOrder new.deeds → Steps old sub es [] new
makes_steps sub es old new grows ended tops ordered = record {
  rest = made sub es;
  grows = grows;
  made = made_own sub es;
  others = λ i apart. made_other i sub es apart;
  held = made_frees sub sub es;
  free = λ i apart. made_frees i sub es;
  claims = made_claims sub es;
  ended = ended;
  tops = tops;
  ordered = ordered;
}

-- no step
pub no_steps : (sub : ℕ) (old : PassValue) → AreInOrder old.deeds → Steps old sub [] [] old
no_steps sub old ordered = makes_steps sub [] old old (sym (append-nil old.deeds)) refl refl ordered

-- a look at the stop
pub stop_steps : (sub : ℕ) (stop : Option Stop) (old new : PassValue) → new.deeds ≡ old.deeds ++ stop_read stop → new.ended ≡ old.ended → new.tops ≡ old.tops → AreInOrder new.deeds → Steps old sub [] [] new
stop_steps sub None old new grows ended tops ordered = makes_steps sub [] old new grows ended tops ordered
stop_steps sub (Some stop) old new grows ended tops ordered = record {
  rest = stop_read (Some stop);
  grows = grows;
  made = refl;
  others = λ i apart. refl;
  held = refl;
  free = λ i apart. refl;
  claims = refl;
  ended = ended;
  tops = tops;
  ordered = ordered;
}

-- a release
pub release_steps : (sub n : ℕ) (old new : PassValue) → new.deeds ≡ old.deeds ++ Released sub n ∷ [] → new.ended ≡ old.ended → new.tops ≡ old.tops → AreInOrder new.deeds → Steps old sub [] [] new
release_steps sub n old new grows ended tops ordered = record {
  rest = Released sub n ∷ [];
  grows = grows;
  made = refl;
  others = λ i apart. refl;
  held = refl;
  free = λ i apart. refl;
  claims = refl;
  ended = ended;
  tops = tops;
  ordered = ordered;
}

-- after it the number is released
pub is_released : (sub n : ℕ) (old new : PassValue) → new.deeds ≡ old.deeds ++ Released sub n ∷ [] → Contains (released_of sub new.deeds) n
is_released sub n old new grows =
    let last = flat_map-append (released_in sub) old.deeds (Released sub n ∷ []) ∙ ap (λ (ns : List ℕ). released_of sub old.deeds ++ (ns ++ [])) (when_same sub n) in
    subst (λ (ns : List ℕ). Contains ns n) (sym (ap (released_of sub) grows ∙ last)) (Contains-append_right (released_of sub old.deeds) (n ∷ []) n (0, omega arith, refl))

-- a number that isn't released, and isn't withheld yet
pub above_steps : (sub n : ℕ) (old new : PassValue) → kept_stop old.deeds ≡ None → new.deeds ≡ old.deeds ++ withholding sub n (kept_stop old.deeds) → new.ended ≡ old.ended → new.tops ≡ old.tops → AreInOrder new.deeds → Steps old sub [] [] new
above_steps sub n old new none grows ended tops ordered = makes_steps sub [] old new (grows ∙ ap (λ (stop : Option Stop). old.deeds ++ withholding sub n stop) none) ended tops ordered

-- a number that is withheld
pub withheld_steps : (sub n : ℕ) (stop : Stop) (old new : PassValue) → kept_stop old.deeds ≡ Some stop → new.deeds ≡ old.deeds ++ withholding sub n (kept_stop old.deeds) → new.ended ≡ old.ended → new.tops ≡ old.tops → AreInOrder new.deeds
    → Steps old sub [] ((n, stop) ∷ []) new
withheld_steps sub n stop old new some grows ended tops ordered = record {
  rest = Withheld sub n stop ∷ [];
  grows = grows ∙ ap (λ (kept : Option Stop). old.deeds ++ withholding sub n kept) some;
  made = refl;
  others = λ i apart. refl;
  held = ap (λ (hs : List (ℕ × Stop)). hs ++ []) (when_same sub (n, stop));
  free = λ i apart. ap (λ (hs : List (ℕ × Stop)). hs ++ []) (when_other i sub (n, stop) apart);
  claims = refl;
  ended = ended;
  tops = tops;
  ordered = ordered;
}

-- two lists that are empty
both_empty : {X : Type 0} (xs ys : List X) → xs ≡ [] → ys ≡ [] → xs ++ ys ≡ []
both_empty {X = X} xs ys first second = ap (λ (zs : List X). zs ++ ys) first ∙ second

-- steps, one after the other
pub steps_both : (a b c : PassValue) (sub : ℕ) (es fs : List Entry) (ws vs : List (ℕ × Stop)) → Steps a sub es ws b → Steps b sub fs vs c → Steps a sub (es ++ fs) (ws ++ vs) c
steps_both a b c sub es fs ws vs first second = record {
  rest = first.rest ++ second.rest;
  grows = second.grows ∙ ap (λ (ds : List Deed). ds ++ second.rest) first.grows ∙ append_assoc a.deeds first.rest second.rest;
  made = flat_map-append (entries_by sub) first.rest second.rest ∙ ap (λ (xs : List Entry). xs ++ entries_of sub second.rest) first.made ∙ ap (λ (xs : List Entry). es ++ xs) second.made;
  others = λ i apart. flat_map-append (entries_by i) first.rest second.rest ∙ both_empty (entries_of i first.rest) (entries_of i second.rest) (first.others i apart) (second.others i apart);
  held = flat_map-append (held_by sub) first.rest second.rest ∙ ap (λ (hs : List (ℕ × Stop)). hs ++ held_of sub second.rest) first.held ∙ ap (λ (hs : List (ℕ × Stop)). ws ++ hs) second.held;
  free = λ i apart. flat_map-append (held_by i) first.rest second.rest ∙ both_empty (held_of i first.rest) (held_of i second.rest) (first.free i apart) (second.free i apart);
  claims = flat_map-append claims_by first.rest second.rest ∙ both_empty (claims_of first.rest) (claims_of second.rest) first.claims second.claims;
  ended = second.ended ∙ first.ended;
  tops = second.tops ∙ first.tops;
  ordered = second.ordered;
}

-- a number that is settled after some steps
pub settles_later : (sub n : ℕ) (old mid new : PassValue) (answer : Result ℕ CentreRefusal) → Steps old sub [] [] mid → Settles sub n mid new answer → Settles sub n old new answer
settles_later sub n old mid new (Ok m) first (same, second, released) = (same, steps_both old mid new sub [] [] [] [] first second, released)
settles_later sub n old mid new (Err (Exhausted w)) first never = never
settles_later sub n old mid new (Err (refused m stop)) first (same, second) = (same, steps_both old mid new sub [] [] [] ((m, stop) ∷ []) first second)
settles_later sub n old mid new (Err (Beyond seen seq_ms)) first never = never

-- ---- the entries of all deeds after some steps

-- of the subscriber
pub entries_here : (old new : PassValue) (sub : ℕ) (es : List Entry) (ws : List (ℕ × Stop)) → Steps old sub es ws new → entries_of sub new.deeds ≡ entries_of sub old.deeds ++ es
entries_here old new sub es ws steps = ap (entries_of sub) steps.grows ∙ flat_map-append (entries_by sub) old.deeds steps.rest ∙ ap (λ (xs : List Entry). entries_of sub old.deeds ++ xs) steps.made

-- of another one
pub entries_elsewhere : (old new : PassValue) (i sub : ℕ) (es : List Entry) (ws : List (ℕ × Stop)) → i ≢ sub → Steps old sub es ws new → entries_of i new.deeds ≡ entries_of i old.deeds ++ []
entries_elsewhere old new i sub es ws apart steps =
    ap (entries_of i) steps.grows ∙ flat_map-append (entries_by i) old.deeds steps.rest ∙ ap (λ (xs : List Entry). entries_of i old.deeds ++ xs) (steps.others i apart)

-- the claims
claims_stay : (old new : PassValue) (sub : ℕ) (es : List Entry) (ws : List (ℕ × Stop)) → Steps old sub es ws new → claims_of new.deeds ≡ claims_of old.deeds
claims_stay old new sub es ws steps =
    ap claims_of steps.grows ∙ flat_map-append claims_by old.deeds steps.rest ∙ ap (λ (ns : List ℕ). claims_of old.deeds ++ ns) steps.claims ∙ append-nil (claims_of old.deeds)

-- ---- what steps add

-- for the subscriber, if each drawn number is withheld or released
pub adds_here : (old new : PassValue) (sub : ℕ) (es : List Entry) (ws : List (ℕ × Stop)) → Steps old sub es ws new → All (IsTold (slice_index old.tops sub) ws (released_of sub new.deeds)) (drawn es) → AddsAtDesk old sub es ws new
adds_here old new sub es ws steps told =
    let all = entries_here old new sub es ws steps in
    let order = subst IsInOrder all (steps.ordered.each sub) in
    record {
      made = all;
      ordered = in_order_last (entries_of sub old.deeds) es order;
      after = after_last (entries_of sub old.deeds) es order;
      held = ap (held_of sub) steps.grows ∙ flat_map-append (held_by sub) old.deeds steps.rest ∙ ap (λ (hs : List (ℕ × Stop)). held_of sub old.deeds ++ hs) steps.held;
      told = told;
      grows = (steps.rest, steps.grows);
      claims = claims_stay old new sub es ws steps;
      ended = steps.ended;
      tops = steps.tops;
    }

-- for another one
pub adds_elsewhere : (old new : PassValue) (i sub : ℕ) (es : List Entry) (ws : List (ℕ × Stop)) → i ≢ sub → Steps old sub es ws new → AddsAtDesk old i [] [] new
adds_elsewhere old new i sub es ws apart steps =
    let all = entries_elsewhere old new i sub es ws apart steps in
    let order = subst IsInOrder all (steps.ordered.each i) in
    record {
      made = all;
      ordered = in_order_last (entries_of i old.deeds) [] order;
      after = after_last (entries_of i old.deeds) [] order;
      held = ap (held_of i) steps.grows ∙ flat_map-append (held_by i) old.deeds steps.rest ∙ ap (λ (hs : List (ℕ × Stop)). held_of i old.deeds ++ hs) (steps.free i apart);
      told = All-nil (IsTold (slice_index old.tops i) [] (released_of i new.deeds));
      grows = (steps.rest, steps.grows);
      claims = claims_stay old new sub es ws steps;
      ended = steps.ended;
      tops = steps.tops;
    }
