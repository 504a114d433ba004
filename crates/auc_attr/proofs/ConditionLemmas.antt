-- A step that fails if a condition holds reports the first fault of its list.
use Rattle.std.proofs.Common.{◌≡◌, Bool, true, false, cond, List, ◌∷◌, Some, None, Result, Ok, Err, refl, sym, ap, ◌∙◌, subst}
use Rattle.auc_attr.specs.Conditions.{first_of, unless}

-- two tests of which each implies the other are one
pub both : (b c : Bool) → (b ≡ true → c ≡ true) → (c ≡ true → b ≡ true) → b ≡ c
both true c f g = sym (f refl)
both false true f g = g refl
both false false f g = refl

-- the fault that is reported is the first whose condition holds, and an answer shows that no condition does
abbrev pub Told : {A F : Type 0} → List (Bool × F) → Result A F → Type 0
Told faults (Ok x) = first_of faults ≡ None
Told faults (Err fault) = first_of faults ≡ Some fault

-- a condition that doesn't hold is passed
pub pass : {A F : Type 0} (c : Bool) (f : F) (r : Result A F) (faults : List (Bool × F)) → c ≡ false → Told faults r → Told ((c, f) ∷ faults) r
pass c f (Ok x) faults e h = ap (λ b. cond b (Some f) (first_of faults)) e ∙ h
pass c f (Err g) faults e h = ap (λ b. cond b (Some f) (first_of faults)) e ∙ h

-- one more step
pub step : {A F : Type 0} (b c : Bool) (f : F) (r : Result A F) (faults : List (Bool × F)) → b ≡ c → (b ≡ false → Told faults r) → Told ((c, f) ∷ faults) (cond b (Err f) r)
step true c f r faults e h = ap (λ d. cond d (Some f) (first_of faults)) (sym e)
step false c f r faults e h = pass c f r faults (sym e) (h refl)

-- a fault that is told is the first
pub told_fault : {A F : Type 0} (faults : List (Bool × F)) (r : Result A F) (f : F) → Told faults r → r ≡ Err f → first_of faults ≡ Some f
told_fault faults r f t e = subst (λ x. Told faults x) e t

-- if something is found there is no fault
pub told_none : {A F : Type 0} (faults : List (Bool × F)) (r : Result A F) (x : A) → Told faults r → r ≡ Ok x → first_of faults ≡ None
told_none faults r x t e = subst (λ y. Told faults y) e t

-- the answer is that of the list of faults
pub step_unless : {A F : Type 0} (b c : Bool) (f : F) (r : Result A F) (faults : List (Bool × F)) (x : A) → b ≡ c → (b ≡ false → r ≡ unless (first_of faults) x)
    → cond b (Err f) r ≡ unless (first_of ((c, f) ∷ faults)) x
step_unless true c f r faults x e h = ap (λ d. unless (cond d (Some f) (first_of faults)) x) e
step_unless false c f r faults x e h = h refl ∙ ap (λ d. unless (cond d (Some f) (first_of faults)) x) e
