-- For `auc_run`: limits of the same frames, each identity once, are equally many.
use Rattle.std.proofs.Common.{◌≡◌, ℕ, suc, ◌≤◌, max, Bool, true, false, List, [], ◌∷◌, length, refl, sym, ◌∙◌, ap, arith}
use Rattle.std.specs.Prelude.{if◌then◌else◌}
use Rattle.auc_memory.specs.Identity.{Identity}
use Rattle.auc_journal.specs.Image.{Frame, reserved_in, same_identity}
use Rattle.auc_journal.specs.Limits.{AreLimits, AreSingle}
use Rattle.auc_journal.proofs.Facts.{same-same, same_is}

-- limits without the first one of an identity
abbrev without : Identity → List Frame → List Frame
without imsi [] = []
without imsi (limit ∷ limits) = if same_identity limit.imsi imsi then limits else limit ∷ without imsi limits

-- there is one less
shorter : (imsi : Identity) (limits : List Frame) → 1 ≤ reserved_in limits imsi → length limits ≡ suc (length (without imsi limits))
shorter imsi [] some = absurd (omega (arith, some))
shorter imsi (limit ∷ limits) some = cases (same_identity limit.imsi imsi) some (shorter imsi limits)
  where
    cases : (same : Bool) → 1 ≤ (if same then max limit.limit (reserved_in limits imsi) else reserved_in limits imsi) → (1 ≤ reserved_in limits imsi → length limits ≡ suc (length (without imsi limits)))
        → suc (length limits) ≡ suc (length (if same then limits else limit ∷ without imsi limits))
    cases true some rest = refl
    cases false some rest = ap suc (rest some)

-- another identity keeps its limits
apart_same : (imsi other : Identity) (limit : Frame) → same_identity limit.imsi imsi ≡ true → same_identity imsi other ≡ false → same_identity limit.imsi other ≡ false
apart_same imsi other limit is apart = ap (λ (i : Identity). same_identity i other) (same_is limit.imsi imsi is) ∙ apart

others : (imsi other : Identity) (limits : List Frame) → same_identity imsi other ≡ false → reserved_in (without imsi limits) other ≡ reserved_in limits other
others imsi other [] apart = refl
others imsi other (limit ∷ limits) apart = cases (same_identity limit.imsi imsi) refl (others imsi other limits apart)
  where
    cases : (same : Bool) → same_identity limit.imsi imsi ≡ same → reserved_in (without imsi limits) other ≡ reserved_in limits other
        → reserved_in (if same then limits else limit ∷ without imsi limits) other ≡ reserved_in (limit ∷ limits) other
    cases true is rest = sym (ap (λ (b : Bool). if b then max limit.limit (reserved_in limits other) else reserved_in limits other) (apart_same imsi other limit is apart))
    cases false is rest = ap (λ (n : ℕ). if same_identity limit.imsi other then max limit.limit n else n) rest

-- limits whose identities are all among others are no more than these
no_more : (limits all : List Frame) → AreSingle limits → ((imsi : Identity) → 1 ≤ reserved_in limits imsi → 1 ≤ reserved_in all imsi) → length limits ≤ length all
no_more [] all single among = omega arith
no_more (limit ∷ limits) all single among =
    let less = shorter limit.imsi all (among limit.imsi first) in
    let rest = no_more limits (without limit.imsi all) single.2 (λ imsi some. of_others imsi (same_identity limit.imsi imsi) refl some) in
    omega (arith, less, rest)
  where
    first : 1 ≤ reserved_in (limit ∷ limits) limit.imsi
    first =
        let whole : reserved_in (limit ∷ limits) limit.imsi ≡ max limit.limit (reserved_in limits limit.imsi) = ap (λ (b : Bool). if b then max limit.limit (reserved_in limits limit.imsi) else reserved_in limits limit.imsi) (same-same limit.imsi) in
        omega (arith, whole, single.0)

    later : (imsi : Identity) → same_identity limit.imsi imsi ≡ false → reserved_in (limit ∷ limits) imsi ≡ reserved_in limits imsi
    later imsi is = ap (λ (b : Bool). if b then max limit.limit (reserved_in limits imsi) else reserved_in limits imsi) is

    of_others : (imsi : Identity) (same : Bool) → same_identity limit.imsi imsi ≡ same → 1 ≤ reserved_in limits imsi → 1 ≤ reserved_in (without limit.imsi all) imsi
    of_others imsi true is some =
        let none : reserved_in limits imsi ≡ 0 = ap (reserved_in limits) (sym (same_is limit.imsi imsi is)) ∙ single.1 in
        absurd (omega (arith, none, some))
    of_others imsi false is some =
        let whole = later imsi is in
        let there = among imsi (omega (arith, whole, some)) in
        let keeps = others limit.imsi imsi all is in
        omega (arith, there, keeps)

pub same_length : (frames one other : List Frame) → AreLimits one frames → AreLimits other frames → length one ≡ length other
same_length frames one other first second =
    let up = no_more one other first.single (λ imsi some. let a = first.same imsi in let b = second.same imsi in omega (arith, some, a, b)) in
    let down = no_more other one second.single (λ imsi some. let a = first.same imsi in let b = second.same imsi in omega (arith, some, a, b)) in
    omega (arith, up, down)
