-- The limits of a group: for the keeper's preparation.
use Rattle.std.proofs.Common.{◌≡◌, ◌≢◌, ℕ, zero, suc, ◌+◌, ◌≤◌, ◌<◌, List, [], ◌∷◌, ◌++◌, length, take, get_or, All, refl, sym, ◌∙◌, ap, subst, arith, true≢false}
use Rattle.std.specs.Prelude.{AllPairs, Bool, true, false, max, slice_index, slice_set, if◌then◌else◌}
use Rattle.std.proofs.Math.Seq.{take-suc}
use Rattle.std.proofs.lemmas.Grind.{get_or-set_at}
use Rattle.std.proofs.lemmas.List.{ext_get_or, get_or-set_other, length-map, length-set}
use Rattle.std.proofs.lemmas.List.Elements.{All-head, All-tail}
use Rattle.auc_memory.specs.Identity.{Identity}
use Rattle.auc_journal.specs.Durable.{AdmitsAll}
use Rattle.auc_journal.specs.Image.{reserved_in, same_identity}
use Rattle.auc_journal.specs.Journal.{JournalState, frames_at, frames_for, imsi_at, limits_of, reserved_at}
use Rattle.auc_journal.specs.Limits.{AreLimits}
use Rattle.auc_journal.proofs.Facts.{limits_at, one_place, reserved-append, same-same, same_is}
use Rattle.auc_keeper.specs.Keeper.{set_all}

-- no two items are of one subscriber
abbrev pub AreApart : List (ℕ × ℕ) → Type 0
AreApart items = AllPairs (λ (a b : ℕ × ℕ). a.0 ≢ b.0) items

pub apart_tail : (item : ℕ × ℕ) (items : List (ℕ × ℕ)) → AreApart (item ∷ items) → AreApart items
apart_tail item items apart = λ i j d less inside. apart (suc i) (suc j) d (omega (arith, less)) (omega (arith, inside))

pub apart_head : (item : ℕ × ℕ) (items : List (ℕ × ℕ)) → AreApart (item ∷ items) → All (λ other. item.0 ≢ other.0) items
apart_head item items apart = λ j d inside. apart zero (suc j) d (omega arith) (omega (arith, inside))

-- what is reserved for a subscriber after a group is its limit among those that were set
module _ (imsis : List Identity) (differ : AllPairs (λ a b. a ≢ b) imsis) (i : ℕ) (inside : i < length imsis) where
  pub set_reserved : (items : List (ℕ × ℕ)) (base : List ℕ) (was : ℕ) → AreApart items → All (λ item. item.0 < length imsis) items → length base ≡ length imsis → slice_index base i ≡ was
      → All (λ item. item.0 ≡ i → was < item.1) items → max was (reserved_in (frames_at imsis items) (imsi_at imsis i)) ≡ slice_index (set_all base items) i
  set_reserved [] base was apart known size is above = omega (arith, is)
  set_reserved (item ∷ items) base was apart known size is above =
      by (λ now at more. set_reserved items (slice_set base item.0 item.1) now (apart_tail item items apart) (All-tail (λ (x : ℕ × ℕ). x.0 < length imsis) item items known) (length-set base item.0 item.1 ∙ size) at more)
      (same_identity (imsi_at imsis item.0) (imsi_at imsis i)) refl
    where
      there : item.0 < length imsis
      there = All-head (λ (x : ℕ × ℕ). x.0 < length imsis) item items known

      rest : ℕ
      rest = reserved_in (frames_at imsis items) (imsi_at imsis i)

      next : List ℕ
      next = slice_set base item.0 item.1

      by : ((now : ℕ) → slice_index next i ≡ now → All (λ (x : ℕ × ℕ). x.0 ≡ i → now < x.1) items → max now rest ≡ slice_index (set_all next items) i)
          → (test : Bool) → same_identity (imsi_at imsis item.0) (imsi_at imsis i) ≡ test → max was (if test then max item.1 rest else rest) ≡ slice_index (set_all next items) i
      by further true same =
          let at : item.0 ≡ i = one_place imsis differ item.0 i there inside (same_is (imsi_at imsis item.0) (imsi_at imsis i) same) in
          let here : slice_index next i ≡ item.1 = get_or-set_at base item.0 i item.1 0 (sym at) (omega (arith, there, size)) in
          let less : was < item.1 = All-head (λ (x : ℕ × ℕ). x.0 ≡ i → was < x.1) item items above at in
          let all : max item.1 rest ≡ slice_index (set_all next items) i = further item.1 here (λ j d more other. absurd (apart_head item items apart j d more (at ∙ sym other))) in
          omega (arith, less, all)
      by further false same =
          let other : i ≢ item.0 = λ at.
          true≢false (sym (same-same (imsi_at imsis i)) ∙ ap (λ (k : ℕ). same_identity (imsi_at imsis k) (imsi_at imsis i)) at ∙ same) in
          further was (get_or-set_other base item.0 i item.1 0 other ∙ is) (All-tail (λ (x : ℕ × ℕ). x.0 ≡ i → was < x.1) item items above)

-- a limit that isn't the group's is as it was
pub set_other : (items : List (ℕ × ℕ)) (base : List ℕ) (i : ℕ) → All (λ item. i ≢ item.0) items → slice_index (set_all base items) i ≡ slice_index base i
set_other [] base i others = refl
set_other (item ∷ items) base i others =
    set_other items (slice_set base item.0 item.1) i (All-tail (λ (x : ℕ × ℕ). i ≢ x.0) item items others)
    ∙ get_or-set_other base item.0 i item.1 0 (All-head (λ (x : ℕ × ℕ). i ≢ x.0) item items others)

-- and one of the group's is the group's
pub set_own : (items : List (ℕ × ℕ)) (base : List ℕ) → AreApart items → All (λ item. item.0 < length base) items → (j : ℕ) (d : ℕ × ℕ) → j < length items → slice_index (set_all base items) (get_or items j d).0 ≡ (get_or items j d).1
set_own [] base apart known j d more = absurd (omega (arith, more))
set_own (item ∷ items) base apart known zero d more =
    set_other items (slice_set base item.0 item.1) item.0 (apart_head item items apart)
    ∙ get_or-set_at base item.0 item.0 item.1 0 refl (All-head (λ (x : ℕ × ℕ). x.0 < length base) item items known)
set_own (item ∷ items) base apart known (suc j) d more =
    set_own items (slice_set base item.0 item.1) (apart_tail item items apart)
    (λ k e inside. omega (arith, All-tail (λ (x : ℕ × ℕ). x.0 < length base) item items known k e inside, length-set base item.0 item.1)) j d (omega (arith, more))

-- limits that are set one after the other
set_more : (items : List (ℕ × ℕ)) (base : List ℕ) (item : ℕ × ℕ) → set_all base (items ++ item ∷ []) ≡ slice_set (set_all base items) item.0 item.1
set_more [] base item = refl
set_more (first ∷ items) base item = set_more items (slice_set base first.0 first.1) item

pub set_next : (items : List (ℕ × ℕ)) (base : List ℕ) (i : ℕ) (d : ℕ × ℕ) → i < length items → set_all base (take (i + 1) items) ≡ slice_set (set_all base (take i items)) (get_or items i d).0 (get_or items i d).1
set_next items base i d inside = ap (set_all base) (ap (λ (n : ℕ). take n items) (next i) ∙ take-suc items i d inside) ∙ set_more (take i items) base (get_or items i d)
  where
    next : (n : ℕ) → n + 1 ≡ suc n
    next n = omega arith

-- the next one is as it was before them
pub set_before : (items : List (ℕ × ℕ)) (base : List ℕ) (i : ℕ) (d : ℕ × ℕ) → AreApart items → i < length items → slice_index (set_all base (take i items)) (get_or items i d).0 ≡ slice_index base (get_or items i d).0
set_before [] base i d apart inside = absurd (omega (arith, inside))
set_before (item ∷ items) base zero d apart inside = refl
set_before (item ∷ items) base (suc i) d apart inside =
    set_before items (slice_set base item.0 item.1) i d (apart_tail item items apart) (omega (arith, inside))
    ∙ get_or-set_other base item.0 (get_or items i d).0 item.1 0 (λ at. apart_head item items apart i d (omega (arith, inside)) (sym at))

-- a bound for each item's subscriber is one for what their frames reserve
pub admits_group : (imsis : List Identity) (most : Identity → ℕ) (items : List (ℕ × ℕ)) → All (λ item. item.1 ≤ most (imsi_at imsis item.0)) items → AdmitsAll (frames_at imsis items) most
admits_group imsis most [] below imsi = omega arith
admits_group imsis most (item ∷ items) below imsi =
    by (same_identity (imsi_at imsis item.0) imsi) refl (admits_group imsis most items (All-tail (λ (x : ℕ × ℕ). x.1 ≤ most (imsi_at imsis x.0)) item items below) imsi)
  where
    rest : ℕ
    rest = reserved_in (frames_at imsis items) imsi

    by : (test : Bool) → same_identity (imsi_at imsis item.0) imsi ≡ test → rest ≤ most imsi → (if test then max item.1 rest else rest) ≤ most imsi
    by true same low =
        let here = All-head (λ (x : ℕ × ℕ). x.1 ≤ most (imsi_at imsis x.0)) item items below in
        omega (arith, low, here, ap most (same_is (imsi_at imsis item.0) imsi same))
    by false same low = low

-- of an identity without a place they reserve nothing
pub reserved_none : (imsis : List Identity) (items : List (ℕ × ℕ)) (imsi : Identity) → All (λ own. own ≢ imsi) imsis → All (λ item. item.0 < length imsis) items → reserved_in (frames_at imsis items) imsi ≡ 0
reserved_none imsis [] imsi others known = refl
reserved_none imsis (item ∷ items) imsi others known =
    by (same_identity (imsi_at imsis item.0) imsi) refl (reserved_none imsis items imsi others (All-tail (λ (x : ℕ × ℕ). x.0 < length imsis) item items known))
  where
    rest : ℕ
    rest = reserved_in (frames_at imsis items) imsi

    by : (test : Bool) → same_identity (imsi_at imsis item.0) imsi ≡ test → rest ≡ 0 → (if test then max item.1 rest else rest) ≡ 0
    by true same none =
        absurd (others item.0 (record { digits = 0; number = 0 }) (All-head (λ (x : ℕ × ℕ). x.0 < length imsis) item items known) (same_is (imsi_at imsis item.0) imsi same))
    by false same none = none

length-set_all : (items : List (ℕ × ℕ)) (base : List ℕ) → length (set_all base items) ≡ length base
length-set_all [] base = refl
length-set_all (item ∷ items) base = length-set_all items (slice_set base item.0 item.1) ∙ length-set base item.0 item.1

module _ {D : Type 0} (old new : JournalState D) (items : List (ℕ × ℕ)) (imsis : new.imsis ≡ old.imsis) (are : AreLimits new.limits (old.limits ++ frames_for old items)) where
  -- what the journal reserves after the group
  pub reserved_all : (i : ℕ) → reserved_at new i ≡ max (reserved_at old i) (reserved_in (frames_for old items) (imsi_at old.imsis i))
  reserved_all i =
      ap (λ (l : List Identity). reserved_in new.limits (imsi_at l i)) imsis
      ∙ are.same (imsi_at old.imsis i)
      ∙ reserved-append old.limits (frames_for old items) (imsi_at old.imsis i)

  -- its limits are those from before, with the group's set
  pub limits_set : AllPairs (λ a b. a ≢ b) old.imsis → AreApart items → All (λ item. item.0 < length old.imsis) items → All (λ item. slice_index (limits_of old) item.0 < item.1) items
      → limits_of new ≡ set_all (limits_of old) items
  limits_set differ apart known above = ext_get_or 0 (limits_of new) (set_all (limits_of old) items) sizes each
    where
      size : length (limits_of new) ≡ length old.imsis
      size = length-map new.imsis (reserved_in new.limits) ∙ ap length imsis

      old_size : length (limits_of old) ≡ length old.imsis
      old_size = length-map old.imsis (reserved_in old.limits)

      sizes : length (limits_of new) ≡ length (set_all (limits_of old) items)
      sizes = size ∙ sym old_size ∙ sym (length-set_all items (limits_of old))

      each : (i : ℕ) → i < length (limits_of new) → slice_index (limits_of new) i ≡ slice_index (set_all (limits_of old) items) i
      each i inside =
          let in_old : i < length old.imsis = omega (arith, inside, size) in
          let here = limits_at old i in_old in
          limits_at new i (subst (λ (l : List Identity). i < length l) (sym imsis) in_old)
          ∙ reserved_all i
          ∙ set_reserved old.imsis differ i in_old items (limits_of old) (reserved_at old i) apart known old_size here
          (λ j d more at. omega (arith, above j d more, ap (slice_index (limits_of old)) at, here))
