-- What the step at the front answers: an attribute that stands there, or the first fault.
use Rattle.std.proofs.Common.{◌≡◌, ◌≢◌, ℕ, ◌<◌, Bool, true, false, cond, ◌||◌, List, [], ◌∷◌, length, get_or, Option, Some, Result, Ok, Err, IfOk, IfErr, refl, sym, ap, ◌∙◌, arith, eq-eqb}
use Rattle.auc_attr.specs.declared.front.Found.{Found}
use Rattle.auc_attr.specs.declared.refusal.AttrRefusal.{AttrRefusal}
use Rattle.auc_attr.specs.declared.refusal.AttrRefusal.TheVariants as refusal
use Rattle.auc_attr.specs.declared.table.Table.{Table}
use Rattle.auc_attr.specs.Conditions.{first_of}
use Rattle.auc_attr.specs.Fault.{kind_at, attr_faults_in}
use Rattle.auc_attr.specs.Grammar.{IsAttrIn, IsFaultIn}
use Rattle.auc_attr.specs.InnerFront.{Gives, item_at}
use Rattle.auc_attr.specs.Item.{Item, item}
use Rattle.auc_attr.specs.Spelling.{stands_in, fits_item_in}
use Rattle.auc_attr.proofs.Tools.{IsBytes, some_is}
use Rattle.auc_attr.proofs.FaultLemmas.{item_fault}
use Rattle.auc_attr.proofs.ItemLemmas.{attr_sound, attr_fits, attr_shorter}

-- ---- lack of memory is no fault of bytes

-- none of some faults is a lack of memory
abbrev AreNamed : List (Bool × AttrRefusal) → Type 0
AreNamed [] = Unit {0}
AreNamed (test ∷ more) = (test.1 ≢ refusal.NoMemory) × AreNamed more

by_test : (b : Bool) (f : AttrRefusal) (o : Option AttrRefusal) → f ≢ refusal.NoMemory → (o ≡ Some refusal.NoMemory → ⊥) → cond b (Some f) o ≡ Some refusal.NoMemory → ⊥
by_test true f o g h e = g (some_is f refusal.NoMemory e)
by_test false f o g h e = h e

never : (faults : List (Bool × AttrRefusal)) → AreNamed faults → first_of faults ≡ Some refusal.NoMemory → ⊥
never [] n e = cc
never (test ∷ more) n e = by_test test.0 test.1 (first_of more) n.0 (never more n.1) e

truncated : refusal.Truncated ≢ refusal.NoMemory
truncated e = cc

unknown : (k : ℕ) → refusal.UnknownType k ≢ refusal.NoMemory
unknown k e = cc

twice : (k : ℕ) → refusal.Twice k ≢ refusal.NoMemory
twice k e = cc

zero_length : refusal.ZeroLength ≢ refusal.NoMemory
zero_length e = cc

bad_length : (k : ℕ) → refusal.BadLength k ≢ refusal.NoMemory
bad_length k e = cc

bad_padding : refusal.BadPadding ≢ refusal.NoMemory
bad_padding e = cc

-- a lack of memory is no fault of bytes
named : (table : Table) (seen bytes : List ℕ) → first_of (attr_faults_in table seen bytes) ≡ Some refusal.NoMemory → ⊥
unfolding attr_faults_in
named table seen bytes e =
    let kind = get_or bytes 0 0 in
    never (attr_faults_in table seen bytes) (truncated, (unknown kind, (twice kind, (zero_length, (truncated, (bad_length kind, (bad_padding, tt))))))) e

-- ---- what the step answers

-- types of which one stands or doesn't, as a step was told
seen_for : (stood : Bool) (kind : ℕ) → (seen : List ℕ) × (stood ≡ stands_in seen kind)
seen_for true kind = (kind ∷ [], sym (ap (λ b. b || false) (eq-eqb kind kind refl)))
seen_for false kind = ([], refl)

-- what a reader's attribute and rest are
abbrev pub seen_as : Found → Item × List ℕ
seen_as f = (item f.kind f.value.now, f.rest.now)

module _ (table : Table) (stood : Bool) where
  -- an attribute that is found stands there
  pub found_from : (bytes : List ℕ) (r : Result Found AttrRefusal) → 0 < length bytes → IsBytes bytes → Gives seen_as r (item_at table stood bytes)
      → IfOk r (λ f. (seen : List ℕ) → stood ≡ stands_in seen (kind_at bytes) → IsAttrIn table seen (item f.kind f.value.now) bytes f.rest.now)
  found_from [] r some fits e = absurd (omega arith)
  found_from (kind ∷ bytes) (Ok f) some fits e = λ seen tells.
      attr_sound table seen kind bytes (item f.kind f.value.now) f.rest.now fits (ap (λ b. item_at table b (kind ∷ bytes)) (sym tells) ∙ e)
  found_from (kind ∷ bytes) (Err d) some fits e = tt

  -- it has a spelling
  pub fits_from : (bytes : List ℕ) (r : Result Found AttrRefusal) → 0 < length bytes → IsBytes bytes → Gives seen_as r (item_at table stood bytes)
      → IfOk r (λ f. fits_item_in table (item f.kind f.value.now) ≡ true)
  fits_from bytes (Ok f) some fits e =
      let seen = seen_for stood (kind_at bytes) in
      attr_fits table seen.0 (item f.kind f.value.now) bytes f.rest.now (found_from bytes (Ok f) some fits e seen.0 seen.1) fits
  fits_from bytes (Err d) some fits e = tt

  -- the rest is shorter
  pub shorter_from : (bytes : List ℕ) (r : Result Found AttrRefusal) → 0 < length bytes → IsBytes bytes → Gives seen_as r (item_at table stood bytes)
      → IfOk r (λ f. length f.rest.now < length bytes)
  shorter_from bytes (Ok f) some fits e =
      let seen = seen_for stood (kind_at bytes) in
      attr_shorter table seen.0 (item f.kind f.value.now) bytes f.rest.now (found_from bytes (Ok f) some fits e seen.0 seen.1)
  shorter_from bytes (Err d) some fits e = tt

  -- a fault that is found is the first
  pub fault_from : (bytes : List ℕ) (r : Result Found AttrRefusal) → 0 < length bytes → Gives seen_as r (item_at table stood bytes)
      → IfErr r (λ f. (seen : List ℕ) → stood ≡ stands_in seen (kind_at bytes) → IsFaultIn table seen bytes f)
  fault_from [] r some e = absurd (omega arith)
  fault_from (kind ∷ bytes) (Ok f) some e = tt
  fault_from (kind ∷ bytes) (Err d) some e = λ seen tells. item_fault table seen kind bytes d (ap (λ b. item_at table b (kind ∷ bytes)) (sym tells) ∙ e)

  -- it isn't a lack of memory
  pub named_from : (bytes : List ℕ) (r : Result Found AttrRefusal) → 0 < length bytes → Gives seen_as r (item_at table stood bytes)
      → IfErr r (λ f. f ≢ refusal.NoMemory)
  named_from bytes (Ok f) some e = tt
  named_from bytes (Err d) some e =
      let seen = seen_for stood (kind_at bytes) in
      λ lack. named table seen.0 bytes ((fault_from bytes (Err d) some e seen.0 seen.1).first ∙ ap (λ (x : AttrRefusal). Some x) lack)
