-- The steps at the front report the first fault whose condition holds, and find an attribute if there is none.
use Rattle.std.proofs.Common.{◌≡◌, ◌≢◌, ℕ, ◌+◌, ◌-◌, ◌*◌, ◌/◌, ◌%◌, ◌<◌, Bool, true, false, cond, not, ◌&&◌, ◌||◌, ltb, leb, eqb, List, [], ◌∷◌, ◌++◌, length, take, drop, Option, Some, None, Result, Ok, Err, refl, sym, ap, ◌∙◌, arith}
use Rattle.std.specs.List.{list_all}
use Rattle.std.specs.Int.{w16, from_be_bytes}
use Rattle.std.proofs.lemmas.Bool.{le-ltb, ltb-false}
use Rattle.std.proofs.lemmas.Bool.Decides.{nat_tests}
use Rattle.std.proofs.lemmas.List.{length-take}
use Rattle.auc_attr.specs.declared.refusal.AttrRefusal.{AttrRefusal}
use Rattle.auc_attr.specs.declared.refusal.AttrRefusal.TheVariants as refusal
use Rattle.auc_attr.specs.declared.table.Row.{Row}
use Rattle.auc_attr.specs.declared.table.Shape.{Shape}
use Rattle.auc_attr.specs.declared.table.Shape.TheVariants as shape
use Rattle.auc_attr.specs.declared.table.Table.{Table}
use Rattle.auc_attr.specs.Table.{row_in}
use Rattle.auc_attr.specs.Item.{Item, item}
use Rattle.auc_attr.specs.Conditions.{first_of}
use Rattle.auc_attr.specs.Fault.{has_length, has_zeros, faults_by, attr_faults_in}
use Rattle.auc_attr.specs.Grammar.{IsAttrIn, IsFaultIn}
use Rattle.auc_attr.specs.InnerFront.{value_if, counted_value, value_at, row_at, known_at, item_at, ◌>>=◌}
use Rattle.auc_attr.specs.Spelling.{stands_in, is_zero, fill}
use Rattle.auc_attr.proofs.ConditionLemmas.{both, Told, pass, step, told_fault, told_none}
use Rattle.auc_attr.proofs.ItemLemmas.{attr_again}

-- ---- lengths

-- so many bytes are so many units
fixed_is : (size units n : ℕ) → size + 2 ≡ 4 * units → eqb size n ≡ eqb (4 * units) (2 + n)
fixed_is size units n e = both _ _ (λ h. grind (arith, nat_tests)) (λ h. grind (arith, nat_tests))

after_is : (size units n : ℕ) → size + 2 ≡ 4 * units → eqb size (2 + n) ≡ eqb (4 * units) (4 + n)
after_is size units n e = both _ _ (λ h. grind (arith, nat_tests)) (λ h. grind (arith, nat_tests))

hash_is : (size units : ℕ) → size + 2 ≡ 4 * units → (eqb size 2 || eqb size 22 || eqb size 34) ≡ (eqb units 1 || eqb units 6 || eqb units 9)
hash_is size units e = both _ _ (λ h. grind (arith, nat_tests)) (λ h. grind (arith, nat_tests))

zeros_is : (size units : ℕ) → size + 2 ≡ 4 * units → (eqb size 2 || eqb size 6 || eqb size 10) ≡ (eqb units 1 || eqb units 2 || eqb units 3)
zeros_is size units e = both _ _ (λ h. grind (arith, nat_tests)) (λ h. grind (arith, nat_tests))

flag_is : (size units : ℕ) → size + 2 ≡ 4 * units → eqb size 2 ≡ eqb units 1
flag_is size units e = both _ _ (λ h. grind (arith, nat_tests)) (λ h. grind (arith, nat_tests))

-- a count of bits
bits_is : (count size units : ℕ) → size + 2 ≡ 4 * units
    → (((eqb (count % 8) 0 && leb 4 (count / 8)) && leb (count / 8) 16) && eqb size (2 + count / 8 + fill (count / 8)))
    ≡ (((eqb (count % 8) 0 && leb 32 count) && leb count 128) && (leb (32 + count) (32 * units) && ltb (32 * units) (32 + count + 32)))
bits_is count size units e = both _ _ (λ h. grind (arith, nat_tests)) (λ h. grind (arith, nat_tests))

-- a count of bytes
bytes_is : (count size units : ℕ) → size + 2 ≡ 4 * units
    → (((eqb (count % 1) 0 && leb 0 (count / 1)) && leb (count / 1) 1016) && eqb size (2 + count / 1 + fill (count / 1)))
    ≡ (leb count 1016 && (leb (4 + count) (4 * units) && ltb (4 * units) (4 + count + 4)))
bytes_is count size units e = both _ _ (λ h. grind (arith, nat_tests)) (λ h. grind (arith, nat_tests))

-- two or three times 16 bytes
several_is : (size units : ℕ) → size + 2 ≡ 4 * units → (eqb size 34 || eqb size 50) ≡ (eqb units 9 || eqb units 13)
several_is size units e = both _ _ (λ h. grind (arith, nat_tests)) (λ h. grind (arith, nat_tests))

-- a count of the bytes of versions
versions_is : (count size units : ℕ) → size + 2 ≡ 4 * units
    → (eqb (count % 2) 0 && (((eqb (count % 1) 0 && leb 2 (count / 1)) && leb (count / 1) 1016) && eqb size (2 + count / 1 + fill (count / 1))))
    ≡ (((eqb (count % 2) 0 && leb 2 count) && leb count 1016) && (leb (4 + count) (4 * units) && ltb (4 * units) (4 + count + 4)))
versions_is count size units e = both _ _ (λ h. grind (arith, nat_tests)) (λ h. grind (arith, nat_tests))

-- ---- steps

-- the last two faults of an attribute
abbrev value_faults : Shape → ℕ → ℕ → List ℕ → List (Bool × AttrRefusal)
value_faults s kind units body = (not (has_length s units body), refusal.BadLength kind) ∷ (not (has_zeros s body), refusal.BadPadding) ∷ []

-- a value of a tested length
value_told : (b c : Bool) (kind : ℕ) (value : List ℕ) → b ≡ c → Told ((not c, refusal.BadLength kind) ∷ (false, refusal.BadPadding) ∷ []) (value_if b kind value)
value_told true c kind value e = ap (λ d. cond (not d) (Some (refusal.BadLength kind)) None) (sym e)
value_told false c kind value e = ap (λ d. cond (not d) (Some (refusal.BadLength kind)) None) (sym e)

-- zero bytes of a tested length
padding_told : (z : Bool) (body : List ℕ) → Told ((not z, refusal.BadPadding) ∷ []) (cond z (Ok body) (Err refusal.BadPadding))
padding_told true body = refl
padding_told false body = refl

-- the step at a value
shape_told : (s : Shape) (kind units : ℕ) (body : List ℕ) → length body + 2 ≡ 4 * units → Told (value_faults s kind units body) (value_at s kind body)
unfolding value_at
shape_told (shape.Fixed n) kind units body e = value_told _ _ kind body (fixed_is (length body) units n e)
shape_told (shape.AfterReserved n) kind units body e = value_told _ _ kind (drop 2 body) (after_is (length body) units n e)
shape_told shape.BitCounted kind units body e = value_told _ _ kind (counted_value 8 body) (bits_is (from_be_bytes w16 body) (length body) units e)
shape_told shape.ByteCounted kind units body e = value_told _ _ kind (counted_value 1 body) (bytes_is (from_be_bytes w16 body) (length body) units e)
shape_told shape.Several kind units body e = value_told _ _ kind (drop 2 body) (several_is (length body) units e)
shape_told shape.Versions kind units body e = value_told _ _ kind (counted_value 1 body) (versions_is (from_be_bytes w16 body) (length body) units e)
shape_told shape.Ciphertext kind units body e = refl
shape_told shape.Hash kind units body e = value_told _ _ kind (drop 2 body) (hash_is (length body) units e)
shape_told shape.Zeros kind units body e =
    step (not (eqb (length body) 2 || eqb (length body) 6 || eqb (length body) 10)) (not (eqb units 1 || eqb units 2 || eqb units 3)) (refusal.BadLength kind) _ ((not (list_all is_zero body), refusal.BadPadding) ∷ [])
    (ap (λ b. not b) (zeros_is (length body) units e)) (λ right. padding_told (list_all is_zero body) body)
shape_told shape.Flag kind units body e = value_told _ _ kind _ (flag_is (length body) units e)
shape_told shape.Skipped kind units body e = refl

-- what goes on with a value has the value's fault
bind_told : {A B : Type 0} (faults : List (Bool × AttrRefusal)) (r : Result A AttrRefusal) (f : A → B) → Told faults r → Told faults (r >>= λ x. Ok (f x))
bind_told faults (Ok x) f t = t
bind_told faults (Err e) f t = t

-- a number that is not 0 is above it
eqb-not : (a : ℕ) → eqb a 0 ≡ false → 0 < a
eqb-not a h = grind (arith, nat_tests)

-- the steps at a type of the table
row_told : (seen : List ℕ) (row : Row) (kind units : ℕ) (after : List ℕ) → Told (faults_by (Some row) seen (kind ∷ units ∷ after)) (row_at row (stands_in seen kind) kind units after)
row_told seen row kind units after =
    let size = 4 * units - 2 in
    let body = take size after in
    let value_then : List ℕ → Item × List ℕ = λ value. (item kind value, drop size after) in
    let of_value : List (Bool × AttrRefusal) = value_faults row.shape kind units body in
    let of_size : List (Bool × AttrRefusal) = (ltb (length (kind ∷ units ∷ after)) (4 * units), refusal.Truncated) ∷ of_value in
    let of_units : List (Bool × AttrRefusal) = (eqb units 0, refusal.ZeroLength) ∷ of_size in
    let of_type : List (Bool × AttrRefusal) = (row.once && stands_in seen kind, refusal.Twice kind) ∷ of_units in
    pass _ refusal.Truncated _ ((false, refusal.UnknownType kind) ∷ of_type) (le-ltb (length (kind ∷ units ∷ after)) 2 (omega arith))
    (pass false (refusal.UnknownType kind) _ of_type refl
    (step (row.once && stands_in seen kind) (row.once && stands_in seen kind) (refusal.Twice kind) _ of_units refl
    (λ first. step (eqb units 0) (eqb units 0) refusal.ZeroLength _ of_size refl
    (λ some. step (ltb (length after + 2) (4 * units)) (ltb (length (kind ∷ units ∷ after)) (4 * units)) refusal.Truncated _ of_value (ap (λ (n : ℕ). ltb n (4 * units)) (omega arith))
    (λ enough. bind_told of_value (value_at row.shape kind body) value_then
    (shape_told row.shape kind units body (omega (arith, length-take size after, eqb-not units some, ltb-false (length after + 2) (4 * units) enough))))))))

-- the steps at a type
known_told : (seen : List ℕ) (o : Option Row) (kind units : ℕ) (after : List ℕ) → Told (faults_by o seen (kind ∷ units ∷ after)) (known_at o (stands_in seen kind) kind units after)
known_told seen None kind units after =
    ap (λ b. cond b (Some refusal.Truncated) (Some (refusal.UnknownType kind))) (le-ltb (length (kind ∷ units ∷ after)) 2 (omega arith))
known_told seen (Some row) kind units after = row_told seen row kind units after

module _ (table : Table) where
  -- the steps at the front report the first fault, and find an attribute if there is none
  item_told : (seen : List ℕ) (kind : ℕ) (bytes : List ℕ) → Told (attr_faults_in table seen (kind ∷ bytes)) (item_at table (stands_in seen kind) (kind ∷ bytes))
  unfolding item_at attr_faults_in
  item_told seen kind [] = refl
  item_told seen kind (units ∷ after) = known_told seen (row_in table kind) kind units after

  not_empty : (k : ℕ) (bytes : List ℕ) → k ∷ bytes ≢ []
  not_empty k bytes e = cc

  -- a step that fails names the first fault
  pub item_fault : (seen : List ℕ) (kind : ℕ) (bytes : List ℕ) (f : AttrRefusal) → item_at table (stands_in seen kind) (kind ∷ bytes) ≡ Err f → IsFaultIn table seen (kind ∷ bytes) f
  item_fault seen kind bytes f e = record { some = not_empty kind bytes; first = told_fault (attr_faults_in table seen (kind ∷ bytes)) _ f (item_told seen kind bytes) e }

  -- an attribute at the front has no fault
  attr_told : (seen : List ℕ) (i : Item) (bytes rest : List ℕ) → IsAttrIn table seen i bytes rest → first_of (attr_faults_in table seen bytes) ≡ None
  attr_told seen i bytes rest p =
      let whole = p.units ∷ (p.body ++ rest) in
      let again = ap (λ (b : List ℕ). item_at table (stands_in seen i.kind) b) (sym p.parts) ∙ attr_again table seen i bytes rest p in
      ap (λ (b : List ℕ). first_of (attr_faults_in table seen b)) p.parts ∙ told_none (attr_faults_in table seen (i.kind ∷ whole)) _ (i, rest) (item_told seen i.kind whole) again

  -- if an attribute stands there, there is no fault
  pub attr_right : (seen : List ℕ) (i : Item) (bytes rest : List ℕ) (f : AttrRefusal) → IsAttrIn table seen i bytes rest → IsFaultIn table seen bytes f → ⊥
  attr_right seen i bytes rest f p q = none_or_some f (sym (attr_told seen i bytes rest p) ∙ q.first)
    where
      none_or_some : (g : AttrRefusal) → None ≡ Some g → ⊥
      none_or_some g e = cc
