-- The attribute that is read at the front is the one that the grammar has there, and the other way round.
use Rattle.std.proofs.Common.{◌≡◌, ℕ, ◌+◌, ◌-◌, ◌*◌, ◌<◌, ◌≤◌, Bool, true, false, ◌&&◌, ltb, eqb, List, [], ◌∷◌, ◌++◌, length, get_or, take, drop, Option, Some, None, Result, Ok, refl, sym, ap, ◌∙◌, subst, arith, length-append}
use Rattle.std.proofs.lemmas.Bool.{ltb-false, le-ltb}
use Rattle.std.proofs.lemmas.Bool.Decides.{nat_tests}
use Rattle.std.proofs.lemmas.List.{length-take, take-append-drop, take_at, drop_at}
use Rattle.auc_attr.specs.declared.refusal.AttrRefusal.{AttrRefusal}
use Rattle.auc_attr.specs.declared.refusal.AttrRefusal.TheVariants as refusal
use Rattle.auc_attr.specs.declared.table.Row.{Row}
use Rattle.auc_attr.specs.declared.table.Table.{Table}
use Rattle.auc_attr.specs.declared.table.Table.TheVariants as tables
use Rattle.auc_attr.specs.Table.{row_in}
use Rattle.auc_attr.specs.Item.{Item, item}
use Rattle.auc_attr.specs.InnerFront.{value_at, row_at, known_at, item_at}
use Rattle.auc_attr.specs.Grammar.{IsBody, IsAttrIn}
use Rattle.auc_attr.specs.Spelling.{stands_in, fits, fits_row, fits_item, sim_fits_item, fits_item_in}
use Rattle.auc_attr.proofs.Tools.{IsBytes, IsBytes-take, IsBytes-drop, IsBytes-tail, bind_ok, passed, ok_is}
use Rattle.auc_attr.proofs.ValueLemmas.{body_sound, body_again, body_fits}

-- a number that is not 0 is above it
eqb-not : (a : ℕ) → eqb a 0 ≡ false → 0 < a
eqb-not a h = grind (arith, nat_tests)

-- an item has a spelling if its row has one for its value
pub fits_item-is : (table : Table) (i : Item) → fits_item_in table i ≡ fits_row (row_in table i.kind) i.value
unfolding fits_item sim_fits_item
fits_item-is tables.Aka i = refl
fits_item-is tables.Sim i = refl

module _ (table : Table) where
  -- an attribute that is read by its row is there
  row_sound : (seen : List ℕ) (row : Row) (kind units : ℕ) (after : List ℕ) (i : Item) (rest : List ℕ) → IsBytes after → row_in table kind ≡ Some row
      → row_at row (stands_in seen kind) kind units after ≡ Ok (i, rest) → IsAttrIn table seen i (kind ∷ units ∷ after) rest
  row_sound seen row kind units after i rest fits known e =
      let size = 4 * units - 2 in
      let body = take size after in
      let value_then : List ℕ → Result (Item × List ℕ) AttrRefusal = λ value. Ok (item kind value, drop size after) in
      let p = passed (row.once && stands_in seen kind) (refusal.Twice kind) _ (i, rest) e in
      let q = passed (eqb units 0) refusal.ZeroLength _ (i, rest) p.1 in
      let r = passed (ltb (length after + 2) (4 * units)) refusal.Truncated _ (i, rest) q.1 in
      let b = bind_ok (value_at row.shape kind body) value_then (i, rest) r.1 in
      let some : 0 < units = eqb-not units q.0 in
      let enough : 4 * units ≤ length after + 2 = ltb-false (length after + 2) (4 * units) r.0 in
      let long : length body + 2 ≡ 4 * units = omega (arith, length-take size after) in
      let pair : ◌≡◌ {A = Item × List ℕ} (item kind b.0, drop size after) (i, rest) = ok_is _ _ b.2 in
      let attr : IsAttrIn table seen (item kind b.0) (kind ∷ units ∷ after) (drop size after) = record {
        row = row;
        known = known;
        first = p.0;
        units = units;
        some = some;
        body = body;
        size = long;
        parts = ap (λ (x : List ℕ). kind ∷ units ∷ x) (sym (take-append-drop size after));
        value = body_sound row.shape kind body b.0 (omega arith) (IsBytes-take size after fits) b.1;
      } in
      subst (λ (x : Item × List ℕ). IsAttrIn table seen x.0 (kind ∷ units ∷ after) x.1) pair attr

  -- an attribute that is read by its type is there
  known_sound : (seen : List ℕ) (o : Option Row) (kind units : ℕ) (after : List ℕ) (i : Item) (rest : List ℕ) → IsBytes after → row_in table kind ≡ o
      → known_at o (stands_in seen kind) kind units after ≡ Ok (i, rest) → IsAttrIn table seen i (kind ∷ units ∷ after) rest
  known_sound seen None kind units after i rest fits known e = absurd cc
  known_sound seen (Some row) kind units after i rest fits known e = row_sound seen row kind units after i rest fits known e

  -- what is read at the front is there
  pub attr_sound : (seen : List ℕ) (kind : ℕ) (bytes : List ℕ) (i : Item) (rest : List ℕ) → IsBytes (kind ∷ bytes)
      → item_at table (stands_in seen kind) (kind ∷ bytes) ≡ Ok (i, rest) → IsAttrIn table seen i (kind ∷ bytes) rest
  unfolding item_at
  attr_sound seen kind [] i rest fits e = absurd cc
  attr_sound seen kind (units ∷ after) i rest fits e =
      known_sound seen (row_in table kind) kind units after i rest (IsBytes-tail units after (IsBytes-tail kind (units ∷ after) fits)) refl e

  -- an attribute that is there is read by its row
  row_again : (row : Row) (stood : Bool) (kind units : ℕ) (body value rest : List ℕ) → (row.once && stood) ≡ false → 0 < units → length body + 2 ≡ 4 * units
      → IsBody row.shape body value → row_at row stood kind units (body ++ rest) ≡ Ok (item kind value, rest)
  row_again row stood kind units body value rest first some size p =
      let len : length body ≡ 4 * units - 2 = omega arith in
      let not_zero : eqb units 0 ≡ false = grind (arith, nat_tests) in
      let enough : ltb (length (body ++ rest) + 2) (4 * units) ≡ false = le-ltb _ _ (omega (arith, length-append body rest)) in
      rw (first, not_zero, enough, take_at body rest (4 * units - 2) len, body_again row.shape kind body value units size p, drop_at body rest (4 * units - 2) len) refl

  -- what is there is read at the front
  pub attr_again : (seen : List ℕ) (i : Item) (bytes rest : List ℕ) → IsAttrIn table seen i bytes rest → item_at table (stands_in seen i.kind) bytes ≡ Ok (i, rest)
  unfolding item_at
  attr_again seen i bytes rest p =
      ap (λ (b : List ℕ). item_at table (stands_in seen i.kind) b) p.parts
      ∙ ap (λ (o : Option Row). known_at o (stands_in seen i.kind) i.kind p.units (p.body ++ rest)) p.known
      ∙ row_again p.row (stands_in seen i.kind) i.kind p.units p.body i.value rest p.first p.some p.size p.value

  -- the length in units is a byte
  units_small : (seen : List ℕ) (i : Item) (bytes rest : List ℕ) (p : IsAttrIn table seen i bytes rest) → IsBytes bytes → p.units < 256
  units_small seen i bytes rest p fits = subst (λ (b : List ℕ). get_or b 1 0 < 256) p.parts (fits 1)

  -- what is there has a spelling
  pub attr_fits : (seen : List ℕ) (i : Item) (bytes rest : List ℕ) → IsAttrIn table seen i bytes rest → IsBytes bytes → fits_item_in table i ≡ true
  attr_fits seen i bytes rest p fits =
      fits_item-is table i ∙ ap (λ (o : Option Row). fits_row o i.value) p.known ∙ body_fits p.row.shape p.body i.value p.units p.some (units_small seen i bytes rest p fits) p.size p.value

  -- an attribute is its type, its length and its body, and the rest follows
  front_is : (seen : List ℕ) (i : Item) (bytes rest : List ℕ) (p : IsAttrIn table seen i bytes rest) → bytes ≡ (i.kind ∷ p.units ∷ p.body) ++ rest
  front_is seen i bytes rest p = p.parts

  -- the bytes after an attribute are bytes
  pub attr_rest : (seen : List ℕ) (i : Item) (bytes rest : List ℕ) → IsAttrIn table seen i bytes rest → IsBytes bytes → IsBytes rest
  attr_rest seen i bytes rest p fits =
      let front = i.kind ∷ p.units ∷ p.body in
      subst IsBytes (ap (λ (b : List ℕ). drop (length front) b) (front_is seen i bytes rest p) ∙ drop_at front rest (length front) refl) (IsBytes-drop (length front) bytes fits)

  -- they are fewer
  pub attr_shorter : (seen : List ℕ) (i : Item) (bytes rest : List ℕ) → IsAttrIn table seen i bytes rest → length rest < length bytes
  attr_shorter seen i bytes rest p = omega (arith, ap length (front_is seen i bytes rest p), length-append p.body rest)
