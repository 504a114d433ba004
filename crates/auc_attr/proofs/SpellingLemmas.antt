-- What is written of an attribute is that attribute, whatever follows it; and how many bytes an attribute takes.
use Rattle.std.proofs.Common.{◌≡◌, ℕ, zero, suc, ◌+◌, ◌*◌, ◌/◌, ◌%◌, ◌<◌, ◌≤◌, ◌⊎◌, ◌==◌, nat_le, Bool, true, false, cond, not, ◌&&◌, ◌||◌, ltb, leb, eqb, List, [], ◌∷◌, ◌++◌, length, get_or, replicate, Option, Some, None, refl, sym, ap, ◌∙◌, subst, arith, inl, inr, length-append}
use Rattle.std.specs.List.{list_all}
use Rattle.std.specs.Int.{w16, to_be_bytes}
use Rattle.std.proofs.lemmas.Bool.{eqb-true}
use Rattle.std.proofs.lemmas.Bool.Decides.{nat_tests}
use Rattle.std.proofs.lemmas.List.{append-nil, length-replicate}
use Rattle.auc_attr.specs.declared.attr.Attr.{Attr}
use Rattle.auc_attr.specs.declared.table.Row.{Row}
use Rattle.auc_attr.specs.declared.table.Shape.{Shape}
use Rattle.auc_attr.specs.declared.table.Shape.TheVariants as shape
use Rattle.auc_attr.specs.declared.table.Table.{Table}
use Rattle.auc_attr.specs.declared.table.Table.TheVariants as tables
use Rattle.auc_attr.specs.Table.{single, repeated, row_of, sim_row_of, row_in}
use Rattle.auc_attr.specs.Item.{Item, item_of, items, is_named}
use Rattle.auc_attr.specs.Grammar.{IsAfterReserved, IsCounted, IsBody, IsAttrIn, WalksIn, Walks, ReadsAttrs}
use Rattle.auc_attr.specs.Spelling.{stands_in, is_zero, fill, fits, fits_row, fits_item, fits_item_in, may_stand_row, may_follow_in, may_follow, writable_from_in, writable_from, writable, parts_text, reserved, shape_text, row_text, item_text, sim_item_text, item_text_in, texts_in, spelling}
use Rattle.auc_attr.specs.Laws.{WrittenIsReadIn}
use Rattle.auc_attr.proofs.Tools.{and_parts, and_from}
use Rattle.auc_attr.proofs.ItemLemmas.{fits_item-is}
use Rattle.auc_attr.proofs.ValueLemmas.{filled}

-- the sizes of a row fill whole units
abbrev is_whole : Shape → Bool
is_whole (shape.Fixed n) = eqb (n % 4) 2
is_whole (shape.AfterReserved n) = eqb (n % 4) 0
is_whole _ = true

-- the same of a row that may not be there
abbrev row_is_whole : Option Row → Bool
row_is_whole None = true
row_is_whole (Some row) = is_whole row.shape

-- the same as a fact
record IsWholeRow (o : Option Row) : Type 0 where
  whole : row_is_whole o ≡ true

-- one of two rows that fill whole units does
if_whole : (b : Bool) (x y : Option Row) → row_is_whole x ≡ true → IsWholeRow y → IsWholeRow (cond b x y)
if_whole true x y p q = record { whole = p }
if_whole false x y p q = q

-- each row of EAP-AKA fills whole units
each_is_whole : (kind : ℕ) → IsWholeRow (row_of kind)
unfolding row_of
each_is_whole kind =
    if_whole (kind == 1) (single (shape.AfterReserved 16)) _ refl (
    if_whole (kind == 2) (single (shape.AfterReserved 16)) _ refl (
    if_whole (kind == 3) (single shape.BitCounted) _ refl (
    if_whole (kind == 4) (single (shape.Fixed 14)) _ refl (
    if_whole (kind == 6) (single shape.Zeros) _ refl (
    if_whole (kind == 10) (single (shape.AfterReserved 0)) _ refl (
    if_whole (kind == 11) (single (shape.AfterReserved 16)) _ refl (
    if_whole (kind == 12) (single (shape.Fixed 2)) _ refl (
    if_whole (kind == 13) (single (shape.AfterReserved 0)) _ refl (
    if_whole (kind == 14) (single shape.ByteCounted) _ refl (
    if_whole (kind == 17) (single (shape.AfterReserved 0)) _ refl (
    if_whole (kind == 19) (single (shape.Fixed 2)) _ refl (
    if_whole (kind == 20) (single (shape.AfterReserved 0)) _ refl (
    if_whole (kind == 21) (single (shape.AfterReserved 16)) _ refl (
    if_whole (kind == 22) (single (shape.Fixed 2)) _ refl (
    if_whole (kind == 23) (single shape.ByteCounted) _ refl (
    if_whole (kind == 24) (repeated (shape.Fixed 2)) _ refl (
    if_whole (kind == 129) (single (shape.AfterReserved 16)) _ refl (
    if_whole (kind == 130) (single shape.Ciphertext) _ refl (
    if_whole (kind == 132) (single shape.ByteCounted) _ refl (
    if_whole (kind == 133) (single shape.ByteCounted) _ refl (
    if_whole (kind == 134) (single shape.Hash) _ refl (
    if_whole (kind == 135) (single (shape.AfterReserved 0)) _ refl (
    if_whole (kind == 136) (single shape.Flag) _ refl (
    if_whole (nat_le 128 kind) (repeated shape.Skipped) None refl (record { whole = refl })))))))))))))))))))))))))

-- each row of EAP-SIM fills whole units
each_sim_is_whole : (kind : ℕ) → IsWholeRow (sim_row_of kind)
unfolding sim_row_of
each_sim_is_whole kind =
    if_whole (kind == 1) (single shape.Several) _ refl (
    if_whole (kind == 7) (single (shape.AfterReserved 16)) _ refl (
    if_whole (kind == 10) (single (shape.AfterReserved 0)) _ refl (
    if_whole (kind == 11) (single (shape.AfterReserved 16)) _ refl (
    if_whole (kind == 13) (single (shape.AfterReserved 0)) _ refl (
    if_whole (kind == 14) (single shape.ByteCounted) _ refl (
    if_whole (kind == 15) (single shape.Versions) _ refl (
    if_whole (kind == 16) (single (shape.Fixed 2)) _ refl (
    if_whole (kind == 17) (single (shape.AfterReserved 0)) _ refl (
    if_whole (kind == 22) (single (shape.Fixed 2)) _ refl (
    if_whole (nat_le 128 kind) (repeated shape.Skipped) None refl (record { whole = refl })))))))))))

-- each row of a table fills whole units
each_in_is_whole : (table : Table) (kind : ℕ) → IsWholeRow (row_in table kind)
each_in_is_whole tables.Aka kind = each_is_whole kind
each_in_is_whole tables.Sim kind = each_sim_is_whole kind

-- the bytes of an item are those that its row has for its value
pub item_text-is : (table : Table) (i : Item) → item_text_in table i ≡ row_text (row_in table i.kind) i.kind i.value
unfolding item_text sim_item_text
item_text-is tables.Aka i = refl
item_text-is tables.Sim i = refl

-- how many bytes a body of parts has
parts_length : (front value : List ℕ) (zeros : ℕ) → length (front ++ (value ++ replicate zeros 0)) ≡ length front + length value + zeros
parts_length front value zeros =
    length-append front (value ++ replicate zeros 0) ∙ omega (arith, length-append value (replicate zeros 0), length-replicate {A = ℕ} zeros 0)

-- bytes of an attribute are type, length and a body of that many units
record HasParts (kind : ℕ) (text body : List ℕ) : Type 0 where
  units : ℕ
  some : 0 < units
  size : length body + 2 ≡ 4 * units
  text_is : text ≡ kind ∷ units ∷ body

-- parts that fill whole units are an attribute
parts_have : (kind : ℕ) (front value : List ℕ) (zeros : ℕ) → (length front + length value + zeros) % 4 ≡ 2
    → HasParts kind (parts_text kind front value zeros) (front ++ (value ++ replicate zeros 0))
parts_have kind front value zeros e = record {
  units = (length front + length value + zeros + 2) / 4;
  some = omega arith;
  size = omega (arith, parts_length front value zeros);
  text_is = refl;
}

-- one of three tests of a number held
three_sizes : (n a b c : ℕ) → (eqb n a || eqb n b || eqb n c) ≡ true → (n ≡ a) ⊎ ((n ≡ b) ⊎ (n ≡ c))
three_sizes n a b c e = grind (arith, nat_tests)

-- a test of an order that held
leb-le : (a b : ℕ) → leb a b ≡ true → a ≤ b
leb-le a b e = grind (arith, nat_tests)

-- a hash after two bytes fills whole units
hash_whole : (n : ℕ) → (n ≡ 0) ⊎ ((n ≡ 20) ⊎ (n ≡ 32)) → (2 + n + 0) % 4 ≡ 2
hash_whole n (inl e) = rw e refl
hash_whole n (inr (inl e)) = rw e refl
hash_whole n (inr (inr e)) = rw e refl

-- two or three times 16 bytes after two fill whole units
several_whole : (n : ℕ) → (n ≡ 32) ⊎ (n ≡ 48) → (2 + n + 0) % 4 ≡ 2
several_whole n (inl e) = rw e refl
several_whole n (inr e) = rw e refl

-- one of two tests of a number held
two_sizes : (n a b : ℕ) → (eqb n a || eqb n b) ≡ true → (n ≡ a) ⊎ (n ≡ b)
two_sizes n a b e = grind (arith, nat_tests)

-- a padding fills whole units
zeros_whole : (n : ℕ) → (n ≡ 2) ⊎ ((n ≡ 6) ⊎ (n ≡ 10)) → (0 + n + 0) % 4 ≡ 2
zeros_whole n (inl e) = rw e refl
zeros_whole n (inr (inl e)) = rw e refl
zeros_whole n (inr (inr e)) = rw e refl

-- the top bit of 128 times a bit is the bit
flag_value : (value : List ℕ) → length value ≡ 1 → get_or value 0 0 ≤ 1 → value ≡ cond (ltb (128 * get_or value 0 0) 128) 0 1 ∷ []
flag_value [] e f = absurd (omega arith)
flag_value (zero ∷ []) e f = refl
flag_value (suc zero ∷ []) e f = refl
flag_value (suc (suc n) ∷ []) e f = absurd (omega arith)
flag_value (a ∷ b ∷ value) e f = absurd (omega arith)

-- a value after two zero bytes is one after two reserved bytes
behind : (value : List ℕ) → IsAfterReserved (reserved ++ (value ++ [])) value
behind value = record { free = reserved; two = refl; parts = ap (λ (v : List ℕ). reserved ++ v) (append-nil value) }

-- a value that fits a shape stands in its spelling
shape_body : (s : Shape) (kind : ℕ) (value : List ℕ) → is_whole s ≡ true → fits s value ≡ true → (body : List ℕ) × HasParts kind (shape_text s kind value) body × IsBody s body value
unfolding fits shape_text
shape_body (shape.Fixed n) kind value w f =
    let size : length value ≡ n = eqb-true (length value) n f in
    let whole : n % 4 ≡ 2 = eqb-true (n % 4) 2 w in
    (value ++ [], parts_have kind [] value 0 (omega arith), (size, append-nil value))
shape_body (shape.AfterReserved n) kind value w f =
    let size : length value ≡ n = eqb-true (length value) n f in
    let whole : n % 4 ≡ 0 = eqb-true (n % 4) 0 w in
    (reserved ++ (value ++ []), parts_have kind reserved value 0 (omega arith), (size, behind value))
shape_body shape.BitCounted kind value w f =
    let p = and_parts (leb 4 (length value)) (leb (length value) 16) f in
    let n = length value in (
      to_be_bytes w16 (8 * n) ++ (value ++ replicate (fill n) 0),
      parts_have kind (to_be_bytes w16 (8 * n)) value (fill n) (omega arith),
      record {
        at_least = leb-le 4 n p.0;
        at_most = leb-le n 16 p.1;
        filling = replicate (fill n) 0;
        short = omega (arith, length-replicate {A = ℕ} (fill n) 0);
        parts = refl;
      },
    )
shape_body shape.ByteCounted kind value w f =
    let n = length value in (
      to_be_bytes w16 n ++ (value ++ replicate (fill n) 0),
      parts_have kind (to_be_bytes w16 n) value (fill n) (omega arith),
      record {
        at_least = omega arith;
        at_most = leb-le n 1016 f;
        filling = replicate (fill n) 0;
        short = omega (arith, length-replicate {A = ℕ} (fill n) 0);
        parts = ap (λ (m : ℕ). to_be_bytes w16 m ++ (value ++ replicate (fill n) 0)) (omega arith);
      },
    )
shape_body shape.Several kind value w f =
    let sizes = two_sizes (length value) 32 48 f in
    (reserved ++ (value ++ []), parts_have kind reserved value 0 (several_whole (length value) sizes), (sizes, behind value))
shape_body shape.Versions kind value w f =
    let n = length value in
    let p = and_parts (eqb (n % 2) 0 && leb 2 n) (leb n 1016) f in
    let q = and_parts (eqb (n % 2) 0) (leb 2 n) p.0 in (
      to_be_bytes w16 n ++ (value ++ replicate (fill n) 0),
      parts_have kind (to_be_bytes w16 n) value (fill n) (omega arith),
      (
        eqb-true (n % 2) 0 q.0,
        record {
          at_least = leb-le 2 n q.1;
          at_most = leb-le n 1016 p.1;
          filling = replicate (fill n) 0;
          short = omega (arith, length-replicate {A = ℕ} (fill n) 0);
          parts = ap (λ (m : ℕ). to_be_bytes w16 m ++ (value ++ replicate (fill n) 0)) (omega arith);
        },
      ),
    )
shape_body shape.Ciphertext kind value w f =
    let p = and_parts (leb (length value) 1016) (eqb (length value % 4) 0) f in
    let whole : length value % 4 ≡ 0 = eqb-true (length value % 4) 0 p.1 in
    (reserved ++ (value ++ []), parts_have kind reserved value 0 (omega arith), behind value)
shape_body shape.Hash kind value w f =
    let sizes = three_sizes (length value) 0 20 32 f in
    (reserved ++ (value ++ []), parts_have kind reserved value 0 (hash_whole (length value) sizes), (sizes, behind value))
shape_body shape.Zeros kind value w f =
    let p = and_parts (eqb (length value) 2 || eqb (length value) 6 || eqb (length value) 10) (list_all is_zero value) f in
    let sizes = three_sizes (length value) 2 6 10 p.0 in
    (value ++ [], parts_have kind [] value 0 (zeros_whole (length value) sizes), (sizes, p.1, append-nil value))
shape_body shape.Flag kind value w f =
    let p = and_parts (eqb (length value) 1) (leb (get_or value 0 0) 1) f in (
      128 * get_or value 0 0 ∷ 0 ∷ [],
      parts_have kind (128 * get_or value 0 0 ∷ 0 ∷ []) [] 0 refl,
      record {
        first = 128 * get_or value 0 0;
        second = 0;
        parts = refl;
        top = flag_value value (eqb-true (length value) 1 p.0) (leb-le (get_or value 0 0) 1 p.1);
      },
    )
shape_body shape.Skipped kind value w f =
    let p = and_parts (leb 2 (length value) && leb (length value) 1018) (eqb (length value % 4) 2) f in
    let whole : length value % 4 ≡ 2 = eqb-true (length value % 4) 2 p.1 in
    (value ++ [], parts_have kind [] value 0 (omega arith), append-nil value)

-- a test whose contrary held
not-true : (b : Bool) → not b ≡ true → b ≡ false
not-true true e = absurd cc
not-true false e = refl

module _ (table : Table) where
  -- what is written by a row is the attribute
  spelled_row : (seen : List ℕ) (i : Item) (rest : List ℕ) (o : Option Row) → row_in table i.kind ≡ o → row_is_whole o ≡ true → fits_row o i.value ≡ true
      → may_stand_row o (stands_in seen i.kind) ≡ true → IsAttrIn table seen i (row_text o i.kind i.value ++ rest) rest
  spelled_row seen i rest None known w f may = absurd cc
  spelled_row seen i rest (Some row) known w f may =
      let b = shape_body row.shape i.kind i.value w f in
      record {
        row = row;
        known = known;
        first = not-true (row.once && stands_in seen i.kind) may;
        units = b.1.units;
        some = b.1.some;
        body = b.0;
        size = b.1.size;
        parts = ap (λ (t : List ℕ). t ++ rest) b.1.text_is;
        value = b.2;
      }

  -- what is written of an attribute is that attribute, whatever follows it
  pub spelled_attr : (seen : List ℕ) (i : Item) (rest : List ℕ) → fits_item_in table i ≡ true → may_stand_row (row_in table i.kind) (stands_in seen i.kind) ≡ true
      → IsAttrIn table seen i (item_text_in table i ++ rest) rest
  spelled_attr seen i rest f may =
      subst (λ (t : List ℕ). IsAttrIn table seen i (t ++ rest) rest) (sym (item_text-is table i))
      (spelled_row seen i rest (row_in table i.kind) refl (each_in_is_whole table i.kind).whole (sym (fits_item-is table i) ∙ f) may)

  -- what is written of items is read as these items
  pub spelled_items : (seen : List ℕ) (is : List Item) → writable_from_in table seen is ≡ true → WalksIn table seen (texts_in table is) is None
  spelled_items seen [] e = refl
  spelled_items seen (i ∷ is) e =
      let p = and_parts (may_follow_in table i (stands_in seen i.kind)) (writable_from_in table (seen ++ i.kind ∷ []) is) e in
      let q = and_parts (fits_item_in table i) (may_stand_row (row_in table i.kind) (stands_in seen i.kind)) p.0 in
      (texts_in table is, spelled_attr seen i (texts_in table is) q.0 q.1, spelled_items (seen ++ i.kind ∷ []) is p.1)

  -- the same from the front of a message
  pub written_is_read_in : WrittenIsReadIn table
  written_is_read_in is e = spelled_items [] is e

-- what is written of a list is read as that list
pub spelled_list : (seen : List ℕ) (list : List Attr) → writable_from seen list ≡ true → Walks seen (spelling list) (items list) None × (list_all is_named list ≡ true)
spelled_list seen [] e = (refl, refl)
spelled_list seen (a ∷ list) e =
    let kind = (item_of a).kind in
    let p = and_parts (may_follow a (stands_in seen kind)) (writable_from (seen ++ kind ∷ []) list) e in
    let q = and_parts (fits_item (item_of a) && is_named a) (may_stand_row (row_of kind) (stands_in seen kind)) p.0 in
    let r = and_parts (fits_item (item_of a)) (is_named a) q.0 in
    let more = spelled_list (seen ++ kind ∷ []) list p.1 in
    ((spelling list, spelled_attr tables.Aka seen (item_of a) (spelling list) r.0 q.1, more.0), and_from (is_named a) (list_all is_named list) r.1 more.1)

-- what is written of a list that may be written is read as that list
pub written_attributes_are_read : (list : List Attr) → writable list ≡ true → ReadsAttrs (spelling list) list
written_attributes_are_read list e = spelled_list [] list e

-- how many bytes an attribute of parts has
parts_size : (kind : ℕ) (front value : List ℕ) (zeros : ℕ) → length (parts_text kind front value zeros) ≡ length front + length value + zeros + 2
parts_size kind front value zeros = omega (arith, parts_length front value zeros)

-- a value after its length takes as many bytes as its body
counted_size : (unit least most kind : ℕ) (front body value : List ℕ) (units : ℕ) → length front ≡ 2 → length body + 2 ≡ 4 * units → IsCounted unit least most body value
    → length (parts_text kind front value (fill (length value))) ≡ length body + 2
counted_size unit least most kind front body value units two size p =
    let long : length body ≡ 2 + (length value + length p.filling) = ap length p.parts ∙ omega (arith, length-append value p.filling) in
    omega (arith, parts_size kind front value (fill (length value)), filled (length value) (length p.filling) (length body) units p.short long size)

-- a value after two reserved bytes has two fewer than its body
behind_size : (body value : List ℕ) → IsAfterReserved body value → length body ≡ 2 + length value
behind_size body value p = ap length p.parts ∙ omega (arith, length-append p.free value, p.two)

-- a value's spelling takes as many bytes as its body, type and length
body_size : (s : Shape) (kind : ℕ) (body value : List ℕ) (units : ℕ) → length body + 2 ≡ 4 * units → IsBody s body value → length (shape_text s kind value) ≡ length body + 2
unfolding shape_text
body_size (shape.Fixed n) kind body value units size p = omega (arith, parts_size kind [] value 0, ap length p.1)
body_size (shape.AfterReserved n) kind body value units size p = omega (arith, parts_size kind reserved value 0, behind_size body value p.1)
body_size shape.BitCounted kind body value units size p = counted_size 8 4 16 kind (to_be_bytes w16 (8 * length value)) body value units refl size p
body_size shape.ByteCounted kind body value units size p = counted_size 1 0 1016 kind (to_be_bytes w16 (length value)) body value units refl size p
body_size shape.Several kind body value units size p = omega (arith, parts_size kind reserved value 0, behind_size body value p.1)
body_size shape.Versions kind body value units size p = counted_size 1 2 1016 kind (to_be_bytes w16 (length value)) body value units refl size p.1
body_size shape.Ciphertext kind body value units size p = omega (arith, parts_size kind reserved value 0, behind_size body value p)
body_size shape.Hash kind body value units size p = omega (arith, parts_size kind reserved value 0, behind_size body value p.1)
body_size shape.Zeros kind body value units size p = omega (arith, parts_size kind [] value 0, ap length p.2)
body_size shape.Flag kind body value units size p = omega (arith, parts_size kind (128 * get_or value 0 0 ∷ 0 ∷ []) [] 0, ap length p.parts)
body_size shape.Skipped kind body value units size p = omega (arith, parts_size kind [] value 0, ap length p)

-- an attribute takes as many bytes as its spelling
pub attr_size_in : (table : Table) (seen : List ℕ) (i : Item) (bytes rest : List ℕ) → IsAttrIn table seen i bytes rest → length bytes ≡ length (item_text_in table i) + length rest
attr_size_in table seen i bytes rest p =
    let text : length (item_text_in table i) ≡ length p.body + 2 =
    ap length (item_text-is table i) ∙ ap (λ (o : Option Row). length (row_text o i.kind i.value)) p.known ∙ body_size p.row.shape i.kind p.body i.value p.units p.size p.value in
    omega (arith, ap length p.parts, length-append p.body rest, text)
