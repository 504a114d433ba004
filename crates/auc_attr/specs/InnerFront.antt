-- Inner facts: what only private contracts of this crate cite. The steps of reading an attribute at the front of bytes.
use Rattle.std.specs.Prelude.{◌≡◌, ℕ, ◌+◌, ◌-◌, ◌*◌, ◌/◌, ◌%◌, ◌==◌, nat_lt, nat_le, Bool, not, ◌&&◌, ◌||◌, if◌then◌else◌, List, [], ◌∷◌, length, take, drop, slice_index, Option, Some, None, Result, Ok, Err}
use Rattle.std.specs.List.{list_all}
use Rattle.std.specs.Int.{w16, from_be_bytes}
use Rattle.auc_attr.specs.declared.refusal.AttrRefusal.{AttrRefusal}
use Rattle.auc_attr.specs.declared.refusal.AttrRefusal.TheVariants as refusal
use Rattle.auc_attr.specs.declared.table.Row.{Row}
use Rattle.auc_attr.specs.declared.table.Shape.{Shape}
use Rattle.auc_attr.specs.declared.table.Shape.TheVariants as shape
use Rattle.auc_attr.specs.declared.table.Table.{Table}
use Rattle.auc_attr.specs.Table.{row_in}
use Rattle.auc_attr.specs.Item.{Item, item}
use Rattle.auc_attr.specs.Spelling.{is_zero, fill}

-- the value if a test holds
abbrev pub value_if : Bool → ℕ → List ℕ → Result (List ℕ) AttrRefusal
value_if holds kind value = if holds then Ok value else Err (refusal.BadLength kind)

abbrev pub zeros_if : Bool → ℕ → List ℕ → Result (List ℕ) AttrRefusal
zeros_if holds kind body =
    if not holds then Err (refusal.BadLength kind)
    else if list_all is_zero body then Ok body else Err refusal.BadPadding

-- a value after its length in two bytes, which is counted in this part of a byte: the body is no longer than it must be
abbrev pub counted : ℕ → ℕ → ℕ → List ℕ → Bool
counted unit least most body =
    let count = from_be_bytes w16 body in
    let size = count / unit in
    (count % unit == 0) && nat_le least size && nat_le size most && (length body == 2 + size + fill size)

abbrev pub counted_value : ℕ → List ℕ → List ℕ
counted_value unit body = take (from_be_bytes w16 body / unit) (drop 2 body)

-- the value in the bytes after type and length, or the refusal
unfoldable pub value_at : Shape → ℕ → List ℕ → Result (List ℕ) AttrRefusal
value_at (shape.Fixed n) kind body = value_if (length body == n) kind body
value_at (shape.AfterReserved n) kind body = value_if (length body == 2 + n) kind (drop 2 body)
value_at shape.BitCounted kind body = value_if (counted 8 4 16 body) kind (counted_value 8 body)
value_at shape.ByteCounted kind body = value_if (counted 1 0 1016 body) kind (counted_value 1 body)
value_at shape.Several kind body = value_if (length body == 34 || length body == 50) kind (drop 2 body)
value_at shape.Versions kind body = value_if ((from_be_bytes w16 body % 2 == 0) && counted 1 2 1016 body) kind (counted_value 1 body)
value_at shape.Ciphertext kind body = Ok (drop 2 body)
value_at shape.Hash kind body = value_if (length body == 2 || length body == 22 || length body == 34) kind (drop 2 body)
value_at shape.Zeros kind body = zeros_if (length body == 2 || length body == 6 || length body == 10) kind body
value_at shape.Flag kind body = value_if (length body == 2) kind ((if nat_lt (slice_index body 0) 128 then 0 else 1) ∷ [])
value_at shape.Skipped kind body = Ok body

infixl 10 ◌>>=◌
abbrev pub ◌>>=◌ : {A B : Type 0} → Result A AttrRefusal → (A → Result B AttrRefusal) → Result B AttrRefusal
(Ok x) >>= f = f x
(Err e) >>= f = Err e

-- an attribute of a type in the table: whether the type stood before, its length in units, and the bytes after that
abbrev pub row_at : Row → Bool → ℕ → ℕ → List ℕ → Result (Item × List ℕ) AttrRefusal
row_at row stood kind units after =
    if row.once && stood then Err (refusal.Twice kind)
    else if units == 0 then Err refusal.ZeroLength
    else if nat_lt (length after + 2) (4 * units) then Err refusal.Truncated
    else (value_at row.shape kind (take (4 * units - 2) after) >>= λ value. Ok (item kind value, drop (4 * units - 2) after))

abbrev pub known_at : Option Row → Bool → ℕ → ℕ → List ℕ → Result (Item × List ℕ) AttrRefusal
known_at None stood kind units after = Err (refusal.UnknownType kind)
known_at (Some row) stood kind units after = row_at row stood kind units after

-- the attribute at the front, and the bytes after it
unfoldable pub item_at : Table → Bool → List ℕ → Result (Item × List ℕ) AttrRefusal
item_at table stood [] = Err refusal.Truncated
item_at table stood (kind ∷ []) = Err refusal.Truncated
item_at table stood (kind ∷ units ∷ after) = known_at (row_in table kind) stood kind units after

-- what a reader answers, seen by view, is what the steps answer
abbrev pub Gives : {X Y : Type 0} → (X → Y) → Result X AttrRefusal → Result Y AttrRefusal → Type 0
Gives view (Ok x) read = read ≡ Ok (view x)
Gives view (Err e) read = read ≡ Err e
