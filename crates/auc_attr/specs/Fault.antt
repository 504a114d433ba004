-- What can be wrong with an attribute at the front of bytes (RFC 4187 §8.1 and §10, RFC 4186 §8.1 and §10): each fault beside a condition
-- of its own, in the order in which they are reported. No standard orders them; this order is the project's.
use Rattle.std.specs.Prelude.{ℕ, ◌+◌, ◌-◌, ◌*◌, ◌%◌, ◌==◌, nat_lt, nat_le, Bool, true, false, not, ◌&&◌, ◌||◌, List, [], ◌∷◌, length, take, drop, slice_index, Option, Some, None}
use Rattle.std.specs.List.{list_all}
use Rattle.std.specs.Int.{w16, from_be_bytes}
use Rattle.auc_attr.specs.declared.refusal.AttrRefusal.{AttrRefusal}
use Rattle.auc_attr.specs.declared.refusal.AttrRefusal.TheVariants as refusal
use Rattle.auc_attr.specs.declared.table.Row.{Row}
use Rattle.auc_attr.specs.declared.table.Shape.{Shape}
use Rattle.auc_attr.specs.declared.table.Shape.TheVariants as shape
use Rattle.auc_attr.specs.declared.table.Table.{Table}
use Rattle.auc_attr.specs.Table.{row_in}
use Rattle.auc_attr.specs.Spelling.{stands_in, is_zero}

-- the type
abbrev pub kind_at : List ℕ → ℕ
kind_at bytes = slice_index bytes 0

-- the length, in units of four bytes
abbrev pub units_at : List ℕ → ℕ
units_at bytes = slice_index bytes 1

-- the bytes after type and length
abbrev pub body_at : List ℕ → List ℕ
body_at bytes = take (4 * units_at bytes - 2) (drop 2 bytes)

-- the number in the first two of these bytes
abbrev pub count_at : List ℕ → ℕ
count_at body = from_be_bytes w16 body

-- whether so many units are the fewest that hold type, length, the count, and as many bits or bytes as it counts.
-- A unit has 32 bits or 4 bytes, and type, length and count take one unit
abbrev pub is_least : ℕ → ℕ → ℕ → Bool
is_least unit count units = nat_le (unit + count) (unit * units) && nat_lt (unit * units) (unit + count + unit)

-- whether an attribute of a shape may have so many units
abbrev pub has_length : Shape → ℕ → List ℕ → Bool
has_length (shape.Fixed n) units body = 4 * units == 2 + n
has_length (shape.AfterReserved n) units body = 4 * units == 4 + n
has_length shape.BitCounted units body =
    (count_at body % 8 == 0) && nat_le 32 (count_at body) && nat_le (count_at body) 128 && is_least 32 (count_at body) units
has_length shape.ByteCounted units body = nat_le (count_at body) 1016 && is_least 4 (count_at body) units
has_length shape.Several units body = units == 9 || units == 13
has_length shape.Versions units body =
    (count_at body % 2 == 0) && nat_le 2 (count_at body) && nat_le (count_at body) 1016 && is_least 4 (count_at body) units
has_length shape.Ciphertext units body = true
has_length shape.Hash units body = units == 1 || units == 6 || units == 9
has_length shape.Zeros units body = units == 1 || units == 2 || units == 3
has_length shape.Flag units body = units == 1
has_length shape.Skipped units body = true

-- the type isn't in the table and is below 128
abbrev pub is_unknown : Option Row → Bool
is_unknown None = true
is_unknown (Some row) = false

-- a message has the type once alone, and the type stood before
abbrev pub is_second : Option Row → List ℕ → ℕ → Bool
is_second None seen kind = false
is_second (Some row) seen kind = row.once && stands_in seen kind

-- the length isn't one that the table has for the type and its value
abbrev pub has_bad_length : Option Row → ℕ → List ℕ → Bool
has_bad_length None units body = false
has_bad_length (Some row) units body = not (has_length row.shape units body)

-- whether each byte of a padding is zero
abbrev pub has_zeros : Shape → List ℕ → Bool
has_zeros shape.Zeros body = list_all is_zero body
has_zeros _ body = true

-- it is a padding with another byte
abbrev pub has_bad_padding : Option Row → List ℕ → Bool
has_bad_padding None body = false
has_bad_padding (Some row) body = not (has_zeros row.shape body)

-- the faults of an attribute whose type has this row of the table, after attributes of these types
abbrev pub faults_by : Option Row → List ℕ → List ℕ → List (Bool × AttrRefusal)
faults_by row seen bytes =
    (nat_lt (length bytes) 2, refusal.Truncated)
    ∷ (is_unknown row, refusal.UnknownType (kind_at bytes))
    ∷ (is_second row seen (kind_at bytes), refusal.Twice (kind_at bytes))
    ∷ (units_at bytes == 0, refusal.ZeroLength)
    ∷ (nat_lt (length bytes) (4 * units_at bytes), refusal.Truncated)
    ∷ (has_bad_length row (units_at bytes) (body_at bytes), refusal.BadLength (kind_at bytes))
    ∷ (has_bad_padding row (body_at bytes), refusal.BadPadding)
    ∷ []

unfoldable pub attr_faults_in : Table → List ℕ → List ℕ → List (Bool × AttrRefusal)
attr_faults_in table seen bytes = faults_by (row_in table (kind_at bytes)) seen bytes
