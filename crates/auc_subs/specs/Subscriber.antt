-- Subscribers: the row that a line of seven or nine fields says, or its first fault, and what the rows of
-- a list of subscribers are. After the test of how many fields there are, the fields in the order of their
-- tests; the last two of nine, BITS and AGE, are tested before SEQ and USIM, which the index length bounds:
--
--   IMSI   6 to 15 decimal digits                                Imsi
--   K      32 hexadecimal digits                                 Key
--   KIND   op or opc                                             Kind
--   OP     32 hexadecimal digits                                 Op
--   AMF    4 hexadecimal digits                                  Amf
--   BITS   one decimal digit, at most most_bits                  Bits
--   AGE    -, or 1 to 15 decimal digits, 1 to most_age           Age
--   SEQ    1 to 15 decimal digits, at most the subscriber's top  Seq
--   USIM   1 to 15 decimal digits, at most the subscriber's top  Usim
--
-- Then the identity is new (Twice) and there is room for one more row (TooMany).
use Rattle.std.specs.Prelude.{ℕ, ◌≡◌, ◌≢◌, ◌==◌, ◌&&◌, ◌≤◌, ◌++◌, nat_le, Bool, List, [], ◌∷◌, length, map, codes, Option, Some, None, is_some, IfSome, Result, Ok, Err, if◌then◌else◌, All, AllPairs, position, slice_get, slice_index, slice_index_or}
use Rattle.std.specs.List.{list_any}
use Rattle.std.specs.Option.{ok_or}
use Rattle.auc_aes.specs.Bytes.{IsBytes, IsBlock}
use Rattle.auc_memory.specs.Identity.{Identity, IsIdentity, identity_of}
use Rattle.auc_milenage.specs.Milenage.{opc_of}
use Rattle.auc_sqn.specs.Number.{most_bits, top_of}
use Rattle.auc_subs.specs.declared.row.Row.{Row}
use Rattle.auc_subs.specs.declared.refusal.SubsWhy.{SubsWhy}
use Rattle.auc_subs.specs.declared.refusal.SubsWhy.TheVariants as why
use Rattle.auc_text.specs.Field.{number_in, octets_in}
use Rattle.auc_text.specs.Text.{is_text}
use Rattle.auc_subs.specs.Field.{fields_of}
use Rattle.auc_subs.specs.Steps.{◌>>=◌}

-- the greatest number of subscribers
abbrev pub most_subscribers : ℕ
most_subscribers = 65536

-- OPc under a key, from the operator's field: the word `op` and OP, or the word `opc` and OPc itself (TS 35.206 §4.1)
abbrev pub opc_in : List ℕ → List ℕ → List ℕ → Result (List ℕ) SubsWhy
opc_in k kind text =
    if is_text kind (codes "op") then (ok_or (octets_in 16 text) why.Op >>= λ op. Ok (opc_of k op))
    else if is_text kind (codes "opc") then ok_or (octets_in 16 text) why.Op
    else Err why.Kind

-- a field, from 0
abbrev pub field : List (List ℕ) → ℕ → List ℕ
field fields place = slice_index_or fields place []

-- the index length of a subscriber whose record doesn't give it
abbrev pub usual_bits : ℕ
usual_bits = 5

-- the index length in a record: the eighth of nine fields, or the usual one
abbrev pub bits_in : List (List ℕ) → Option ℕ
bits_in fields = if length fields == 9 then number_in 1 most_bits (field fields 7) else Some usual_bits

-- the greatest age limit: what 48 bits hold
abbrev pub most_age : ℕ
most_age = 281474976710655

-- a number that was read, as an age limit: 0 is none
abbrev pub positive : Option ℕ → Option (Option ℕ)
positive None = None
positive (Some number) = if number == 0 then None else Some (Some number)

-- the age limit that a text is, or `-` that there is none
abbrev pub limit_in : List ℕ → Option (Option ℕ)
limit_in text = if is_text text (codes "-") then Some None else positive (number_in 15 most_age text)

-- the age limit in a record, if there is one: the last of nine fields; a record of seven has none
abbrev pub age_in : List (List ℕ) → Option (Option ℕ)
age_in fields = if length fields == 9 then limit_in (field fields 8) else Some None

-- the subscriber that seven or nine fields are, each tested in its turn
abbrev pub row_in : List (List ℕ) → Result Row SubsWhy
row_in fields = do
  identity ← ok_or (identity_of (field fields 0)) why.Imsi
  key ← ok_or (octets_in 16 (field fields 1)) why.Key
  opc ← opc_in key (field fields 2) (field fields 3)
  management ← ok_or (octets_in 2 (field fields 4)) why.Amf
  bits ← ok_or (bits_in fields) why.Bits
  age ← ok_or (age_in fields) why.Age
  drawn ← ok_or (number_in 15 (top_of bits) (field fields 5)) why.Seq
  accepted ← ok_or (number_in 15 (top_of bits) (field fields 6)) why.Usim
  Ok (record { imsi = identity; secret = record { k = key; opc = opc }; amf = management; seq = drawn; usim = accepted; bits = bits; age = age })

-- how many fields a line may have
abbrev pub line_counts : List ℕ
line_counts = 7 ∷ 9 ∷ []

-- the subscriber that fields are, of which there may be so many, or their first fault by itself
abbrev pub row_of : List ℕ → List (List ℕ) → Result Row SubsWhy
row_of counts fields = if list_any (λ count. length fields == count) counts then row_in fields else Err why.FieldCount

-- whether two identities are the same
abbrev pub same_identity : Identity → Identity → Bool
same_identity a b = (a.digits == b.digits) && (a.number == b.number)

-- the place of the first row with an identity, from 0
abbrev pub place_of : List Row → Identity → Option ℕ
place_of rows imsi = position (λ row. same_identity row.imsi imsi) rows

-- the row at a place has an identity
abbrev pub HasIdentity : List Row → ℕ → Identity → Type 0
HasIdentity rows sub imsi = (row : Row) × (slice_get rows sub ≡ Some row) × (row.imsi ≡ imsi)

-- the rows with a subscriber after the last, if its identity is new and there is room
abbrev pub rows_with : List Row → Row → Result (List Row) SubsWhy
rows_with rows row =
    if is_some (place_of rows row.imsi) then Err why.Twice
    else if nat_le most_subscribers (length rows) then Err why.TooMany
    else Ok (rows ++ row ∷ [])

-- the rows with the subscriber that some fields are, of which there may be so many, or the first fault
abbrev pub rows_with_fields : List ℕ → List Row → List (List ℕ) → Result (List Row) SubsWhy
rows_with_fields counts rows fields = do
  row ← row_of counts fields
  rows_with rows row

-- the rows with the subscriber that a line is, or the line's first fault
abbrev pub rows_after : List Row → List ℕ → Result (List Row) SubsWhy
rows_after rows line = rows_with_fields line_counts rows (fields_of line)

-- an age limit, if there is one, is a number from 1 on
abbrev pub IsAge : Option ℕ → Type 0
IsAge age = IfSome age (λ limit. (1 ≤ limit) × (limit ≤ most_age))

-- a row: an identity, byte strings of the right lengths, an index length, an age limit if there is one, and
-- numbers of vectors
pub record IsRow (row : Row) : Type 0 where
  pub identity : IsIdentity row.imsi.digits row.imsi.number
  pub key : IsBlock row.secret.k
  pub operator : IsBlock row.secret.opc
  pub management : length row.amf ≡ 2
  pub management_bytes : IsBytes row.amf
  pub few : row.bits ≤ most_bits
  pub limit : IsAge row.age
  pub drawn : row.seq ≤ top_of row.bits
  pub accepted : row.usim ≤ top_of row.bits

-- the rows of subscribers: not too many, and with different identities
pub record AreSubscribers (rows : List Row) : Type 0 where
  pub limit : length rows ≤ most_subscribers
  pub differ : AllPairs (λ a b. a.imsi ≢ b.imsi) rows
  pub each : All IsRow rows

-- the greatest number of each subscriber
abbrev pub tops_of : List Row → List ℕ
tops_of rows = map (λ row. top_of row.bits) rows

-- the greatest number of the subscriber at a place
abbrev pub top_at : List Row → ℕ → ℕ
top_at rows sub = slice_index (tops_of rows) sub
