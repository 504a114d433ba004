-- The one spelling that is written of each list of attributes, and which lists may be written. An item goes by a table,
-- an attribute by that of EAP-AKA.
use Rattle.std.specs.Prelude.{ℕ, ◌+◌, ◌-◌, ◌*◌, ◌/◌, ◌%◌, ◌==◌, nat_le, Bool, true, false, not, ◌&&◌, ◌||◌, List, [], ◌∷◌, ◌++◌, length, replicate, slice_index, Option, Some, None}
use Rattle.std.specs.List.{list_all, list_any, flat_map}
use Rattle.std.specs.Int.{w16, to_be_bytes}
use Rattle.auc_attr.specs.declared.attr.Attr.{Attr}
use Rattle.auc_attr.specs.declared.table.Row.{Row}
use Rattle.auc_attr.specs.declared.table.Shape.{Shape}
use Rattle.auc_attr.specs.declared.table.Shape.TheVariants as shape
use Rattle.auc_attr.specs.declared.table.Table.{Table}
use Rattle.auc_attr.specs.declared.table.Table.TheVariants as tables
use Rattle.auc_attr.specs.Table.{row_of, sim_row_of, row_in}
use Rattle.auc_attr.specs.Item.{Item, item_of, items, is_named}

-- whether a type stands in a list of types
abbrev pub stands_in : List ℕ → ℕ → Bool
stands_in seen kind = list_any (λ other. other == kind) seen

abbrev pub is_zero : ℕ → Bool
is_zero byte = byte == 0

-- whether a shape has a spelling for a value
unfoldable pub fits : Shape → List ℕ → Bool
fits (shape.Fixed n) value = length value == n
fits (shape.AfterReserved n) value = length value == n
fits shape.BitCounted value = nat_le 4 (length value) && nat_le (length value) 16
fits shape.ByteCounted value = nat_le (length value) 1016
fits shape.Several value = length value == 32 || length value == 48
fits shape.Versions value = (length value % 2 == 0) && nat_le 2 (length value) && nat_le (length value) 1016
fits shape.Ciphertext value = nat_le (length value) 1016 && (length value % 4 == 0)
fits shape.Hash value = length value == 0 || length value == 20 || length value == 32
fits shape.Zeros value = (length value == 2 || length value == 6 || length value == 10) && list_all is_zero value
fits shape.Flag value = (length value == 1) && nat_le (slice_index value 0) 1
fits shape.Skipped value = nat_le 2 (length value) && nat_le (length value) 1018 && (length value % 4 == 2)

abbrev pub fits_row : Option Row → List ℕ → Bool
fits_row None value = false
fits_row (Some row) value = fits row.shape value

-- whether an item has a spelling: in EAP-AKA, in EAP-SIM, by a table
unfoldable pub fits_item : Item → Bool
fits_item i = fits_row (row_of i.kind) i.value

unfoldable pub sim_fits_item : Item → Bool
sim_fits_item i = fits_row (sim_row_of i.kind) i.value

abbrev pub fits_item_in : Table → Item → Bool
fits_item_in tables.Aka = fits_item
fits_item_in tables.Sim = sim_fits_item

abbrev pub may_stand_row : Option Row → Bool → Bool
may_stand_row None stood = false
may_stand_row (Some row) stood = not (row.once && stood)

-- whether an attribute may be written, given whether its type stood before: its value has a spelling, it goes
-- by its own name, and a type of the table other than KDF stands once
abbrev pub may_follow : Attr → Bool → Bool
may_follow a stood = fits_item (item_of a) && is_named a && may_stand_row (row_of (item_of a).kind) stood

-- whether an item may be written, given whether its type stood before
abbrev pub may_follow_in : Table → Item → Bool → Bool
may_follow_in table i stood = fits_item_in table i && may_stand_row (row_in table i.kind) stood

abbrev pub writable_from : List ℕ → List Attr → Bool
writable_from seen [] = true
writable_from seen (a ∷ list) = may_follow a (stands_in seen (item_of a).kind) && writable_from (seen ++ (item_of a).kind ∷ []) list

-- whether a list has a spelling that can be read
abbrev pub writable : List Attr → Bool
writable list = writable_from [] list

-- whether a list of items has a spelling that can be read, after items of these types
abbrev pub writable_from_in : Table → List ℕ → List Item → Bool
writable_from_in table seen [] = true
writable_from_in table seen (i ∷ is) = may_follow_in table i (stands_in seen i.kind) && writable_from_in table (seen ++ i.kind ∷ []) is

abbrev pub writable_in : Table → List Item → Bool
writable_in table is = writable_from_in table [] is

-- how many bytes are missing to the next multiple of 4
abbrev pub fill : ℕ → ℕ
fill n = (4 - n % 4) % 4

-- type, length in units of 4 bytes, what stands before the value, the value, and zero bytes
abbrev pub parts_text : ℕ → List ℕ → List ℕ → ℕ → List ℕ
parts_text kind front value zeros = kind ∷ ((length front + length value + zeros + 2) / 4) ∷ (front ++ (value ++ replicate zeros 0))

abbrev pub reserved : List ℕ
reserved = 0 ∷ 0 ∷ []

unfoldable pub shape_text : Shape → ℕ → List ℕ → List ℕ
shape_text (shape.Fixed n) kind value = parts_text kind [] value 0
shape_text (shape.AfterReserved n) kind value = parts_text kind reserved value 0
shape_text shape.BitCounted kind value = parts_text kind (to_be_bytes w16 (8 * length value)) value (fill (length value))
shape_text shape.ByteCounted kind value = parts_text kind (to_be_bytes w16 (length value)) value (fill (length value))
shape_text shape.Several kind value = parts_text kind reserved value 0
shape_text shape.Versions kind value = parts_text kind (to_be_bytes w16 (length value)) value (fill (length value))
shape_text shape.Ciphertext kind value = parts_text kind reserved value 0
shape_text shape.Hash kind value = parts_text kind reserved value 0
shape_text shape.Zeros kind value = parts_text kind [] value 0
shape_text shape.Flag kind value = parts_text kind (128 * slice_index value 0 ∷ 0 ∷ []) [] 0
shape_text shape.Skipped kind value = parts_text kind [] value 0

abbrev pub row_text : Option Row → ℕ → List ℕ → List ℕ
row_text None kind value = []
row_text (Some row) kind value = shape_text row.shape kind value

-- the bytes that are written of an item: in EAP-AKA, in EAP-SIM, by a table
unfoldable pub item_text : Item → List ℕ
item_text i = row_text (row_of i.kind) i.kind i.value

unfoldable pub sim_item_text : Item → List ℕ
sim_item_text i = row_text (sim_row_of i.kind) i.kind i.value

abbrev pub item_text_in : Table → Item → List ℕ
item_text_in tables.Aka = item_text
item_text_in tables.Sim = sim_item_text

abbrev pub texts_in : Table → List Item → List ℕ
texts_in table is = flat_map (item_text_in table) is

abbrev pub texts : List Item → List ℕ
texts is = flat_map item_text is

-- the bytes that are written of a list of attributes
abbrev pub spelling : List Attr → List ℕ
spelling list = texts (items list)
