-- An attribute as its type and the bytes of its value, without length, reserved bytes and fill. A number
-- is two bytes, the bit D is one byte, 0 or 1.
use Rattle.std.specs.Prelude.{ℕ, ◌==◌, Bool, true, false, List, [], ◌∷◌, map, Option, Some, None}
use Rattle.std.specs.List.{list_any}
use Rattle.std.specs.Int.{w16, to_be_bytes}
use Rattle.auc_attr.specs.declared.attr.Attr.{Attr}
use Rattle.auc_attr.specs.declared.attr.Attr.TheVariants as attr
use Rattle.auc_attr.specs.declared.table.Row.{Row}
use Rattle.auc_attr.specs.declared.table.Shape.{Shape}
use Rattle.auc_attr.specs.declared.table.Shape.TheVariants as shape
use Rattle.auc_attr.specs.Table.{row_of}

pub record Item : Type 0 where
  pub kind : ℕ
  pub value : List ℕ

abbrev pub item : ℕ → List ℕ → Item
item kind value = record { kind = kind; value = value }

abbrev pub bit_bytes : Bool → List ℕ
bit_bytes true = 1 ∷ []
bit_bytes false = 0 ∷ []

abbrev pub item_of : Attr → Item
item_of (attr.Rand v) = item 1 v
item_of (attr.Autn v) = item 2 v
item_of (attr.Res v) = item 3 v
item_of (attr.Auts v) = item 4 v
item_of (attr.Padding v) = item 6 v
item_of attr.PermanentIdReq = item 10 []
item_of (attr.Mac v) = item 11 v
item_of (attr.Notification n) = item 12 (to_be_bytes w16 n)
item_of attr.AnyIdReq = item 13 []
item_of (attr.Identity v) = item 14 v
item_of attr.FullauthIdReq = item 17 []
item_of (attr.Counter n) = item 19 (to_be_bytes w16 n)
item_of attr.CounterTooSmall = item 20 []
item_of (attr.NonceS v) = item 21 v
item_of (attr.ClientErrorCode n) = item 22 (to_be_bytes w16 n)
item_of (attr.KdfInput v) = item 23 v
item_of (attr.Kdf n) = item 24 (to_be_bytes w16 n)
item_of (attr.Iv v) = item 129 v
item_of (attr.EncrData v) = item 130 v
item_of (attr.NextPseudonym v) = item 132 v
item_of (attr.NextReauthId v) = item 133 v
item_of (attr.Checkcode v) = item 134 v
item_of attr.ResultInd = item 135 []
item_of (attr.Bidding d) = item 136 (bit_bytes d)
item_of (attr.Skipped kind v) = item kind v

abbrev pub is_skipped_shape : Shape → Bool
is_skipped_shape shape.Skipped = true
is_skipped_shape _ = false

abbrev pub is_skipped_row : Option Row → Bool
is_skipped_row None = false
is_skipped_row (Some row) = is_skipped_shape row.shape

-- whether an attribute goes by its own name: only a type that isn't in the table is Skipped
abbrev pub is_named : Attr → Bool
is_named (attr.Skipped kind v) = is_skipped_row (row_of kind)
is_named _ = true

abbrev pub items : List Attr → List Item
items list = map item_of list

-- whether an attribute of a type is in a list
abbrev pub has : List Attr → ℕ → Bool
has list kind = list_any (λ a. (item_of a).kind == kind) list
