-- Attributes of EAP-SIM (RFC 4186 §10) as their types and the bytes of their values, and the values that a list has. A
-- number is two bytes.
use Rattle.std.specs.Prelude.{ℕ, ◌==◌, nat_lt, Bool, true, List, [], ◌∷◌, map, Option, Some, None}
use Rattle.std.specs.List.{list_any}
use Rattle.std.specs.Option.{option_or}
use Rattle.std.specs.Int.{w16, to_be_bytes}
use Rattle.auc_attr.specs.Item.{Item, item, is_skipped_row}
use Rattle.auc_attr.specs.Table.{row_in}
use Rattle.auc_attr.specs.declared.table.Table.TheVariants as tables
use Rattle.auc_sim_packet.specs.declared.attr.SimAttr.{SimAttr}
use Rattle.auc_sim_packet.specs.declared.attr.SimAttr.TheVariants as attr

abbrev pub item_of : SimAttr → Item
item_of (attr.Rand v) = item 1 v
item_of (attr.NonceMt v) = item 7 v
item_of attr.PermanentIdReq = item 10 []
item_of (attr.Mac v) = item 11 v
item_of attr.AnyIdReq = item 13 []
item_of (attr.Identity v) = item 14 v
item_of (attr.VersionList v) = item 15 v
item_of (attr.SelectedVersion n) = item 16 (to_be_bytes w16 n)
item_of attr.FullauthIdReq = item 17 []
item_of (attr.ClientErrorCode n) = item 22 (to_be_bytes w16 n)
item_of (attr.Skipped kind v) = item kind v

-- whether an attribute goes by its own name: only a type that isn't in the table is Skipped
abbrev pub is_named : SimAttr → Bool
is_named (attr.Skipped kind v) = is_skipped_row (row_in tables.Sim kind)
is_named _ = true

-- each number of an attribute has 16 bits
abbrev pub is_value : SimAttr → Bool
is_value (attr.SelectedVersion n) = nat_lt n 65536
is_value (attr.ClientErrorCode n) = nat_lt n 65536
is_value _ = true

abbrev pub items : List SimAttr → List Item
items list = map item_of list

-- whether an attribute of a type is in a list
abbrev pub has : List SimAttr → ℕ → Bool
has list kind = list_any (λ a. (item_of a).kind == kind) list

-- the first value of some kind
abbrev pub first_value : {V : Type 0} → (SimAttr → Option V) → List SimAttr → Option V
first_value value [] = None
first_value value (a ∷ list) = option_or (value a) (first_value value list)

-- RANDs one after another
abbrev pub rands_of : SimAttr → Option (List ℕ)
rands_of (attr.Rand v) = Some v
rands_of _ = None

abbrev pub nonce_of : SimAttr → Option (List ℕ)
nonce_of (attr.NonceMt v) = Some v
nonce_of _ = None

abbrev pub identity_of : SimAttr → Option (List ℕ)
identity_of (attr.Identity v) = Some v
identity_of _ = None

-- versions of two bytes one after another
abbrev pub versions_of : SimAttr → Option (List ℕ)
versions_of (attr.VersionList v) = Some v
versions_of _ = None

abbrev pub selected_of : SimAttr → Option ℕ
selected_of (attr.SelectedVersion n) = Some n
selected_of _ = None

abbrev pub code_of : SimAttr → Option ℕ
code_of (attr.ClientErrorCode n) = Some n
code_of _ = None
