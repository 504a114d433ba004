-- The value of a type in bytes that are attributes (RFC 4187 §8.1).
use Rattle.std.specs.Prelude.{◌≡◌, ℕ, ◌==◌, if◌then◌else◌, List, [], ◌∷◌, Option, Some, None}
use Rattle.auc_attr.specs.declared.refusal.AttrRefusal.{AttrRefusal}
use Rattle.auc_attr.specs.Grammar.{Walks}
use Rattle.auc_attr.specs.Item.{Item}

-- the value of the first attribute of a type
abbrev pub first_of_kind : ℕ → List Item → Option (List ℕ)
first_of_kind kind [] = None
first_of_kind kind (i ∷ is) = if i.kind == kind then Some i.value else first_of_kind kind is

-- attributes with a fault have none
abbrev pub value_of : ℕ → Option AttrRefusal → List Item → Option (List ℕ)
value_of kind None is = first_of_kind kind is
value_of kind (Some fault) is = None

-- the value of the first attribute of a type, or none if the bytes have a fault or no such attribute
abbrev pub IsValueIn : ℕ → List ℕ → Option (List ℕ) → Type 0
IsValueIn kind bytes value = (is : List Item) × (end : Option AttrRefusal) × Walks [] bytes is end × (value ≡ value_of kind end is)
