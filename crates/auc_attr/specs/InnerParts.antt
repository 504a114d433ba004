-- Inner facts: what only private contracts of this crate cite. An attribute between its list and its bytes.
use Rattle.std.specs.Prelude.{ℕ, ◌+◌, ◌/◌, List, [], ◌∷◌, ◌++◌, length, Option, Some, None}
use Rattle.auc_attr.specs.declared.conversion.Value.{Value}
use Rattle.auc_attr.specs.declared.conversion.Value.TheVariants as values
use Rattle.auc_attr.specs.declared.layout.Layout.{Layout}

abbrev pub value_bytes : Value → List ℕ
value_bytes (values.Slice v) = v.now
value_bytes (values.Number v) = v
value_bytes (values.Bit v) = v

abbrev pub front_bytes : Option (List ℕ) → List ℕ
front_bytes None = []
front_bytes (Some two) = two

-- the bytes of a layout after a type: the length in units of 4 bytes, and the parts
abbrev pub layout_text : ℕ → Layout → List ℕ
layout_text kind l =
    kind ∷ ((length (front_bytes l.front) + length l.value.now + length l.zeros.now + 2) / 4) ∷ (front_bytes l.front ++ (l.value.now ++ l.zeros.now))
