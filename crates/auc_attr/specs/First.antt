-- Values in a list of attributes.
use Rattle.std.specs.Prelude.{List, [], ◌∷◌, Option, None}
use Rattle.std.specs.Option.{option_or}
use Rattle.auc_attr.specs.declared.attr.Attr.{Attr}

-- the first value of some kind
abbrev pub first_value : {A : Type 0} → (Attr → Option A) → List Attr → Option A
first_value value [] = None
first_value value (a ∷ list) = option_or (value a) (first_value value list)
