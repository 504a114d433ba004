-- Which types of attributes stood before, as marks of all types.
use Rattle.std.specs.Prelude.{◌≡◌, ℕ, ◌<◌, Bool, false, List, length, slice_index_or}
use Rattle.auc_attr.specs.Spelling.{stands_in}

-- a mark for each type of attribute that stood before
pub record Marks (marks : List Bool) (kinds : List ℕ) : Type 0 where
  pub size : length marks ≡ 256
  pub each : (kind : ℕ) → kind < 256 → slice_index_or marks kind false ≡ stands_in kinds kind
