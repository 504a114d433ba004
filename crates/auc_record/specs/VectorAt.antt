-- The vector of a subscriber's number, a function of the number and the setting.
use Rattle.std.specs.Prelude.{ℕ, List, [], ◌∷◌, Option, Some, None, slice_get}
use Rattle.auc_hmac.specs.declared.method.Method.TheVariants as method
use Rattle.auc_random.specs.Random.{rand_of}
use Rattle.auc_subs.specs.declared.row.Row.{Row}
use Rattle.auc_vector.specs.Vector.{vector_of}
use Rattle.auc_vector.specs.declared.parts.Vector.{Vector as AuthVector}
use Rattle.auc_subs.specs.Setting.{Setting}

-- the vector of a number for EAP-AKA, made with a row and a RAND; a subscriber without a row has no vectors, and no line that is
-- served names one
abbrev pub vector_with : Option Row → ℕ → List ℕ → List AuthVector
vector_with None n rand = []
vector_with (Some row) n rand = vector_of row.secret method.Aka row.amf [] row.bits n rand ∷ []

-- the vector of a subscriber's number, with the RAND of both
abbrev pub vector_at : Setting → ℕ → ℕ → List AuthVector
vector_at set sub n = vector_with (slice_get set.rows sub) n (rand_of set.key sub n)

-- the same of a subscriber whose row is known
abbrev pub vector_of_row : Setting → Row → ℕ → ℕ → AuthVector
vector_of_row set row sub n = vector_of row.secret method.Aka row.amf [] row.bits n (rand_of set.key sub n)
