-- For making vectors: the vector of a subscriber's number is made from its row.
use Rattle.std.proofs.Common.{◌≡◌, ℕ, List, [], ap, ◌∙◌, subst}
use Rattle.std.specs.Prelude.{All, Some, slice_get}
use Rattle.std.proofs.lemmas.Option.{slice_get_within, get_or_from_slice_get}
use Rattle.auc_hmac.specs.declared.method.Method.TheVariants as method
use Rattle.auc_subs.specs.declared.row.Row.{Row}
use Rattle.auc_random.specs.Random.{rand_of}
use Rattle.auc_vector.specs.Vector.{vector_of, Source}
use Rattle.auc_vector.specs.declared.parts.Vector.{Vector as AuthVector}
use Rattle.auc_record.specs.Vectors.{AreOfRow, IsOfRow}

-- what holds of all elements of a list holds of the one at a place
pub all_at : {X : Type 0} (P : X → Type 0) (xs : List X) (i : ℕ) (x : X) → All P xs → slice_get xs i ≡ Some x → P x
all_at P xs i x all there = subst P (get_or_from_slice_get xs i x x there) (all i x (slice_get_within xs i x there))

-- a vector of a number that is made from a subscriber's row is the one of the row
pub vector_of_row : (key : List ℕ) (rows : List Row) (sub n : ℕ) (source : Source) (vector : AuthVector) → AreOfRow key rows sub source
    → vector ≡ vector_of source.secret method.Aka source.amf [] source.bits n (rand_of source.rands.key source.rands.sub n) → IsOfRow key rows sub n vector
vector_of_row key rows sub n source vector are made = record {
  row = are.row;
  there = are.there;
  is_row = are.is_row;
  made = made ∙ ap (λ (s : Source). vector_of s.secret method.Aka s.amf [] s.bits n (rand_of s.rands.key s.rands.sub n)) are.made;
}
