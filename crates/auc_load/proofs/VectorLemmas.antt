-- For the making of vectors: numbers in a row, and the bytes of their vectors.
use Rattle.std.proofs.Common.{◌≡◌, ℕ, zero, suc, ◌+◌, ◌<◌, List, [], ◌∷◌, ◌++◌, map, take, get_or, set, length, Some, refl, sym, ap, ◌∙◌, append_assoc, arith}
use Rattle.std.specs.Prelude.{flat_map, slice_get}
use Rattle.std.specs.List.{concat, range_with_len}
use Rattle.std.proofs.lemmas.List.{flat_map_more, take_more, take-set, length-set, get_or-set_same, map-append}
use Rattle.std.proofs.lemmas.List.Folds.{concat-append}
use Rattle.std.proofs.lemmas.List.FromFn.{get_or-map-range_with_len}
use Rattle.std.proofs.lemmas.Option.{get_or_from_slice_get}
use Rattle.auc_hmac.specs.declared.method.Method.TheVariants as method
use Rattle.auc_load.specs.Input.{row_at}
use Rattle.auc_load.specs.Pieces.{number_bytes, numbers_bytes}
use Rattle.auc_load.specs.Summary.{vector_bytes}
use Rattle.auc_load.proofs.InputLemmas.{range_more}
use Rattle.auc_load.proofs.SummaryLemmas.{concat-map}
use Rattle.auc_subs.specs.declared.row.Row.{Row}
use Rattle.auc_random.specs.Random.{rand_of}
use Rattle.auc_vector.specs.Many.{vectors_of}
use Rattle.auc_vector.specs.Vector.{vector_of}
use Rattle.auc_vector.specs.declared.parts.Vector.{Vector}

-- numbers in a row, and those that follow them
pub range-append : (a m n : ℕ) → range_with_len a (m + n) ≡ range_with_len a m ++ range_with_len (a + m) n
range-append a zero n =
    let none : zero + n ≡ n = omega arith in
    let same : a ≡ a + zero = omega arith in
    ap (range_with_len a) none ∙ ap (λ k. range_with_len k n) same
range-append a (suc m) n =
    let one : suc m + n ≡ suc (m + n) = omega arith in
    let next : a + 1 + m ≡ a + suc m = omega arith in
    ap (range_with_len a) one ∙ ap (λ l. a ∷ l) (range-append (a + 1) m n ∙ ap (λ k. range_with_len (a + 1) m ++ range_with_len k n) next)

-- vectors of numbers in a row, each with its own RAND
vectors_by : (row : Row) (rand : ℕ → List ℕ) (a n : ℕ)
    → vectors_of row.secret method.Aka row.amf [] row.bits a (map rand (range_with_len a n)) ≡ map (λ k. vector_of row.secret method.Aka row.amf [] row.bits k (rand k)) (range_with_len a n)
vectors_by row rand a zero = refl
vectors_by row rand a (suc n) = ap (λ l. vector_of row.secret method.Aka row.amf [] row.bits a (rand a) ∷ l) (vectors_by row rand (a + 1) n)

flat_map-map : (g : Vector → List ℕ) (h : ℕ → Vector) (xs : List ℕ) → flat_map g (map h xs) ≡ flat_map (λ x. g (h x)) xs
flat_map-map g h [] = refl
flat_map-map g h (x ∷ xs) = ap (λ l. g (h x) ++ l) (flat_map-map g h xs)

-- the bytes of a group of vectors
pub group_bytes : (key : List ℕ) (row : Row) (sub first count : ℕ) (rands : List (List ℕ)) (made : List Vector)
    → rands ≡ map (rand_of key sub) (range_with_len first count) → made ≡ vectors_of row.secret method.Aka row.amf [] row.bits first rands
    → flat_map vector_bytes made ≡ concat (numbers_bytes key row sub first count)
group_bytes key row sub first count rands made er em =
    let vector : ℕ → Vector = λ n. vector_of row.secret method.Aka row.amf [] row.bits n (rand_of key sub n) in
    ap (flat_map vector_bytes) (em ∙ ap (vectors_of row.secret method.Aka row.amf [] row.bits first) er ∙ vectors_by row (rand_of key sub) first count)
    ∙ flat_map-map vector_bytes vector (range_with_len first count)
    ∙ sym (concat-map (number_bytes key row sub) (range_with_len first count))

-- a group more
pub numbers_more : (key : List ℕ) (row : Row) (sub first done count next : ℕ) (bytes : List ℕ) → first + done ≡ next
    → (bytes ++ concat (numbers_bytes key row sub first done)) ++ concat (numbers_bytes key row sub next count)
    ≡ bytes ++ concat (numbers_bytes key row sub first (done + count))
numbers_more key row sub first done count next bytes e =
    append_assoc bytes (concat (numbers_bytes key row sub first done)) (concat (numbers_bytes key row sub next count))
    ∙ ap (λ l. bytes ++ l)
    (sym (ap concat (ap (map (number_bytes key row sub)) (range-append first done count)
    ∙ map-append (number_bytes key row sub) (range_with_len first done) (range_with_len (first + done) count))
    ∙ concat-append (numbers_bytes key row sub first done) (numbers_bytes key row sub (first + done) count)
    ∙ ap (λ k. concat (numbers_bytes key row sub first done) ++ concat (numbers_bytes key row sub k count)) e))

-- one RAND more
pub rands_more : (rand : ℕ → List ℕ) (rands : List (List ℕ)) (first i : ℕ) (next : List ℕ) → i < length rands → take i rands ≡ map rand (range_with_len first i)
    → next ≡ rand (first + i) → take (i + 1) (set rands i next) ≡ map rand (range_with_len first (i + 1))
rands_more rand rands first i next inside before is =
    take_more (set rands i next) i [] (omega (arith, length-set rands i next)) ∙ ap (λ (l : List (List ℕ)). l ++ (get_or (set rands i next) i [] ∷ [])) (take-set rands i next ∙ before)
    ∙ ap (λ (x : List ℕ). map rand (range_with_len first i) ++ (x ∷ [])) (get_or-set_same rands i next [] inside ∙ is)
    ∙ sym (ap (map rand) (range_more first i (first + i) refl) ∙ map-append rand (range_with_len first i) ((first + i) ∷ []))

-- one vector more
pub vector_more : (made : List Vector) (i : ℕ) (d : Vector) (bytes : List ℕ) → i < length made
    → (bytes ++ flat_map vector_bytes (take i made)) ++ vector_bytes (get_or made i d) ≡ bytes ++ flat_map vector_bytes (take (i + 1) made)
vector_more made i d bytes inside =
    flat_map_more vector_bytes bytes (take i made) (get_or made i d) ∙ ap (λ l. bytes ++ flat_map vector_bytes l) (sym (take_more made i d inside))

-- the row at a subscriber's place
pub row_there : (key : List ℕ) (rows : List Row) (sub : ℕ) (row : Row) → rows ≡ map (row_at key) (range_with_len 0 (length rows))
    → sub < length rows → slice_get rows sub ≡ Some row → row ≡ row_at key sub
row_there key rows sub row are inside there =
    sym (get_or_from_slice_get rows sub row row there) ∙ ap (λ (rs : List Row). get_or rs sub row) are
    ∙ get_or-map-range_with_len (row_at key) 0 (length rows) sub sub row inside (omega arith)
