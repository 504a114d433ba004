-- For the pieces: the places among the vectors, and the bytes between them.
use Rattle.std.proofs.Common.{◌≡◌, ℕ, suc, ◌+◌, ◌-◌, ◌*◌, ◌<◌, ◌≤◌, List, [], ◌∷◌, ◌++◌, ◌⊎◌, inl, inr, map, take, drop, get_or, length, Result, Ok, Err, IfOk, Some, refl, sym, ap, subst, ◌∙◌, mul-add, mul-one, mul-suc, mul-zero, add_comm, append-nil, append_assoc, arith}
use Rattle.std.specs.Prelude.{slice_get}
use Rattle.std.specs.List.{concat, range_with_len}
use Rattle.std.proofs.Math.Seq.{drop_at, take-add, get_or-append_seam}
use Rattle.std.proofs.lemmas.Bool.{cases_order}
use Rattle.std.proofs.lemmas.List.{drop_all, drop-append-le, drop-drop, drop-map, drop_more, get_or-map, get_or_default, get_or_append_left, length-append, length-drop, length-map, take-append-le, take_all, take_more}
use Rattle.std.proofs.lemmas.List.Folds.{concat-append}
use Rattle.std.proofs.lemmas.List.FromFn.{length-map-range_with_len, length-range_with_len, take-map-range_with_len}
use Rattle.auc_memory.specs.declared.no_memory.NoMemory.{NoMemory}
use Rattle.auc_load.specs.Input.{row_at}
use Rattle.auc_load.specs.Pieces.{AreStarts, IsCut, IsPlace, IsSource, Source, closing_vectors, each_vector, number_bytes, numbers_bytes, pieces_bytes, vectors_from, vectors_of_piece}
use Rattle.auc_load.specs.declared.pieces.Place.{Place}
use Rattle.auc_load.proofs.VectorLemmas.{range-append, row_there}
use Rattle.auc_sqn.specs.Number.{top_of}
use Rattle.auc_subs.specs.declared.row.Row.{Row}
use Rattle.auc_record.specs.declared.record.Closing.{Closing}

-- the first m of a list, and n of those after them
parts : (m n : ℕ) (xs ys : List (List ℕ)) → ys ≡ drop m xs → concat (take m xs) ++ concat (take n ys) ≡ concat (take (m + n) xs)
parts m n xs ys e =
    ap (λ l. concat (take m xs) ++ concat (take n l)) e ∙ sym (ap concat (take-add m n xs) ∙ concat-append (take m xs) (take n (drop m xs)))

-- a list that ends at m
pub ends : (m n : ℕ) (xs : List (List ℕ)) → drop m xs ≡ [] → m ≤ n → take m xs ≡ take n xs
ends m n xs e le =
    let none = ap length e in
    let few : length xs ≤ m = omega (arith, none, length-drop m xs) in
    take_all m xs few ∙ sym (take_all n xs (omega (arith, few, le)))

-- ---- the vectors of a closing

length-vectors : (key : List ℕ) (c : Closing) → length (closing_vectors key c) ≡ c.last
length-vectors key c = length-map-range_with_len (number_bytes key (row_at key c.sub) c.sub) 1 c.last

-- the numbers after one
numbers_after : (before count : ℕ) → drop before (range_with_len 1 (before + count)) ≡ range_with_len (before + 1) count
numbers_after before count =
    let next : 1 + before ≡ before + 1 = omega arith in
    ap (drop before) (range-append 1 before count)
    ∙ drop_at (range_with_len 1 before) (range_with_len (1 + before) count) before (length-range_with_len 1 before)
    ∙ ap (λ k. range_with_len k count) next

-- so many vectors of a closing after the first ones
vectors_there : (key : List ℕ) (c : Closing) (rest : List (List ℕ)) (before count : ℕ) → before + count ≤ c.last
    → take count (drop before (closing_vectors key c ++ rest)) ≡ numbers_bytes key (row_at key c.sub) c.sub (before + 1) count
vectors_there key c rest before count within =
    let bytes : ℕ → List ℕ = number_bytes key (row_at key c.sub) c.sub in
    let many = length-vectors key c in
    let whole : c.last ≡ before + (c.last - before) = omega (arith, within) in
    let after : drop before (closing_vectors key c) ≡ map bytes (range_with_len (before + 1) (c.last - before)) =
    drop-map bytes before (range_with_len 1 c.last)
    ∙ ap (λ n. map bytes (drop before (range_with_len 1 n))) whole ∙ ap (map bytes) (numbers_after before (c.last - before)) in
    ap (take count) (drop-append-le before (closing_vectors key c) rest (omega (arith, within, many)) ∙ ap (λ (l : List (List ℕ)). l ++ rest) after)
    ∙ take-append-le count (map bytes (range_with_len (before + 1) (c.last - before))) rest
    (omega (arith, within, length-map-range_with_len bytes (before + 1) (c.last - before)))
    ∙ take-map-range_with_len bytes (before + 1) (c.last - before) count (omega (arith, within))

-- ---- places

-- the vectors from a closing on
from_closing : (key : List ℕ) (cs : List Closing) (k : ℕ) (d : Closing) → k < length cs
    → each_vector key (drop k cs) ≡ closing_vectors key (get_or cs k d) ++ each_vector key (drop (k + 1) cs)
from_closing key cs k d inside = ap (each_vector key) (drop_more cs k d inside)

-- after a closing's last vector comes the next one's first
passed : (key : List ℕ) (cs : List Closing) (k before : ℕ) (d : Closing) → k < length cs → (get_or cs k d).last ≤ before
    → drop (before - (get_or cs k d).last) (each_vector key (drop (k + 1) cs)) ≡ drop before (each_vector key (drop k cs))
passed key cs k before d inside beyond =
    let c = get_or cs k d in
    let rest = each_vector key (drop (k + 1) cs) in
    let sum : c.last + (before - c.last) ≡ before = omega (arith, beyond) in
    sym (ap (drop before) (from_closing key cs k d inside)
    ∙ ap (λ n. drop n (closing_vectors key c ++ rest)) (sym sum)
    ∙ sym (drop-drop (before - c.last) c.last (closing_vectors key c ++ rest))
    ∙ ap (drop (before - c.last)) (drop_at (closing_vectors key c) rest c.last (length-vectors key c)))

-- nothing comes after the last closing
pub none_after : (source : Source) (place : Place) → length source.closings ≤ place.closing → vectors_from source place ≡ []
none_after source place beyond =
    ap (λ cs. drop place.before (each_vector source.key cs)) (drop_all place.closing source.closings beyond)
    ∙ drop_all place.before [] (omega arith)

-- ---- where the pieces begin

no_starts : (source : Source) → AreStarts source []
no_starts source i d inside = absurd (omega (arith, inside))

pub cut_at_first : (source : Source) → IsCut source (record { closing = 0; before = 0 }) []
cut_at_first source = record { begun = no_starts source; ahead = refl }

-- one piece more begins
pub cut_more : (source : Source) (k at last : ℕ) (starts : List Place) (d : Closing) → k < length source.closings → (get_or source.closings k d).last ≡ last → at < last
    → IsCut source (record { closing = k; before = at }) starts
    → IsCut source (record { closing = k; before = at + vectors_of_piece }) (starts ++ record { closing = k; before = at } ∷ [])
cut_more source k at last starts d known is within cut =
    let place : Place = record { closing = k; before = at } in
    let all = each_vector source.key source.closings in
    let long = length-append starts (place ∷ []) in
    let next : vectors_of_piece * length starts + vectors_of_piece ≡ vectors_of_piece * length (starts ++ place ∷ []) = omega (arith, long) in
    record {
      begun = λ i e inside. each i e inside (cases_order i (length starts));
      ahead = sym (drop-drop vectors_of_piece at (each_vector source.key (drop k source.closings)))
          ∙ ap (drop vectors_of_piece) cut.ahead
          ∙ drop-drop vectors_of_piece (vectors_of_piece * length starts) all
          ∙ ap (λ n. drop n all) next;
    }
  where
    begins : ℕ → Place → Type 0
    begins i p = IsPlace source.closings p × (vectors_from source p ≡ drop (vectors_of_piece * i) (each_vector source.key source.closings))

    new : Place
    new = record { closing = k; before = at }

    there : IsPlace source.closings new
    there e inside =
        let same = ap (λ (c : Closing). c.last) (get_or_default source.closings k e d known) in
        omega (arith, same, is, within)

    each : (i : ℕ) (d : Place) → i < length (starts ++ new ∷ []) → (i ≡ length starts) ⊎ ((i < length starts) ⊎ (length starts < i)) → begins i (get_or (starts ++ new ∷ []) i d)
    each i d inside (inl e) =
        subst (λ j. begins j (get_or (starts ++ new ∷ []) j d)) (sym e)
        (subst (begins (length starts)) (sym (get_or-append_seam starts new [] d)) (there, cut.ahead))
    each i d inside (inr (inl lt)) = subst (begins i) (sym (get_or_append_left starts (new ∷ []) d i lt)) (cut.begun i d lt)
    each i d inside (inr (inr gt)) = absurd (omega (arith, inside, gt, length-append starts (new ∷ [])))

-- the next piece begins after a closing
pub cut_passed : (source : Source) (k at last : ℕ) (starts : List Place) (d : Closing) → k < length source.closings → (get_or source.closings k d).last ≡ last → last ≤ at
    → IsCut source (record { closing = k; before = at }) starts → IsCut source (record { closing = k + 1; before = at - last }) starts
cut_passed source k at last starts d known is beyond cut = record {
  begun = cut.begun;
  ahead = ap (λ n. drop (at - n) (each_vector source.key (drop (k + 1) source.closings))) (sym is)
      ∙ passed source.key source.closings k at d known (omega (arith, is, beyond)) ∙ cut.ahead;
}

-- ---- a piece

-- the first vectors of a closing more
pub bytes_more : (source : Source) (k before count m : ℕ) (d : Closing) (xs : List (List ℕ)) → k < length source.closings → before + count ≤ (get_or source.closings k d).last
    → vectors_from source (record { closing = k; before = before }) ≡ drop m xs
    → concat (take m xs) ++ concat (numbers_bytes source.key (row_at source.key (get_or source.closings k d).sub) (get_or source.closings k d).sub (before + 1) count)
    ≡ concat (take (m + count) xs)
bytes_more source k before count m d xs inside within e =
    let c = get_or source.closings k d in
    let rest = each_vector source.key (drop (k + 1) source.closings) in
    ap (λ l. concat (take m xs) ++ concat l)
    (sym (ap (λ l. take count (drop before l)) (from_closing source.key source.closings k d inside) ∙ vectors_there source.key c rest before count within))
    ∙ parts m count xs (vectors_from source (record { closing = k; before = before })) e

-- and all that it has
pub closing_more : (source : Source) (k before count m : ℕ) (d : Closing) (xs : List (List ℕ)) → k < length source.closings → before + count ≡ (get_or source.closings k d).last
    → vectors_from source (record { closing = k; before = before }) ≡ drop m xs
    → vectors_from source (record { closing = k + 1; before = 0 }) ≡ drop (m + count) xs
closing_more source k before count m d xs inside whole e =
    let none : 0 ≡ (before + count) - (get_or source.closings k d).last = omega (arith, whole) in
    ap (λ n. drop n (each_vector source.key (drop (k + 1) source.closings))) none
    ∙ passed source.key source.closings k (before + count) d inside (omega (arith, whole))
    ∙ sym (drop-drop count before (each_vector source.key (drop k source.closings)))
    ∙ ap (drop count) e ∙ drop-drop count m xs

-- the row of a closing's subscriber
row_here : (source : Source) (k : ℕ) (d closing : Closing) (row : Row) → IsSource source → k < length source.closings → closing ≡ get_or source.closings k d
    → slice_get source.rows closing.sub ≡ Some row → row ≡ row_at source.key closing.sub
row_here source k d closing row is known same there =
    row_there source.key source.rows closing.sub row is.rows (subst (λ (c : Closing). c.sub < length source.rows) (sym same) (is.closings k d known).known) there

-- its numbers are within its index
pub numbers_within : (source : Source) (k n : ℕ) (d closing : Closing) (row : Row) → IsSource source → k < length source.closings → closing ≡ get_or source.closings k d
    → slice_get source.rows closing.sub ≡ Some row → n ≤ closing.last → n ≤ top_of row.bits
numbers_within source k n d closing row is known same there within =
    let last = (is.closings k d known).last in
    let same_last = ap (λ (c : Closing). c.last) same in
    let few : n ≤ top_of 5 = omega (arith, within, last, same_last) in
    subst (λ (r : Row). n ≤ top_of r.bits) (sym (row_here source k d closing row is known same there)) few

-- the bytes after the vectors of a closing
pub piece_more : (source : Source) (k before count m : ℕ) (d closing : Closing) (row : Row) (xs : List (List ℕ)) (key old new : List ℕ)
    → IsSource source → k < length source.closings → closing ≡ get_or source.closings k d → slice_get source.rows closing.sub ≡ Some row → key ≡ source.key
    → before + count ≤ closing.last → vectors_from source (record { closing = k; before = before }) ≡ drop m xs → old ≡ concat (take m xs)
    → new ≡ old ++ concat (numbers_bytes key row closing.sub (before + 1) count) → new ≡ concat (take (m + count) xs)
piece_more source k before count m d closing row xs key old new is known same there ek within ahead eo en =
    let same_last = ap (λ (c : Closing). c.last) same in
    en ∙ ap (λ (l : List ℕ). l ++ concat (numbers_bytes key row closing.sub (before + 1) count)) eo
    ∙ ap (λ (l : List ℕ). concat (take m xs) ++ concat (numbers_bytes l row closing.sub (before + 1) count)) ek
    ∙ ap (λ (r : Row). concat (take m xs) ++ concat (numbers_bytes source.key r closing.sub (before + 1) count)) (row_here source k d closing row is known same there)
    ∙ ap (λ (c : Closing). concat (take m xs) ++ concat (numbers_bytes source.key (row_at source.key c.sub) c.sub (before + 1) count)) same
    ∙ bytes_more source k before count m d xs known (omega (arith, within, same_last)) ahead

-- ---- many pieces

-- what holds of each result holds of this one
pub if_ok_map : {A E : Type 0} (P Q : A → Type 0) (result : Result A E) → ((x : A) → P x → Q x) → IfOk result P → IfOk result Q
if_ok_map P Q (Ok x) f holds = f x holds
if_ok_map P Q (Err e) f holds = tt

-- pieces of p, one after the other
joined : (p first : ℕ) (xs : List (List ℕ)) (made : List (List ℕ))
    → ((i : ℕ) → i < length made → get_or made i [] ≡ concat (take (p * 1) (drop (p * (first + i)) xs)))
    → concat made ≡ concat (take (p * length made) (drop (p * first) xs))
joined p first xs [] each = sym (ap (λ n. concat (take n (drop (p * first) xs))) (mul-zero p))
joined p first xs (b ∷ bs) each =
    let here : first + 0 ≡ first = omega arith in
    let left : List (List ℕ) = drop (p * first) xs in
    let after : drop (p * (first + 1)) xs ≡ drop p left =
    ap (λ n. drop n xs) (mul-add p first 1 ∙ ap (λ n. p * first + n) (mul-one p)) ∙ sym (drop-drop p (p * first) xs) in
    let more : concat bs ≡ concat (take (p * length bs) (drop (p * (first + 1)) xs)) =
    joined p (first + 1) xs bs (λ i inside.
    let next : first + suc i ≡ first + 1 + i = omega arith in
    each (suc i) (omega (arith, inside)) ∙ ap (λ n. concat (take (p * 1) (drop (p * n) xs))) next) in
    let sum : p + p * length bs ≡ p * suc (length bs) = sym (mul-suc p (length bs) ∙ add_comm (p * length bs) p) in
    ap (λ l. l ++ concat bs) (each 0 (omega arith) ∙ ap (λ n. concat (take (p * 1) (drop (p * n) xs))) here ∙ ap (λ n. concat (take n left)) (mul-one p))
    ∙ ap (λ l. concat (take p left) ++ l) more
    ∙ parts p (p * length bs) left (drop (p * (first + 1)) xs) after
    ∙ ap (λ n. concat (take n left)) sum

-- the pieces that threads made, if each of them had the memory
pub pieces_joined : (source : Source) (first count : ℕ) (all : List (Result (List ℕ) NoMemory)) (made : List (List ℕ)) → length all ≡ count
    → ((i : ℕ) (d : Result (List ℕ) NoMemory) → i < count → IfOk (get_or all i d) (λ bytes. bytes ≡ pieces_bytes source (first + i) 1))
    → map Ok made ≡ all → concat made ≡ pieces_bytes source first count
pieces_joined source first count all made many each same =
    let long : length made ≡ count = sym (length-map made Ok) ∙ ap length same ∙ many in
    joined vectors_of_piece first (each_vector source.key source.closings) made (λ i inside.
    subst (λ (r : Result (List ℕ) NoMemory). IfOk r (λ bytes. bytes ≡ pieces_bytes source (first + i) 1))
    (ap (λ (l : List (Result (List ℕ) NoMemory)). get_or l i (Ok [])) (sym same) ∙ get_or-map Ok made i [] (Ok []) inside)
    (each i (Ok []) (omega (arith, inside, long))))
    ∙ ap (pieces_bytes source first) long

-- a piece is one of its number
pub one_piece : (source : Source) (i : ℕ) (xs : List (List ℕ)) → xs ≡ drop (vectors_of_piece * i) (each_vector source.key source.closings)
    → concat (take vectors_of_piece xs) ≡ pieces_bytes source i 1
one_piece source i xs e = ap (λ l. concat (take vectors_of_piece l)) e

-- pieces, and those after them
pub pieces_more : (source : Source) (done count : ℕ) (fed : List ℕ) (bytes next : List ℕ) → fed ++ bytes ≡ pieces_bytes source 0 done → next ≡ pieces_bytes source done count
    → (fed ++ bytes) ++ next ≡ pieces_bytes source 0 (done + count)
pieces_more source done count fed bytes next before after =
    let all = each_vector source.key source.closings in
    ap (λ l. l ++ next) before ∙ ap (λ l. pieces_bytes source 0 done ++ l) after
    ∙ parts (vectors_of_piece * done) (vectors_of_piece * count) all (drop (vectors_of_piece * done) all) refl
    ∙ ap (λ n. concat (take n all)) (sym (mul-add vectors_of_piece done count))

-- all pieces
pub all_pieces : (source : Source) (count : ℕ) → drop (vectors_of_piece * count) (each_vector source.key source.closings) ≡ []
    → pieces_bytes source 0 count ≡ concat (each_vector source.key source.closings)
all_pieces source count e =
    let all = each_vector source.key source.closings in
    let none = ap length e in
    ap concat (take_all (vectors_of_piece * count) all (omega (arith, none, length-drop (vectors_of_piece * count) all)))

-- one piece more
pub piece_hashed : (made : List (List ℕ)) (i : ℕ) (d fed : List ℕ) → i < length made
    → (fed ++ concat (take i made)) ++ get_or made i d ≡ fed ++ concat (take (i + 1) made)
piece_hashed made i d fed inside =
    append_assoc fed (concat (take i made)) (get_or made i d)
    ∙ ap (λ l. fed ++ l) (sym (ap concat (take_more made i d inside) ∙ concat-append (take i made) (get_or made i d ∷ [])
    ∙ ap (λ l. concat (take i made) ++ l) (append-nil (get_or made i d))))
