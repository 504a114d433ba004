-- For the summary: the closings of a load's round, and the bytes of the vectors behind them.
use Rattle.std.proofs.Common.{◌≡◌, ℕ, zero, suc, ◌+◌, ◌%◌, ◌<◌, ◌≤◌, Bool, false, List, [], ◌∷◌, ◌++◌, map, length, All, refl, sym, ap, subst, ◌∙◌, append-nil, arith}
use Rattle.std.specs.Prelude.{◌==◌, if◌then◌else◌, flat_map}
use Rattle.std.specs.List.{concat, range_with_len}
use Rattle.std.proofs.lemmas.Bool.Decides.{nat_tests}
use Rattle.std.proofs.lemmas.Grind.{flat_map-append}
use Rattle.std.proofs.lemmas.List.Elements.{All-nil, All-cons, All-append, All-same}
use Rattle.std.proofs.lemmas.List.Folds.{concat-append}
use Rattle.std.proofs.lemmas.List.FromFn.{length-map-range_with_len}
use Rattle.std.proofs.lemmas.List.Sums.{count_by-le-length}
use Rattle.auc_sqn.specs.Number.{max_seq}
use Rattle.auc_load.specs.Input.{load_key, load_rows, row_at}
use Rattle.auc_load.specs.Pieces.{IsNamed, IsSource, Source, closing_vectors, each_vector, number_bytes}
use Rattle.auc_load.specs.Summary.{all_bytes, closing_with, drawn_for, load_closings, subscriber_bytes}
use Rattle.auc_load.specs.Words.{IsLoad}
use Rattle.auc_load.specs.declared.words.LoadWords.{LoadWords}
use Rattle.auc_record.specs.declared.record.Closing.{Closing}

-- the bytes of the vectors up to a closing
abbrev closing_bytes : List ℕ → Closing → List ℕ
closing_bytes key closing = subscriber_bytes key (row_at key closing.sub) closing.sub closing.last

-- the closing of a subscriber for whom vectors were drawn
abbrev closed_after : ℕ → ℕ → Closing
closed_after sub count = record { sub = sub; first = 0; last = count; drawn = count; skipped = 0; released = count; withheld = 0 }

closing_some : (sub count : ℕ) → closing_with sub (suc count) ≡ closed_after sub (suc count) ∷ []
closing_some sub count =
    let some : (0 == suc count) ≡ false = grind (arith, nat_tests) in
    ap (λ (none : Bool). if none then [] else closed_after sub (suc count) ∷ []) some

-- those of one subscriber
of_one : (key : List ℕ) (sub count : ℕ) → flat_map (closing_bytes key) (closing_with sub count) ≡ subscriber_bytes key (row_at key sub) sub count
of_one key sub zero = refl
of_one key sub (suc count) =
    ap (flat_map (closing_bytes key)) (closing_some sub count) ∙ append-nil (subscriber_bytes key (row_at key sub) sub (suc count))

-- those of all subscribers
of_all : (key : List ℕ) (counts : ℕ → ℕ) (subs : List ℕ) → flat_map (closing_bytes key) (flat_map (λ sub. closing_with sub (counts sub)) subs)
    ≡ flat_map (λ sub. subscriber_bytes key (row_at key sub) sub (counts sub)) subs
of_all key counts [] = refl
of_all key counts (sub ∷ subs) =
    flat_map-append (closing_bytes key) (closing_with sub (counts sub)) (flat_map (λ sub. closing_with sub (counts sub)) subs)
    ∙ ap (λ (bytes : List ℕ). bytes ++ flat_map (closing_bytes key) (flat_map (λ sub. closing_with sub (counts sub)) subs)) (of_one key sub (counts sub))
    ∙ ap (λ (bytes : List ℕ). subscriber_bytes key (row_at key sub) sub (counts sub) ++ bytes) (of_all key counts subs)

bytes_of_closings : (load : LoadWords) → flat_map (closing_bytes (load_key load.key)) (load_closings load) ≡ all_bytes load
bytes_of_closings load = of_all (load_key load.key) (drawn_for load) (range_with_len 0 load.subscribers)

-- few vectors are drawn for a subscriber
drawn_few : (load : LoadWords) (sub : ℕ) → IsLoad load → drawn_for load sub ≤ max_seq
drawn_few load sub is =
    let most = count_by-le-length (λ other. other == sub) (map (λ j. j % load.subscribers) (range_with_len 0 load.jobs)) in
    let many = length-map-range_with_len (λ j. j % load.subscribers) 0 load.jobs in
    let jobs = is.jobs in
    omega (arith, most, many, jobs)

one_named : (total sub count : ℕ) → sub < total → count ≤ max_seq → All (IsNamed total) (closing_with sub count)
one_named total sub zero known last = All-nil (IsNamed total)
one_named total sub (suc count) known last =
    All-same (IsNamed total) (closing_with sub (suc count)) (closed_after sub (suc count) ∷ []) (closing_some sub count)
    (All-cons (IsNamed total) (closed_after sub (suc count)) [] (record { known = known; last = last }) (All-nil (IsNamed total)))

all_named : (total : ℕ) (counts : ℕ → ℕ) (from count : ℕ) → ((sub : ℕ) → counts sub ≤ max_seq) → from + count ≤ total
    → All (IsNamed total) (flat_map (λ sub. closing_with sub (counts sub)) (range_with_len from count))
all_named total counts from zero few within = All-nil (IsNamed total)
all_named total counts from (suc count) few within =
    All-append (IsNamed total) (closing_with from (counts from)) (flat_map (λ sub. closing_with sub (counts sub)) (range_with_len (from + 1) count))
    (one_named total from (counts from) (omega (arith, within)) (few from))
    (all_named total counts (from + 1) count few (omega (arith, within)))

-- so are a load's closings
closings_named : (load : LoadWords) → IsLoad load → All (IsNamed load.subscribers) (load_closings load)
closings_named load is = all_named load.subscribers (drawn_for load) 0 load.subscribers (λ sub. drawn_few load sub is) (omega arith)

-- how many rows there are
length-rows : (load : LoadWords) → length (load_rows load) ≡ load.subscribers
length-rows load = length-map-range_with_len (row_at (load_key load.key)) 0 load.subscribers

-- a list's bytes, joined
pub concat-map : (f : ℕ → List ℕ) (xs : List ℕ) → concat (map f xs) ≡ flat_map f xs
concat-map f [] = refl
concat-map f (x ∷ xs) = ap (λ l. f x ++ l) (concat-map f xs)

-- the bytes of the vectors up to closings are those of each vector
vectors_of_closings : (key : List ℕ) (closings : List Closing) → concat (each_vector key closings) ≡ flat_map (closing_bytes key) closings
vectors_of_closings key [] = refl
vectors_of_closings key (c ∷ cs) =
    concat-append (closing_vectors key c) (each_vector key cs)
    ∙ ap (λ l. l ++ concat (each_vector key cs)) (concat-map (number_bytes key (row_at key c.sub) c.sub) (range_with_len 1 c.last))
    ∙ ap (λ l. closing_bytes key c ++ l) (vectors_of_closings key cs)

pub bytes_of_load : (load : LoadWords) → concat (each_vector (load_key load.key) (load_closings load)) ≡ all_bytes load
bytes_of_load load = vectors_of_closings (load_key load.key) (load_closings load) ∙ bytes_of_closings load

-- a load's subscribers and closings are what its vectors are made from
pub source_of_load : (load : LoadWords) (source : Source) → IsLoad load → source.key ≡ load_key load.key → source.rows ≡ load_rows load
    → source.closings ≡ load_closings load → IsSource source
source_of_load load source is ek er ec =
    let many : length source.rows ≡ load.subscribers = ap length er ∙ length-rows load in
    record {
      rows = er ∙ ap (λ k. map (row_at k) (range_with_len 0 load.subscribers)) (sym ek)
          ∙ ap (λ n. map (row_at source.key) (range_with_len 0 n)) (sym many);
      closings = All-same (IsNamed (length source.rows)) source.closings (load_closings load) ec
          (subst (λ n. All (IsNamed n) (load_closings load)) (sym many) (closings_named load is));
    }
