-- The vectors of a load in the order of its digest, and the pieces that threads make of them.
use Rattle.std.specs.Prelude.{◌≡◌, ℕ, ◌*◌, ◌<◌, ◌≤◌, List, [], ◌++◌, All, map, flat_map, drop, take, length, slice_index_or}
use Rattle.std.specs.List.{concat, range_with_len}
use Rattle.sha2.specs.Hashers.{Holds256}
use Rattle.auc_hmac.specs.declared.method.Method.TheVariants as method
use Rattle.auc_sqn.specs.Number.{max_seq}
use Rattle.auc_load.specs.Input.{row_at}
use Rattle.auc_load.specs.Summary.{vector_bytes}
use Rattle.auc_load.specs.declared.digest.Hashing.{Hashing}
use Rattle.auc_load.specs.declared.pieces.Place.{Place}
use Rattle.auc_subs.specs.declared.row.Row.{Row}
use Rattle.auc_random.specs.Random.{rand_of}
use Rattle.auc_vector.specs.Vector.{vector_of}
use Rattle.auc_record.specs.declared.record.Closing.{Closing}

-- what the vectors are made from: the key of the random bytes, the subscribers, and how a round closed them
pub record Source : Type 0 where
  pub key : List ℕ
  pub rows : List Row
  pub closings : List Closing

-- a closing of one of so many subscribers, at a number that a vector may have
pub record IsNamed (count : ℕ) (closing : Closing) : Type 0 where
  pub known : closing.sub < count
  pub last : closing.last ≤ max_seq

-- the subscribers are those that a load has under the key, and the closings are theirs
pub record IsSource (source : Source) : Type 0 where
  pub rows : source.rows ≡ map (row_at source.key) (range_with_len 0 (length source.rows))
  pub closings : All (IsNamed (length source.rows)) source.closings

-- the bytes of a subscriber's vector of EAP-AKA of a number
abbrev pub number_bytes : List ℕ → Row → ℕ → ℕ → List ℕ
number_bytes key row sub n = vector_bytes (vector_of row.secret method.Aka row.amf [] row.bits n (rand_of key sub n))

-- those of so many numbers from one on
abbrev pub numbers_bytes : List ℕ → Row → ℕ → ℕ → ℕ → List (List ℕ)
numbers_bytes key row sub first count = map (number_bytes key row sub) (range_with_len first count)

-- those of the numbers up to a closing
abbrev pub closing_vectors : List ℕ → Closing → List (List ℕ)
closing_vectors key closing = numbers_bytes key (row_at key closing.sub) closing.sub 1 closing.last

-- the bytes of each vector, by subscriber and number
abbrev pub each_vector : List ℕ → List Closing → List (List ℕ)
each_vector key closings = flat_map (closing_vectors key) closings

-- how many vectors a piece has
abbrev pub vectors_of_piece : ℕ
vectors_of_piece = 1024

-- the vectors from a place on
abbrev pub vectors_from : Source → Place → List (List ℕ)
vectors_from source place = drop place.before (each_vector source.key (drop place.closing source.closings))

-- no more vectors stand before a place than its closing has
abbrev pub IsPlace : List Closing → Place → Type 0
IsPlace closings place = (d : Closing) → place.closing < length closings → place.before ≤ (slice_index_or closings place.closing d).last

-- the pieces begin at these places, from the first vector on
abbrev pub AreStarts : Source → List Place → Type 0
AreStarts source starts = (i : ℕ) (d : Place) → i < length starts
    → IsPlace source.closings (slice_index_or starts i d)
    × (vectors_from source (slice_index_or starts i d) ≡ drop (vectors_of_piece * i) (each_vector source.key source.closings))

-- the pieces of all vectors before a place begin at these places, and the next piece begins at this one
pub record IsCut (source : Source) (next : Place) (starts : List Place) : Type 0 where
  pub begun : AreStarts source starts
  pub ahead : vectors_from source next ≡ drop (vectors_of_piece * length starts) (each_vector source.key source.closings)

-- the bytes of so many pieces from a piece on
abbrev pub pieces_bytes : Source → ℕ → ℕ → List ℕ
pieces_bytes source first count =
    concat (take (vectors_of_piece * count) (drop (vectors_of_piece * first) (each_vector source.key source.closings)))

-- the vectors of so many pieces were made, and a hasher holds those that aren't kept
abbrev pub IsHashing : Source → Hashing → Type 0
IsHashing source hashing =
    (fed : List ℕ) × Holds256 hashing.hasher fed × (fed ++ concat hashing.made ≡ pieces_bytes source 0 hashing.begun)
