-- Inner facts: what only private contracts of this crate cite.
use Rattle.std.specs.Prelude.{◌≡◌, ℕ, ◌/◌, Bool, ◌||◌, leb, ltb, List, [], ◌∷◌, map, slice_index, slice_index_or, ◌<◌, ◌≤◌, bit_and, bit_xor, if◌then◌else◌, length}
use Rattle.std.specs.Simd.Lanes.{zip2}
use Rattle.auc_aes.specs.Cipher.{round_key}
use Rattle.auc_aes.specs.declared.lane_tables.TheConstants.{INVERSES, QUOTIENTS, S_BOX_FIRST, S_BOX_SECOND, DOUBLE_FIRST, DOUBLE_SECOND, BYTE_FIRST, BYTE_SECOND, COORDINATES_LOW, COORDINATES_HIGH}

-- whether a place is in a table of sixteen entries, or from 128 on, where a look-up gives 0
abbrev pub is_place : ℕ → Bool
is_place place = leb 128 place || ltb place 16

-- the entry of a table at a place
abbrev pub entry : List ℕ → ℕ → ℕ
entry table place = if leb 128 place then 0 else slice_index table place

-- ---- the byte that has two halves as its coordinates over GF(2^4)

-- the halves of a byte
abbrev pub low_of : ℕ → ℕ
low_of y = bit_and y 15

abbrev pub high_of : ℕ → ℕ
high_of y = y / 16

-- their sum
abbrev pub sum_of : ℕ → ℕ
sum_of y = bit_xor (high_of y) (low_of y)

-- the places of the two parts of the inverse
abbrev pub first_inner : ℕ → ℕ
first_inner y = bit_xor (entry INVERSES (high_of y)) (entry QUOTIENTS (low_of y))

abbrev pub second_inner : ℕ → ℕ
second_inner y = bit_xor (entry INVERSES (sum_of y)) (entry QUOTIENTS (low_of y))

abbrev pub first_part : ℕ → ℕ
first_part y = bit_xor (entry INVERSES (first_inner y)) (sum_of y)

abbrev pub second_part : ℕ → ℕ
second_part y = bit_xor (entry INVERSES (second_inner y)) (high_of y)

-- what is looked up of both parts
abbrev pub looked_up : List ℕ → List ℕ → ℕ → ℕ
looked_up first second y = bit_xor (entry first (first_part y)) (entry second (second_part y))

-- in coordinates: the S-box without its constant, twice that in the field, and the former as a byte
abbrev pub substituted : ℕ → ℕ
substituted = looked_up S_BOX_FIRST S_BOX_SECOND

abbrev pub doubled : ℕ → ℕ
doubled = looked_up DOUBLE_FIRST DOUBLE_SECOND

abbrev pub substituted_byte : ℕ → ℕ
substituted_byte = looked_up BYTE_FIRST BYTE_SECOND

-- the coordinates of a byte
abbrev pub coordinates : ℕ → ℕ
coordinates b = bit_xor (entry COORDINATES_LOW (low_of b)) (entry COORDINATES_HIGH (high_of b))

-- ---- lanes of a block that change places

-- the lanes of a block that stand at some places, in order
abbrev pub moved : List ℕ → List ℕ → List ℕ
moved places block = map (λ place. slice_index block place) places

-- from where SHIFTROWS brings each byte
abbrev pub shifted_rows : List ℕ
shifted_rows = 0 ∷ 5 ∷ 10 ∷ 15 ∷ 4 ∷ 9 ∷ 14 ∷ 3 ∷ 8 ∷ 13 ∷ 2 ∷ 7 ∷ 12 ∷ 1 ∷ 6 ∷ 11 ∷ []

-- the byte one row down and one column on
abbrev pub next_rows : List ℕ
next_rows = 5 ∷ 6 ∷ 7 ∷ 4 ∷ 9 ∷ 10 ∷ 11 ∷ 8 ∷ 13 ∷ 14 ∷ 15 ∷ 12 ∷ 1 ∷ 2 ∷ 3 ∷ 0 ∷ []

-- the byte two rows down and two columns on
abbrev pub opposite_rows : List ℕ
opposite_rows = 10 ∷ 11 ∷ 8 ∷ 9 ∷ 14 ∷ 15 ∷ 12 ∷ 13 ∷ 2 ∷ 3 ∷ 0 ∷ 1 ∷ 6 ∷ 7 ∷ 4 ∷ 5 ∷ []

-- ---- rounds on lanes

-- the shift of rows and the mixing of columns, of which once and twice give the S-box's values and their doubles
abbrev pub mixed_lanes : List ℕ → List ℕ → List ℕ
mixed_lanes once twice =
    let sums = zip2 bit_xor twice (moved opposite_rows once) in
    moved shifted_rows (zip2 bit_xor sums (moved next_rows (zip2 bit_xor sums once)))

-- a round on the lanes of a block
abbrev pub lane_round : (ℕ → ℕ) → (ℕ → ℕ) → List ℕ → List ℕ → List ℕ
lane_round once twice block key =
    zip2 bit_xor (mixed_lanes (map once block) (map twice block)) key

-- the last round
abbrev pub last_lane_round : (ℕ → ℕ) → List ℕ → List ℕ → List ℕ
last_lane_round once block key = zip2 bit_xor (moved shifted_rows (map once block)) key

-- the coordinates of a byte of a round key, with the constant of the S-box, which the tables leave out
abbrev pub key_coordinates : ℕ → ℕ
key_coordinates b = coordinates (bit_xor b 99)

-- a byte of the last round key, with that constant
abbrev pub with_constant : ℕ → ℕ
with_constant b = bit_xor b 99

-- the round keys as lanes: the first and the full rounds' in coordinates, the last as bytes
pub record IsLaneKeys (key : List ℕ) (keys : List (List ℕ)) : Type 0 where
  pub first : slice_index_or keys 0 [] ≡ map coordinates (round_key key 0)
  pub inner : (i : ℕ) → 1 ≤ i → i < 10 → slice_index_or keys i [] ≡ map key_coordinates (round_key key i)
  pub last : slice_index_or keys 10 [] ≡ map with_constant (round_key key 10)

-- ---- many blocks

-- the first at blocks are those of old under f, and the others are as in old
pub record IsDone (f : List ℕ → List ℕ) (old now : List (List ℕ)) (at : ℕ) : Type 0 where
  pub size : length now ≡ length old
  pub done : (i : ℕ) → i < at → slice_index_or now i [] ≡ f (slice_index_or old i [])
  pub rest : (i : ℕ) → at ≤ i → slice_index_or now i [] ≡ slice_index_or old i []
