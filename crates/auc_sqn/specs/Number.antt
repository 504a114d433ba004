-- Sequence numbers: the number of an authentication vector and its SQN of 6 bytes, most significant
-- first (TS 33.102 §6.3.1 and Annex C.1.1.1). SEQ stands in front of IND; how many bits IND has is the
-- subscriber's index length.
use Rattle.std.specs.Prelude.{◌≡◌, ℕ, ◌+◌, ◌-◌, ◌*◌, ◌/◌, ◌%◌, ◌^◌, ◌≤◌, min, List, drop, fold}
use Rattle.std.specs.Int.{to_be_bytes, w64}

-- the greatest number of a vector, whatever the index length is: 2 ^ 43 - 1
abbrev pub max_seq : ℕ
max_seq = 8796093022207

-- the greatest index length
abbrev pub most_bits : ℕ
most_bits = 6

-- how many values an IND of so many bits has
abbrev pub indices : ℕ → ℕ
indices bits = 2 ^ bits

-- the greatest number of a subscriber with an index length: SEQ has the other bits of 48
abbrev pub top_of : ℕ → ℕ
top_of bits = min max_seq (2 ^ (48 - bits) - 1)

-- the number that some bytes are, the most significant first
abbrev pub value_of : List ℕ → ℕ
value_of bytes = fold (λ value byte. 256 * value + byte) 0 bytes

-- SEQ, the upper bits of an SQN
abbrev pub seq_of : ℕ → List ℕ → ℕ
seq_of bits sqn = value_of sqn / indices bits

-- IND, the lower bits of an SQN
abbrev pub ind_of : ℕ → List ℕ → ℕ
ind_of bits sqn = value_of sqn % indices bits

-- SEQ and IND side by side in 6 bytes
abbrev pub sqn_with : ℕ → ℕ → ℕ → List ℕ
sqn_with bits seq ind = drop 2 (to_be_bytes w64 (indices bits * seq + ind))

-- the SQN of a number: SEQ is the number, IND its remainder by how many values IND has
abbrev pub sqn_bytes : ℕ → ℕ → List ℕ
sqn_bytes bits number = sqn_with bits number (number % indices bits)

-- an SQN taken apart gives its number, and as IND the number's remainder
abbrev pub SplitUndoesSqn : Type 0
SplitUndoesSqn = (bits n : ℕ) → bits ≤ most_bits → n ≤ top_of bits
    → (seq_of bits (sqn_bytes bits n) ≡ n) × (ind_of bits (sqn_bytes bits n) ≡ n % indices bits)

-- two numbers of one index length with one SQN are one number
abbrev pub EachNumberHasItsOwnSqn : Type 0
EachNumberHasItsOwnSqn = (bits m n : ℕ) → bits ≤ most_bits → m ≤ top_of bits → n ≤ top_of bits
    → sqn_bytes bits m ≡ sqn_bytes bits n → m ≡ n
