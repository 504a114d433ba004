-- Random bytes, as the words of ChaCha20 by key, stream and place.
use Rattle.std.specs.Prelude.{ℕ, ◌+◌, ◌*◌, ◌%◌, ◌^◌, List, ◌++◌}
use Rattle.std.specs.Int.{w32, to_le_bytes}
use Rattle.rand_chacha.specs.ChaCha.{word_at, key_of}

-- the bytes of one word, the least significant first; ChaCha20 makes 10 double rounds
abbrev pub word_bytes : List ℕ → ℕ → ℕ → List ℕ
word_bytes key stream place = to_le_bytes w32 (word_at 10 (key_of key) stream place)

-- the sixteen bytes of the four words from a place on
unfoldable pub sixteen_at : List ℕ → ℕ → ℕ → List ℕ
sixteen_at key stream place =
    word_bytes key stream place ++ word_bytes key stream (place + 1) ++ word_bytes key stream (place + 2)
    ++ word_bytes key stream (place + 3)

-- RAND of a subscriber, which is its stream, and a number
unfoldable pub rand_of : List ℕ → ℕ → ℕ → List ℕ
rand_of key sub n = sixteen_at key sub (4 * n)

-- the sixteen bytes of an index of a session, for a nonce or an initialisation vector: the sessions' streams stand after
-- those of 2^32 subscribers
unfoldable pub nonce_of : List ℕ → ℕ → ℕ → List ℕ
nonce_of key session k = sixteen_at key (4294967296 + session) (4 * k)

-- the index after next; the indices count modulo 2^32
abbrev pub index_after : ℕ → ℕ
index_after k = (k + 2) % 2 ^ 32

-- NONCE_MT (RFC 4186 §10.4) of the EAP-SIM session whose first vector is a number of a subscriber: 2^32 streams from 2^42 on
unfoldable pub sim_nonce : List ℕ → ℕ → ℕ → List ℕ
sim_nonce key sub n = sixteen_at key (2 ^ 42 + sub) (4 * n)

-- the RANDs of one subscriber under a key
pub record Stream : Type 0 where
  pub key : List ℕ
  pub sub : ℕ
