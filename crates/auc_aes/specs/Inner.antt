-- Inner facts: what only private contracts of this crate cite.
use Rattle.std.specs.Prelude.{ℕ, ◌-◌, ◌/◌, List, [], ◌∷◌, ◌++◌, length, take, drop, slice_index}
use Rattle.std.specs.Int.{w32, to_be_bytes}
use Rattle.auc_aes.specs.Cbc.{decrypted_blocks}
use Rattle.auc_aes.specs.Cipher.{mixed, inv_mixed}

-- the block of four words of 32 bits, the most significant byte of each first
unfoldable pub block_of_words : List ℕ → List ℕ
block_of_words words =
    to_be_bytes w32 (slice_index words 0) ++ to_be_bytes w32 (slice_index words 1)
    ++ to_be_bytes w32 (slice_index words 2) ++ to_be_bytes w32 (slice_index words 3)

-- the mixed column
unfoldable pub mixed_column : ℕ → ℕ → ℕ → ℕ → List ℕ
mixed_column a b c d = mixed a b c d ∷ mixed b c d a ∷ mixed c d a b ∷ mixed d a b c ∷ []

-- the column before its mixing
unfoldable pub inv_mixed_column : ℕ → ℕ → ℕ → ℕ → List ℕ
inv_mixed_column a b c d =
    inv_mixed a b c d ∷ inv_mixed b c d a ∷ inv_mixed c d a b ∷ inv_mixed d a b c ∷ []

-- what CBC decryption makes of a string whose blocks before a place are decrypted and the others not yet; the last block is the
-- ciphertext block before that place
abbrev pub decrypted_from : List ℕ → List ℕ → List ℕ → ℕ → List ℕ
decrypted_from key last bytes at =
    take at bytes ++ decrypted_blocks key last ((length bytes - at) / 16) (drop at bytes)
