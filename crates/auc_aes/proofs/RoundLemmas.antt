-- The steps of the inverse cipher on blocks, for the functions that take a block apart.
use Rattle.std.proofs.Common.{◌≡◌, ℕ, ◌<◌, List, [], ◌∷◌, length, get_or, refl}
use Rattle.auc_aes.specs.Field.{inv_sub_byte}
use Rattle.auc_aes.specs.Cipher.{inv_sub_bytes, inv_mix_columns}
use Rattle.auc_aes.specs.Inner.{inv_mixed_column}
use Rattle.auc_aes.proofs.BytesLemmas.{map_by_index}

-- INVSUBBYTES, by index
pub inv_sub_bytes_by_index : (s t : List ℕ) → length t ≡ length s
    → ((k : ℕ) → k < length s → get_or t k 0 ≡ inv_sub_byte (get_or s k 0)) → t ≡ inv_sub_bytes s
unfolding inv_sub_bytes
inv_sub_bytes_by_index s t e h = map_by_index inv_sub_byte s t e h

-- four columns whose mixing is undone make the state whose mixing is undone
pub unmixed_is : (s a b c d : List ℕ) → length s ≡ 16
    → a ≡ inv_mixed_column (get_or s 0 0) (get_or s 1 0) (get_or s 2 0) (get_or s 3 0)
    → b ≡ inv_mixed_column (get_or s 4 0) (get_or s 5 0) (get_or s 6 0) (get_or s 7 0)
    → c ≡ inv_mixed_column (get_or s 8 0) (get_or s 9 0) (get_or s 10 0) (get_or s 11 0)
    → d ≡ inv_mixed_column (get_or s 12 0) (get_or s 13 0) (get_or s 14 0) (get_or s 15 0)
    → get_or a 0 0 ∷ get_or a 1 0 ∷ get_or a 2 0 ∷ get_or a 3 0 ∷ get_or b 0 0 ∷ get_or b 1 0 ∷ get_or b 2 0 ∷ get_or b 3 0
    ∷ get_or c 0 0 ∷ get_or c 1 0 ∷ get_or c 2 0 ∷ get_or c 3 0 ∷ get_or d 0 0 ∷ get_or d 1 0 ∷ get_or d 2 0 ∷ get_or d 3 0 ∷ []
    ≡ inv_mix_columns s
unfolding inv_mixed_column inv_mix_columns
unmixed_is s a b c d e ea eb ec ed = rw (ea, eb, ec, ed) refl
