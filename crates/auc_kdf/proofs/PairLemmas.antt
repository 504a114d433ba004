-- For the keys of a re-authentication.
use Rattle.std.proofs.Common.{ℕ, ◌≡◌, List, length, take, arith, refl}
use Rattle.std.proofs.lemmas.List.{take_all}
use Rattle.auc_kdf.specs.Prime.{prime_key_pair}

-- the pair that 128 bytes are cut into
pub key_pair_all : (blocks mk : List ℕ) → length blocks ≡ 128 → mk ≡ take 128 blocks → prime_key_pair blocks ≡ prime_key_pair mk
key_pair_all blocks mk size is = rw (is, take_all 128 blocks (omega arith)) refl
