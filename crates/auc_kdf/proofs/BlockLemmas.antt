-- For the loop that writes the blocks of PRF'.
use Rattle.std.proofs.Common.{ℕ, ◌≡◌, ◌≤◌, ◌+◌, ◌-◌, ◌*◌, List, [], ◌∷◌, ◌++◌, length, take, arith, add-one, refl, ◌∙◌}
use Rattle.std.proofs.lemmas.Slice.{take-put_mid, between-put_mid}
use Rattle.std.specs.List.{between}
use Rattle.auc_hmac.specs.Hmac.{hmac_sha256}
use Rattle.auc_kdf.specs.Prime.{prf_block, prf_blocks}
use borrow.Rule.Slice.PartMut.{put_mid}

-- a block is made from the one before it
pub prf_block_next : (key seed : List ℕ) (i : ℕ) → prf_block key seed (i + 1) ≡ hmac_sha256 key (prf_block key seed i ++ seed ++ (i + 1) ∷ [])
unfolding prf_block
prf_block_next key seed i = rw add-one refl

-- it follows those before it
pub prf_blocks_next : (key seed : List ℕ) (i : ℕ) → prf_blocks key seed (i + 1) ≡ prf_blocks key seed i ++ prf_block key seed (i + 1)
unfolding prf_blocks
prf_blocks_next key seed i = rw add-one refl

-- after a block was written, the blocks up to it stand in front
pub written_next : (key seed out block : List ℕ) (i : ℕ) → 32 * i ≤ length out → length block ≡ 32
    → take (32 * i) out ≡ prf_blocks key seed i → block ≡ prf_block key seed (i + 1)
    → take (32 * (i + 1)) (put_mid (32 * i) (32 * i + 32 - 32 * i) out block) ≡ prf_blocks key seed (i + 1)
written_next key seed out block i fits size written is =
    rw (take-put_mid (32 * i) (32 * i + 32 - 32 * i) out block (32 * (i + 1)) (omega arith) fits, prf_blocks_next key seed i, written, is) refl

-- and it is the last
pub last_next : (key seed out block : List ℕ) (i : ℕ) → 32 * i ≤ length out → length block ≡ 32
    → block ≡ prf_block key seed (i + 1)
    → between (32 * (i + 1 - 1)) (32 * (i + 1)) (put_mid (32 * i) (32 * i + 32 - 32 * i) out block) ≡ prf_block key seed (i + 1)
last_next key seed out block i fits size is =
    let start : i + 1 - 1 ≡ i = omega arith in
    rw start (between-put_mid (32 * i) (32 * i + 32 - 32 * i) out block (32 * (i + 1)) fits (omega arith) ∙ is)
