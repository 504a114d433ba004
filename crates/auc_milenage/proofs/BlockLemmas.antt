-- The sizes of the functions' values, for the crates above.
use Rattle.std.proofs.Common.{◌≡◌, ℕ, zero, suc, ◌<◌, List, length, refl, arith}
use Rattle.std.specs.Int.{w128, from_be_bytes, to_be_bytes, byte_at, bytes_high_first, rotate_left}
use Rattle.std.proofs.lemmas.List.{length-take-le}
use Rattle.auc_aes.specs.Bytes.{xor, rot, IsBytes, IsBlock}
use Rattle.auc_aes.specs.Cipher.{aes}
use Rattle.auc_aes.proofs.Facts.{xor_block, aes_block}
use Rattle.auc_milenage.specs.Milenage.{temp_of, out, f5, r2, c2}

-- a number's bytes are bytes
byte_lt : (i n : ℕ) → byte_at i n < 256
byte_lt zero n = omega arith
byte_lt (suc i) n = omega arith

-- the bytes of a number are bytes
bytes_are : (k n : ℕ) → IsBytes (bytes_high_first k n)
bytes_are zero n i = omega arith
bytes_are (suc k) n zero = byte_lt k n
bytes_are (suc k) n (suc i) = bytes_are k n i

-- the block of a number
number_block : (n : ℕ) → IsBlock (to_be_bytes w128 n)
number_block n = record { size = refl; bytes = bytes_are 16 n }

-- a turned block is a block
rot_block : (block : List ℕ) (r : ℕ) → IsBlock (rot block r)
unfolding rot
rot_block block r = number_block (rotate_left w128 (from_be_bytes w128 block) r)

-- an output block is a block
pub out_block : (r c : ℕ) (k opc temp : List ℕ) → IsBlock k → IsBlock opc → IsBlock (out r c k opc temp)
unfolding out
out_block r c k opc temp hk ho =
    let input : IsBlock (xor (rot (xor temp opc) r) (to_be_bytes w128 c)) =
    xor_block (rot (xor temp opc) r) (to_be_bytes w128 c) (rot_block (xor temp opc) r) (number_block c) in
    xor_block (aes k (xor (rot (xor temp opc) r) (to_be_bytes w128 c))) opc
    (aes_block k (xor (rot (xor temp opc) r) (to_be_bytes w128 c)) hk input) ho

-- AK has 6 bytes
pub f5_size : (k opc rand : List ℕ) → IsBlock k → IsBlock opc → length (f5 k opc rand) ≡ 6
unfolding f5
f5_size k opc rand hk ho =
    let block : IsBlock (out r2 c2 k opc (temp_of k opc rand)) = out_block r2 c2 k opc (temp_of k opc rand) hk ho in
    length-take-le 6 (out r2 c2 k opc (temp_of k opc rand)) (omega (arith, block.size))
