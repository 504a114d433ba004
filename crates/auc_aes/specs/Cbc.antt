-- The CBC mode over AES-128 (NIST SP 800-38A §6.2), on strings of whole blocks.
use Rattle.std.specs.Prelude.{ℕ, zero, suc, ◌/◌, List, [], ◌++◌, take, drop, length}
use Rattle.auc_aes.specs.Bytes.{xor}
use Rattle.auc_aes.specs.Cipher.{aes, aes_inverse}

-- the first n blocks encrypted: the cipher is applied to each plaintext block after it is added to the
-- previous ciphertext block, and the first to the initialization vector
unfoldable pub encrypted_blocks : List ℕ → List ℕ → ℕ → List ℕ → List ℕ
encrypted_blocks key iv zero bytes = []
encrypted_blocks key iv (suc n) bytes =
    let block = aes key (xor (take 16 bytes) iv) in
    block ++ encrypted_blocks key block n (drop 16 bytes)

-- the first n blocks decrypted: the inverse cipher of each ciphertext block is added to the previous
-- ciphertext block, and the first to the initialization vector
unfoldable pub decrypted_blocks : List ℕ → List ℕ → ℕ → List ℕ → List ℕ
decrypted_blocks key iv zero bytes = []
decrypted_blocks key iv (suc n) bytes =
    xor (aes_inverse key (take 16 bytes)) iv ++ decrypted_blocks key (take 16 bytes) n (drop 16 bytes)

-- CBC encryption of a string whose length is a multiple of 16
abbrev pub cbc_encrypted : List ℕ → List ℕ → List ℕ → List ℕ
cbc_encrypted key iv bytes = encrypted_blocks key iv (length bytes / 16) bytes

-- CBC decryption of a string whose length is a multiple of 16
abbrev pub cbc_decrypted : List ℕ → List ℕ → List ℕ → List ℕ
cbc_decrypted key iv bytes = decrypted_blocks key iv (length bytes / 16) bytes
