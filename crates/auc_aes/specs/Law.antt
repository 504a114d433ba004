-- Encryption and decryption are inverse to each other.
use Rattle.std.specs.Prelude.{◌≡◌, ℕ, ◌%◌, List, length}
use Rattle.auc_aes.specs.Bytes.{IsBytes, IsBlock}
use Rattle.auc_aes.specs.Cipher.{aes, aes_inverse}
use Rattle.auc_aes.specs.Cbc.{cbc_encrypted, cbc_decrypted}

-- decrypting an encrypted block gives the block
abbrev pub DecryptionUndoesEncryption : Type 0
DecryptionUndoesEncryption =
    (key block : List ℕ) → IsBlock key → IsBlock block → aes_inverse key (aes key block) ≡ block

-- encrypting a decrypted block gives the block
abbrev pub EncryptionUndoesDecryption : Type 0
EncryptionUndoesDecryption =
    (key block : List ℕ) → IsBlock key → IsBlock block → aes key (aes_inverse key block) ≡ block

-- CBC decryption of CBC-encrypted whole blocks gives the blocks
abbrev pub CbcDecryptionUndoesEncryption : Type 0
CbcDecryptionUndoesEncryption =
    (key iv bytes : List ℕ) → IsBlock key → IsBlock iv → IsBytes bytes → length bytes % 16 ≡ 0
    → cbc_decrypted key iv (cbc_encrypted key iv bytes) ≡ bytes

-- CBC encryption of CBC-decrypted whole blocks gives the blocks
abbrev pub CbcEncryptionUndoesDecryption : Type 0
CbcEncryptionUndoesDecryption =
    (key iv bytes : List ℕ) → IsBlock key → IsBlock iv → IsBytes bytes → length bytes % 16 ≡ 0
    → cbc_encrypted key iv (cbc_decrypted key iv bytes) ≡ bytes
