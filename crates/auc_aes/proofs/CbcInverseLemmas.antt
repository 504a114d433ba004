-- CBC decryption and CBC encryption undo each other, for the laws.
use Rattle.std.proofs.Common.{◌≡◌, ℕ, zero, suc, ◌*◌, ◌/◌, ◌%◌, List, [], ◌∷◌, ◌++◌, length, take, drop, refl, sym, ap, ◌∙◌, arith, length-append, length-drop}
use Rattle.std.proofs.lemmas.List.{take_at, drop_at, length-take-le, take-append-drop}
use Rattle.auc_aes.specs.Bytes.{xor, IsBytes, IsBlock}
use Rattle.auc_aes.specs.Cipher.{aes, aes_inverse}
use Rattle.auc_aes.specs.Cbc.{encrypted_blocks, decrypted_blocks, cbc_encrypted, cbc_decrypted}
use Rattle.auc_aes.proofs.InverseLemmas.{bytes_take, bytes_drop, xor_block, xor_twice, aes_block, aes_inverse_block, aes_undone, aes_inverse_undone}

-- the empty list
no_bytes : (bytes : List ℕ) → length bytes ≡ 0 → [] ≡ bytes
no_bytes [] e = refl
no_bytes (b ∷ bs) e = absurd (omega arith)

-- the first block of a string of whole blocks, and what follows it
first_block : (bytes : List ℕ) (n : ℕ) → IsBytes bytes → length bytes ≡ 16 * suc n → IsBlock (take 16 bytes)
first_block bytes n h e = record { size = length-take-le 16 bytes (omega arith); bytes = bytes_take 16 bytes h }

-- what follows the first block has the other blocks
rest_size : (bytes : List ℕ) (n : ℕ) → length bytes ≡ 16 * suc n → length (drop 16 bytes) ≡ 16 * n
rest_size bytes n e = omega (arith, length-drop 16 bytes)

module _ (key : List ℕ) (k : IsBlock key) where
  -- n blocks have 16 n bytes
  encrypted_size : (n : ℕ) (iv bytes : List ℕ) → IsBlock iv → IsBytes bytes → length bytes ≡ 16 * n
      → length (encrypted_blocks key iv n bytes) ≡ 16 * n
  unfolding encrypted_blocks
  encrypted_size zero iv bytes v h e = refl
  encrypted_size (suc n) iv bytes v h e =
      let added : IsBlock (xor (take 16 bytes) iv) = xor_block (take 16 bytes) iv (first_block bytes n h e) v in
      let block : IsBlock (aes key (xor (take 16 bytes) iv)) = aes_block key (xor (take 16 bytes) iv) k added in
      let rest : length (encrypted_blocks key (aes key (xor (take 16 bytes) iv)) n (drop 16 bytes)) ≡ 16 * n =
      encrypted_size n (aes key (xor (take 16 bytes) iv)) (drop 16 bytes) block (bytes_drop 16 bytes h) (rest_size bytes n e) in
      length-append (aes key (xor (take 16 bytes) iv)) (encrypted_blocks key (aes key (xor (take 16 bytes) iv)) n (drop 16 bytes))
      ∙ omega (arith, block.size)

  -- n blocks decrypted have 16 n bytes
  decrypted_size : (n : ℕ) (iv bytes : List ℕ) → IsBlock iv → IsBytes bytes → length bytes ≡ 16 * n
      → length (decrypted_blocks key iv n bytes) ≡ 16 * n
  unfolding decrypted_blocks
  decrypted_size zero iv bytes v h e = refl
  decrypted_size (suc n) iv bytes v h e =
      let first : IsBlock (take 16 bytes) = first_block bytes n h e in
      let added : IsBlock (xor (aes_inverse key (take 16 bytes)) iv) =
      xor_block (aes_inverse key (take 16 bytes)) iv (aes_inverse_block key (take 16 bytes) k first) v in
      let rest : length (decrypted_blocks key (take 16 bytes) n (drop 16 bytes)) ≡ 16 * n =
      decrypted_size n (take 16 bytes) (drop 16 bytes) first (bytes_drop 16 bytes h) (rest_size bytes n e) in
      length-append (xor (aes_inverse key (take 16 bytes)) iv) (decrypted_blocks key (take 16 bytes) n (drop 16 bytes))
      ∙ omega (arith, added.size)

  -- n blocks that are encrypted and then decrypted
  pub encrypted_undone : (n : ℕ) (iv bytes : List ℕ) → IsBlock iv → IsBytes bytes → length bytes ≡ 16 * n
      → decrypted_blocks key iv n (encrypted_blocks key iv n bytes) ≡ bytes
  unfolding encrypted_blocks decrypted_blocks
  encrypted_undone zero iv bytes v h e = no_bytes bytes e
  encrypted_undone (suc n) iv bytes v h e =
      let first : IsBlock (take 16 bytes) = first_block bytes n h e in
      let added : IsBlock (xor (take 16 bytes) iv) = xor_block (take 16 bytes) iv first v in
      let block : List ℕ = aes key (xor (take 16 bytes) iv) in
      let block_is : IsBlock block = aes_block key (xor (take 16 bytes) iv) k added in
      let rest : List ℕ = encrypted_blocks key block n (drop 16 bytes) in
      ap (λ b. xor (aes_inverse key b) iv ++ decrypted_blocks key b n (drop 16 (block ++ rest))) (take_at block rest 16 block_is.size)
      ∙ ap (λ r. xor (aes_inverse key block) iv ++ decrypted_blocks key block n r) (drop_at block rest 16 block_is.size)
      ∙ ap (λ b. xor b iv ++ decrypted_blocks key block n rest) (aes_undone key (xor (take 16 bytes) iv) k added)
      ∙ ap (λ b. b ++ decrypted_blocks key block n rest) (xor_twice (take 16 bytes) iv (first.size ∙ sym v.size))
      ∙ ap (λ r. take 16 bytes ++ r)
      (encrypted_undone n block (drop 16 bytes) block_is (bytes_drop 16 bytes h) (rest_size bytes n e))
      ∙ take-append-drop 16 bytes

  -- n blocks that are decrypted and then encrypted
  pub decrypted_undone : (n : ℕ) (iv bytes : List ℕ) → IsBlock iv → IsBytes bytes → length bytes ≡ 16 * n
      → encrypted_blocks key iv n (decrypted_blocks key iv n bytes) ≡ bytes
  unfolding encrypted_blocks decrypted_blocks
  decrypted_undone zero iv bytes v h e = no_bytes bytes e
  decrypted_undone (suc n) iv bytes v h e =
      let first : IsBlock (take 16 bytes) = first_block bytes n h e in
      let plain : List ℕ = xor (aes_inverse key (take 16 bytes)) iv in
      let plain_is : IsBlock plain = xor_block (aes_inverse key (take 16 bytes)) iv (aes_inverse_block key (take 16 bytes) k first) v in
      let rest : List ℕ = decrypted_blocks key (take 16 bytes) n (drop 16 bytes) in
      let same : length (aes_inverse key (take 16 bytes)) ≡ length iv = (aes_inverse_block key (take 16 bytes) k first).size ∙ sym v.size in
      let back : aes key (xor plain iv) ≡ take 16 bytes =
      ap (aes key) (xor_twice (aes_inverse key (take 16 bytes)) iv same) ∙ aes_inverse_undone key (take 16 bytes) k first in
      ap (λ b. aes key (xor b iv) ++ encrypted_blocks key (aes key (xor b iv)) n (drop 16 (plain ++ rest))) (take_at plain rest 16 plain_is.size)
      ∙ ap (λ r. aes key (xor plain iv) ++ encrypted_blocks key (aes key (xor plain iv)) n r) (drop_at plain rest 16 plain_is.size)
      ∙ ap (λ b. b ++ encrypted_blocks key b n rest) back
      ∙ ap (λ r. take 16 bytes ++ r)
      (decrypted_undone n (take 16 bytes) (drop 16 bytes) first (bytes_drop 16 bytes h) (rest_size bytes n e))
      ∙ take-append-drop 16 bytes

  -- the two modes undo each other
  module _ (iv bytes : List ℕ) (v : IsBlock iv) (h : IsBytes bytes) (whole : length bytes % 16 ≡ 0) where
    blocks_of : length bytes ≡ 16 * (length bytes / 16)
    blocks_of = omega arith

    pub cbc_encrypted_undone : cbc_decrypted key iv (cbc_encrypted key iv bytes) ≡ bytes
    cbc_encrypted_undone =
        let same : length (cbc_encrypted key iv bytes) / 16 ≡ length bytes / 16 =
        omega (arith, encrypted_size (length bytes / 16) iv bytes v h blocks_of) in
        ap (λ n. decrypted_blocks key iv n (cbc_encrypted key iv bytes)) same
        ∙ encrypted_undone (length bytes / 16) iv bytes v h blocks_of

    pub cbc_decrypted_undone : cbc_encrypted key iv (cbc_decrypted key iv bytes) ≡ bytes
    cbc_decrypted_undone =
        let same : length (cbc_decrypted key iv bytes) / 16 ≡ length bytes / 16 =
        omega (arith, decrypted_size (length bytes / 16) iv bytes v h blocks_of) in
        ap (λ n. encrypted_blocks key iv n (cbc_decrypted key iv bytes)) same
        ∙ decrypted_undone (length bytes / 16) iv bytes v h blocks_of
