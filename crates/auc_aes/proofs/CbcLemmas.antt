-- The steps of CBC over a string that is written block by block, for the loops of `Key`.
use Rattle.std.proofs.Common.{◌≡◌, ℕ, suc, ◌+◌, ◌-◌, ◌/◌, ◌≤◌, List, ◌++◌, length, take, drop, sym, ap, ◌∙◌, arith, append_assoc, length-append}
use Rattle.std.proofs.lemmas.List.{take_at, drop_at, drop-drop, take_all, append-nil, length-take-le}
use Rattle.auc_aes.specs.Bytes.{xor}
use Rattle.auc_aes.specs.Cipher.{aes, aes_inverse}
use Rattle.auc_aes.specs.Cbc.{encrypted_blocks, decrypted_blocks, cbc_encrypted, cbc_decrypted}
use Rattle.auc_aes.specs.Inner.{decrypted_from}

module _ (bytes block new : List ℕ) (at : ℕ) (fits : at + 16 ≤ length bytes) (size : length block ≡ 16)
    (is : new ≡ take at bytes ++ (block ++ drop (at + 16) bytes)) where
  -- up to the end of the block there are 16 bytes more
  front_size : length (take at bytes ++ block) ≡ at + 16
  front_size =
      let front : length (take at bytes) ≡ at = length-take-le at bytes (omega arith) in
      length-append (take at bytes) block ∙ omega arith

  -- what stands before the place after the block
  pub written_front : take (at + 16) new ≡ take at bytes ++ block
  written_front =
      ap (take (at + 16)) (is ∙ sym (append_assoc (take at bytes) block (drop (at + 16) bytes)))
      ∙ take_at (take at bytes ++ block) (drop (at + 16) bytes) (at + 16) front_size

  -- what stands from there on
  pub written_rest : drop (at + 16) new ≡ drop 16 (drop at bytes)
  written_rest =
      ap (drop (at + 16)) (is ∙ sym (append_assoc (take at bytes) block (drop (at + 16) bytes)))
      ∙ drop_at (take at bytes ++ block) (drop (at + 16) bytes) (at + 16) front_size ∙ sym (drop-drop 16 at bytes)

  -- how many blocks were left
  one_less : (length bytes - at) / 16 ≡ suc ((length bytes - (at + 16)) / 16)
  one_less = omega arith

  -- one more block encrypted
  pub encrypted_more : (key last : List ℕ) → block ≡ aes key (xor (take 16 (drop at bytes)) last)
      → take (at + 16) new ++ encrypted_blocks key block ((length bytes - (at + 16)) / 16) (drop (at + 16) new)
      ≡ take at bytes ++ encrypted_blocks key last ((length bytes - at) / 16) (drop at bytes)
  unfolding encrypted_blocks
  encrypted_more key last e =
      let left : ℕ = (length bytes - (at + 16)) / 16 in
      ap (λ front. front ++ encrypted_blocks key block left (drop (at + 16) new)) written_front
      ∙ ap (λ rest. (take at bytes ++ block) ++ encrypted_blocks key block left rest) written_rest
      ∙ append_assoc (take at bytes) block (encrypted_blocks key block left (drop 16 (drop at bytes)))
      ∙ ap (λ b. take at bytes ++ (b ++ encrypted_blocks key b left (drop 16 (drop at bytes)))) e
      ∙ ap (λ n. take at bytes ++ encrypted_blocks key last n (drop at bytes)) (sym one_less)

  -- one more block decrypted
  pub decrypted_more : (key last : List ℕ) → block ≡ xor (aes_inverse key (take 16 (drop at bytes))) last
      → take (at + 16) new ++ decrypted_blocks key (take 16 (drop at bytes)) ((length bytes - (at + 16)) / 16) (drop (at + 16) new)
      ≡ take at bytes ++ decrypted_blocks key last ((length bytes - at) / 16) (drop at bytes)
  unfolding decrypted_blocks
  decrypted_more key last e =
      let left : ℕ = (length bytes - (at + 16)) / 16 in
      let old : List ℕ = take 16 (drop at bytes) in
      ap (λ front. front ++ decrypted_blocks key old left (drop (at + 16) new)) written_front
      ∙ ap (λ rest. (take at bytes ++ block) ++ decrypted_blocks key old left rest) written_rest
      ∙ append_assoc (take at bytes) block (decrypted_blocks key old left (drop 16 (drop at bytes)))
      ∙ ap (λ b. take at bytes ++ (b ++ decrypted_blocks key old left (drop 16 (drop at bytes)))) e
      ∙ ap (λ n. take at bytes ++ decrypted_blocks key last n (drop at bytes)) (sym one_less)

-- ---- a group of blocks

-- what is still ahead after one more block, if it was the same as in another string before
pub ahead_more : (bytes old block new : List ℕ) (at next : ℕ) → at + 16 ≤ length bytes → length block ≡ 16
    → new ≡ take at bytes ++ (block ++ drop (at + 16) bytes) → next ≡ at + 16 → drop at bytes ≡ drop at old → drop next new ≡ drop next old
ahead_more bytes old block new at next fits size is e ahead =
    ap (λ n. drop n new) e ∙ written_rest bytes block new at fits size is ∙ ap (drop 16) ahead ∙ drop-drop 16 at old ∙ sym (ap (λ n. drop n old) e)

-- one more block decrypted leaves what is decrypted of the whole as it was
pub chain_more : (key bytes block plain new last : List ℕ) (at next : ℕ) → at + 16 ≤ length bytes → length plain ≡ 16
    → new ≡ take at bytes ++ (plain ++ drop (at + 16) bytes) → length new ≡ length bytes → next ≡ at + 16 → block ≡ take 16 (drop at bytes)
    → plain ≡ xor (aes_inverse key (take 16 (drop at bytes))) last → decrypted_from key block new next ≡ decrypted_from key last bytes at
chain_more key bytes block plain new last at next fits size is same e eb ep =
    ap (decrypted_from key block new) e
    ∙ ap (λ n. take (at + 16) new ++ decrypted_blocks key block ((n - (at + 16)) / 16) (drop (at + 16) new)) same
    ∙ ap (λ b. take (at + 16) new ++ decrypted_blocks key b ((length bytes - (at + 16)) / 16) (drop (at + 16) new)) eb
    ∙ decrypted_more bytes plain new at fits size is key last ep

-- ---- the ends

-- before the first block
pub encrypted_first : (key iv bytes : List ℕ)
    → take 0 bytes ++ encrypted_blocks key iv ((length bytes - 0) / 16) (drop 0 bytes) ≡ cbc_encrypted key iv bytes
encrypted_first key iv bytes =
    let same : length bytes - 0 ≡ length bytes = omega arith in
    ap (λ n. encrypted_blocks key iv (n / 16) bytes) same

-- before the first block is decrypted
pub decrypted_first : (key iv bytes : List ℕ)
    → take 0 bytes ++ decrypted_blocks key iv ((length bytes - 0) / 16) (drop 0 bytes) ≡ cbc_decrypted key iv bytes
decrypted_first key iv bytes =
    let same : length bytes - 0 ≡ length bytes = omega arith in
    ap (λ n. decrypted_blocks key iv (n / 16) bytes) same

-- after the last one
pub encrypted_last : (key last bytes : List ℕ) (at : ℕ) → at ≡ length bytes
    → take at bytes ++ encrypted_blocks key last ((length bytes - at) / 16) (drop at bytes) ≡ bytes
unfolding encrypted_blocks
encrypted_last key last bytes at e =
    let none : (length bytes - at) / 16 ≡ 0 = omega arith in
    ap (λ n. take at bytes ++ encrypted_blocks key last n (drop at bytes)) none ∙ append-nil (take at bytes)
    ∙ take_all at bytes (omega arith)

-- after the last block is decrypted
pub decrypted_last : (key last bytes : List ℕ) (at : ℕ) → at ≡ length bytes
    → take at bytes ++ decrypted_blocks key last ((length bytes - at) / 16) (drop at bytes) ≡ bytes
unfolding decrypted_blocks
decrypted_last key last bytes at e =
    let none : (length bytes - at) / 16 ≡ 0 = omega arith in
    ap (λ n. take at bytes ++ decrypted_blocks key last n (drop at bytes)) none ∙ append-nil (take at bytes)
    ∙ take_all at bytes (omega arith)
