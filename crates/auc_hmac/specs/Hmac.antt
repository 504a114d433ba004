-- HMAC (RFC 2104) on lists of bytes, over a hash function and the size of its blocks in bytes.
use Rattle.std.specs.Prelude.{ℕ, ◌-◌, List, ◌++◌, length, map, replicate, bit_xor, nat_lt, if◌then◌else◌}
use Rattle.sha1.specs.Sha1.{sha1}
use Rattle.sha2.specs.Sha256.{sha256}

-- a key, followed by zero bytes up to a block (§2, step 1)
abbrev pub filled : ℕ → List ℕ → List ℕ
filled size key = key ++ replicate (size - length key) 0

-- the key as a block: a key longer than a block is hashed first (§2)
abbrev pub key_block : (List ℕ → List ℕ) → ℕ → List ℕ → List ℕ
key_block hash size key = filled size (if nat_lt size (length key) then hash key else key)

-- a block XOR a pad, which repeats one byte (§2, steps 2 and 5)
abbrev pub masked : ℕ → List ℕ → List ℕ
masked pad block = map (λ byte. bit_xor byte pad) block

-- H(K XOR opad, H(K XOR ipad, text)), where ipad repeats 0x36 and opad 0x5C (§2)
unfoldable pub hmac : (List ℕ → List ℕ) → ℕ → List ℕ → List ℕ → List ℕ
hmac hash size key text =
    let block = key_block hash size key in
    hash (masked 0x5C block ++ hash (masked 0x36 block ++ text))

-- HMAC-SHA-1: SHA-1 has blocks of 64 bytes (FIPS 180-4)
abbrev pub hmac_sha1 : List ℕ → List ℕ → List ℕ
hmac_sha1 key text = hmac sha1 64 key text

-- HMAC-SHA-256: SHA-256 has blocks of 64 bytes (FIPS 180-4)
abbrev pub hmac_sha256 : List ℕ → List ℕ → List ℕ
hmac_sha256 key text = hmac sha256 64 key text
