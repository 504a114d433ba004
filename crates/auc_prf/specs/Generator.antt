-- The generator of EAP-AKA's keys (RFC 4187 §7 and Appendix A; FIPS 186-2 with change notice 1), as a
-- recursion on numbers below 2 ^ 160.
use Rattle.std.specs.Prelude.{ℕ, zero, suc, ◌+◌, ◌*◌, ◌^◌, ◌%◌, List, [], ◌∷◌, ◌++◌, length, replicate}
use Rattle.std.specs.Int.{bytes_high_first}
use Rattle.sha1.specs.Sha1.{compress, digest_bytes, initial_hash}

-- the number that bytes spell, the most significant byte first
abbrev pub number_of : List ℕ → ℕ
number_of [] = 0
number_of (byte ∷ rest) = byte * 256 ^ length rest + number_of rest

-- a number in 20 bytes, the most significant byte first
unfoldable pub bytes_of : ℕ → List ℕ
bytes_of number = bytes_high_first 20 number

-- G of a string of 20 bytes: SHA-1's compression, from its initial value, of the 20 bytes followed by 44
-- zero bytes (RFC 4187 Appendix A)
abbrev pub compressed : List ℕ → List ℕ
compressed bytes = digest_bytes (compress initial_hash (bytes ++ replicate 44 0)) 5

-- w = G(XKEY)
unfoldable pub word_of : ℕ → ℕ
word_of xkey = number_of (compressed (bytes_of xkey))

-- the next XKEY = (1 + XKEY + w) mod 2 ^ 160
abbrev pub xkey_after : ℕ → ℕ
xkey_after xkey = (1 + xkey + word_of xkey) % 2 ^ 160

-- the first `count` words from XKEY on, one after the other
unfoldable pub words : ℕ → ℕ → List ℕ
words zero xkey = []
words (suc count) xkey = bytes_of (word_of xkey) ++ words count (xkey_after xkey)
