-- What a contract sees of an unfinished HMAC: its key, and the bytes fed so far.
use Rattle.std.specs.Prelude.{ℕ, List, ◌++◌}
use Rattle.sha1.specs.Sha1.{sha1}
use Rattle.sha1.specs.Sha1 as One
use Rattle.sha2.specs.Sha256.{sha256}
use Rattle.sha2.specs.Hashers.{Holds256}
use Rattle.auc_hmac.specs.Hmac.{key_block, masked}
use Rattle.auc_hmac.specs.declared.hmac_sha1.HmacSha1.{HmacSha1}
use Rattle.auc_hmac.specs.declared.hmac_sha256.HmacSha256.{HmacSha256}

-- the HMAC-SHA-1 has this key, and was fed these bytes, in any pieces
pub record HoldsSha1 (mac : HmacSha1) (key bytes : List ℕ) : Type 0 where
  pub inner : One.Holds mac.inner (masked 0x36 (key_block sha1 64 key) ++ bytes)
  pub outer : One.Holds mac.outer (masked 0x5C (key_block sha1 64 key))

-- the HMAC-SHA-256 has this key, and was fed these bytes, in any pieces
pub record HoldsSha256 (mac : HmacSha256) (key bytes : List ℕ) : Type 0 where
  pub inner : Holds256 mac.inner (masked 0x36 (key_block sha256 64 key) ++ bytes)
  pub outer : Holds256 mac.outer (masked 0x5C (key_block sha256 64 key))
