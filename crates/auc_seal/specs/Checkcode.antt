-- The checkcode (RFC 4187 §10.13, RFC 9048 §3.4.3): a hash of packets in their order.
use Rattle.std.specs.Prelude.{◌≡◌, ◌⊎◌, ℕ, Bool, true, false, not, List, [], ◌∷◌, ◌++◌, length, Option, Some, None, if◌then◌else◌}
use Rattle.std.specs.List.{concat, list_any}
use Rattle.std.specs.Str.{bytes_eq}
use Rattle.sha1.specs.Sha1.{sha1}
use Rattle.sha1.specs.Sha1 as One
use Rattle.sha2.specs.Sha256.{sha256}
use Rattle.sha2.specs.Hashers.{Holds256}
use Rattle.auc_hmac.specs.declared.method.Method.{Method}
use Rattle.auc_hmac.specs.declared.method.Method.TheVariants as methods
use Rattle.auc_seal.specs.declared.checkcode.CheckValue.{CheckValue}
use Rattle.auc_seal.specs.declared.checkcode.CheckValue.TheVariants as values
use Rattle.auc_seal.specs.declared.checkcode.Checkcode.{Checkcode}
use Rattle.auc_seal.specs.declared.checkcode.Hasher.{Hasher}
use Rattle.auc_seal.specs.declared.checkcode.Hasher.TheVariants as hashers

-- the method's hash of bytes
abbrev pub hash_of : Method → List ℕ → CheckValue
hash_of methods.Aka bytes = values.Sha1 (sha1 bytes)
hash_of methods.Prime bytes = values.Sha256 (sha256 bytes)

-- the value for packets: Empty if there is none, else the hash of their bytes in order
abbrev pub checkcode_of : Method → List (List ℕ) → CheckValue
checkcode_of method [] = values.Empty
checkcode_of method (packet ∷ packets) = hash_of method (concat (packet ∷ packets))

-- the bytes of a value
abbrev pub value_bytes : CheckValue → List ℕ
value_bytes values.Empty = []
value_bytes (values.Sha1 hash) = hash
value_bytes (values.Sha256 hash) = hash

-- the bytes of a value are none, or those of a hash: 20 of SHA-1, 32 of SHA-256
abbrev pub IsHash : List ℕ → Type 0
IsHash bytes = (length bytes ≡ 0) ⊎ ((length bytes ≡ 20) ⊎ (length bytes ≡ 32))

-- whether a checkcode that was received isn't a receiver's own (RFC 4187 §10.13); without one nothing is tested
abbrev pub differs : List ℕ → Option (List ℕ) → Bool
differs own None = false
differs own (Some code) = not (bytes_eq code own)

-- ---- the packets of an exchange

-- whether a packet was counted
abbrev pub is_counted : List ℕ → List (List ℕ) → Bool
is_counted packet packets = list_any (λ other. bytes_eq other packet) packets

-- the packets after one was sent or received: a repetition isn't counted again
abbrev pub counted : List ℕ → List (List ℕ) → List (List ℕ)
counted packet packets = if is_counted packet packets then packets else packets ++ packet ∷ []

-- ---- the hash while packets are fed

-- whether there is no packet
abbrev pub is_none : List (List ℕ) → Bool
is_none [] = true
is_none (packet ∷ packets) = false

-- the method's hash was fed these bytes, in any pieces
abbrev pub HoldsBytes : Hasher → Method → List ℕ → Type 0
HoldsBytes (hashers.Sha1 hasher) method bytes = (method ≡ methods.Aka) × One.Holds hasher bytes
HoldsBytes (hashers.Sha256 hasher) method bytes = (method ≡ methods.Prime) × Holds256 hasher bytes

-- the checkcode is of this method, and was given these packets
pub record HoldsPackets (code : Checkcode) (method : Method) (packets : List (List ℕ)) : Type 0 where
  pub hashed : HoldsBytes code.hasher method (concat packets)
  pub counted : code.is_empty ≡ is_none packets
