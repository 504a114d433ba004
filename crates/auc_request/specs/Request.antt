-- What a peer looks for in a message (RFC 4187 §10, RFC 9048 §3 and §4).
use Rattle.std.specs.Prelude.{◌≡◌, ℕ, ◌==◌, ◌&&◌, nat_le, Bool, true, false, if◌then◌else◌, List, [], ◌∷◌, length, slice_index, Option, Some, None}
use Rattle.std.specs.Int.{w16, from_be_bytes}
use Rattle.std.specs.List.{list_any}
use Rattle.std.specs.Str.{bytes_eq}
pub use Rattle.auc_attr.specs.First.{first_value}
use Rattle.auc_attr.specs.Item.{has}
use Rattle.auc_attr.specs.Value.{IsValueIn}
use Rattle.auc_attr.specs.declared.attr.Attr.{Attr}
use Rattle.auc_attr.specs.declared.attr.Attr.TheVariants as attr
use Rattle.auc_ident.specs.Name.{kept_name}
use Rattle.auc_request.specs.declared.enclosed.Enclosed.{Enclosed}
use Rattle.auc_request.specs.declared.identities.IdentityRequest.{IdentityRequest}
use Rattle.auc_request.specs.declared.identities.IdentityRequest.TheVariants as request

-- ---- values of attributes

-- the value of an AT_RAND
abbrev pub rand_of : Attr → Option (List ℕ)
rand_of (attr.Rand v) = Some v
rand_of _ = None

-- the value of an AT_AUTN
abbrev pub autn_of : Attr → Option (List ℕ)
autn_of (attr.Autn v) = Some v
autn_of _ = None

-- the value of an AT_CHECKCODE
abbrev pub checkcode_of : Attr → Option (List ℕ)
checkcode_of (attr.Checkcode v) = Some v
checkcode_of _ = None

-- the code of an AT_NOTIFICATION
abbrev pub code_of : Attr → Option ℕ
code_of (attr.Notification n) = Some n
code_of _ = None

abbrev pub code_or : Option ℕ → Option ℕ → Option ℕ
code_or None other = other
code_or (Some n) other = Some n

-- the first code in a list
abbrev pub first_code : List Attr → Option ℕ
first_code [] = None
first_code (a ∷ list) = code_or (code_of a) (first_code list)

-- the value of an AT_KDF
abbrev pub kdf_of : Attr → Option ℕ
kdf_of (attr.Kdf n) = Some n
kdf_of _ = None

-- the first AT_KDF in a list
abbrev pub first_kdf : List Attr → Option ℕ
first_kdf [] = None
first_kdf (a ∷ list) = code_or (kdf_of a) (first_kdf list)

-- the name in an AT_KDF_INPUT
abbrev pub name_of : Attr → Option (List ℕ)
name_of (attr.KdfInput v) = Some v
name_of _ = None

abbrev pub text_or_none : Option (List ℕ) → List ℕ
text_or_none None = []
text_or_none (Some text) = text

-- the name in the first AT_KDF_INPUT of a list, empty if there is none (RFC 9048 §3.1)
abbrev pub name_in : List Attr → List ℕ
name_in list = text_or_none (first_value name_of list)

-- an AT_BIDDING with D set: the server would rather use EAP-AKA'
abbrev pub is_bid : Attr → Bool
is_bid (attr.Bidding d) = d
is_bid _ = false

abbrev pub bids : List Attr → Bool
bids list = list_any is_bid list

-- ---- the tests of a Challenge of EAP-AKA'

abbrev pub has_bytes : List ℕ → Bool
has_bytes [] = false
has_bytes (byte ∷ bytes) = true

-- the first AT_KDF offers the one key derivation function that the peer has (RFC 9048 §3.2)
abbrev pub is_known_kdf : Option ℕ → Bool
is_known_kdf None = false
is_known_kdf (Some n) = n == 1

-- a network has a peer's own name for it; without an own name it may have any
abbrev pub is_own : Option (List ℕ) → List ℕ → Bool
is_own None name = true
is_own (Some own) name = bytes_eq name own

-- a name was received, and is that of the network that the peer means, if it means one (RFC 9048 §3.1)
abbrev pub is_right_name : Option (List ℕ) → List ℕ → Bool
is_right_name own name = has_bytes name && is_own own name

-- the separation bit, the first bit of AMF, is set (TS 33.102 Annex H); AMF begins with the seventh byte of AUTN
abbrev pub is_separated : List ℕ → Bool
is_separated autn = nat_le 128 (slice_index autn 6)

-- ---- identities

-- which identity an AKA-Identity request asks for, if it asks for one (§10.2 to §10.4)
abbrev pub request_in : List Attr → IdentityRequest
request_in list = if has list 10 then request.Permanent else if has list 17 then request.Fullauth else request.Any

-- ---- what is encrypted

-- what a device keeps of the value of AT_NEXT_PSEUDONYM or AT_NEXT_REAUTH_ID
abbrev pub next_name : Option (List ℕ) → Option (List ℕ)
next_name None = None
next_name (Some text) = kept_name text

-- the number in the value of AT_COUNTER
abbrev pub number_in : Option (List ℕ) → Option ℕ
number_in None = None
number_in (Some value) = if length value == 2 then Some (from_be_bytes w16 value) else None

-- the sixteen bytes in the value of AT_NONCE_S
abbrev pub block_in : Option (List ℕ) → Option (List ℕ)
block_in None = None
block_in (Some value) = if length value == 16 then Some value else None

-- bytes that are attributes have this in the value of a type, as it is read
pub record Has {X : Type 0} (read : Option (List ℕ) → Option X) (kind : ℕ) (bytes : List ℕ) (found : Option X) : Type 0 where
  pub value : Option (List ℕ)
  pub there : IsValueIn kind bytes value
  pub same : found ≡ read value

-- the attributes that were decrypted give this (RFC 4187 §10.10, §10.11, §10.16 and §10.18)
pub record Gives (bytes : List ℕ) (given : Enclosed) : Type 0 where
  pub pseudonym : Has next_name 132 bytes given.pseudonym
  pub identity : Has next_name 133 bytes given.identity
  pub counter : Has number_in 19 bytes given.counter
  pub nonce : Has block_in 21 bytes given.nonce
