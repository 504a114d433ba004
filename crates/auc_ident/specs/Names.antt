-- The names that a server makes for subscribers: pseudonyms (RFC 4187 §4.1.1.7) and re-authentication identities
-- (§4.1.1.8), as lists of ASCII codes. The standard leaves their form to the server.
use Rattle.std.specs.Prelude.{◌≡◌, ◌↔◌, ℕ, ◌<◌, ◌^◌, if◌then◌else◌, List, [], ◌∷◌, ◌++◌, take, drop, Option, Some, None, Result, Ok, Err}
use Rattle.std.specs.Int.{w32, w64, to_be_bytes, from_be_bytes}
use Rattle.std.specs.Str.{bytes_eq}
use Rattle.auc_aes.specs.Bytes.{IsBlock}
use Rattle.auc_aes.specs.Cipher.{aes, aes_inverse}
use Rattle.auc_hmac.specs.Method.{method_type}
use Rattle.auc_hmac.specs.declared.method.Method.{Method}
use Rattle.auc_hmac.specs.declared.method.Method.TheVariants as methods
use Rattle.auc_ident.specs.Permanent.{username}
use Rattle.auc_ident.specs.declared.names.NameKind.{NameKind}
use Rattle.auc_ident.specs.declared.names.NameKind.TheVariants as kinds
use Rattle.auc_random.specs.Random.{sixteen_at}
use Rattle.hex.specs.Hex.{encode_lower, decode_sized}
use Rattle.hex.specs.declared.error.FromHexError.{FromHexError}

-- the key of the names: the sixteen bytes of the stream 2^40 of the random bytes
abbrev pub names_key : List ℕ → List ℕ
names_key key = sixteen_at key 1099511627776 0

-- the leading digit: `2` or `4` for EAP-AKA, `7` or `8` for EAP-AKA' (RFC 9048 §5.1)
abbrev pub name_digit : NameKind → Method → ℕ
name_digit kinds.Pseudonym methods.Aka = 50
name_digit kinds.Reauth methods.Aka = 52
name_digit kinds.Pseudonym methods.Prime = 55
name_digit kinds.Reauth methods.Prime = 56

abbrev pub kind_byte : NameKind → ℕ
kind_byte kinds.Pseudonym = 1
kind_byte kinds.Reauth = 2

-- what a name tells the server that made it: kind, the method's EAP type, subscriber in 4 bytes, ordinal in 6, and four zero
-- bytes
unfoldable pub name_block : NameKind → Method → ℕ → ℕ → List ℕ
name_block kind method sub ordinal =
    kind_byte kind ∷ method_type method ∷ (to_be_bytes w32 sub ++ (drop 2 (to_be_bytes w64 ordinal) ++ (0 ∷ 0 ∷ 0 ∷ 0 ∷ [])))

-- the name: the leading digit, and the block under AES in lower-case hexadecimal digits
abbrev pub name_text : List ℕ → NameKind → Method → ℕ → ℕ → List ℕ
name_text key kind method sub ordinal = name_digit kind method ∷ encode_lower (aes key (name_block kind method sub ordinal))

-- ---- which name a text is

-- the subscriber and the ordinal in a block
abbrev pub named_in : List ℕ → ℕ × ℕ
named_in block = (from_be_bytes w32 (take 4 (drop 2 block)), from_be_bytes w64 (0 ∷ 0 ∷ take 6 (drop 6 block)))

abbrev pub named_by : List ℕ → Result (List ℕ) FromHexError → Option (ℕ × ℕ)
named_by key (Err e) = None
named_by key (Ok block) = Some (named_in (aes_inverse key block))

-- what a text names if it is a name: its block is what the digits behind the leading one spell
abbrev pub named : List ℕ → List ℕ → Option (ℕ × ℕ)
named key name = named_by key (decode_sized (drop 1 name) 16)

abbrev pub if_named : List ℕ → NameKind → Method → List ℕ → Option (ℕ × ℕ) → Option (ℕ × ℕ)
if_named key kind method name None = None
if_named key kind method name (Some of) = if bytes_eq (name_text key kind method of.0 of.1) name then Some of else None

-- the subscriber and the ordinal whose name the text before the first `@` is
unfoldable pub resolved : List ℕ → NameKind → Method → List ℕ → Option (ℕ × ℕ)
resolved key kind method text = if_named key kind method (username text) (named key (username text))

-- ---- laws

-- subscriber and ordinal have 4 and 6 bytes
pub record AreNameable (sub ordinal : ℕ) : Type 0 where
  pub four : sub < 2 ^ 32
  pub six : ordinal < 2 ^ 48

-- exactly the names that can be made are found, with or without a realm
abbrev pub EachNameIsResolved : Type 0
EachNameIsResolved =
    (key : List ℕ) (kind : NameKind) (method : Method) (text : List ℕ) (sub ordinal : ℕ) → IsBlock key → AreNameable sub ordinal
    → (resolved key kind method text ≡ Some (sub, ordinal)) ↔ (username text ≡ name_text key kind method sub ordinal)

-- different kinds, methods, subscribers or ordinals have different names
pub record AreEqual (k l : NameKind) (m n : Method) (sub other i j : ℕ) : Type 0 where
  pub kind : k ≡ l
  pub method : m ≡ n
  pub subscriber : sub ≡ other
  pub ordinal : i ≡ j

abbrev pub EqualNamesAreOne : Type 0
EqualNamesAreOne =
    (key : List ℕ) (k l : NameKind) (m n : Method) (sub other i j : ℕ) → IsBlock key → AreNameable sub i → AreNameable other j
    → name_text key k m sub i ≡ name_text key l n other j → AreEqual k l m n sub other i j
