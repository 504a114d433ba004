-- The names that a device keeps, pseudonyms and re-authentication identities alike. RFC 4187 §4.1.1.7 and §4.1.1.8 leave their
-- form to the server that gives them.
use Rattle.std.specs.Prelude.{◌≡◌, ◌≢◌, ◌≤◌, ◌&&◌, ℕ, nat_le, Bool, if◌then◌else◌, List, ◌∷◌, ◌++◌, All, length, Option, Some, None}
use Rattle.auc_ident.specs.Permanent.{username}

-- a text has 1 to 255 bytes
abbrev pub is_kept : List ℕ → Bool
is_kept text = nat_le 1 (length text) && nat_le (length text) 255

-- what a device keeps of a name that a server gave: its username, if that has 1 to 255 bytes
abbrev pub kept_name : List ℕ → Option (List ℕ)
kept_name text = if is_kept (username text) then Some (username text) else None

-- ---- laws

-- a name of 1 to 255 bytes, none of which is `@`
pub record IsName (name : List ℕ) : Type 0 where
  pub some : 1 ≤ length name
  pub short : length name ≤ 255
  pub bare : All (λ byte. byte ≢ 64) name

-- each such name is kept as it is, with or without a realm, and nothing else is kept
pub record ExactlyNamesAreKept : Type 0 where
  pub bare : (name : List ℕ) → IsName name → kept_name name ≡ Some name
  pub realm : (name realm : List ℕ) → IsName name → kept_name (name ++ 64 ∷ realm) ≡ Some name
  pub only : (text name : List ℕ) → kept_name text ≡ Some name → IsName name
