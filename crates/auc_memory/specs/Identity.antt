-- Identities of subscribers: the IMSI (TS 23.003 §2.2), as how many digits it has and their value.
use Rattle.std.specs.Prelude.{◌≡◌, ℕ, zero, suc, ◌+◌, ◌-◌, ◌*◌, ◌/◌, ◌%◌, ◌^◌, ◌<◌, ◌≤◌, ◌&&◌, nat_le, nat_lt, Bool, List, [], ◌∷◌, ◌++◌, length, Option, Some, None, if◌then◌else◌}
use Rattle.std.specs.List.{list_all}
use Rattle.std.specs.Char.{is_ascii_digit}

-- how many digits there are, and the number that they are in decimal
pub record Identity : Type 0 where
  pub digits : ℕ
  pub number : ℕ

-- 6 to 15 digits, and a number of no more digits than that
pub record IsIdentity (digits number : ℕ) : Type 0 where
  pub least : 6 ≤ digits
  pub most : digits ≤ 15
  pub fits : number < 10 ^ digits

-- whether an identity has so many digits, from 6 to 15, and this number, which has no more digits than that
abbrev pub is_imsi : ℕ → ℕ → Bool
is_imsi digits number = nat_le 6 digits && nat_le digits 15 && nat_lt number (10 ^ digits)

-- whether a text is 6 to 15 decimal digits
abbrev pub is_identity : List ℕ → Bool
is_identity text = nat_le 6 (length text) && nat_le (length text) 15 && list_all is_ascii_digit text

-- the number that a text of decimal digits is: each digit times the power of ten of its place
abbrev pub number_of : List ℕ → ℕ
number_of [] = 0
number_of (digit ∷ rest) = (digit - 48) * 10 ^ length rest + number_of rest

-- the identity that a text of 6 to 15 decimal digits is, or none if the text is another one
abbrev pub identity_of : List ℕ → Option Identity
identity_of text = if is_identity text then Some (record { digits = length text; number = number_of text }) else None

-- the last `count` decimal digits of a number, leading zeros among them
abbrev pub last_digits : ℕ → ℕ → List ℕ
last_digits zero number = []
last_digits (suc count) number = last_digits count (number / 10) ++ (48 + number % 10) ∷ []

-- the text of an identity: all its digits
abbrev pub digits_of : Identity → List ℕ
digits_of identity = last_digits identity.digits identity.number

-- each identity is read back from its text, so different identities have different texts
abbrev pub EachIdentityIsReadBack : Type 0
EachIdentityIsReadBack = (identity : Identity) → IsIdentity identity.digits identity.number → identity_of (digits_of identity) ≡ Some identity

-- each text of an identity is written back, so different texts are different identities
abbrev pub EachTextIsWrittenBack : Type 0
EachTextIsWrittenBack = (text : List ℕ) (identity : Identity) → identity_of text ≡ Some identity → digits_of identity ≡ text
