-- The permanent identity of a peer (RFC 4187 §4.1.1.6, RFC 9048 §5.1), as a list of ASCII codes.
use Rattle.std.specs.Prelude.{◌≡◌, ◌↔◌, ℕ, ◌==◌, if◌then◌else◌, List, [], ◌∷◌, ◌++◌, take, position, Option, Some, None}
use Rattle.auc_memory.specs.Identity.{Identity, IsIdentity, digits_of, identity_of}
use Rattle.auc_hmac.specs.declared.method.Method.{Method}
use Rattle.auc_hmac.specs.declared.method.Method.TheVariants as methods

-- the leading digit: `0` for EAP-AKA, `6` for EAP-AKA'
abbrev pub leading : Method → ℕ
leading methods.Aka = 48
leading methods.Prime = 54

-- the leading digit, followed by the digits of the IMSI
abbrev pub permanent_text : Method → Identity → List ℕ
permanent_text method imsi = leading method ∷ digits_of imsi

-- the IMSI whose permanent identity a text is, or none if it is another text
abbrev pub permanent_in : Method → List ℕ → Option Identity
permanent_in method [] = None
permanent_in method (first ∷ digits) = if first == leading method then identity_of digits else None

-- a text up to a place, or the whole text
abbrev pub up_to : Option ℕ → List ℕ → List ℕ
up_to None text = text
up_to (Some end) text = take end text

-- the username: the text before the first `@` (RFC 4282 §2.1)
abbrev pub username : List ℕ → List ℕ
username text = up_to (position (λ byte. byte == 64) text) text

-- a username, followed by `@` and the realm if there is one (RFC 4187 §4.1.1.5, RFC 4186 §4.2.1.5)
abbrev pub with_realm : List ℕ → List ℕ → List ℕ
with_realm text [] = text
with_realm text (letter ∷ letters) = text ++ 64 ∷ letter ∷ letters

-- a text is the permanent identity of an IMSI exactly if the IMSI is read from it
abbrev pub EachPermanentIsReadBack : Type 0
EachPermanentIsReadBack =
    (method : Method) (text : List ℕ) (imsi : Identity) → IsIdentity imsi.digits imsi.number
    → (permanent_in method text ≡ Some imsi) ↔ (text ≡ permanent_text method imsi)
