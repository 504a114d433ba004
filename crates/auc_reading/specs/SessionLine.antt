-- The fields of a `session` line, what they say, and which of their values isn't served.
use Rattle.std.specs.Prelude.{ℕ, ◌==◌, ◌&&◌, ◌||◌, nat_le, not, Bool, true, List, [], ◌∷◌, drop, length, codes, Option, Some, None, Result, Ok, Err, if◌then◌else◌, slice_index_or}
use Rattle.std.specs.List.{list_any}
use Rattle.auc_hmac.specs.declared.method.Method.{Method}
use Rattle.auc_hmac.specs.declared.method.Method.TheVariants as methods
use Rattle.auc_lines.specs.declared.part.Identity.{Identity}
use Rattle.auc_lines.specs.declared.part.Identity.TheVariants.{Held, Permanent, Text}
use Rattle.auc_lines.specs.declared.part.SessionLine.{SessionLine}
use Rattle.auc_text.specs.Text.{is_text}
use Rattle.auc_reading.specs.declared.refusal.ScriptWhy.{ScriptWhy}
use Rattle.auc_reading.specs.declared.refusal.ScriptWhy.TheVariants as why

-- T IMSI METHOD SNAME PNAME OPTIONS IDENTITY
pub record SessionFields : Type 0 where
  pub session : List ℕ
  pub imsi : List ℕ
  pub method : List ℕ
  pub sname : List ℕ
  pub pname : List ℕ
  pub options : List ℕ
  pub identity : List ℕ

abbrev pub seven_fields : List (List ℕ) → Result SessionFields ScriptWhy
seven_fields (a ∷ b ∷ c ∷ d ∷ e ∷ f ∷ g ∷ []) = Ok (record { session = a; imsi = b; method = c; sname = d; pname = e; options = f; identity = g })
seven_fields other = Err why.Fields

-- a method
abbrev pub method_in : List ℕ → Option Method
method_in text =
    if is_text text (codes "aka") then Some methods.Aka
    else if is_text text (codes "prime") then Some methods.Prime
    else None

-- the names of a method: EAP-AKA has none, which - says, and EAP-AKA' any two
abbrev pub are_names : Method → List ℕ → List ℕ → Bool
are_names methods.Aka sname pname = is_text sname (codes "-") && is_text pname (codes "-")
are_names methods.Prime sname pname = true

-- the server's name, and the peer's: with * alone it compares none
abbrev pub name_in : Method → List ℕ → List ℕ
name_in methods.Aka sname = []
name_in methods.Prime sname = sname

abbrev pub peer_name_in : Method → List ℕ → Option (List ℕ)
peer_name_in methods.Aka pname = None
peer_name_in methods.Prime pname = if is_text pname (codes "*") then None else Some pname

-- a byte is among others
abbrev pub is_one_of : List ℕ → ℕ → Bool
is_one_of bytes byte = list_any (λ other. other == byte) bytes

-- letters of options, each once
abbrev pub are_letters : List ℕ → Bool
are_letters [] = true
are_letters (letter ∷ more) = is_one_of (codes "prbad") letter && not (is_one_of more letter) && are_letters more

abbrev pub has_letters : List ℕ → Bool
has_letters text = nat_le 1 (length text) && nat_le (length text) 5 && are_letters text

-- letters, or - for none
abbrev pub are_options : List ℕ → Bool
are_options text = is_text text (codes "-") || has_letters text

-- the first byte is = (61)
abbrev pub has_text : List ℕ → Bool
has_text identity = slice_index_or identity 0 0 == 61

-- the identity that the device holds, the permanent one, or the text behind =
abbrev pub is_identity : List ℕ → Bool
is_identity text = is_text text (codes "held") || is_text text (codes "permanent") || has_text text

abbrev pub identity_in : List ℕ → Identity
identity_in text =
    if is_text text (codes "held") then Held
    else if is_text text (codes "permanent") then Permanent
    else Text (drop 1 text)

-- the session of a number and of a subscriber's place, by a method and the fields; its letters are p (112), r (114), b (98),
-- a (97) and d (100)
abbrev pub session_line : ℕ → ℕ → Method → SessionFields → SessionLine
session_line session sub method f = record {
  session = session;
  sub = sub;
  method = method;
  name = name_in method f.sname;
  peer_name = peer_name_in method f.pname;
  pseudonym = is_one_of f.options 112;
  reauth = is_one_of f.options 114;
  bidding = is_one_of f.options 98;
  any = is_one_of f.options 97;
  has_prime = is_one_of f.options 100;
  identity = identity_in f.identity;
}
