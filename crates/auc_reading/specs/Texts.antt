-- Whether the texts of a line are within their limits.
use Rattle.std.specs.Prelude.{ℕ, ◌&&◌, nat_le, Bool, true, List, length, Option, Some, None}
use Rattle.auc_lines.specs.declared.part.Identity.{Identity}
use Rattle.auc_lines.specs.declared.part.Identity.TheVariants.{Held, Permanent, Text}
use Rattle.auc_lines.specs.declared.part.Line.{Line}
use Rattle.auc_lines.specs.declared.part.Line.TheVariants.{Fiveg, Session}
use Rattle.auc_reading.specs.Numbers.{longest_name, longest_text}

-- a name, if there is one, is within its limit
abbrev pub is_short : Option (List ℕ) → Bool
is_short None = true
is_short (Some name) = nat_le (length name) longest_name

-- an identity's text, if it is one, is within its limits
abbrev pub is_first : Identity → Bool
is_first Held = true
is_first Permanent = true
is_first (Text text) = nat_le 1 (length text) && nat_le (length text) longest_text

-- the names of the session that a line opens, and its first identity, are within their limits; or the two names of a line's
-- serving network
abbrev pub has_fit_texts : Line → Bool
has_fit_texts (Session line) = nat_le (length line.name) longest_name && is_short line.peer_name && is_first line.identity
has_fit_texts (Fiveg line) = nat_le (length line.home) longest_name && nat_le (length line.device) longest_name
has_fit_texts other = true
