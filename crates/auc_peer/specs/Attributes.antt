-- What a received packet has: its Identifier, and AT_CHECKCODE among its attributes (RFC 4187 §8 and §10.13).
use Rattle.std.specs.Prelude.{ℕ, Bool, true, false, List, Option, Some, None}
use Rattle.auc_packet.specs.Head.{head_at}
use Rattle.auc_packet.specs.Received.{Seen, attrs_in}
use Rattle.auc_packet.specs.declared.packet.Head.{Head}
use Rattle.auc_request.specs.Request.{checkcode_of, first_value}

-- the value of a message's AT_CHECKCODE
abbrev pub checkcode : Seen → Option (List ℕ)
checkcode seen = first_value checkcode_of (attrs_in seen.reading)

-- whether there is a value
abbrev pub is_there : Option (List ℕ) → Bool
is_there None = false
is_there (Some v) = true

abbrev pub id_in : Option Head → ℕ
id_in None = 0
id_in (Some head) = head.id

-- the Identifier
abbrev pub id_of : Seen → ℕ
id_of seen = id_in (head_at seen.bytes)
