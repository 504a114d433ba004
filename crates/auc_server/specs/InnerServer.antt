-- Master keys of a server's session are of its method, a counter has a next one where it is needed, and a number that was drawn
-- is one of a subscriber's.
use Rattle.std.specs.Prelude.{◌≡◌, ℕ, ◌<◌, ◌≤◌, List, Option, Some, None}
use Rattle.auc_hmac.specs.declared.method.Method.{Method}
use Rattle.auc_reauth.specs.Store.{method_of}
use Rattle.auc_vector.specs.declared.notes.NumberNote.{NumberNote}
use Rattle.auc_vector.specs.declared.notes.NumberNote.TheVariants as number
use Rattle.auc_server.specs.State.{last_of}
use Rattle.auc_server.specs.declared.server.Challenged.{Challenged}
use Rattle.auc_server.specs.declared.server.Last.{Last}
use Rattle.auc_server.specs.declared.server.Resumed.{Resumed}
use Rattle.auc_server.specs.declared.server.ServerState.{ServerState}

-- that of the last challenge
abbrev pub IsOwnChallenge : Method → Option Challenged → Type 0
IsOwnChallenge by None = Unit {0}
IsOwnChallenge by (Some sent) = method_of sent.master ≡ by

-- that of the context that was taken up again
abbrev pub IsOwnContext : Method → Option Resumed → Type 0
IsOwnContext by None = Unit {0}
IsOwnContext by (Some r) = method_of r.context.master ≡ by

-- a re-authentication gives another identity only if its counter has a next one
abbrev pub MayGoOn : ℕ → Option (List ℕ) → Type 0
MayGoOn counter None = Unit {0}
MayGoOn counter (Some identity) = counter < 65535

abbrev pub HasNext : Resumed → Type 0
HasNext r = MayGoOn r.context.counter r.next

abbrev pub HasNextCounter : Option Resumed → Type 0
HasNextCounter None = Unit {0}
HasNextCounter (Some r) = HasNext r

-- of what was sent last
pub record IsOwnLast (by : Method) (last : Last) : Type 0 where
  pub challenge : IsOwnChallenge by last.challenged
  pub context : IsOwnContext by last.resumed
  pub next : HasNextCounter last.resumed

abbrev pub IsOwnState : Method → ServerState → Type 0
IsOwnState by now = IsOwnLast by (last_of now)

-- a number for which there is a vector, up to a greatest one
abbrev pub IsNumbered : ℕ → NumberNote → Type 0
IsNumbered top (number.Drew n) = (1 ≤ n) × (n ≤ top)
IsNumbered top other = Unit {0}
