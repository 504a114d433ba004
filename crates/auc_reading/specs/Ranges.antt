-- What holds of every line of a job that is read: there is the subscriber that it speaks of, and its numbers and texts are
-- within their ranges.
use Rattle.std.specs.Prelude.{◌≡◌, ℕ, ◌<◌, ◌≤◌, List, [], length, Option, None, IfSome}
use Rattle.auc_hmac.specs.declared.method.Method.{Method}
use Rattle.auc_hmac.specs.declared.method.Method.TheVariants.{Aka, Prime}
use Rattle.auc_sqn.specs.Number.{max_seq}
use Rattle.auc_subs.specs.declared.row.Row.{Row}
use Rattle.auc_subs.specs.Subscriber.{top_at}
use Rattle.auc_lines.specs.declared.part.Identity.{Identity}
use Rattle.auc_lines.specs.declared.part.Identity.TheVariants.{Held, Permanent, Text}
use Rattle.auc_lines.specs.declared.part.Line.{Line}
use Rattle.auc_lines.specs.declared.part.Line.TheVariants.{Draw, Give, Sync, Eps, Fiveg, Sites, Sim, Session, Start, Deliver, Repeat, GiveUp, Plain, Tamper, Cut}
use Rattle.auc_lines.specs.Part.{IsReport, IsShortIdentity, IsStarBit}
use Rattle.auc_lines.specs.Sim.{IsSimValue}
use Rattle.auc_lines.specs.Sites.{IsSitesValue}
use Rattle.auc_reading.specs.Numbers.{last_session, longest_name, most_count}

-- a number that a session may have
abbrev pub IsSession : ℕ → Type 0
IsSession session = (1 ≤ session) × (session ≤ last_session)

-- the names of a session's server and peer: EAP-AKA has none, and those of EAP-AKA' aren't empty
abbrev pub AreNames : Method → List ℕ → Option (List ℕ) → Type 0
AreNames Aka name peer_name = (name ≡ []) × (peer_name ≡ None)
AreNames Prime name peer_name = (1 ≤ length name) × IfSome peer_name (λ other. (1 ≤ length other) × (length other ≤ longest_name))

-- an identity whose text, if it is one, isn't empty
abbrev pub HasText : Identity → Type 0
HasText Held = Unit {0}
HasText Permanent = Unit {0}
HasText (Text text) = 1 ≤ length text

-- the name of a serving network
abbrev pub IsName : List ℕ → Type 0
IsName name = (1 ≤ length name) × (length name ≤ longest_name)

-- a line whose subscriber there is, and whose numbers and texts are within their ranges
abbrev pub IsLine : List Row → Line → Type 0
IsLine rows (Draw sub count) = (sub < length rows) × (1 ≤ count) × (count ≤ most_count)
IsLine rows (Sync sub report count) = (sub < length rows) × IsReport (top_at rows sub) report × (count ≤ most_count)
IsLine rows (Give sub number) = (sub < length rows) × (1 ≤ number) × (number ≤ max_seq)
IsLine rows (Eps sub snid) = sub < length rows
IsLine rows (Fiveg line) = (line.sub < length rows) × IsName line.home × IsName line.device × IsStarBit line.bit
IsLine rows (Sites line) = (line.sub < length rows) × IsSitesValue line
IsLine rows (Sim line) = (line.sub < length rows) × IsSimValue line
IsLine rows (Session line) =
    (line.sub < length rows) × (length line.name ≤ longest_name) × IsShortIdentity line.identity
    × IsSession line.session × AreNames line.method line.name line.peer_name × HasText line.identity
IsLine rows (Start session) = IsSession session
IsLine rows (Deliver session end packet) = IsSession session
IsLine rows (Repeat session) = IsSession session
IsLine rows (GiveUp session end) = IsSession session
IsLine rows (Plain session) = IsSession session
IsLine rows (Tamper packet place byte) = byte < 256
IsLine rows (Cut packet length) = Unit {0}
