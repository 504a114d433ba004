-- The sessions of a scenario's lines: which line opens one, starts it, or is otherwise of it, and how many packets the
-- lines of a job count for. Beside them whether a line's texts are within their limits.
use Rattle.std.specs.Prelude.{ℕ, nat_eq, Bool, List, sum_by, Option, Some, None}
use Rattle.std.specs.List.{filter_map, flat_map, list_any}
use Rattle.auc_lines.specs.declared.part.Line.{Line}
use Rattle.auc_lines.specs.declared.part.Line.TheVariants.{Draw, Give, Sync, Eps, Fiveg, Sites, Sim, Session, Start, Deliver, Repeat, GiveUp, Plain}
use Rattle.auc_script.specs.Numbers.{packets_of_plain}

-- the number of the session that a line opens, and of the one that it starts as a `start` line
abbrev pub opened_by : Line → Option ℕ
opened_by (Session line) = Some line.session
opened_by other = None

abbrev pub started_by : Line → Option ℕ
started_by (Start session) = Some session
started_by other = None

-- the number of the session that a line is of, if it doesn't open it
abbrev pub named_by : Line → Option ℕ
named_by (Start session) = Some session
named_by (Deliver session end packet) = Some session
named_by (Repeat session) = Some session
named_by (GiveUp session end) = Some session
named_by (Plain session) = Some session
named_by other = None

-- the sessions that the lines of a job open, those that its `start` lines start, and all that some jobs open, in the
-- order of the lines
abbrev pub opened : List Line → List ℕ
opened job = filter_map opened_by job

abbrev pub started : List Line → List ℕ
started job = filter_map started_by job

abbrev pub sessions_of : List (List Line) → List ℕ
sessions_of jobs = flat_map opened jobs

-- a number is among others
abbrev pub is_among : ℕ → List ℕ → Bool
is_among number others = list_any (nat_eq number) others

-- how many packets a line counts for, and all lines of a job
abbrev pub packets_by : Line → ℕ
packets_by (Draw sub count) = 0
packets_by (Sync sub report count) = 0
packets_by (Give sub number) = 0
packets_by (Eps sub snid) = 0
packets_by (Fiveg line) = 0
packets_by (Sites line) = 0
packets_by (Sim line) = 0
packets_by (Plain session) = packets_of_plain
packets_by other = 1

abbrev pub packets : List Line → ℕ
packets job = sum_by packets_by job
