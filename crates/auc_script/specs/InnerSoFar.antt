-- Inner facts: what only private contracts of this crate cite. What is kept while lines are read.
use Rattle.std.specs.Prelude.{ℕ, ◌≡◌, ◌<◌, ◌≤◌, ◌+◌, ◌*◌, ◌^◌, ◌++◌, ◌&&◌, ◌||◌, not, nat_eq, nat_le, nat_lt, All, Bool, List, [], ◌∷◌, length, Option, Some, None, IfSome, Result, Ok, slice_index, slice_set}
use Rattle.std.specs.List.{list_any}
use Rattle.std.specs.Option.{option_to_list}
use Rattle.auc_subs.specs.declared.row.Row.{Row}
use Rattle.auc_script.specs.declared.header.Header.{Header}
use Rattle.auc_script.specs.declared.holders.Holders.{Holders}
use Rattle.auc_lines.specs.declared.part.Line.{Line}
use Rattle.auc_script.specs.declared.round_so_far.RoundSoFar.{RoundSoFar}
use Rattle.auc_script.specs.declared.sessions.Sessions.{Sessions}
use Rattle.auc_script.specs.declared.so_far.SoFar.{SoFar}
use Rattle.auc_script.specs.declared.form.Form.{Form}
use Rattle.auc_reading.specs.declared.refusal.ScriptWhy.{ScriptWhy}
use Rattle.auc_reading.specs.declared.refusal.ScriptWhy.TheVariants as why
use Rattle.auc_reading.specs.Field.{require}
use Rattle.auc_script.specs.Scenario.{Scenario, in_order, is_block, is_busy, jobs_in, may_stand_in_block, rounds_of, with_round}
use Rattle.auc_lines.specs.Part.{asked, asked_by, held_by, holds, jobs_of}
use Rattle.auc_subs.specs.Steps.{◌>>=◌}
use Rattle.auc_script.specs.Limits.{AreWithin}
use Rattle.auc_script.specs.Numbers.{longest_realm, most_packets, most_sessions, most_vectors, most_workers}
use Rattle.auc_reading.specs.Texts.{has_fit_texts}
use Rattle.auc_script.specs.Session.{opened, opened_by, packets, packets_by, sessions_of, started, started_by}

-- a header within its limits
pub record IsHeader (header : Header) : Type 0 where
  pub workers : IfSome header.workers (λ workers. (1 ≤ workers) × (workers ≤ most_workers))
  pub realm : IfSome header.realm (λ realm. length realm ≤ longest_realm)

-- the scenario of these subscribers and what was read beside them
abbrev pub scenario : List Row → SoFar → Scenario
scenario rows so_far = record { form = so_far.form; rows = rows; header = so_far.header; ended = so_far.ended; round = so_far.round }

-- the marks, by subscribers' places, with that of a job that holds the USIM of a subscriber, if there is one
abbrev pub marked : List ℕ → ℕ → Option ℕ → List ℕ
marked marks job None = marks
marked marks job (Some sub) = slice_set marks sub job

-- no sessions; those so far when a job begins; and those with a line more in the job
abbrev pub no_sessions : Sessions
no_sessions = record { all = []; opened = []; started = []; packets = 0 }

abbrev pub of_new_job : Sessions → Sessions
of_new_job s = record { all = s.all; opened = []; started = []; packets = 0 }

abbrev pub noted : Sessions → Line → Sessions
noted s line = record {
  all = s.all ++ option_to_list (opened_by line);
  opened = s.opened ++ option_to_list (opened_by line);
  started = s.started ++ option_to_list (started_by line);
  packets = s.packets + packets_by line;
}

-- the sessions of a job
pub record AreOfJob (s : Sessions) (job : List Line) : Type 0 where
  pub opened : s.opened ≡ opened job
  pub started : s.started ≡ started job
  pub packets : s.packets ≡ packets job

-- the present job, and the present round, with one more line
abbrev pub with_last : Option (List Line) → Line → Option (List Line)
with_last None line = None
with_last (Some job) line = Some (job ++ line ∷ [])

abbrev pub with_line : Option RoundSoFar → Line → Option RoundSoFar
with_line None line = None
with_line (Some round) line = Some (record { jobs = round.jobs; job = with_last round.job line })

-- the lines of the present job
abbrev pub lines_in : Option (List Line) → List Line
lines_in None = []
lines_in (Some lines) = lines

-- the mark of a USIM is the number of the job that held it last, from 1, of which so many stand before
-- the round: it tells which jobs of the round hold it
pub record IsMark (before : ℕ) (round : RoundSoFar) (sub mark : ℕ) : Type 0 where
  pub bound : mark ≤ before + length (jobs_in round)
  pub earlier : list_any (holds sub) round.jobs ≡ nat_lt before mark && nat_le mark (before + length round.jobs)
  pub present : holds sub (lines_in round.job) ≡ nat_eq mark (before + length round.jobs + 1)

abbrev pub AreMarks : ℕ → List ℕ → RoundSoFar → Type 0
AreMarks before marks round = (sub : ℕ) → sub < length marks → IsMark before round sub (slice_index marks sub)

-- what is kept of the present round: the number of jobs before it, a mark for each subscriber, and the sessions of its
-- present job
pub record IsMarked (rows : List Row) (s : SoFar) (round : RoundSoFar) : Type 0 where
  pub before : s.holders.before ≡ length (jobs_of s.ended)
  pub each : length s.holders.marks.items ≡ length rows
  pub marks : AreMarks s.holders.before s.holders.marks.items round
  pub job : IfSome round.job (AreOfJob s.sessions)

-- what is kept of all lines: the limits, and the counts
pub record IsSoFar (rows : List Row) (s : SoFar) : Type 0 where
  pub header : IsHeader s.header
  pub parts : AreWithin rows (with_round s.ended s.round)
  pub jobs : s.jobs ≡ length (jobs_of (with_round s.ended s.round))
  pub asked : s.asked ≡ asked (jobs_of (with_round s.ended s.round))
  pub sessions : s.sessions.all ≡ sessions_of (jobs_of (with_round s.ended s.round))
  pub round : IfSome s.round (IsMarked rows s)
  pub rounds : s.rounds ≡ rounds_of (with_round s.ended s.round)
  pub restarts : length s.ended ≤ 2 * rounds_of s.ended

-- the rounds that have ended and their jobs once the present round has: the same header, all rounds
-- ended, the same counts and sessions, and a mark for each subscriber
pub record IsBetween (rows : List Row) (old new : SoFar) : Type 0 where
  pub header : new.header ≡ old.header
  pub ended : new.ended ≡ with_round old.ended old.round
  pub jobs : new.jobs ≡ old.jobs
  pub asked : new.asked ≡ old.asked
  pub sessions : new.sessions ≡ old.sessions
  pub rounds : new.rounds ≡ old.rounds
  pub round : new.round ≡ None
  pub before : new.holders.before ≡ old.jobs
  pub each : length new.holders.marks.items ≡ length rows
  pub marks : All (λ mark. mark ≤ old.jobs) new.holders.marks.items

-- what the tests of a line of the present round rest on: a mark of the USIM that it holds, and counts that stay small
pub record IsReady (sessions : Sessions) (holders : Holders) (asked : ℕ) (round : RoundSoFar) (line : Line) : Type 0 where
  pub known : IfSome (held_by line) (λ sub. sub < length holders.marks.items)
  pub marks : AreMarks holders.before holders.marks.items round
  pub room : holders.before + length round.jobs < 2 ^ 32
  pub vectors : asked + asked_by line < 2 ^ 32
  pub opened : length sessions.all ≤ most_sessions
  pub packets : sessions.packets ≤ most_packets

-- whether a line is within the limits, by what is counted
abbrev pub room_for : Sessions → ℕ → Line → Bool
room_for s asked line =
    nat_le (asked + asked_by line) most_vectors && nat_le (length (s.all ++ option_to_list (opened_by line))) most_sessions
    && nat_le (s.packets + packets_by line) most_packets
    && has_fit_texts line

-- how many vectors are asked for with a line more of the present job, if it passes the tests behind its form: the order
-- of its session, whether its USIM is held, whether there is room, and whether it may stand in a block
abbrev pub asked_with : Sessions → ℕ → RoundSoFar → Line → Form → Result ℕ ScriptWhy
asked_with s asked round line form = do
  known ← in_order s.all s.opened s.started line
  free ← require (not (is_busy round.jobs (held_by line))) why.UsimBusy
  within ← require (room_for s asked line) why.Limit
  stands ← require (not (is_block form) || may_stand_in_block line) why.NotInBlock
  Ok (asked + asked_by line)
