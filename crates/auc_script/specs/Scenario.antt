-- The table of a scenario's lines, by what each demands of the lines before it, in the order of the
-- tests, and what it adds:
--
--   randkey H                                before the first round; 64 hexadecimal digits; once
--   workers N                                before the first round; a number from 1 to 64; once
--   print brief|full                         before the first round; once
--   realm TEXT                               before the first round; once; 255 bytes at most
--   subscriber IMSI K KIND OP AMF SEQ USIM [BITS AGE]
--                                            before the first round; a new subscriber
--   round                                    1000 at most
--   restart                                  once after each round, before the next one
--   job                                      in a round; 200000 in all at most
--   draw IMSI COUNT                          in a job; 1 to 1000 vectors; a subscriber's IMSI
--   sync IMSI SEQ BIT COUNT                  in a job; SEQ to max_seq, BIT 0 to 111 or -, 0 to 1000
--                                            vectors; the IMSI of a subscriber whose greatest number is SEQ
--                                            or above it
--   auts IMSI AUTS RAND COUNT                in a job; AUTS of 28 hexadecimal digits and RAND of 32, 0 to 1000
--                                            vectors; a subscriber's IMSI
--   give IMSI N                              in a job; N from 1 to max_seq; a subscriber's IMSI, whose
--                                            USIM no earlier job of the round holds
--   eps IMSI SNID                            in a job; SNID of six hexadecimal digits; a subscriber's IMSI
--   fiveg IMSI HOMENAME DEVICENAME BIT [hxresstar]
--                                            in a job; BIT 0 to 127 or -; a subscriber's IMSI, whose USIM no
--                                            earlier job of the round holds; a name has 255 bytes at most
--   session T IMSI METHOD SNAME PNAME OPTIONS IDENTITY
--                                            in a job; T from 1 to 999999; METHOD aka, with SNAME and
--                                            PNAME -, or prime, with any names; OPTIONS - or letters of
--                                            p, r, b, a and d, each once; IDENTITY held, permanent, or
--                                            = and a text; a subscriber's IMSI; no session T before; no
--                                            earlier job of the round holds the USIM; 100000 at most; a
--                                            name has 255 bytes at most, and an identity's text 1 to 255
--   start T                                  in a job, after its line that opens session T; once
--   repeat T                                 in a job, after its line that opens session T
--   deliver T END P                          the same; END server or peer, P to 4294967295
--   giveup T END                             the same; END server or peer
--   plain T                                  the same
--   tamper P PLACE BYTE                      in a job; P and PLACE to 4294967295, BYTE of two hexadecimal digits
--   cut P LENGTH                             in a job; P and LENGTH to 4294967295
--   sites IMSI SITES SIZE SCHEDULE           in a job; SITES 1 to 64, SIZE 1 to 32; SCHEDULE of 1 to 200 events
--                                            between commas, each of them ask:S, draw:S or re:S with S from 1
--                                            to SITES, dP with P to 4294967295, or master; a subscriber's IMSI
--   sim IMSI COUNT SCHEDULE                  in a job; COUNT 2 or 3; SCHEDULE plain, or 1 to 200 deliveries
--                                            between commas, each of them pK or sK with K to 4294967295; a
--                                            subscriber's IMSI
--
-- All lines together ask for 1000000 vectors at most: a session for two, an eps and a fiveg for one, a line of sites for
-- SIZE in each event dP, and a sim for COUNT. The lines of sessions, tamper and cut in a job count for 1000000 packets at most, a plain for 40 and
-- each other for one. A line without a word and a comment say nothing.
use Rattle.std.specs.Prelude.{ℕ, ◌+◌, ◌==◌, ◌++◌, ◌&&◌, ◌||◌, not, nat_le, nat_lt, Bool, true, false, List, [], ◌∷◌, length, Option, Some, None, is_some, Result, Ok, Err, if◌then◌else◌}
use Rattle.std.specs.List.{list_any}
use Rattle.std.specs.Option.{ok_or, option_to_list}
use Rattle.auc_subs.specs.declared.row.Row.{Row}
use Rattle.auc_subs.specs.declared.refusal.SubsWhy.{SubsWhy}
use Rattle.auc_subs.specs.declared.refusal.SubsWhy.TheVariants as faults
use Rattle.auc_text.specs.Field.{octets_in}
use Rattle.auc_text.specs.Text.{words_of}
use Rattle.auc_subs.specs.Subscriber.{line_counts, rows_with_fields}
use Rattle.auc_lines.specs.declared.part.Line.{Line}
use Rattle.auc_lines.specs.declared.part.Line.TheVariants.{Draw, Give, Sync, Eps, Fiveg, Sites, Sim, Session, Start, Deliver, Repeat, GiveUp, Plain, Tamper, Cut}
use Rattle.auc_lines.specs.declared.part.Part.{Part}
use Rattle.auc_lines.specs.declared.part.Part.TheVariants.{Round, Restart}
use Rattle.auc_lines.specs.Part.{asked, asked_by, held_by, holds, jobs_of}
use Rattle.auc_script.specs.Numbers.{longest_realm, most_jobs, most_packets, most_rounds, most_sessions, most_vectors, most_workers}
use Rattle.auc_script.specs.declared.form.Form.{Form}
use Rattle.auc_script.specs.declared.form.Form.TheVariants as forms
use Rattle.auc_reading.specs.declared.refusal.ScriptWhy.{ScriptWhy}
use Rattle.auc_reading.specs.declared.refusal.ScriptWhy.TheVariants as why
use Rattle.auc_script.specs.declared.header.Header.{Header}
use Rattle.auc_script.specs.declared.round_so_far.RoundSoFar.{RoundSoFar}
use Rattle.auc_reading.specs.declared.word.HeaderWord.{HeaderWord}
use Rattle.auc_reading.specs.declared.word.HeaderWord.TheVariants as header
use Rattle.auc_reading.specs.declared.word.JobWord.{JobWord}
use Rattle.auc_reading.specs.declared.word.Word.{Word}
use Rattle.auc_reading.specs.declared.word.Word.TheVariants as word
use Rattle.auc_subs.specs.Steps.{◌>>=◌}
use Rattle.auc_reading.specs.Field.{full_in, no_field, number_between, one_field, require}
use Rattle.auc_reading.specs.JobLine.{line_of}
use Rattle.auc_reading.specs.Texts.{has_fit_texts}
use Rattle.auc_script.specs.Session.{is_among, opened, opened_by, packets, packets_by, sessions_of, started}
use Rattle.auc_reading.specs.Word.{is_comment, word_of}

-- what some lines say: the subscribers, the words of the header, the parts before the present round, and
-- the present round, if there is one; and what they are read as
pub record Scenario : Type 0 where
  pub form : Form
  pub rows : List Row
  pub header : Header
  pub ended : List Part
  pub round : Option RoundSoFar

-- the jobs of the present round
abbrev pub jobs_in : RoundSoFar → List (List Line)
jobs_in round = round.jobs ++ option_to_list round.job

-- the parts with the present round, if there is one
abbrev pub with_round : List Part → Option RoundSoFar → List Part
with_round ended None = ended
with_round ended (Some round) = ended ++ Round (jobs_in round) ∷ []

-- the parts of a scenario
abbrev pub parts_of : Scenario → List Part
parts_of s = with_round s.ended s.round

-- how many of some parts are rounds
abbrev pub rounds_of : List Part → ℕ
rounds_of [] = 0
rounds_of (Round jobs ∷ more) = rounds_of more + 1
rounds_of (Restart ∷ more) = rounds_of more

-- one of some jobs holds the USIM of a subscriber, if there is one
abbrev pub is_busy : List (List Line) → Option ℕ → Bool
is_busy jobs None = false
is_busy jobs (Some sub) = list_any (holds sub) jobs

-- a word that didn't come before
abbrev pub once : {A : Type 0} → Option A → Result (Unit {0}) ScriptWhy
once said = require (not (is_some said)) why.Twice

-- the header's lines
abbrev pub key_line : Header → List (List ℕ) → Result Header ScriptWhy
key_line h fields = do
  text ← one_field fields
  key ← ok_or (octets_in 32 text) why.Hex
  new ← once h.key
  Ok (record h { key = Some key })

abbrev pub workers_line : Header → List (List ℕ) → Result Header ScriptWhy
workers_line h fields = do
  text ← one_field fields
  number ← number_between 1 most_workers text
  new ← once h.workers
  Ok (record h { workers = Some number })

abbrev pub print_line : Header → List (List ℕ) → Result Header ScriptWhy
print_line h fields = do
  text ← one_field fields
  full ← full_in text
  new ← once h.full
  Ok (record h { full = Some full })

abbrev pub realm_line : Header → List (List ℕ) → Result Header ScriptWhy
realm_line h fields = do
  text ← one_field fields
  new ← once h.realm
  within ← require (nat_le (length text) longest_realm) why.Limit
  Ok (record h { realm = Some text })

abbrev pub header_with : Header → HeaderWord → List (List ℕ) → Result Header ScriptWhy
header_with h header.Randkey fields = key_line h fields
header_with h header.Workers fields = workers_line h fields
header_with h header.Print fields = print_line h fields
header_with h header.Realm fields = realm_line h fields

-- whether they are the lines of a header alone, and whether they are those of a block
abbrev pub is_header : Form → Bool
is_header forms.Header = true
is_header _ = false

abbrev pub is_block : Form → Bool
is_block forms.Block = true
is_block _ = false

-- before the first round; a block has no header
abbrev pub in_header : Scenario → Result (Unit {0}) ScriptWhy
in_header s = require (not (is_block s.form) && not (is_some s.round) && (length s.ended == 0)) why.OutOfOrder

abbrev pub header_line : Scenario → HeaderWord → List (List ℕ) → Result Scenario ScriptWhy
header_line s which fields = do
  place ← in_header s
  header ← header_with s.header which fields
  Ok (record s { header = header })

-- what a fault of a subscriber's fields is as the cause of a line: that they are neither seven nor nine is a cause of any line
abbrev pub cause_of : SubsWhy → ScriptWhy
cause_of faults.FieldCount = why.Fields
cause_of fault = why.Subscriber fault

-- what the fields of a subscriber make of the rows
abbrev pub by_subs : Result (List Row) SubsWhy → Result (List Row) ScriptWhy
by_subs (Ok rows) = Ok rows
by_subs (Err fault) = Err (cause_of fault)

-- `subscriber` and its seven or nine fields
abbrev pub subscriber_line : Scenario → List (List ℕ) → Result Scenario ScriptWhy
subscriber_line s fields = do
  place ← in_header s
  rows ← by_subs (rows_with_fields line_counts s.rows fields)
  Ok (record s { rows = rows })

-- what has to hold in a block alone
abbrev pub in_block : Scenario → Bool → Result (Unit {0}) ScriptWhy
in_block s holds = require (not (is_block s.form) || holds) why.NotInBlock

-- a round without jobs so far
abbrev pub no_jobs : RoundSoFar
no_jobs = record { jobs = []; job = None }

-- `round`
abbrev pub round_line : Scenario → List (List ℕ) → Result Scenario ScriptWhy
round_line s fields = do
  may ← require (not (is_header s.form)) why.OutOfOrder
  none ← no_field fields
  within ← require (nat_lt (rounds_of (parts_of s)) most_rounds) why.Limit
  only ← in_block s (not (is_some s.round))
  Ok (record s { ended = parts_of s; round = Some no_jobs })

-- `restart`
abbrev pub restart_line : Scenario → List (List ℕ) → Result Scenario ScriptWhy
restart_line s fields = do
  round ← ok_or s.round why.OutOfOrder
  none ← no_field fields
  whole ← in_block s false
  Ok (record s { ended = parts_of s ++ Restart ∷ []; round = None })

-- `job`
abbrev pub job_line : Scenario → List (List ℕ) → Result Scenario ScriptWhy
job_line s fields = do
  round ← ok_or s.round why.OutOfOrder
  none ← no_field fields
  within ← require (nat_lt (length (jobs_of (parts_of s))) most_jobs) why.Limit
  Ok (record s { round = Some (record { jobs = jobs_in round; job = Some [] }) })

-- a session is among those that its job opened; it isn't among those before
abbrev pub is_open : List ℕ → ℕ → Result (Unit {0}) ScriptWhy
is_open own session = require (is_among session own) why.UnknownSession

abbrev pub is_new : List ℕ → ℕ → Result (Unit {0}) ScriptWhy
is_new before session = require (not (is_among session before)) why.Twice

-- the session of a line, if it has one, by all sessions, those that its job opened, and those that its job started: a line
-- opens a new session, starts an open one once, or is of an open one
abbrev pub in_order : List ℕ → List ℕ → List ℕ → Line → Result (Unit {0}) ScriptWhy
in_order all own begun (Draw sub count) = Ok tt
in_order all own begun (Sync sub report count) = Ok tt
in_order all own begun (Give sub number) = Ok tt
in_order all own begun (Eps sub snid) = Ok tt
in_order all own begun (Fiveg line) = Ok tt
in_order all own begun (Sites line) = Ok tt
in_order all own begun (Sim line) = Ok tt
in_order all own begun (Session line) = is_new all line.session
in_order all own begun (Start session) = is_open own session >>= λ known. is_new begun session
in_order all own begun (Deliver session end packet) = is_open own session
in_order all own begun (Repeat session) = is_open own session
in_order all own begun (GiveUp session end) = is_open own session
in_order all own begun (Plain session) = is_open own session
in_order all own begun (Tamper packet place byte) = Ok tt
in_order all own begun (Cut packet length) = Ok tt

-- the limits of some parts with one line more in their last job
abbrev pub has_room : List Part → List Line → Line → Bool
has_room parts job line =
    nat_le (asked (jobs_of parts) + asked_by line) most_vectors
    && nat_le (length (sessions_of (jobs_of parts) ++ option_to_list (opened_by line))) most_sessions
    && nat_le (packets job + packets_by line) most_packets
    && has_fit_texts line

-- a line that rests on no USIM and on no line of an earlier round, so that it may stand in a block
abbrev pub may_stand_in_block : Line → Bool
may_stand_in_block (Draw sub count) = true
may_stand_in_block (Sync sub report count) = true
may_stand_in_block (Eps sub snid) = true
may_stand_in_block (Sites line) = true
may_stand_in_block (Sim line) = true
may_stand_in_block _ = false

-- a line of a job
abbrev pub of_job_line : Scenario → JobWord → List (List ℕ) → Result Scenario ScriptWhy
of_job_line s which fields = do
  round ← ok_or s.round why.OutOfOrder
  job ← ok_or round.job why.OutOfOrder
  line ← line_of s.rows which fields
  known ← in_order (sessions_of (jobs_of (parts_of s))) (opened job) (started job) line
  free ← require (not (is_busy round.jobs (held_by line))) why.UsimBusy
  within ← require (has_room (parts_of s) job line) why.Limit
  stands ← in_block s (may_stand_in_block line)
  Ok (record s { round = Some (record { jobs = round.jobs; job = Some (job ++ line ∷ []) }) })

-- a line of a known word
abbrev pub word_line : Scenario → Word → List (List ℕ) → Result Scenario ScriptWhy
word_line s (word.Header which) fields = header_line s which fields
word_line s word.Subscriber fields = subscriber_line s fields
word_line s word.Round fields = round_line s fields
word_line s word.Job fields = job_line s fields
word_line s word.Restart fields = restart_line s fields
word_line s (word.OfJob which) fields = of_job_line s which fields

-- a line of some words
abbrev pub line_of_words : Scenario → List (List ℕ) → Result Scenario ScriptWhy
line_of_words s [] = Ok s
line_of_words s (text ∷ fields) = ok_or (word_of text) why.UnknownWord >>= λ which. word_line s which fields

-- what the scenario is after a line, or the first cause why the line is wrong
abbrev pub after_line : Scenario → List ℕ → Result Scenario ScriptWhy
after_line s line = if is_comment line then Ok s else line_of_words s (words_of line)
