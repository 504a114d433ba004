-- For a service: each line of a block that is right may stand in one.
use Rattle.std.proofs.Common.{◌≡◌, ℕ, ◌+◌, ◌||◌, ◌++◌, not, Bool, true, false, if◌then◌else◌, List, [], ◌∷◌, length, All, Option, Some, None, is_some, Result, Ok, Err, IfOk, ok_or, option_map, option_to_list, refl, subst}
use Rattle.std.specs.Prelude.{nat_lt}
use Rattle.std.proofs.lemmas.List.Elements.{All-nil, All-pop, All-push}
use Rattle.auc_lines.specs.Part.{held_by, jobs_of}
use Rattle.auc_lines.specs.declared.part.Line.{Line}
use Rattle.auc_lines.specs.declared.part.Part.TheVariants.{Restart}
use Rattle.auc_reading.specs.Field.{no_field, require}
use Rattle.auc_script.specs.Numbers.{most_jobs, most_rounds}
use Rattle.auc_script.specs.Reading.{after, beginning_of, block_of, read_lines, round_in}
use Rattle.auc_script.specs.Scenario.{Scenario, after_line, by_subs, has_room, header_line, header_with, in_block, in_header, in_order, is_block, is_busy, is_header, job_line, jobs_in, line_of_words, may_stand_in_block, no_jobs, of_job_line, parts_of, restart_line, round_line, rounds_of, subscriber_line, word_line}
use Rattle.auc_reading.specs.JobLine.{line_of}
use Rattle.auc_script.specs.Session.{opened, sessions_of, started}
use Rattle.auc_reading.specs.Word.{is_comment, word_of}
use Rattle.auc_script.specs.declared.form.Form.{Form}
use Rattle.auc_script.specs.declared.form.Form.TheVariants as forms
use Rattle.auc_script.specs.declared.refusal.ScriptRefusal.{ScriptRefusal}
use Rattle.auc_script.specs.declared.refusal.ScriptRefusal.TheVariants as wrong
use Rattle.auc_reading.specs.declared.refusal.ScriptWhy.{ScriptWhy}
use Rattle.auc_reading.specs.declared.refusal.ScriptWhy.TheVariants as why
use Rattle.auc_script.specs.declared.round_so_far.RoundSoFar.{RoundSoFar}
use Rattle.auc_reading.specs.declared.word.HeaderWord.{HeaderWord}
use Rattle.auc_reading.specs.declared.word.JobWord.{JobWord}
use Rattle.auc_reading.specs.declared.word.Word.{Word}
use Rattle.auc_reading.specs.declared.word.Word.TheVariants as word
use Rattle.auc_subs.specs.Steps.{◌>>=◌}
use Rattle.auc_subs.specs.Subscriber.{line_counts, rows_with_fields}
use Rattle.auc_subs.specs.declared.row.Row.{Row}
use Rattle.auc_text.specs.Text.{lines_of, words_of}
use Rattle.auc_run.specs.Inner.{AreQuiet}
use Rattle.auc_refusal.specs.Replies.{most_block}
use Rattle.auc_run.specs.Service.{asked_of}

-- a line that may stand in a block, and a job of such lines
abbrev MayStand : Line → Type 0
MayStand line = may_stand_in_block line ≡ true

abbrev MayAllStand : List Line → Type 0
MayAllStand job = All MayStand job

-- the jobs of a present round, if there is one, have such lines
abbrev IsQuietRound : Option RoundSoFar → Type 0
IsQuietRound None = Unit {0}
IsQuietRound (Some round) = AreQuiet (jobs_in round)

-- what some lines of a block say so far
record IsQuietSoFar (s : Scenario) : Type 0 where
  pub form : s.form ≡ forms.Block
  pub round : IsQuietRound s.round

-- what a test answers, and what follows
follows : {A : Type 0} (test : Result A ScriptWhy) (next : A → Result Scenario ScriptWhy) → ((a : A) → test ≡ Ok a → IfOk (next a) IsQuietSoFar) → IfOk (test >>= next) IsQuietSoFar
follows (Ok a) next each = each a refl
follows (Err fault) next each = tt

-- ---- a line

some_of : {A : Type 0} (o : Option A) (fault : ScriptWhy) (a : A) → ok_or o fault ≡ Ok a → o ≡ Some a
some_of (Some other) fault a is = cc
some_of None fault a is = cc

-- one of the header or of a subscriber changes no round
header_quiet : (s : Scenario) (which : HeaderWord) (fields : List (List ℕ)) → IsQuietSoFar s → IfOk (header_line s which fields) IsQuietSoFar
header_quiet s which fields quiet =
    follows (in_header s) (λ place. header_with s.header which fields >>= λ header. Ok (record s { header = header })) (λ place first.
    follows (header_with s.header which fields) (λ header. Ok (record s { header = header })) (λ header is. record { form = quiet.form; round = quiet.round }))

subscriber_quiet : (s : Scenario) (fields : List (List ℕ)) → IsQuietSoFar s → IfOk (subscriber_line s fields) IsQuietSoFar
subscriber_quiet s fields quiet =
    let rows = by_subs (rows_with_fields line_counts s.rows fields) in
    follows (in_header s) (λ place. rows >>= λ rows. Ok (record s { rows = rows })) (λ place first.
    follows rows (λ rows. Ok (record s { rows = rows })) (λ rows second. record { form = quiet.form; round = quiet.round }))

-- a round begins without jobs, and a restart ends it
round_quiet : (s : Scenario) (fields : List (List ℕ)) → IsQuietSoFar s → IfOk (round_line s fields) IsQuietSoFar
round_quiet s fields quiet =
    let next : Scenario = record s { ended = parts_of s; round = Some no_jobs } in
    let only = in_block s (not (is_some s.round)) in
    let within = require (nat_lt (rounds_of (parts_of s)) most_rounds) why.Limit in
    follows (require (not (is_header s.form)) why.OutOfOrder) (λ may. no_field fields >>= λ none. within >>= λ few. only >>= λ one. Ok next) (λ may first.
    follows (no_field fields) (λ none. within >>= λ few. only >>= λ one. Ok next) (λ none second.
    follows within (λ few. only >>= λ one. Ok next) (λ few third.
    follows only (λ one. Ok next) (λ one fourth. record { form = quiet.form; round = All-nil MayAllStand }))))

restart_quiet : (s : Scenario) (fields : List (List ℕ)) → IsQuietSoFar s → IfOk (restart_line s fields) IsQuietSoFar
restart_quiet s fields quiet =
    let next : Scenario = record s { ended = parts_of s ++ Restart ∷ []; round = None } in
    follows (ok_or s.round why.OutOfOrder) (λ round. no_field fields >>= λ none. in_block s false >>= λ whole. Ok next) (λ round first.
    follows (no_field fields) (λ none. in_block s false >>= λ whole. Ok next) (λ none second.
    follows (in_block s false) (λ whole. Ok next) (λ whole third. record { form = quiet.form; round = tt })))

-- a job begins without lines
job_quiet : (s : Scenario) (fields : List (List ℕ)) → IsQuietSoFar s → IfOk (job_line s fields) IsQuietSoFar
job_quiet s fields quiet =
    let next : RoundSoFar → Scenario = λ round. record s { round = Some (record { jobs = jobs_in round; job = Some [] }) } in
    let within = require (nat_lt (length (jobs_of (parts_of s))) most_jobs) why.Limit in
    follows (ok_or s.round why.OutOfOrder) (λ round. no_field fields >>= λ none. within >>= λ few. Ok (next round)) (λ round first.
    follows (no_field fields) (λ none. within >>= λ few. Ok (next round)) (λ none second.
    follows within (λ few. Ok (next round)) (λ few third. record {
      form = quiet.form;
      round = All-push MayAllStand (jobs_in round) [] (subst IsQuietRound (some_of s.round why.OutOfOrder round first) quiet.round) (All-nil MayStand);
    })))

-- a line of a job that passes the test of a block may stand in one
stands : (form : Form) (may : Bool) (done : Unit {0}) → form ≡ forms.Block → require (not (is_block form) || may) why.NotInBlock ≡ Ok done → may ≡ true
stands form true done is passes = refl
stands form false done is passes = absurd (apart done (subst (λ (f : Form). require (not (is_block f) || false) why.NotInBlock ≡ Ok done) is passes))
  where
    apart : (done : Unit {0}) → Err why.NotInBlock ≡ Ok done → ⊥
    apart done same = cc

-- the jobs of a round with such a line more
quiet_more : (round : RoundSoFar) (job : List Line) (line : Line) → round.job ≡ Some job → AreQuiet (jobs_in round) → MayStand line → AreQuiet (round.jobs ++ (job ++ line ∷ []) ∷ [])
quiet_more round job line is quiet may =
    let all : AreQuiet (round.jobs ++ job ∷ []) = subst (λ (o : Option (List Line)). AreQuiet (round.jobs ++ option_to_list o)) is quiet in
    let parts = All-pop MayAllStand (round.jobs ++ job ∷ []) round.jobs (Some job) refl all in
    All-push MayAllStand round.jobs (job ++ line ∷ []) parts.0 (All-push MayStand job line parts.1 may)

line_quiet : (s : Scenario) (which : JobWord) (fields : List (List ℕ)) → IsQuietSoFar s → IfOk (of_job_line s which fields) IsQuietSoFar
line_quiet s which fields quiet =
    let next : RoundSoFar → List Line → Line → Scenario = λ round job line. record s { round = Some (record { jobs = round.jobs; job = Some (job ++ line ∷ []) }) } in
    let order = λ (job : List Line) (line : Line). in_order (sessions_of (jobs_of (parts_of s))) (opened job) (started job) line in
    let free = λ (round : RoundSoFar) (line : Line). require (not (is_busy round.jobs (held_by line))) why.UsimBusy in
    let room = λ (job : List Line) (line : Line). require (has_room (parts_of s) job line) why.Limit in
    let may = λ (line : Line). in_block s (may_stand_in_block line) in
    follows (ok_or s.round why.OutOfOrder) (λ round. ok_or round.job why.OutOfOrder >>= λ job. line_of s.rows which fields >>= λ line.
    order job line >>= λ known. free round line >>= λ none. room job line >>= λ within. may line >>= λ done. Ok (next round job line)) (λ round first.
    follows (ok_or round.job why.OutOfOrder) (λ job. line_of s.rows which fields >>= λ line.
    order job line >>= λ known. free round line >>= λ none. room job line >>= λ within. may line >>= λ done. Ok (next round job line)) (λ job second.
    follows (line_of s.rows which fields) (λ line.
    order job line >>= λ known. free round line >>= λ none. room job line >>= λ within. may line >>= λ done. Ok (next round job line)) (λ line third.
    follows (order job line) (λ known. free round line >>= λ none. room job line >>= λ within. may line >>= λ done. Ok (next round job line)) (λ known fourth.
    follows (free round line) (λ none. room job line >>= λ within. may line >>= λ done. Ok (next round job line)) (λ none fifth.
    follows (room job line) (λ within. may line >>= λ done. Ok (next round job line)) (λ within sixth.
    follows (may line) (λ done. Ok (next round job line)) (λ done passes. record {
      form = quiet.form;
      round = quiet_more round job line (some_of round.job why.OutOfOrder job second) (subst IsQuietRound (some_of s.round why.OutOfOrder round first) quiet.round)
          (stands s.form (may_stand_in_block line) done quiet.form passes);
    })))))))

-- whatever its word is
word_quiet : (s : Scenario) (which : Word) (fields : List (List ℕ)) → IsQuietSoFar s → IfOk (word_line s which fields) IsQuietSoFar
word_quiet s (word.Header which) fields quiet = header_quiet s which fields quiet
word_quiet s word.Subscriber fields quiet = subscriber_quiet s fields quiet
word_quiet s word.Round fields quiet = round_quiet s fields quiet
word_quiet s word.Job fields quiet = job_quiet s fields quiet
word_quiet s word.Restart fields quiet = restart_quiet s fields quiet
word_quiet s (word.OfJob which) fields quiet = line_quiet s which fields quiet

words_quiet : (s : Scenario) (words : List (List ℕ)) → IsQuietSoFar s → IfOk (line_of_words s words) IsQuietSoFar
words_quiet s [] quiet = quiet
words_quiet s (text ∷ fields) quiet = follows (ok_or (word_of text) why.UnknownWord) (λ which. word_line s which fields) (λ which is. word_quiet s which fields quiet)

after_quiet : (s : Scenario) (line : List ℕ) → IsQuietSoFar s → IfOk (after_line s line) IsQuietSoFar
after_quiet s line quiet = by (is_comment line)
  where
    by : (comment : Bool) → IfOk (if comment then Ok s else line_of_words s (words_of line)) IsQuietSoFar
    by true = quiet
    by false = words_quiet s (words_of line) quiet

-- ---- a block

lines_quiet : (number : ℕ) (s : Scenario) (lines : List (List ℕ)) → IsQuietSoFar s → IfOk (read_lines number s lines) IsQuietSoFar
lines_quiet number s [] quiet = quiet
lines_quiet number s (line ∷ more) quiet = by (after_line s line) (after_quiet s line quiet) (λ t rest. lines_quiet (number + 1) t more rest)
  where
    by : (r : Result Scenario ScriptWhy) → IfOk r IsQuietSoFar → ((t : Scenario) → IsQuietSoFar t → IfOk (read_lines (number + 1) t more) IsQuietSoFar)
        → IfOk (after number r (λ t. read_lines (number + 1) t more)) IsQuietSoFar
    by (Ok t) rest each = each t rest
    by (Err fault) rest each = tt

-- what was asked for is a round of these jobs
abbrev IsAsked : List (List Line) → Result (Option (List (List Line))) ScriptRefusal → Type 0
IsAsked jobs asked = asked ≡ Ok (Some jobs)

-- a text that is a block
block_quiet : (rows : List Row) (text : List ℕ) (jobs : List (List Line)) → IsAsked jobs (block_of rows text) → AreQuiet jobs
block_quiet rows text jobs is =
    by (read_lines 1 (beginning_of forms.Block rows) (lines_of text)) (lines_quiet 1 (beginning_of forms.Block rows) (lines_of text) (record { form = refl; round = tt })) is
  where
    none : IsAsked jobs (Ok None) → ⊥
    none same = cc

    refuses : (refused : ScriptRefusal) → IsAsked jobs (Err refused) → ⊥
    refuses refused same = cc

    one : (others : List (List Line)) → IsAsked jobs (Ok (Some others)) → others ≡ jobs
    one others same = cc

    round_is : (o : Option RoundSoFar) → IsQuietRound o → IsAsked jobs (Ok (option_map jobs_in o)) → AreQuiet jobs
    round_is None quiet same = absurd (none same)
    round_is (Some round) quiet same = subst AreQuiet (one (jobs_in round) same) quiet

    by : (r : Result Scenario ScriptRefusal) → IfOk r IsQuietSoFar → IsAsked jobs (round_in r) → AreQuiet jobs
    by (Ok s) quiet same = round_is s.round quiet.round same
    by (Err refused) quiet same = absurd (refuses refused same)

-- what a service was asked in a block that is right
pub asked_quiet : (rows : List Row) (block : List ℕ) (jobs : List (List Line)) → asked_of rows block ≡ Ok (Some jobs) → AreQuiet jobs
asked_quiet rows block jobs asked = by (nat_lt most_block (length block)) asked
  where
    long : IsAsked jobs (Err (wrong.Line 0 why.Limit)) → ⊥
    long same = cc

    by : (b : Bool) → IsAsked jobs (if b then Err (wrong.Line 0 why.Limit) else block_of rows block) → AreQuiet jobs
    by true same = absurd (long same)
    by false same = block_quiet rows block jobs same
