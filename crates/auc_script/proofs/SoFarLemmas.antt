-- What is kept while lines are read, for `SoFar`.
use Rattle.std.proofs.Common.{ℕ, ◌≡◌, ◌≢◌, ◌<◌, ◌≤◌, ◌+◌, ◌*◌, ◌∙◌, ◌&&◌, ◌||◌, nat_eq, nat_le, nat_lt, Bool, true, false, List, ◌∷◌, ◌++◌, [], length, get_or, slice_index, slice_set, Option, Some, None, IfSome, is_some, slice_get, Result, Ok, Err, arith, ap, sym, refl, append-nil, append_assoc, length-append, length-set, replicate}
use Rattle.std.specs.Prelude.{◌==◌, not}
use Rattle.std.specs.List.{All, AllPairs, list_any, sum_by}
use Rattle.std.specs.Option.{option_map, option_to_list}
use Rattle.std.proofs.lemmas.Bool.Decides.{nat_tests}
use Rattle.std.proofs.lemmas.List.{get_or_append_left, length-replicate, get_or-set_same, get_or-set_other}
use Rattle.std.proofs.Math.Seq.{get_or-append_seam}
use Rattle.std.proofs.lemmas.List.Elements.{All-from_get_or, All-nil, All-pop, All-push, All-replicate}
use Rattle.std.proofs.lemmas.Grind.{flat_map-append}
use Rattle.std.proofs.lemmas.List.Folds.{list_any-append, list_any_at}
use Rattle.std.proofs.lemmas.List.Quantifiers.{all_pairs_push}
use Rattle.std.proofs.Math.Nat.{mul-le-mul_left, mul-le-mul_right}
use Rattle.std.proofs.lemmas.List.Sums.{count_by-le-length, sum_by-append}
use Rattle.std.proofs.lemmas.Option.{slice_get_within}
use Rattle.auc_subs.specs.declared.row.Row.{Row}
use Rattle.auc_subs.specs.declared.refusal.SubsWhy.{SubsWhy}
use Rattle.auc_subs.specs.Subscriber.{line_counts, rows_with_fields}
use Rattle.auc_script.specs.declared.holders.Holders.{Holders}
use Rattle.auc_script.specs.declared.sessions.Sessions.{Sessions}
use Rattle.auc_script.specs.declared.so_far.SoFar.{SoFar}
use Rattle.auc_lines.specs.declared.part.Line.{Line}
use Rattle.auc_lines.specs.declared.part.Line.TheVariants.{Draw, Give, Sync, Eps, Fiveg, Sites, Sim, Session, Start, Deliver, Repeat, GiveUp, Plain, Tamper, Cut}
use Rattle.auc_lines.specs.declared.part.Part.{Part}
use Rattle.auc_lines.specs.declared.part.Part.TheVariants.{Round, Restart}
use Rattle.auc_lines.specs.Sites.{IsSitesValue, SitesValue, deliveries_in, is_delivery}
use Rattle.auc_reading.specs.Numbers.{most_events, most_leased}
use Rattle.auc_script.specs.Numbers.{most_jobs, most_packets, most_rounds, most_sessions, most_vectors}
use Rattle.auc_script.specs.declared.round_so_far.RoundSoFar.{RoundSoFar}
use Rattle.auc_script.specs.declared.form.Form.{Form}
use Rattle.auc_script.specs.declared.form.Form.TheVariants as forms
use Rattle.auc_reading.specs.declared.word.JobWord.{JobWord}
use Rattle.auc_script.specs.Limits.{AreJobs, AreWithin, IsBlock, IsOpened, IsPart, SessionsAreOpened}
use Rattle.auc_reading.specs.Ranges.{IsLine}
use Rattle.auc_lines.specs.Part.{AreApart, asked, asked_by, held_by, holds, is_held_by, jobs_of}
use Rattle.auc_script.specs.Scenario.{Scenario, by_subs, in_order, is_block, is_busy, is_header, jobs_in, job_line, may_stand_in_block, no_jobs, of_job_line, parts_of, restart_line, round_line, rounds_of, subscriber_line, with_round}
use Rattle.auc_reading.specs.JobLine.{line_of}
use Rattle.auc_reading.specs.Texts.{has_fit_texts}
use Rattle.auc_script.specs.Session.{is_among, named_by, opened, opened_by, packets, packets_by, sessions_of}
use Rattle.auc_reading.specs.declared.refusal.ScriptWhy.{ScriptWhy}
use Rattle.auc_reading.specs.declared.refusal.ScriptWhy.TheVariants.{Limit, NotInBlock, UsimBusy}
use Rattle.auc_subs.specs.Steps.{◌>>=◌}
use Rattle.auc_reading.specs.Field.{no_field, require}
use Rattle.auc_script.specs.InnerSoFar.{AreMarks, AreOfJob, IsBetween, IsMark, IsReady, IsSoFar, asked_with, marked, noted, of_new_job, room_for, scenario, with_line}
use Rattle.auc_script.proofs.SessionLemmas.{fresh, known, not_last, numbers_push, of_job_more, opened_more, packets_push, sessions_job, sessions_last, sessions_line}

-- the jobs of parts with one more round
pub jobs_with : (ended : List Part) (jobs : List (List Line)) → jobs_of (ended ++ Round jobs ∷ []) ≡ jobs_of ended ++ jobs
jobs_with [] jobs = append-nil jobs
jobs_with (Restart ∷ more) jobs = jobs_with more jobs
jobs_with (Round first ∷ more) jobs = ap (λ rest. first ++ rest) (jobs_with more jobs) ∙ sym (append_assoc first (jobs_of more) jobs)

-- how many they are, and what they ask for
pub length-jobs : (ended : List Part) (jobs : List (List Line)) → length (jobs_of (ended ++ Round jobs ∷ [])) ≡ length (jobs_of ended) + length jobs
length-jobs ended jobs = rw (jobs_with ended jobs) (length-append (jobs_of ended) jobs)

pub asked-jobs : (ended : List Part) (jobs : List (List Line)) → asked (jobs_of (ended ++ Round jobs ∷ [])) ≡ asked (jobs_of ended) + asked jobs
asked-jobs ended jobs = rw (jobs_with ended jobs) (sum_by-append (λ job. sum_by asked_by job) (jobs_of ended) jobs)

-- the sessions that they open
pub sessions-jobs : (ended : List Part) (jobs : List (List Line)) → sessions_of (jobs_of (ended ++ Round jobs ∷ [])) ≡ sessions_of (jobs_of ended) ++ sessions_of jobs
sessions-jobs ended jobs = rw (jobs_with ended jobs) (flat_map-append opened (jobs_of ended) jobs)

-- how many rounds they are
pub rounds-round : (ended : List Part) (jobs : List (List Line)) → rounds_of (ended ++ Round jobs ∷ []) ≡ rounds_of ended + 1
rounds-round [] jobs = refl
rounds-round (Restart ∷ more) jobs = rounds-round more jobs
rounds-round (Round first ∷ more) jobs = ap (λ n. n + 1) (rounds-round more jobs)

-- a restart after some parts has no jobs, and is no round
rounds-restart : (ended : List Part) → rounds_of (ended ++ Restart ∷ []) ≡ rounds_of ended
rounds-restart [] = refl
rounds-restart (Restart ∷ more) = rounds-restart more
rounds-restart (Round first ∷ more) = ap (λ n. n + 1) (rounds-restart more)

jobs-restart : (ended : List Part) → jobs_of (ended ++ Restart ∷ []) ≡ jobs_of ended
jobs-restart [] = refl
jobs-restart (Restart ∷ more) = jobs-restart more
jobs-restart (Round first ∷ more) = ap (λ rest. first ++ rest) (jobs-restart more)

-- other jobs in the present round
pub within_with : (rows : List Row) (ended : List Part) (old new : List (List Line)) → AreWithin rows (ended ++ Round old ∷ []) → AreJobs rows new
    → length (jobs_of (ended ++ Round new ∷ [])) ≤ most_jobs → asked (jobs_of (ended ++ Round new ∷ [])) ≤ most_vectors
    → length (sessions_of (jobs_of (ended ++ Round new ∷ []))) ≤ most_sessions → AllPairs ◌≢◌ (sessions_of (jobs_of (ended ++ Round new ∷ [])))
    → AreWithin rows (ended ++ Round new ∷ [])
within_with rows ended old new within jobs count vectors sessions numbers = record {
  each = All-push (IsPart rows) ended (Round new) (All-pop (IsPart rows) (ended ++ Round old ∷ []) ended (Some (Round old)) refl within.each).0 jobs;
  rounds = omega (arith, within.rounds, rounds-round ended old, rounds-round ended new);
  restarts = omega (arith, within.restarts, rounds-round ended old, rounds-round ended new, length-append ended (Round old ∷ []), length-append ended (Round new ∷ []));
  jobs = count;
  vectors = vectors;
  sessions = sessions;
  numbers = numbers;
}

-- the jobs of the present round
pub present_jobs : (rows : List Row) (ended : List Part) (jobs : List (List Line)) → AreWithin rows (ended ++ Round jobs ∷ []) → AreJobs rows jobs
present_jobs rows ended jobs within = (All-pop (IsPart rows) (ended ++ Round jobs ∷ []) ended (Some (Round jobs)) refl within.each).1

-- a round without jobs opens no session
sessions-none : (ended : List Part) → sessions_of (jobs_of (ended ++ Round [] ∷ [])) ≡ sessions_of (jobs_of ended)
sessions-none ended = sessions-jobs ended [] ∙ append-nil (sessions_of (jobs_of ended))

-- a round without jobs
pub no_jobs_more : (rows : List Row) (ended : List Part) → AreWithin rows ended → rounds_of ended < most_rounds → AreWithin rows (ended ++ Round [] ∷ [])
no_jobs_more rows ended within room = record {
  each = All-push (IsPart rows) ended (Round []) within.each (record {
    lines = All-nil (λ job. All (IsLine rows) job);
    opened = All-nil SessionsAreOpened;
    packets = All-nil (λ job. packets job ≤ most_packets);
    apart = λ i j d less inside. absurd (omega arith);
  });
  rounds = omega (arith, room, rounds-round ended []);
  restarts = omega (arith, within.restarts, rounds-round ended [], length-append ended (Round [] ∷ []));
  jobs = omega (arith, within.jobs, length-jobs ended []);
  vectors = omega (arith, within.vectors, asked-jobs ended []);
  sessions = rw (sessions-none ended) within.sessions;
  numbers = rw (sessions-none ended) within.numbers;
}

-- the present round of a block
pub block_within : (rows : List Row) (ended : List Part) (round : Option RoundSoFar) → AreWithin rows (with_round ended round) → IfSome (option_map jobs_in round) (IsBlock rows)
block_within rows ended None within = tt
block_within rows ended (Some round) within = record {
  are_jobs = present_jobs rows ended (jobs_in round) within;
  few = omega (arith, within.jobs, length-jobs ended (jobs_in round));
  vectors = omega (arith, within.vectors, asked-jobs ended (jobs_in round));
}

-- a job without lines
pub job_more : (rows : List Row) (jobs : List (List Line)) → AreJobs rows jobs → AreJobs rows (jobs ++ [] ∷ [])
job_more rows jobs are = record {
  lines = All-push (λ job. All (IsLine rows) job) jobs [] are.lines (All-nil (IsLine rows));
  opened = All-push SessionsAreOpened jobs [] are.opened (λ i line at. absurd (none i line at));
  packets = All-push (λ job. packets job ≤ most_packets) jobs [] are.packets (omega arith);
  apart = all_pairs_push AreApart jobs [] are.apart (λ k d within sub gives. refl);
}
  where
    none : (i : ℕ) (line : Line) → slice_get {X = Line} [] i ≡ Some line → ⊥
    none i line at = let inside : i < 0 = slice_get_within [] i line at in omega arith

-- it asks for nothing
pub asked_same : (jobs : List (List Line)) → asked (jobs ++ [] ∷ []) ≡ asked jobs
asked_same jobs = rw (sum_by-append (λ job. sum_by asked_by job) jobs ([] ∷ [])) (omega arith)

-- which jobs of a round hold a USIM, by its mark, with one more job
mark_more : (before count mark : ℕ) → ((nat_lt before mark && nat_le mark (before + count)) || nat_eq mark (before + count + 1)) ≡ (nat_lt before mark && nat_le mark (before + (count + 1)))
mark_more before count mark = grind (arith, nat_tests)

-- no job that there is has a number behind the last
mark_behind : (before count mark : ℕ) → mark ≤ before + count → false ≡ nat_eq mark (before + count + 1)
mark_behind before count mark bound = grind (arith, nat_tests)

or_false : (b : Bool) → (b || false) ≡ b
or_false true = refl
or_false false = refl

-- a test of a list with one more
any_push : {X : Type 0} (p : X → Bool) (xs : List X) (x : X) → list_any p (xs ++ x ∷ []) ≡ (list_any p xs || p x)
any_push p xs x = rw (list_any-append p xs (x ∷ []), or_false (p x)) refl

-- a mark when a job begins
mark_job : (before : ℕ) (jobs : List (List Line)) (job : Option (List Line)) (sub mark : ℕ) → IsMark before (record { jobs = jobs; job = job }) sub mark
    → IsMark before (record { jobs = jobs ++ option_to_list job; job = Some [] }) sub mark
mark_job before jobs None sub mark is = record {
  bound = omega (arith, is.bound, length-append (jobs ++ []) ([] ∷ []));
  earlier = rw (append-nil jobs) is.earlier;
  present = mark_behind before (length (jobs ++ [])) mark is.bound;
}
mark_job before jobs (Some job) sub mark is = record {
  bound = omega (arith, is.bound, length-append (jobs ++ job ∷ []) ([] ∷ []));
  earlier = rw (any_push (holds sub) jobs job, is.earlier, is.present, length-append jobs (job ∷ [])) (mark_more before (length jobs) mark);
  present = mark_behind before (length (jobs ++ job ∷ [])) mark is.bound;
}

pub marks_job : (before : ℕ) (marks : List ℕ) (round : RoundSoFar) → AreMarks before marks round → AreMarks before marks (record { jobs = jobs_in round; job = Some [] })
marks_job before marks round are sub within = mark_job before round.jobs round.job sub (slice_index marks sub) (are sub within)

-- a mark when a line comes for which the job doesn't hold the USIM
mark_line : (before : ℕ) (jobs : List (List Line)) (job : List Line) (line : Line) (sub mark : ℕ) → IsMark before (record { jobs = jobs; job = Some job }) sub mark
    → is_held_by sub line ≡ false → IsMark before (record { jobs = jobs; job = Some (job ++ line ∷ []) }) sub mark
mark_line before jobs job line sub mark is other = record {
  bound = omega (arith, is.bound, length-append jobs (job ∷ []), length-append jobs ((job ++ line ∷ []) ∷ []));
  earlier = is.earlier;
  present = rw (any_push (is_held_by sub) job line, other, or_false (holds sub job)) is.present;
}

-- a number is itself, and stands behind those before
same : (n : ℕ) → nat_eq n n ≡ true
same n = grind (arith, nat_tests)

behind : (before count : ℕ) → false ≡ (nat_lt before (before + count + 1) && nat_le (before + count + 1) (before + count))
behind before count = grind (arith, nat_tests)

or_true : (b : Bool) → (b || true) ≡ true
or_true true = refl
or_true false = refl

-- the mark when a line comes for which the job holds the USIM, and no earlier job of the round does
mark_held : (before : ℕ) (jobs : List (List Line)) (job : List Line) (line : Line) (sub : ℕ) → held_by line ≡ Some sub → list_any (holds sub) jobs ≡ false
    → IsMark before (record { jobs = jobs; job = Some (job ++ line ∷ []) }) sub (before + length jobs + 1)
mark_held before jobs job line sub held free = record {
  bound = omega (arith, length-append jobs ((job ++ line ∷ []) ∷ []));
  earlier = rw free (behind before (length jobs));
  present = rw (any_push (is_held_by sub) job line, held, same sub, or_true (holds sub job), same (before + length jobs + 1)) refl;
}

pub marks_line : (before : ℕ) (marks : List ℕ) (jobs : List (List Line)) (job : List Line) (line : Line) (held : Option ℕ) → held_by line ≡ held
    → AreMarks before marks (record { jobs = jobs; job = Some job }) → is_busy jobs held ≡ false
    → AreMarks before (marked marks (before + length jobs + 1) held) (record { jobs = jobs; job = Some (job ++ line ∷ []) })
marks_line before marks jobs job line None held are free sub within = mark_line before jobs job line sub (slice_index marks sub) (are sub within) (rw held refl)
marks_line before marks jobs job line (Some s) held are free sub within = which (nat_eq s sub) refl
  where
    inside : sub < length marks
    inside = rw (length-set marks s (before + length jobs + 1)) at within

    which : (b : Bool) → nat_eq s sub ≡ b → IsMark before (record { jobs = jobs; job = Some (job ++ line ∷ []) }) sub (slice_index (slice_set marks s (before + length jobs + 1)) sub)
    which true is =
        let one : s ≡ sub = grind (arith, nat_tests) in
        rw (← one, get_or-set_same marks s (before + length jobs + 1) 0 (omega (arith, inside, one))) (mark_held before jobs job line s held free)
    which false is =
        rw (get_or-set_other marks s sub (before + length jobs + 1) 0 (λ same. grind (arith, nat_tests)))
        (mark_line before jobs job line sub (slice_index marks sub) (are sub inside) (rw held is))

-- each subscriber keeps a mark
length-marked : (marks : List ℕ) (job : ℕ) (held : Option ℕ) → length (marked marks job held) ≡ length marks
length-marked marks job None = refl
length-marked marks job (Some s) = length-set marks s job

-- it asks for as many vectors more
asked_more : (jobs : List (List Line)) (job : List Line) (line : Line) → asked (jobs ++ (job ++ line ∷ []) ∷ []) ≡ asked (jobs ++ job ∷ []) + asked_by line
asked_more jobs job line = rw (sum_by-append (λ job. sum_by asked_by job) jobs ((job ++ line ∷ []) ∷ []), sum_by-append (λ job. sum_by asked_by job) jobs (job ∷ []), sum_by-append asked_by job (line ∷ [])) (omega arith)

-- the jobs in front of the last are apart, and each from the last
front_apart : (jobs : List (List Line)) (last : List Line) → AllPairs AreApart (jobs ++ last ∷ []) → AllPairs AreApart jobs
front_apart jobs last pairs i j d less inside =
    rw (← get_or_append_left jobs (last ∷ []) d i (omega arith), ← get_or_append_left jobs (last ∷ []) d j inside)
    (pairs i j d less (omega (arith, length-append jobs (last ∷ []))))

last_apart : (jobs : List (List Line)) (last : List Line) → AllPairs AreApart (jobs ++ last ∷ []) → (k : ℕ) (d : List Line) → k < length jobs → AreApart (get_or jobs k d) last
last_apart jobs last pairs k d inside =
    let pair = pairs k (length jobs) d inside (omega (arith, length-append jobs (last ∷ []))) in
    let first = get_or_append_left jobs (last ∷ []) d k inside in
    let second = get_or-append_seam jobs last [] d in
    rw second at (rw first at pair)

-- where no element passes a test, none does
none_at : {X : Type 0} (p : X → Bool) (xs : List X) (k : ℕ) (d : X) → list_any p xs ≡ false → k < length xs → p (get_or xs k d) ≡ false
none_at p xs k d none inside = which (p (get_or xs k d)) refl
  where
    which : (b : Bool) → p (get_or xs k d) ≡ b → b ≡ false
    which true is = absurd (cc (list_any_at p xs k d inside is))
    which false is = refl

-- a job stays apart from the present one with a line more
apart_more : (a job : List Line) (line : Line) → AreApart a job → ((sub : ℕ) → is_held_by sub line ≡ true → holds sub a ≡ false) → AreApart a (job ++ line ∷ [])
apart_more a job line apart free sub gives = rw (any_push (is_held_by sub) job line, apart sub gives) (which (is_held_by sub line) refl)
  where
    which : (b : Bool) → is_held_by sub line ≡ b → b ≡ false
    which true is = absurd (cc (free sub is))
    which false is = refl

-- the USIM that a job holds because of a line is held by no earlier job
none_holds : (jobs : List (List Line)) (line : Line) (held : Option ℕ) → held_by line ≡ held → is_busy jobs held ≡ false
    → (k : ℕ) (d : List Line) → k < length jobs → (sub : ℕ) → is_held_by sub line ≡ true → holds sub (get_or jobs k d) ≡ false
none_holds jobs line None held free k d inside sub holding = absurd (cc (rw held at holding))
none_holds jobs line (Some s) held free k d inside sub holding =
    let one : s ≡ sub = let test : nat_eq s sub ≡ true = rw held at holding in grind (arith, nat_tests) in
    rw (← one) (none_at (holds s) jobs k d free inside)

-- the jobs of a round with a line more in the last
jobs_line : (rows : List Row) (jobs : List (List Line)) (job : List Line) (line : Line) → AreJobs rows (jobs ++ job ∷ []) → IsLine rows line
    → is_busy jobs (held_by line) ≡ false → IsOpened (opened job) (named_by line) → packets job + packets_by line ≤ most_packets
    → AreJobs rows (jobs ++ (job ++ line ∷ []) ∷ [])
jobs_line rows jobs job line are is_line free named few =
    let lines = All-pop (λ job. All (IsLine rows) job) (jobs ++ job ∷ []) jobs (Some job) refl are.lines in
    let order = All-pop SessionsAreOpened (jobs ++ job ∷ []) jobs (Some job) refl are.opened in
    let counts = All-pop (λ job. packets job ≤ most_packets) (jobs ++ job ∷ []) jobs (Some job) refl are.packets in
    record {
      lines = All-push (λ job. All (IsLine rows) job) jobs (job ++ line ∷ []) lines.0 (All-push (IsLine rows) job line lines.1 is_line);
      opened = All-push SessionsAreOpened jobs (job ++ line ∷ []) order.0 (opened_more job line order.1 named);
      packets = All-push (λ job. packets job ≤ most_packets) jobs (job ++ line ∷ []) counts.0 (rw (packets_push job line) few);
      apart = all_pairs_push AreApart jobs (job ++ line ∷ []) (front_apart jobs job are.apart)
          (λ k d inside. apart_more (get_or jobs k d) job line (last_apart jobs job are.apart k d inside) (none_holds jobs line (held_by line) refl free k d inside));
    }

-- what is kept, where the present round is known
pub at_round : (rows : List Row) (s : SoFar) (round : Option RoundSoFar) → s.round ≡ round → IsSoFar rows s → IsSoFar rows (record s { round = round })
at_round rows s round is kept = rw (← is) kept

-- what is kept when a job begins
pub kept_job : (rows : List Row) (s : SoFar) (round : RoundSoFar) → IsSoFar rows (record s { round = Some round }) → s.jobs < most_jobs
    → IsSoFar rows (record s { round = Some (record { jobs = jobs_in round; job = Some [] }); jobs = s.jobs + 1; sessions = of_new_job s.sessions })
kept_job rows s round kept room =
    let count : length (jobs_of (s.ended ++ Round (jobs_in round ++ [] ∷ []) ∷ [])) ≡ s.jobs + 1
    = omega (arith, kept.jobs, length-jobs s.ended (jobs_in round), length-jobs s.ended (jobs_in round ++ [] ∷ []), length-append (jobs_in round) ([] ∷ [])) in
    let vectors : asked (jobs_of (s.ended ++ Round (jobs_in round ++ [] ∷ []) ∷ [])) ≡ s.asked
    = omega (arith, kept.asked, asked-jobs s.ended (jobs_in round), asked-jobs s.ended (jobs_in round ++ [] ∷ []), asked_same (jobs_in round)) in
    let sessions : sessions_of (jobs_of (s.ended ++ Round (jobs_in round ++ [] ∷ []) ∷ [])) ≡ sessions_of (jobs_of (s.ended ++ Round (jobs_in round) ∷ []))
    = rw (sessions-jobs s.ended (jobs_in round), sessions-jobs s.ended (jobs_in round ++ [] ∷ []), sessions_job (jobs_in round)) refl in
    record {
      header = kept.header;
      parts = within_with rows s.ended (jobs_in round) (jobs_in round ++ [] ∷ []) kept.parts (job_more rows (jobs_in round) (present_jobs rows s.ended (jobs_in round) kept.parts)) (omega arith) (omega (arith, kept.parts.vectors, kept.asked))
          (rw sessions kept.parts.sessions) (rw sessions kept.parts.numbers);
      jobs = sym count;
      asked = sym vectors;
      sessions = kept.sessions ∙ sym sessions;
      round = record {
        before = kept.round.before;
        each = kept.round.each;
        marks = marks_job s.holders.before s.holders.marks.items round kept.round.marks;
        job = record { opened = refl; started = refl; packets = refl };
      };
      rounds = kept.rounds ∙ rounds-round s.ended (jobs_in round) ∙ sym (rounds-round s.ended (jobs_in round ++ [] ∷ []));
      restarts = kept.restarts;
    }

-- whether a line may stand in lines of a form
abbrev pub may_stand : Form → Line → Bool
may_stand form line = not (is_block form) || may_stand_in_block line

-- a line that passes all tests, over the jobs before the present one
pub record Passes (rows : List Row) (s : SoFar) (jobs : List (List Line)) (line : Line) : Type 0 where
  pub is_line : IsLine rows line
  pub order : in_order s.sessions.all s.sessions.opened s.sessions.started line ≡ Ok tt
  pub free : is_busy jobs (held_by line) ≡ false
  pub vectors : s.asked + asked_by line ≤ most_vectors
  pub sessions : length (s.sessions.all ++ option_to_list (opened_by line)) ≤ most_sessions
  pub packets : s.sessions.packets + packets_by line ≤ most_packets
  pub names : has_fit_texts line ≡ true
  pub may : may_stand s.form line ≡ true

-- what is kept when a line of a job comes
pub kept_line : (rows : List Row) (s : SoFar) (jobs : List (List Line)) (job : List Line) (line : Line) (holders : Holders) → IsSoFar rows (record s { round = Some (record { jobs = jobs; job = Some job }) })
    → Passes rows s jobs line → holders.before ≡ s.holders.before → holders.marks.items ≡ marked s.holders.marks.items (s.holders.before + length jobs + 1) (held_by line)
    → IsSoFar rows (record s { round = Some (record { jobs = jobs; job = Some (job ++ line ∷ []) }); asked = s.asked + asked_by line; holders = holders; sessions = noted s.sessions line })
kept_line rows s jobs job line holders kept passes before marks =
    let count : length (jobs_of (s.ended ++ Round (jobs ++ (job ++ line ∷ []) ∷ []) ∷ [])) ≡ s.jobs
    = omega (arith, kept.jobs, length-jobs s.ended (jobs ++ job ∷ []), length-jobs s.ended (jobs ++ (job ++ line ∷ []) ∷ []), length-append jobs (job ∷ []), length-append jobs ((job ++ line ∷ []) ∷ [])) in
    let vectors : asked (jobs_of (s.ended ++ Round (jobs ++ (job ++ line ∷ []) ∷ []) ∷ [])) ≡ s.asked + asked_by line
    = omega (arith, kept.asked, asked-jobs s.ended (jobs ++ job ∷ []), asked-jobs s.ended (jobs ++ (job ++ line ∷ []) ∷ []), asked_more jobs job line) in
    let sessions : sessions_of (jobs_of (s.ended ++ Round (jobs ++ (job ++ line ∷ []) ∷ []) ∷ [])) ≡ s.sessions.all ++ option_to_list (opened_by line)
    = rw (kept.sessions, sessions-jobs s.ended (jobs ++ job ∷ []), sessions-jobs s.ended (jobs ++ (job ++ line ∷ []) ∷ []), sessions_line jobs job line)
    (sym (append_assoc (sessions_of (jobs_of s.ended)) (sessions_of (jobs ++ job ∷ [])) (option_to_list (opened_by line)))) in
    let named : IsOpened (opened job) (named_by line) = rw kept.round.job.opened at (known s.sessions.all s.sessions.opened s.sessions.started line passes.order) in
    let few : packets job + packets_by line ≤ most_packets = omega (arith, kept.round.job.packets, passes.packets) in
    let apart : AllPairs ◌≢◌ (s.sessions.all ++ option_to_list (opened_by line))
    = numbers_push s.sessions.all (opened_by line) (rw kept.sessions kept.parts.numbers) (fresh s.sessions.all s.sessions.opened s.sessions.started line passes.order) in
    record {
      header = kept.header;
      parts = within_with rows s.ended (jobs ++ job ∷ []) (jobs ++ (job ++ line ∷ []) ∷ []) kept.parts
          (jobs_line rows jobs job line (present_jobs rows s.ended (jobs ++ job ∷ []) kept.parts) passes.is_line passes.free named few)
          (omega (arith, kept.parts.jobs, kept.jobs)) (omega (arith, vectors, passes.vectors)) (rw sessions passes.sessions) (rw sessions apart);
      jobs = sym count;
      asked = sym vectors;
      sessions = sym sessions;
      round = record {
        before = before ∙ kept.round.before;
        each = rw marks (length-marked s.holders.marks.items (s.holders.before + length jobs + 1) (held_by line)) ∙ kept.round.each;
        marks = rw (before, marks) (marks_line s.holders.before s.holders.marks.items jobs job line (held_by line) refl kept.round.marks passes.free);
        job = of_job_more s.sessions job line kept.round.job;
      };
      rounds = kept.rounds ∙ rounds-round s.ended (jobs ++ job ∷ []) ∙ sym (rounds-round s.ended (jobs ++ (job ++ line ∷ []) ∷ []));
      restarts = kept.restarts;
    }

-- the lines of all parts of no rounds speak of any subscribers
pub within_none : (rows after : List Row) (ended : List Part) → ended ≡ [] → AreWithin rows ended → AreWithin after ended
within_none rows after ended none within = record {
  each = λ k d inside. absurd (no_part (rw none at inside));
  rounds = within.rounds;
  restarts = within.restarts;
  jobs = within.jobs;
  vectors = within.vectors;
  sessions = within.sessions;
  numbers = within.numbers;
}
  where
    no_part : {k : ℕ} → k < 0 → ⊥
    no_part less = omega arith

-- what is kept before the first round when a subscriber comes
pub kept_rows : (rows after : List Row) (s : SoFar) → IsSoFar rows s → s.round ≡ None → s.ended ≡ [] → IsSoFar after s
kept_rows rows after s kept none first =
    let at : IsSoFar rows (record s { round = None }) = at_round rows s None none kept in
    let all : IsSoFar after (record s { round = None }) = record {
      header = at.header;
      parts = within_none rows after s.ended first at.parts;
      jobs = at.jobs;
      asked = at.asked;
      sessions = at.sessions;
      round = tt;
      rounds = at.rounds;
      restarts = at.restarts;
    } in
    rw none all

-- a number of a job before the round is that of none in it
low : (before mark : ℕ) → mark ≤ before → false ≡ (nat_lt before mark && nat_le mark (before + 0))
low before mark bound = grind (arith, nat_tests)

high : (before mark : ℕ) → mark ≤ before → false ≡ nat_eq mark (before + 0 + 1)
high before mark bound = grind (arith, nat_tests)

-- what is kept when a round begins
pub kept_round : (rows : List Row) (old s : SoFar) → IsSoFar rows old → old.rounds < most_rounds → IsBetween rows old s
    → IsSoFar rows (record s { round = Some (record { jobs = []; job = None }); rounds = s.rounds + 1 })
kept_round rows old s kept room between =
    let same : s.ended ≡ with_round old.ended old.round = between.ended in
    let parts : AreWithin rows (s.ended ++ Round [] ∷ []) = rw same (no_jobs_more rows (with_round old.ended old.round) kept.parts (omega (arith, kept.rounds, room))) in
    let rounds : s.rounds ≡ rounds_of s.ended = rw same (between.rounds ∙ kept.rounds) in
    let restarts : length s.ended ≤ 2 * rounds_of s.ended = rw same kept.parts.restarts in
    let jobs : s.jobs ≡ length (jobs_of s.ended) = rw same (between.jobs ∙ kept.jobs) in
    let vectors : s.asked ≡ asked (jobs_of s.ended) = rw same (between.asked ∙ kept.asked) in
    let sessions : s.sessions.all ≡ sessions_of (jobs_of s.ended) = rw same (ap (λ (s : Sessions). s.all) between.sessions ∙ kept.sessions) in
    record {
      header = rw between.header kept.header;
      parts = parts;
      jobs = omega (arith, jobs, length-jobs s.ended []);
      asked = omega (arith, vectors, asked-jobs s.ended []);
      sessions = sessions ∙ sym (sessions-none s.ended);
      round = record {
        before = between.before ∙ sym between.jobs ∙ jobs;
        each = between.each;
        marks = λ sub inside. fresh s.holders.before sub (slice_index s.holders.marks.items sub) (rw between.before (between.marks sub 0 inside));
        job = tt;
      };
      rounds = omega (arith, rounds, rounds-round s.ended []);
      restarts = restarts;
    }
  where
    fresh : (before sub mark : ℕ) → mark ≤ before → IsMark before (record { jobs = []; job = None }) sub mark
    fresh before sub mark bound = record { bound = omega (arith, bound); earlier = low before mark bound; present = high before mark bound }

-- the marks of a round are at most the number of jobs
pub marks_bound : (rows : List Row) (s : SoFar) (round : RoundSoFar) → IsSoFar rows (record s { round = Some round }) → All (λ mark. mark ≤ s.jobs) s.holders.marks.items
marks_bound rows s round kept = All-from_get_or (λ mark. mark ≤ s.jobs) s.holders.marks.items 0
    (λ sub inside. omega (arith, (kept.round.marks sub inside).bound, kept.round.before, kept.jobs, length-jobs s.ended (jobs_in round)))

-- one of two tests holds if the first one does, or the second one
pub first_of : (a b : Bool) → a ≡ true → (a || b) ≡ true
first_of true b is = refl
first_of false b is = cc

pub second_of : (a b : Bool) → b ≡ true → (a || b) ≡ true
second_of true b is = refl
second_of false b is = is

-- where no round has begun
none_begun : (round : Option RoundSoFar) (ended : List Part) → (not (is_some round) && (length ended == 0)) ≡ true → (round ≡ None) × (ended ≡ [])
none_begun None [] before = (refl, refl)
none_begun None (part ∷ more) before = let some : nat_eq (length (part ∷ more)) 0 ≡ false = grind (arith, nat_tests) in absurd (apart (nat_eq (length (part ∷ more)) 0) before some)
  where
    apart : (b : Bool) → b ≡ true → b ≡ false → ⊥
    apart true is same = cc
    apart false is same = cc
none_begun (Some round) ended before = absurd (apart before)
  where
    apart : false ≡ true → ⊥
    apart same = cc

pub not_begun : (block : Bool) (round : Option RoundSoFar) (ended : List Part) → (not block && not (is_some round) && (length ended == 0)) ≡ true → (block ≡ false) × (round ≡ None) × (ended ≡ [])
not_begun true round ended before = cc
not_begun false round ended before = let begun = none_begun round ended before in (refl, begun.0, begun.1)

-- a form that is no block isn't `Block`
pub not_both : (form : Form) → is_block form ≡ false → form ≡ forms.Block → ⊥
not_both forms.Scenario none is = cc
not_both forms.Header none is = cc
not_both forms.Block none is = cc

-- what a subscriber's line makes of the scenario, by what it makes of the rows
pub subscriber_is : (s : Scenario) (fields : List (List ℕ)) (rows : Result (List Row) SubsWhy) → (not (is_block s.form) && not (is_some s.round) && (length s.ended == 0)) ≡ true
    → rows_with_fields line_counts s.rows fields ≡ rows → subscriber_line s fields ≡ (by_subs rows >>= λ rows. Ok (record s { rows = rows }))
subscriber_is s fields rows place is = rw (place, is) refl

-- what is kept when a restart comes
pub kept_restart : (rows : List Row) (old s : SoFar) (parts : List Part) (round : RoundSoFar) → IsSoFar rows old → old.round ≡ Some round → IsBetween rows old s
    → parts ≡ s.ended ++ Restart ∷ [] → IsSoFar rows (record s { ended = parts })
kept_restart rows old s parts round kept is between pushed =
    let at : IsSoFar rows (record old { round = Some round }) = at_round rows old (Some round) is kept in
    let same : s.ended ≡ old.ended ++ Round (jobs_in round) ∷ [] = rw is at between.ended in
    let within : AreWithin rows s.ended = rw same at.parts in
    let counts = rounds-round old.ended (jobs_in round) in
    let all : length s.ended + 1 ≤ 2 * rounds_of s.ended = rw same (omega (arith, at.restarts, counts, length-append old.ended (Round (jobs_in round) ∷ []))) in
    let rounds : s.rounds ≡ rounds_of s.ended = rw same (between.rounds ∙ at.rounds) in
    let jobs : s.jobs ≡ length (jobs_of s.ended) = rw same (between.jobs ∙ at.jobs) in
    let vectors : s.asked ≡ asked (jobs_of s.ended) = rw same (between.asked ∙ at.asked) in
    let sessions : s.sessions.all ≡ sessions_of (jobs_of s.ended) = rw same (ap (λ (s : Sessions). s.all) between.sessions ∙ at.sessions) in
    rw (between.round, pushed) (record {
      header = rw between.header kept.header;
      parts = record {
        each = All-push (IsPart rows) s.ended Restart within.each tt;
        rounds = omega (arith, within.rounds, rounds-restart s.ended);
        restarts = omega (arith, all, rounds-restart s.ended, length-append s.ended (Restart ∷ []));
        jobs = rw (jobs-restart s.ended) within.jobs;
        vectors = rw (jobs-restart s.ended) within.vectors;
        sessions = rw (jobs-restart s.ended) within.sessions;
        numbers = rw (jobs-restart s.ended) within.numbers;
      };
      jobs = rw (jobs-restart s.ended) jobs;
      asked = rw (jobs-restart s.ended) vectors;
      sessions = rw (jobs-restart s.ended) sessions;
      round = tt;
      rounds = rw (rounds-restart s.ended) rounds;
      restarts = omega (arith, all, rounds-restart s.ended, length-append s.ended (Restart ∷ []));
    })

-- the present round has ended
pub between_some : (rows : List Row) (s : SoFar) (round : RoundSoFar) (parts : List Part) (present : Option RoundSoFar) → IsSoFar rows s → s.round ≡ Some round
    → parts ≡ s.ended ++ Round (jobs_in round) ∷ [] → present ≡ None
    → IsBetween rows s (record s { ended = parts; round = present; holders = record { before = s.jobs; marks = s.holders.marks } })
between_some rows s round parts present kept is pushed left =
    let at = at_round rows s (Some round) is kept in
    record {
      header = refl;
      ended = rw is pushed;
      jobs = refl;
      asked = refl;
      sessions = refl;
      rounds = refl;
      round = left;
      before = refl;
      each = at.round.each;
      marks = marks_bound rows s round at;
    }

-- there was no round
pub between_none : (rows : List Row) (s : SoFar) (holders : Holders) (present : Option RoundSoFar) (subs : ℕ) → IsSoFar rows s → s.round ≡ None
    → subs ≡ length rows → holders.before ≡ s.jobs → holders.marks.items ≡ replicate subs 0 → present ≡ None
    → IsBetween rows s (record s { round = present; holders = holders })
between_none rows s holders present subs kept none size before marks left =
    record {
      header = refl;
      ended = rw none refl;
      jobs = refl;
      asked = refl;
      sessions = refl;
      rounds = refl;
      round = left;
      before = before;
      each = rw marks (length-replicate subs 0) ∙ size;
      marks = rw marks (All-replicate (λ mark. mark ≤ s.jobs) subs 0 (omega arith));
    }

-- the number of a job of the present round fits
pub job_room : (rows : List Row) (s : SoFar) (round : RoundSoFar) → s.round ≡ Some round → IsSoFar rows s → s.holders.before + length round.jobs ≤ most_jobs
job_room rows s round is kept =
    let at = at_round rows s (Some round) is kept in
    omega (arith, at.round.before, at.parts.jobs, length-jobs s.ended (jobs_in round), length-append round.jobs (option_to_list round.job))

-- the present round, by its jobs
present_round : (s : SoFar) (round : RoundSoFar) (job : List Line) → s.round ≡ Some round → round.job ≡ Some job → s.round ≡ Some (record { jobs = round.jobs; job = Some job })
present_round s round job is has = is ∙ ap (λ (job : Option (List Line)). Some (record { jobs = round.jobs; job = job })) has

-- what is kept when a line of a job comes, by what the calls say
pub kept_line_at : (rows : List Row) (s : SoFar) (round : RoundSoFar) (job : List Line) (line : Line) (after : Option RoundSoFar) (count : ℕ) (holders : Holders) (sessions : Sessions) → IsSoFar rows s
    → s.round ≡ Some round → round.job ≡ Some job → Passes rows s round.jobs line → count ≡ s.asked + asked_by line → holders.before ≡ s.holders.before
    → holders.marks.items ≡ marked s.holders.marks.items (s.holders.before + length round.jobs + 1) (held_by line) → sessions ≡ noted s.sessions line → after ≡ with_line s.round line
    → IsSoFar rows (record s { round = after; asked = count; holders = holders; sessions = sessions })
kept_line_at rows s round job line after count holders sessions kept is has passes counted before marks noting made =
    let present = present_round s round job is has in
    let made_of : after ≡ Some (record { jobs = round.jobs; job = Some (job ++ line ∷ []) }) = rw (made, present) refl in
    rw (made_of, counted, noting) (kept_line rows s round.jobs job line holders (at_round rows s (Some (record { jobs = round.jobs; job = Some job })) present kept) passes before marks)

-- what isn't among all sessions isn't among the present job's
pub none_opened : (rows : List Row) (s : SoFar) (round : RoundSoFar) (job : List Line) → IsSoFar rows s → s.round ≡ Some round → round.job ≡ Some job
    → (n : ℕ) → is_among n s.sessions.all ≡ false → is_among n s.sessions.opened ≡ false
none_opened rows s round job kept is has n none =
    let at = at_round rows s (Some (record { jobs = round.jobs; job = Some job })) (present_round s round job is has) kept in
    let behind = not_last (sessions_of (jobs_of s.ended)) (sessions_of (round.jobs ++ job ∷ [])) n (rw (at.sessions, sessions-jobs s.ended (round.jobs ++ job ∷ [])) at none) in
    rw at.round.job.opened (not_last (sessions_of round.jobs) (opened job) n (rw (sessions_last round.jobs job) at behind))

-- what the tests behind its form make of a line: the order of its session, whether the USIM is held, whether there is room, and
-- whether it may stand here
abbrev pub tested : Result (Unit {0}) ScriptWhy → Bool → Bool → Bool → Scenario → Result Scenario ScriptWhy
tested order busy room may next = order >>= λ known. require (not busy) UsimBusy >>= λ free. require room Limit >>= λ within. require may NotInBlock >>= λ stands. Ok next

-- the sessions of the present job
of_present : (rows : List Row) (s : SoFar) (round : RoundSoFar) (job : List Line) → IsSoFar rows s → s.round ≡ Some round → round.job ≡ Some job → AreOfJob s.sessions job
of_present rows s round job kept is has = let at = at_round rows s (Some round) is kept in rw has at at.round.job

-- what a line of a job makes of the scenario, by what is kept
pub line_is : (rows : List Row) (s : SoFar) (which : JobWord) (fields : List (List ℕ)) (round : RoundSoFar) (job : List Line) (line : Line) → IsSoFar rows s
    → s.round ≡ Some round → round.job ≡ Some job → line_of rows which fields ≡ Ok line
    → of_job_line (scenario rows s) which fields
    ≡ tested (in_order s.sessions.all s.sessions.opened s.sessions.started line) (is_busy round.jobs (held_by line)) (room_for s.sessions s.asked line) (may_stand s.form line) (record (scenario rows s) { round = with_line s.round line })
line_is rows s which fields round job line kept is has says =
    let present = of_present rows s round job kept is has in
    rw (kept.sessions, present.opened, present.started, present.packets, kept.asked) (rw (says, is, has) refl)

-- the tests that a line passes
pub all_pass : (rows : List Row) (s : SoFar) (jobs : List (List Line)) (line : Line) (next : Scenario) → Passes rows s jobs line
    → tested (in_order s.sessions.all s.sessions.opened s.sessions.started line) (is_busy jobs (held_by line)) (room_for s.sessions s.asked line) (may_stand s.form line) next ≡ Ok next
all_pass rows s jobs line next passes =
    let vectors = fits_in (s.asked + asked_by line) most_vectors passes.vectors in
    let sessions = fits_in (length (s.sessions.all ++ option_to_list (opened_by line))) most_sessions passes.sessions in
    let packets = fits_in (s.sessions.packets + packets_by line) most_packets passes.packets in
    rw (passes.order, passes.free, vectors, sessions, packets, passes.names, passes.may) refl
  where
    fits_in : (n limit : ℕ) → n ≤ limit → nat_le n limit ≡ true
    fits_in n limit within = grind (arith, nat_tests)

-- the same tests, where they answer a number
abbrev tests : Result (Unit {0}) ScriptWhy → Bool → Bool → Bool → ℕ → Result ℕ ScriptWhy
tests order busy room may n = order >>= λ known. require (not busy) UsimBusy >>= λ free. require room Limit >>= λ within. require may NotInBlock >>= λ stands. Ok n

-- what holds where the tests pass, and what a test that fails makes of a scenario
tests_pass : (order : Result (Unit {0}) ScriptWhy) (busy room may : Bool) (n asked : ℕ) → tests order busy room may n ≡ Ok asked
    → (order ≡ Ok tt) × (busy ≡ false) × (room ≡ true) × (may ≡ true) × (asked ≡ n)
tests_pass (Ok done) false true true n asked is = (refl, refl, refl, refl, cc)
tests_pass (Ok done) false true false n asked is = cc
tests_pass (Ok done) false false may n asked is = cc
tests_pass (Ok done) true room may n asked is = cc
tests_pass (Err why) busy room may n asked is = cc

test_fails : (order : Result (Unit {0}) ScriptWhy) (busy room may : Bool) (n : ℕ) (next : Scenario) (why : ScriptWhy) → tests order busy room may n ≡ Err why
    → tested order busy room may next ≡ Err why
test_fails (Ok done) false true true n next why is = cc
test_fails (Ok done) false true false n next why is = cc
test_fails (Ok done) false false may n next why is = cc
test_fails (Ok done) true room may n next why is = cc
test_fails (Err other) busy room may n next why is = cc

-- each of four tests
four : (a b c d : Bool) → (a && b && c && d) ≡ true → (a ≡ true) × (b ≡ true) × (c ≡ true) × (d ≡ true)
four true true true true is = (refl, refl, refl, refl)
four true true true false is = cc
four true true false d is = cc
four true false c d is = cc
four false b c d is = cc

-- the most vectors that a line asks for: a whole lease in each event
abbrev pub most_by_line : ℕ
most_by_line = most_leased * most_events

-- a line for sites asks for few vectors
few_leased : (line : SitesValue) → IsSitesValue line → line.size * deliveries_in line.schedule ≤ most_by_line
few_leased line is =
    let few : deliveries_in line.schedule ≤ most_events = omega (arith, count_by-le-length is_delivery line.schedule, is.few) in
    let less = mul-le-mul_left line.size few in
    let more = mul-le-mul_right most_events is.most in
    omega (arith, less, more)

-- a line asks for few vectors
few_asked : (rows : List Row) (line : Line) → (has_fit_texts line ≡ true → IsLine rows line) → asked_by line ≤ most_by_line
few_asked rows (Draw sub count) is = omega (arith, (is refl).2)
few_asked rows (Sync sub report count) is = omega (arith, (is refl).2)
few_asked rows (Session line) is = omega arith
few_asked rows (Give sub number) is = omega arith
few_asked rows (Eps sub snid) is = omega arith
few_asked rows (Fiveg line) is = omega arith
few_asked rows (Sites line) is = few_leased line (is refl).1
few_asked rows (Sim line) is = omega (arith, (is refl).1.most)
few_asked rows (Start session) is = omega arith
few_asked rows (Deliver session end packet) is = omega arith
few_asked rows (Repeat session) is = omega arith
few_asked rows (GiveUp session end) is = omega arith
few_asked rows (Plain session) is = omega arith
few_asked rows (Tamper packet place byte) is = omega arith
few_asked rows (Cut packet length) is = omega arith

-- a line of the present job can be tested
pub ready : (rows : List Row) (s : SoFar) (round : RoundSoFar) (job : List Line) (line : Line) → IsSoFar rows s → s.round ≡ Some round → round.job ≡ Some job
    → IfSome (held_by line) (λ sub. sub < length rows) → (has_fit_texts line ≡ true → IsLine rows line) → IsReady s.sessions s.holders s.asked round line
ready rows s round job line kept is has inside is_line =
    let at = at_round rows s (Some round) is kept in
    let present = at_round rows s (Some (record { jobs = round.jobs; job = Some job })) (present_round s round job is has) kept in
    let jobs = present_jobs rows s.ended (round.jobs ++ job ∷ []) present.parts in
    let counts = All-pop (λ job. packets job ≤ most_packets) (round.jobs ++ job ∷ []) round.jobs (Some job) refl jobs.packets in
    record {
      known = rw at.round.each inside;
      marks = at.round.marks;
      room = omega (arith, job_room rows s round is kept);
      vectors = omega (arith, few_asked rows line is_line, kept.asked, kept.parts.vectors);
      opened = rw kept.sessions kept.parts.sessions;
      packets = omega (arith, present.round.job.packets, counts.1);
    }

-- a line that passes the tests, and how many vectors are then asked for
pub passes_with : (rows : List Row) (s : SoFar) (round : RoundSoFar) (line : Line) (asked : ℕ) → (has_fit_texts line ≡ true → IsLine rows line)
    → Ok asked ≡ asked_with s.sessions s.asked round line s.form → Passes rows s round.jobs line × (asked ≡ s.asked + asked_by line)
passes_with rows s round line asked is_line is =
    let all = tests_pass (in_order s.sessions.all s.sessions.opened s.sessions.started line) (is_busy round.jobs (held_by line)) (room_for s.sessions s.asked line) (may_stand s.form line) (s.asked + asked_by line) asked (sym is) in
    let room = four (nat_le (s.asked + asked_by line) most_vectors) (nat_le (length (s.sessions.all ++ option_to_list (opened_by line))) most_sessions) (nat_le (s.sessions.packets + packets_by line) most_packets) (has_fit_texts line) all.2 in (
      record {
        is_line = is_line room.3;
        order = all.0;
        free = all.1;
        vectors = least (s.asked + asked_by line) most_vectors room.0;
        sessions = least (length (s.sessions.all ++ option_to_list (opened_by line))) most_sessions room.1;
        packets = least (s.sessions.packets + packets_by line) most_packets room.2;
        names = room.3;
        may = all.3;
      },
      all.4,
    )
  where
    least : (n limit : ℕ) → nat_le n limit ≡ true → n ≤ limit
    least n limit is = grind (arith, nat_tests)

-- how many vectors are asked for with a line that passes each test
pub has_asked : (s : Sessions) (asked : ℕ) (round : RoundSoFar) (line : Line) (form : Form) → Ok tt ≡ in_order s.all s.opened s.started line
    → is_busy round.jobs (held_by line) ≡ false
    → (nat_le (length (s.all ++ option_to_list (opened_by line))) most_sessions && nat_le (s.packets + packets_by line) most_packets) ≡ true
    → has_fit_texts line ≡ true → asked + asked_by line ≤ most_vectors → may_stand form line ≡ true → Ok (asked + asked_by line) ≡ asked_with s asked round line form
has_asked s asked round line form order free room names vectors stands =
    let two = two_tests (nat_le (length (s.all ++ option_to_list (opened_by line))) most_sessions) (nat_le (s.packets + packets_by line) most_packets) room in
    let few : nat_le (asked + asked_by line) most_vectors ≡ true = least (asked + asked_by line) most_vectors vectors in
    rw (sym order, free, few, two.0, two.1, names, stands) refl
  where
    least : (n limit : ℕ) → n ≤ limit → nat_le n limit ≡ true
    least n limit within = grind (arith, nat_tests)

    two_tests : (a b : Bool) → (a && b) ≡ true → (a ≡ true) × (b ≡ true)
    two_tests true true is = (refl, refl)
    two_tests true false is = cc
    two_tests false b is = cc

-- a line that a test refuses
pub refused_line : (rows : List Row) (s : SoFar) (which : JobWord) (fields : List (List ℕ)) (round : RoundSoFar) (job : List Line) (line : Line) (why : ScriptWhy) → IsSoFar rows s
    → s.round ≡ Some round → round.job ≡ Some job → line_of rows which fields ≡ Ok line → Err why ≡ asked_with s.sessions s.asked round line s.form → of_job_line (scenario rows s) which fields ≡ Err why
refused_line rows s which fields round job line why kept is has says fails =
    line_is rows s which fields round job line kept is has says
    ∙ test_fails (in_order s.sessions.all s.sessions.opened s.sessions.started line) (is_busy round.jobs (held_by line)) (room_for s.sessions s.asked line) (may_stand s.form line) (s.asked + asked_by line) (record (scenario rows s) { round = with_line s.round line }) why (sym fails)

-- tests of a count
fits : (n limit : ℕ) → n < limit → nat_lt n limit ≡ true
fits n limit room = grind (arith, nat_tests)

full : (n limit : ℕ) → limit ≤ n → nat_lt n limit ≡ false
full n limit reached = grind (arith, nat_tests)

-- what a job makes of the scenario
pub job_becomes : (s : Scenario) (fields : List (List ℕ)) (round after : RoundSoFar) (none : Unit {0}) (n : ℕ) → s.round ≡ Some round → no_field fields ≡ Ok none
    → n ≡ length (jobs_of (parts_of s)) → n < most_jobs → after ≡ record { jobs = jobs_in round; job = Some [] } → job_line s fields ≡ Ok (record s { round = Some after })
job_becomes s fields round after none n is no_more counted room made =
    let test = fits (length (jobs_of (parts_of s))) most_jobs (omega (arith, counted, room)) in
    rw (made, no_more, test, is) refl

pub job_refused : (s : Scenario) (fields : List (List ℕ)) (round : RoundSoFar) (none : Unit {0}) (n : ℕ) → s.round ≡ Some round → no_field fields ≡ Ok none
    → n ≡ length (jobs_of (parts_of s)) → most_jobs ≤ n → job_line s fields ≡ Err Limit
job_refused s fields round none n is no_more counted reached =
    let test = full (length (jobs_of (parts_of s))) most_jobs (omega (arith, counted, reached)) in
    rw (no_more, test, is) refl

-- what a restart makes of the scenario
pub restart_becomes : (s : Scenario) (fields : List (List ℕ)) (round : RoundSoFar) (parts : List Part) (none : Unit {0}) → s.round ≡ Some round → no_field fields ≡ Ok none → is_block s.form ≡ false
    → parts ≡ parts_of s ++ Restart ∷ [] → restart_line s fields ≡ Ok (record s { ended = parts; round = None })
restart_becomes s fields round parts none is no_more whole made = rw (made, no_more, is, whole) refl

-- what a round makes of the scenario
pub round_becomes : (s : Scenario) (fields : List (List ℕ)) (parts : List Part) (none : Unit {0}) (n : ℕ) → is_header s.form ≡ false → no_field fields ≡ Ok none → n ≡ rounds_of (parts_of s) → n < most_rounds
    → (not (is_block s.form) || not (is_some s.round)) ≡ true → parts ≡ parts_of s → round_line s fields ≡ Ok (record s { ended = parts; round = Some no_jobs })
round_becomes s fields parts none n may no_more counted room only made =
    let test = fits (rounds_of (parts_of s)) most_rounds (omega (arith, counted, room)) in
    rw (made, may, no_more, test, only) refl
