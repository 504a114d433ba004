-- How the sessions of a scenario follow its lines, for `SoFarLemmas` and `Sessions`.
use Rattle.std.proofs.Common.{ℕ, ◌≡◌, ◌≢◌, ◌<◌, ◌+◌, ◌∙◌, ◌||◌, nat_eq, nat_lt, Bool, true, false, List, ◌∷◌, ◌++◌, [], length, take, get_or, Option, Some, None, Ok, arith, ap, sym, refl, append-nil, append_assoc, length-append}
use Rattle.std.specs.Prelude.{not}
use Rattle.std.specs.List.{AllPairs, cons_option}
use Rattle.std.specs.Option.{option_to_list}
use Rattle.std.proofs.lemmas.Bool.Decides.{nat_tests}
use Rattle.std.proofs.lemmas.Grind.{flat_map-append}
use Rattle.std.proofs.lemmas.List.{get_or_append_left, take-append-le}
use Rattle.std.proofs.lemmas.List.Elements.{filter_map-append}
use Rattle.std.proofs.lemmas.List.Folds.{list_any-append, list_any_at}
use Rattle.std.proofs.lemmas.List.Quantifiers.{all_pairs_push}
use Rattle.std.proofs.lemmas.List.Sums.{sum_by-append}
use Rattle.std.proofs.lemmas.Option.{get_or_from_slice_get, slice_get-get_or, slice_get_within}
use Rattle.std.proofs.Math.Seq.{get_or-append_seam, take-append_seam}
use Rattle.auc_lines.specs.declared.part.Line.{Line}
use Rattle.auc_lines.specs.declared.part.Line.TheVariants.{Draw, Give, Sync, Eps, Fiveg, Sites, Sim, Session, Start, Deliver, Repeat, GiveUp, Plain, Tamper, Cut}
use Rattle.auc_reading.specs.declared.refusal.ScriptWhy.{ScriptWhy}
use Rattle.auc_reading.specs.declared.refusal.ScriptWhy.TheVariants as why
use Rattle.auc_subs.specs.Steps.{◌>>=◌}
use Rattle.auc_reading.specs.Field.{require}
use Rattle.auc_script.specs.InnerSoFar.{AreOfJob, noted}
use Rattle.auc_script.specs.Limits.{IsOpened, SessionsAreOpened}
use Rattle.auc_script.specs.Scenario.{in_order, is_new}
use Rattle.auc_script.specs.Session.{is_among, named_by, opened, opened_by, packets, packets_by, sessions_of, started, started_by}
use Rattle.auc_script.specs.declared.sessions.Sessions.{Sessions}

-- one number or none, as a list
one_or_none : (number : Option ℕ) → cons_option number [] ≡ option_to_list number
one_or_none None = refl
one_or_none (Some number) = refl

-- the sessions that a job opens and starts, and its packets, with a line more
opened_push : (job : List Line) (line : Line) → opened (job ++ line ∷ []) ≡ opened job ++ option_to_list (opened_by line)
opened_push job line = rw (filter_map-append opened_by job (line ∷ []), one_or_none (opened_by line)) refl

started_push : (job : List Line) (line : Line) → started (job ++ line ∷ []) ≡ started job ++ option_to_list (started_by line)
started_push job line = rw (filter_map-append started_by job (line ∷ []), one_or_none (started_by line)) refl

pub packets_push : (job : List Line) (line : Line) → packets (job ++ line ∷ []) ≡ packets job + packets_by line
packets_push job line = rw (sum_by-append packets_by job (line ∷ [])) (omega arith)

-- the sessions of some jobs, by the last, with a job without lines, and with a line more in the last
pub sessions_last : (jobs : List (List Line)) (job : List Line) → sessions_of (jobs ++ job ∷ []) ≡ sessions_of jobs ++ opened job
sessions_last jobs job = rw (flat_map-append opened jobs (job ∷ []), append-nil (opened job)) refl

pub sessions_job : (jobs : List (List Line)) → sessions_of (jobs ++ [] ∷ []) ≡ sessions_of jobs
sessions_job jobs = rw (flat_map-append opened jobs ([] ∷ [])) (append-nil (sessions_of jobs))

pub sessions_line : (jobs : List (List Line)) (job : List Line) (line : Line) → sessions_of (jobs ++ (job ++ line ∷ []) ∷ []) ≡ sessions_of (jobs ++ job ∷ []) ++ option_to_list (opened_by line)
sessions_line jobs job line =
    rw (sessions_last jobs (job ++ line ∷ []), sessions_last jobs job, opened_push job line)
    (sym (append_assoc (sessions_of jobs) (opened job) (option_to_list (opened_by line))))

-- a test that holds
holds_true : (b : Bool) (cause : ScriptWhy) → require b cause ≡ Ok tt → b ≡ true
holds_true true cause is = refl
holds_true false cause is = cc

holds_not : (b : Bool) (cause : ScriptWhy) → require (not b) cause ≡ Ok tt → b ≡ false
holds_not true cause is = cc
holds_not false cause is = refl

-- a session, if there is one, isn't among those before
abbrev pub IsFresh : List ℕ → Option ℕ → Type 0
IsFresh all None = Unit {0}
IsFresh all (Some session) = is_among session all ≡ false

-- a line that is in order opens a new session, and is of one that its job opened
pub fresh : (all here begun : List ℕ) (line : Line) → in_order all here begun line ≡ Ok tt → IsFresh all (opened_by line)
fresh all here begun (Session line) order = holds_not (is_among line.session all) why.Twice order
fresh all here begun (Draw sub count) order = tt
fresh all here begun (Sync sub report count) order = tt
fresh all here begun (Give sub number) order = tt
fresh all here begun (Eps sub snid) order = tt
fresh all here begun (Fiveg line) order = tt
fresh all here begun (Sites line) order = tt
fresh all here begun (Sim line) order = tt
fresh all here begun (Start session) order = tt
fresh all here begun (Deliver session end packet) order = tt
fresh all here begun (Repeat session) order = tt
fresh all here begun (GiveUp session end) order = tt
fresh all here begun (Plain session) order = tt
fresh all here begun (Tamper packet place byte) order = tt
fresh all here begun (Cut packet length) order = tt

pub known : (all here begun : List ℕ) (line : Line) → in_order all here begun line ≡ Ok tt → IsOpened here (named_by line)
known all here begun (Session line) order = tt
known all here begun (Draw sub count) order = tt
known all here begun (Sync sub report count) order = tt
known all here begun (Give sub number) order = tt
known all here begun (Eps sub snid) order = tt
known all here begun (Fiveg line) order = tt
known all here begun (Sites line) order = tt
known all here begun (Sim line) order = tt
known all here begun (Start session) order = first (is_among session here) order
  where
    first : (b : Bool) → (require b why.UnknownSession >>= λ known. is_new begun session) ≡ Ok tt → b ≡ true
    first true is = refl
    first false is = cc
known all here begun (Deliver session end packet) order = holds_true (is_among session here) why.UnknownSession order
known all here begun (Repeat session) order = holds_true (is_among session here) why.UnknownSession order
known all here begun (GiveUp session end) order = holds_true (is_among session here) why.UnknownSession order
known all here begun (Plain session) order = holds_true (is_among session here) why.UnknownSession order
known all here begun (Tamper packet place byte) order = tt
known all here begun (Cut packet length) order = tt

-- different numbers stay so with one more that is new
pub numbers_push : (all : List ℕ) (session : Option ℕ) → AllPairs ◌≢◌ all → IsFresh all session → AllPairs ◌≢◌ (all ++ option_to_list session)
numbers_push all None pairs new = rw (append-nil all) pairs
numbers_push all (Some session) pairs new = all_pairs_push ◌≢◌ all session pairs (λ k d inside same. other k d inside same)
  where
    other : (k : ℕ) (d : ℕ) → k < length all → get_or all k d ≢ session
    other k d inside same =
        let found : nat_eq session (get_or all k d) ≡ true = grind (arith, nat_tests) in
        absurd (cc (list_any_at (nat_eq session) all k d inside found))

-- what isn't among some lists isn't among the last
pub not_last : (front last : List ℕ) (session : ℕ) → is_among session (front ++ last) ≡ false → is_among session last ≡ false
not_last front last session none = which (is_among session front) (is_among session last) (rw (list_any-append (nat_eq session) front last) at none)
  where
    which : (a b : Bool) → (a || b) ≡ false → b ≡ false
    which true b is = cc
    which false b is = is

-- each line of a job comes after the one that opens its session, with one more that does
pub opened_more : (job : List Line) (line : Line) → SessionsAreOpened job → IsOpened (opened job) (named_by line) → SessionsAreOpened (job ++ line ∷ [])
opened_more job line are last i x at = which (nat_lt i (length job)) refl
  where
    which : (b : Bool) → nat_lt i (length job) ≡ b → IsOpened (opened (take i (job ++ line ∷ []))) (named_by x)
    which true test =
        let less : i < length job = grind (arith, nat_tests) in
        let here : get_or job i x ≡ x = sym (get_or_append_left job (line ∷ []) x i less) ∙ get_or_from_slice_get (job ++ line ∷ []) i x x at in
        rw (take-append-le i job (line ∷ []) (omega arith)) (are i x (slice_get-get_or job i x less ∙ ap Some here))
    which false test =
        let inside : i < length (job ++ line ∷ []) = slice_get_within (job ++ line ∷ []) i x at in
        let place : i ≡ length job = grind (arith, nat_tests, length-append job (line ∷ [])) in
        let here : line ≡ x = sym (get_or-append_seam job line [] x) ∙ get_or_from_slice_get (job ++ line ∷ []) (length job) x x (rw place at at) in
        rw (place, take-append_seam job (line ∷ []), ← here) last

-- the sessions of a job with a line more
pub of_job_more : (s : Sessions) (job : List Line) (line : Line) → AreOfJob s job → AreOfJob (noted s line) (job ++ line ∷ [])
of_job_more s job line are = record {
  opened = ap (λ front. front ++ option_to_list (opened_by line)) are.opened ∙ sym (opened_push job line);
  started = ap (λ front. front ++ option_to_list (started_by line)) are.started ∙ sym (started_push job line);
  packets = omega (arith, are.packets, packets_push job line);
}
