-- For the laws: the promises of a run, by those of its transcript.
use Rattle.std.proofs.Common.{◌≡◌, ◌≢◌, ℕ, ◌<◌, Bool, true, false, List, [], ◌∷◌, AllPairs, Contains, length, map, refl, ◌∙◌, ap, subst, append-nil, arith}
use Rattle.std.specs.Prelude.{All, ◌||◌, None}
use Rattle.std.proofs.lemmas.Bool.{eqb-true}
use Rattle.std.proofs.lemmas.List.Elements.{All-cons, All-head, All-nil, All-tail}
use Rattle.auc_jobs.specs.Serving.{IsKnownLine}
use Rattle.auc_lines.specs.Part.{holds, is_held_by}
use Rattle.auc_lines.specs.declared.part.Line.{Line}
use Rattle.auc_lines.specs.declared.part.Line.TheVariants as line
use Rattle.auc_lines.specs.declared.part.Part.TheVariants.{Round}
use Rattle.auc_sqn.specs.Number.{sqn_bytes}
use Rattle.auc_subs.specs.declared.row.Row.{Row}
use Rattle.auc_transcript.proofs.Facts.{accepts_none_twice, keeps_numbers_apart}
use Rattle.auc_transcript.specs.Keys.{EachAuthenticationAgrees, IsHeldApart, IsOfUnbrokenJob}
use Rattle.auc_transcript.specs.Presented.{EachFailureInSessionsIsByPlace, EachPresentedVectorHasARightMac}
use Rattle.auc_record.specs.Lines.{accepted, all_lines, numbers_of}
use Rattle.auc_world.specs.Net.{Net}
use Rattle.auc_world.specs.Transcript.{lines_of as transcript_lines}
use Rattle.auc_world.specs.declared.net.Session.{Session}
use Rattle.auc_record.specs.declared.record.LineRecord.{LineRecord}
use Rattle.auc_record.specs.declared.record.RoundRecord.{RoundRecord}
use Rattle.auc_events.specs.Promises.{EachRunAcceptsNoneTwice, EachRunAgreesOnKeys, EachRunDrawsNoNumberTwice, EachRunFailsByPlace, parts_with, transcript_with}
use Rattle.auc_events.specs.Run.{event_records, job_records, job_with}
use Rattle.auc_events.proofs.GoingLemmas.{job_known}
use Rattle.auc_events.proofs.HoldingLemmas.{accepted_absent, numbers_absent}
use Rattle.auc_events.proofs.LawfulLemmas.{each_run_is_lawful}

-- ---- vectors and SQNs

-- the lines of the transcript are those of the job
told_lines : (round : RoundRecord) (lines : List LineRecord) → round.jobs ≡ lines ∷ [] → transcript_lines (transcript_with round) ≡ lines
told_lines round lines is = append-nil (all_lines round.jobs) ∙ ap all_lines is ∙ append-nil lines

pub each_run_draws_no_number_twice : EachRunDrawsNoNumberTwice
each_run_draws_no_number_twice set subs events results last core sub row run there =
    let (round, is) = each_run_is_lawful set subs events results last core run in
    subst (λ (ns : List ℕ). AllPairs ◌≢◌ (map (sqn_bytes row.bits) ns))
    (ap (numbers_of sub) (told_lines round (job_records subs events results) is.jobs) ∙ numbers_absent sub subs (event_records events results))
    (keeps_numbers_apart set [] None (parts_with (job_with subs events)) (transcript_with round) run.subscribers is.lawful sub row there)

pub each_run_accepts_none_twice : EachRunAcceptsNoneTwice
each_run_accepts_none_twice set subs events results last core sub row run there =
    let (round, is) = each_run_is_lawful set subs events results last core run in
    subst (AllPairs ◌≢◌)
    (ap (accepted row.bits sub) (told_lines round (job_records subs events results) is.jobs) ∙ accepted_absent row.bits sub subs (event_records events results))
    (accepts_none_twice set [] None (parts_with (job_with subs events)) (transcript_with round) run.subscribers is.lawful sub row there)

pub each_run_fails_by_place : EachFailureInSessionsIsByPlace → EachPresentedVectorHasARightMac → EachRunFailsByPlace
each_run_fails_by_place places macs set subs events results last core run =
    let (round, is) = each_run_is_lawful set subs events results last core run in (
      round,
      is,
      record {
        places = places set [] None (parts_with (job_with subs events)) (transcript_with round) run.subscribers is.lawful;
        macs = macs set [] None (parts_with (job_with subs events)) (transcript_with round) run.subscribers is.lawful;
      },
    )

-- ---- whose USIMs the job holds

line_holds : (rows : List Row) (sub : ℕ) (l : Line) → IsKnownLine rows l → is_held_by sub l ≡ true → sub < length rows
line_holds rows sub (line.Draw s n) known held = absurd (cc)
line_holds rows sub (line.Sync s report n) known held = absurd (cc)
line_holds rows sub (line.Give s n) known held = let same = eqb-true s sub held in let here = known.0 in omega (arith, same, here)
line_holds rows sub (line.Eps s snid) known held = absurd (cc)
line_holds rows sub (line.Fiveg l) known held = let same = eqb-true l.sub sub held in let here = known.sub in omega (arith, same, here)
line_holds rows sub (line.Sites l) known held = absurd (cc)
line_holds rows sub (line.Sim l) known held = absurd (cc)
line_holds rows sub (line.Session opening) known held = let same = eqb-true opening.sub sub held in let here = known.0 in omega (arith, same, here)
line_holds rows sub (line.Start session) known held = absurd (cc)
line_holds rows sub (line.Deliver session at' packet) known held = absurd (cc)
line_holds rows sub (line.Repeat session) known held = absurd (cc)
line_holds rows sub (line.GiveUp session at') known held = absurd (cc)
line_holds rows sub (line.Plain session) known held = absurd (cc)
line_holds rows sub (line.Tamper packet place byte) known held = absurd (cc)
line_holds rows sub (line.Cut packet length) known held = absurd (cc)

job_holds : (rows : List Row) (sub : ℕ) (job : List Line) → All (IsKnownLine rows) job → holds sub job ≡ true → sub < length rows
job_holds rows sub [] known held = absurd (cc)
job_holds rows sub (l ∷ job) known held =
    by (is_held_by sub l) refl held (λ more. job_holds rows sub job (All-tail (IsKnownLine rows) l job known) more)
  where
    by : (b : Bool) → is_held_by sub l ≡ b → (b || holds sub job) ≡ true → (holds sub job ≡ true → sub < length rows) → sub < length rows
    by true is held more = line_holds rows sub l (All-head (IsKnownLine rows) l job known) is
    by false is held more = more held

-- the job holds the USIMs of known subscribers alone
job_apart : (rows : List Row) (job : List Line) → All (IsKnownLine rows) job → All (IsHeldApart (length rows)) (parts_with job)
job_apart rows job known =
    All-cons (IsHeldApart (length rows)) (Round (job ∷ [])) [] (record {
      known = All-cons (λ (lines : List Line). (sub : ℕ) → holds sub lines ≡ true → sub < length rows) job [] (λ sub held. job_holds rows sub job known held)
          (All-nil (λ (lines : List Line). (sub : ℕ) → holds sub lines ≡ true → sub < length rows));
      apart = λ i j d i<j j<n. absurd (omega (arith, i<j, j<n));
    }) (All-nil (IsHeldApart (length rows)))

-- ---- keys

-- a session of the run is one of the transcript's only job
own_session : (net : Net) (a : Session) → Contains net.sessions a → net.broken ≡ None → IsOfUnbrokenJob ((net ∷ []) ∷ []) a
own_session net a here unbroken = record {
  round = net ∷ [];
  is_round = (0, omega arith, refl);
  net = net;
  is_job = (0, omega arith, refl);
  is_in = here;
  unbroken = unbroken;
}

pub each_run_agrees_on_keys : EachAuthenticationAgrees → EachRunAgreesOnKeys
each_run_agrees_on_keys agree set subs events results last core run realm block unbroken a b k l i j at_a at_b won_a won_b one =
    let (round, is) = each_run_is_lawful set subs events results last core run in
    agree set [] None (parts_with (job_with subs events)) (transcript_with round) ((last.net ∷ []) ∷ []) run.subscribers realm block (job_apart set.rows (job_with subs events) (job_known set subs events results last core run)) is.lawful is.nets
    a b k l i j (own_session last.net a at_a unbroken) (own_session last.net b at_b unbroken) won_a won_b one
