-- For the law of contexts: the records of a session tell exactly the counters that its ends have.
use Rattle.std.proofs.Common.{◌≡◌, ◌≢◌, ℕ, zero, suc, ◌≤◌, ◌==◌, ◌&&◌, Bool, true, false, cond, List, [], ◌∷◌, ◌++◌, flat_map, get_or, length, map, All, Option, Some, None, slice_get, refl, sym, ap, ◌∙◌, subst, arith, append-nil}
use Rattle.std.proofs.lemmas.Bool.{eq-eqb, eqb-true}
use Rattle.std.proofs.lemmas.List.Concat.{flat_map-append}
use Rattle.std.proofs.lemmas.List.Elements.{All-head, All-tail, filter-append}
use Rattle.std.proofs.lemmas.Option.{slice_get-get_or}
use Rattle.auc_hmac.specs.declared.method.Method.{Method}
use Rattle.auc_lines.specs.Part.{is_that}
use Rattle.auc_lines.specs.declared.part.Line.{Line}
use Rattle.auc_lines.specs.declared.part.Part.{Part}
use Rattle.auc_lines.specs.declared.part.Part.TheVariants as part
use Rattle.auc_peer.specs.Laws.{AcceptedIsOfTheContext}
use Rattle.auc_reauth.specs.Machine.{Used, used_by}
use Rattle.auc_server.specs.Server.{ServerEnd, resumed_of}
use Rattle.auc_subs.specs.Setting.{Setting}
use Rattle.auc_server.specs.declared.server.Resumed.{Resumed}
use Rattle.auc_record.specs.Event.{Came}
use Rattle.auc_world.specs.Came.{came, session_at, session_of}
use Rattle.auc_world.specs.Given.{Before, EventGives, JobGives, JobsGive, behind}
use Rattle.auc_world.specs.Happened.{happened, start}
use Rattle.auc_record.specs.Lines.{all_lines}
use Rattle.auc_world.specs.Net.{Net, same_method, session_place}
use Rattle.auc_world.specs.Plain.{came_of, results}
use Rattle.auc_world.specs.Resumption.{accepted_for, accepted_of, counters_accepted, counters_in, counters_resumed, resumed_for}
use Rattle.auc_world.specs.Start.{Kept, kept_by_jobs, start_of}
use Rattle.auc_record.specs.declared.event.Event.{Event as Happens}
use Rattle.auc_world.specs.declared.net.Session.{Session}
use Rattle.auc_record.specs.declared.record.LineRecord.{LineRecord}
use Rattle.auc_record.specs.declared.record.LineRecord.TheVariants.{Event}
use Rattle.auc_record.specs.declared.record.PartRecord.{PartRecord}
use Rattle.auc_record.specs.declared.record.PartRecord.TheVariants as record_of
use Rattle.auc_transcript.specs.Completeness.{is_of_session, records_of, session_in}
use Rattle.auc_transcript.specs.Counters.{CountersAreTold, EachJobTells, IsTold, accepted_noted, accepted_told, all_accepted, all_resumed, all_sessions, in_jobs, in_rounds, resumed_noted, resumed_told, told_under}
use Rattle.auc_transcript.specs.Headline.{IsOutsideSessions}
use Rattle.auc_transcript.specs.Keys.{AreNetsAfter}
use Rattle.auc_transcript.proofs.JobFoldLemmas.{job_keeps_outside}
use Rattle.auc_transcript.proofs.QuietLemmas.{outside_none}
use Rattle.auc_transcript.proofs.ToldTurnLemmas.{counters_of, one_short, resumed_counters}
use Rattle.auc_transcript.proofs.ToldSessionLemmas.{Agrees, Fine, IsUnique, Steps, StepsIn}
use Rattle.auc_transcript.proofs.ToldEventLemmas.{event_steps}

-- ---- a job

told-append : (f : Came → List ℕ) (n : ℕ) (xs ys : List LineRecord) → flat_map f (results (records_of n (xs ++ ys))) ≡ flat_map f (results (records_of n xs)) ++ flat_map f (results (records_of n ys))
told-append f n xs ys =
    ap (λ (l : List LineRecord). flat_map f (results l)) (filter-append (is_of_session n) xs ys)
    ∙ ap (flat_map f) (flat_map-append came_of (records_of n xs) (records_of n ys))
    ∙ flat_map-append f (results (records_of n xs)) (results (records_of n ys))

-- what some lines of a job tell is what the ends of its sessions have
record Tells (b : Before) (w : Net) : Type 0 where
  agrees : (n : ℕ) → Agrees (resumed_told n b.own) (accepted_told n b.own) (session_of w n)
  unique : IsUnique w

one_record : (n : ℕ) (e : Happens) (c : Came) → (b : Bool) → is_that n (session_in e) ≡ b → records_of n (Event (record { event = e; result = c }) ∷ []) ≡ cond b (Event (record { event = e; result = c }) ∷ []) []
one_record n e c b is = ap (λ (t : Bool). cond t (Event (record { event = e; result = c }) ∷ []) []) is

after_one_event : (set : Setting) → AcceptedIsOfTheContext → (b : Before) (w next : Net) (e : Happens) (lines : List LineRecord) → EventGives set b w e lines next → Tells b w → Tells (behind b lines) next
after_one_event set own b w next e lines gives st =
    let told = gives.told in
    let c = came set w e told in
    let line = Event (record { event = e; result = c }) in
    let v = happened set w e told in
    let m = event_steps set own w e told in
    let then : Tells (behind b (line ∷ [])) v = record { agrees = λ n. by n c v (session_in e) refl m; unique = unique c v (session_in e) m } in
    subst (λ (x : Net). Tells (behind b lines) x) (sym gives.leads) (subst (λ (ls : List LineRecord). Tells (behind b ls) v) (sym gives.lines_are) then)
  where
    unique : (c : Came) (v : Net) (o : Option ℕ) → StepsIn w v o c → IsUnique v
    unique c v None m = (m zero).unique st.unique
    unique c v (Some k) m = m.unique st.unique

    -- what the ends have after the event, if the records tell the same with it
    TellsThen : ℕ → Came → Net → Type 0
    TellsThen n c v = Agrees (resumed_told n (b.own ++ Event (record { event = e; result = c }) ∷ [])) (accepted_told n (b.own ++ Event (record { event = e; result = c }) ∷ [])) (session_of v n)

    -- in the session
    inside : (n k : ℕ) (c : Came) (v : Net) → Steps w v k c → is_that n (session_in e) ≡ true → k ≡ n → TellsThen n c v
    inside n k c v m is same =
        let line = Event (record { event = e; result = c }) in
        let records : records_of n (line ∷ []) ≡ line ∷ [] = one_record n e c true is in
        subst (λ (l : List ℕ). Agrees l (accepted_told n (b.own ++ line ∷ [])) (session_of v n))
        (sym (told-append resumed_noted n b.own (line ∷ []) ∙ ap (λ (l : List LineRecord). resumed_told n b.own ++ flat_map resumed_noted (results l)) records
        ∙ ap (λ (l : List ℕ). resumed_told n b.own ++ l) (append-nil (resumed_noted c))))
        (subst (λ (l : List ℕ). Agrees (resumed_told n b.own ++ resumed_noted c) l (session_of v n))
        (sym (told-append accepted_noted n b.own (line ∷ []) ∙ ap (λ (l : List LineRecord). accepted_told n b.own ++ flat_map accepted_noted (results l)) records
        ∙ ap (λ (l : List ℕ). accepted_told n b.own ++ l) (append-nil (accepted_noted c))))
        (subst (λ (k : ℕ). Agrees (resumed_told n b.own ++ resumed_noted c) (accepted_told n b.own ++ accepted_noted c) (session_of v k)) same
        (m.own (resumed_told n b.own) (accepted_told n b.own) (subst (λ (k : ℕ). Agrees (resumed_told n b.own) (accepted_told n b.own) (session_of w k)) (sym same) (st.agrees n)))))

    -- in another one, or in none
    outside : (n k : ℕ) (c : Came) (v : Net) → Steps w v k c → is_that n (session_in e) ≡ false → n ≢ k → TellsThen n c v
    outside n k c v m is apart =
        let line = Event (record { event = e; result = c }) in
        let records : records_of n (line ∷ []) ≡ [] = one_record n e c false is in
        subst (λ (l : List ℕ). Agrees l (accepted_told n (b.own ++ line ∷ [])) (session_of v n))
        (sym (told-append resumed_noted n b.own (line ∷ []) ∙ ap (λ (l : List LineRecord). resumed_told n b.own ++ flat_map resumed_noted (results l)) records ∙ append-nil (resumed_told n b.own)))
        (subst (λ (l : List ℕ). Agrees (resumed_told n b.own) l (session_of v n))
        (sym (told-append accepted_noted n b.own (line ∷ []) ∙ ap (λ (l : List LineRecord). accepted_told n b.own ++ flat_map accepted_noted (results l)) records ∙ append-nil (accepted_told n b.own)))
        (subst (Agrees (resumed_told n b.own) (accepted_told n b.own)) (sym (m.others n apart)) (st.agrees n)))

    by : (n : ℕ) (c : Came) (v : Net) (o : Option ℕ) → session_in e ≡ o → StepsIn w v o c → TellsThen n c v
    by n c v None is m = outside n (suc n) c v (m (suc n)) (ap (is_that n) is) (λ same. absurd (omega (arith, same)))
    by n c v (Some k) is m = under (k == n) refl
      where
        under : (t : Bool) → (k == n) ≡ t → TellsThen n c v
        under true same = inside n k c v m (ap (is_that n) is ∙ same) (eqb-true k n same)
        under false differ = outside n k c v m (ap (is_that n) is ∙ differ) (λ same. let t = eq-eqb k n (sym same) in cc)

after_quiet : (b : Before) (w : Net) (lines : List LineRecord) → All IsOutsideSessions lines → Tells b w → Tells (behind b lines) w
after_quiet b w lines quiet st = record {
  agrees = λ n.
      let none = outside_none n lines quiet in
      subst (λ (l : List ℕ). Agrees l (accepted_told n (b.own ++ lines)) (session_of w n))
      (sym (told-append resumed_noted n b.own lines ∙ ap (λ (l : List LineRecord). resumed_told n b.own ++ flat_map resumed_noted (results l)) none ∙ append-nil (resumed_told n b.own)))
      (subst (λ (l : List ℕ). Agrees (resumed_told n b.own) l (session_of w n))
      (sym (told-append accepted_noted n b.own lines ∙ ap (λ (l : List LineRecord). accepted_told n b.own ++ flat_map accepted_noted (results l)) none ∙ append-nil (accepted_told n b.own)))
      (st.agrees n));
  unique = st.unique;
}

none_found : (w : Net) → w.sessions ≡ [] → (n : ℕ) → session_of w n ≡ None
none_found w none n = ap (session_at w) (ap (λ (l : List Session). session_place l n) none)

job_tells : (set : Setting) → AcceptedIsOfTheContext → (b : Before) (start last : Net) (job : List Line) (lines : List LineRecord) → b.own ≡ [] → start.sessions ≡ [] → JobGives set b start job lines last
    → All (IsTold lines) last.sessions
job_tells set own b start last job lines nothing fresh gives =
    let began : Tells b start = record {
      agrees = λ n.
          subst (Agrees (resumed_told n b.own) (accepted_told n b.own)) (sym (none_found start fresh n))
          (ap (resumed_told n) nothing, ap (accepted_told n) nothing);
      unique = λ i s there. absurd (no_session i s (subst (λ (l : List Session). slice_get l i ≡ Some s) fresh there));
    } in
    let after = job_keeps_outside set Tells after_quiet (after_one_event set own) b start last job lines gives began in
    let same : b.own ++ lines ≡ lines = ap (λ (l : List LineRecord). l ++ lines) nothing in
    λ i d inside.
    let s = get_or last.sessions i d in
    let there : slice_get last.sessions i ≡ Some s = slice_get-get_or last.sessions i d inside in
    let found : session_of last s.number ≡ Some s = ap (session_at last) (after.unique i s there) ∙ there in
    let f : Fine (resumed_told s.number (b.own ++ lines)) (accepted_told s.number (b.own ++ lines)) s =
    subst (Agrees (resumed_told s.number (b.own ++ lines)) (accepted_told s.number (b.own ++ lines))) found (after.agrees s.number) in
    record { resumed = ap (resumed_told s.number) (sym same) ∙ f.taken_up; accepted = ap (accepted_told s.number) (sym same) ∙ f.taken }
  where
    no_session : (i : ℕ) (s : Session) → slice_get [] i ≡ Some s → ⊥
    no_session i s e = cc

-- ---- jobs and rounds

jobs_tell : (set : Setting) → AcceptedIsOfTheContext → (early : List LineRecord) (kept : List Kept) (beside : List LineRecord) (jobs : List (List Line)) (records : List (List LineRecord)) (nets : List Net)
    → JobsGive set early kept beside jobs records nets → EachJobTells records nets
jobs_tell set own early kept beside [] records nets (none, is) =
    subst (λ (rs : List (List LineRecord)). EachJobTells rs nets) (sym none) (subst (λ (ns : List Net). EachJobTells [] ns) (sym is) tt)
jobs_tell set own early kept beside (job ∷ jobs) [] nets gives = absurd gives
jobs_tell set own early kept beside (job ∷ jobs) (lines ∷ records) [] gives = absurd gives
jobs_tell set own early kept beside (job ∷ jobs) (lines ∷ records) (net ∷ nets) (gives, more) = (
  job_tells set own (record { early = early; beside = beside; own = [] }) (start_of set kept job) net job lines refl refl gives,
  jobs_tell set own early kept (beside ++ lines) jobs records nets more,
)

pub counters_are_told : AcceptedIsOfTheContext → (set : Setting) (early : List LineRecord) (kept : List Kept) (parts : List Part) (records : List PartRecord) (nets : List (List Net))
    → AreNetsAfter set early kept parts records nets → CountersAreTold records nets
counters_are_told own set early kept [] records nets (none, is) = subst (λ (rs : List PartRecord). CountersAreTold rs nets) (sym none) is
counters_are_told own set early kept (part.Round jobs ∷ parts) [] nets gives = absurd gives
counters_are_told own set early kept (part.Round jobs ∷ parts) (record_of.Restart ∷ records) nets gives = absurd gives
counters_are_told own set early kept (part.Round jobs ∷ parts) (record_of.Round round ∷ records) [] gives = absurd gives
counters_are_told own set early kept (part.Round jobs ∷ parts) (record_of.Round round ∷ records) (first ∷ nets) (gives, more) = (
  jobs_tell set own early kept [] jobs round.jobs first gives,
  counters_are_told own set (early ++ all_lines round.jobs) (kept_by_jobs kept first) parts records nets more,
)
counters_are_told own set early kept (part.Restart ∷ parts) [] nets gives = absurd gives
counters_are_told own set early kept (part.Restart ∷ parts) (record_of.Round round ∷ records) nets gives = absurd gives
counters_are_told own set early kept (part.Restart ∷ parts) (record_of.Restart ∷ records) nets gives = counters_are_told own set early kept parts records nets gives

-- ---- what is told is what was used

under_same : (used : List Used) → length used ≤ 1 → (counters : List ℕ) → counters ≡ map (λ (u : Used). u.counter) used → told_under counters used ≡ used
under_same [] short counters e = refl
under_same (u ∷ []) short counters e = ap (λ (l : List ℕ). told_under l (u ∷ [])) e
under_same (u ∷ v ∷ more) short counters e = absurd (omega (arith, short))

cond_same : (counters : List ℕ) (t : Bool) (used : List Used) → told_under counters used ≡ used → told_under counters (cond t used []) ≡ cond t used []
cond_same counters true used e = e
cond_same counters false used e = refl

module _ (m : Method) (sub : ℕ) where
  server_same : (counters : List ℕ) (o : Option ServerEnd) → counters ≡ resumed_counters o → told_under counters (counters_in m sub o) ≡ counters_in m sub o
  server_same counters None e = refl
  server_same counters (Some q) e = cond_same counters (same_method q.options.method m) (resumed_for sub (resumed_of q)) (by (resumed_of q) e)
    where
      by : (o : Option Resumed) → counters ≡ counters_of o → told_under counters (resumed_for sub o) ≡ resumed_for sub o
      by None e = refl
      by (Some r) e = cond_same counters (r.sub == sub) (used_by r.context.counter r.context ∷ []) (under_same (used_by r.context.counter r.context ∷ []) (omega arith) counters e)

  resumed_same : (lines : List LineRecord) (s : Session) → IsTold lines s → told_under (resumed_told s.number lines) (counters_in m sub s.server) ≡ counters_in m sub s.server
  resumed_same lines s is = server_same (resumed_told s.number lines) s.server is.resumed

  accepted_same : (lines : List LineRecord) (s : Session) → IsTold lines s → told_under (accepted_told s.number lines) (accepted_of m sub s) ≡ accepted_of m sub s
  accepted_same lines s is =
      cond_same (accepted_told s.number lines) (s.sub == sub && same_method s.peer.options.method m) (accepted_for s.peer.next s.peer)
      (under_same (accepted_for s.peer.next s.peer) (one_short s.peer.next s.peer) (accepted_told s.number lines) is.accepted)

module _ (f : List LineRecord → Session → List Used) (g : Session → List Used) (same : (lines : List LineRecord) (s : Session) → IsTold lines s → f lines s ≡ g s) where
  abbrev used : List LineRecord → Net → List Used
  used lines net = flat_map (f lines) net.sessions

  sessions_same : (lines : List LineRecord) (xs : List Session) → All (IsTold lines) xs → flat_map (f lines) xs ≡ flat_map g xs
  sessions_same lines [] all = refl
  sessions_same lines (x ∷ xs) all =
      ap (λ (l : List Used). l ++ flat_map (f lines) xs) (same lines x (All-head (IsTold lines) x xs all))
      ∙ ap (λ (l : List Used). g x ++ l) (sessions_same lines xs (All-tail (IsTold lines) x xs all))

  jobs_same : (jobs : List (List LineRecord)) (nets : List Net) → EachJobTells jobs nets → in_jobs used jobs nets ≡ flat_map g (flat_map (λ (net : Net). net.sessions) nets)
  jobs_same [] [] tells = refl
  jobs_same [] (net ∷ nets) tells = absurd tells
  jobs_same (lines ∷ jobs) [] tells = absurd tells
  jobs_same (lines ∷ jobs) (net ∷ nets) (here, more) =
      ap (λ (l : List Used). l ++ in_jobs used jobs nets) (sessions_same lines net.sessions here) ∙ ap (λ (l : List Used). flat_map g net.sessions ++ l) (jobs_same jobs nets more)
      ∙ sym (flat_map-append g net.sessions (flat_map (λ (net : Net). net.sessions) nets))

  pub rounds_same : (records : List PartRecord) (nets : List (List Net)) → CountersAreTold records nets → in_rounds used records nets ≡ flat_map g (all_sessions nets)
  rounds_same [] nets none = sym (ap (λ (ns : List (List Net)). flat_map g (all_sessions ns)) none)
  rounds_same (record_of.Round round ∷ records) [] tells = absurd tells
  rounds_same (record_of.Round round ∷ records) (first ∷ nets) (here, more) =
      ap (λ (l : List Used). l ++ in_rounds used records nets) (jobs_same round.jobs first here)
      ∙ ap (λ (l : List Used). flat_map g (flat_map (λ (net : Net). net.sessions) first) ++ l) (rounds_same records nets more)
      ∙ sym (flat_map-append g (flat_map (λ (net : Net). net.sessions) first) (all_sessions nets))
  rounds_same (record_of.Restart ∷ records) nets tells = rounds_same records nets tells

pub resumed_is_told : (m : Method) (sub : ℕ) (records : List PartRecord) (nets : List (List Net)) → CountersAreTold records nets → all_resumed m sub records nets ≡ counters_resumed m sub (all_sessions nets)
resumed_is_told m sub records nets told =
    rounds_same (λ (lines : List LineRecord) (s : Session). told_under (resumed_told s.number lines) (counters_in m sub s.server)) (λ (s : Session). counters_in m sub s.server) (resumed_same m sub) records nets told

pub accepted_is_told : (m : Method) (sub : ℕ) (records : List PartRecord) (nets : List (List Net)) → CountersAreTold records nets → all_accepted m sub records nets ≡ counters_accepted m sub (all_sessions nets)
accepted_is_told m sub records nets told =
    rounds_same (λ (lines : List LineRecord) (s : Session). told_under (accepted_told s.number lines) (accepted_of m sub s)) (accepted_of m sub) (accepted_same m sub) records nets told
