-- The law of plain sessions: one that its records give no cause to fail succeeds in its job, and its round says that the
-- ends agree.
use Rattle.std.proofs.Common.{◌≡◌, ◌≢◌, ℕ, ◌≤◌, true, false, List, [], ◌∷◌, ◌++◌, length, flat_map, map, All, Contains, Option, Some, None, slice_get, zero, suc, refl, sym, ap, ◌∙◌, subst, arith, inl, inr, length-append}
use Rattle.std.proofs.lemmas.Bool.{cond-true, eq-eqb}
use Rattle.std.proofs.lemmas.List.Concat.{flat_map-append}
use Rattle.std.proofs.lemmas.List.Elements.{Contains-append_left, Contains-append_right, filter-append}
use Rattle.std.proofs.lemmas.List.Sorted.{Contains-permutation}
use Rattle.auc_memory.specs.declared.stop.Stop.{Stop}
use Rattle.auc_lines.specs.Part.{held_subs, is_that}
use Rattle.auc_lines.specs.declared.part.End.{End}
use Rattle.auc_lines.specs.declared.part.End.TheVariants as end
use Rattle.auc_lines.specs.declared.part.Line.{Line}
use Rattle.auc_lines.specs.declared.part.Line.TheVariants as line
use Rattle.auc_lines.specs.declared.part.Part.{Part}
use Rattle.auc_lines.specs.declared.part.Part.TheVariants as part
use Rattle.auc_lines.specs.declared.part.SessionLine.{SessionLine}
use Rattle.auc_subs.specs.Setting.{Setting}
use Rattle.auc_subs.specs.Subscriber.{AreSubscribers}
use Rattle.auc_subs.specs.declared.row.Row.{Row}
use Rattle.auc_world.specs.Agreement.{IsRealm}
use Rattle.auc_record.specs.Event.{Came, asked_in, number_in, number_released, resync_in, usim_in}
use Rattle.auc_world.specs.Given.{Before, EventGives, JobGives, JobsGive, PlainGives, RelayGives, behind, packet_of}
use Rattle.auc_record.specs.Lines.{all_lines}
use Rattle.auc_world.specs.Net.{Net, other as other_end}
use Rattle.auc_world.specs.Plain.{EachPlainSessionSucceeds, IsAskedFor, Succeeds, TellChallenge, TellNoCause, came_of, counter_accepted, counter_resumed, is_refused, is_unresolved, results, sqn_reported}
use Rattle.auc_world.specs.Sessions.{job_sessions, verdict_on}
use Rattle.auc_world.specs.Start.{Kept, kept_by_jobs, start_of}
use Rattle.auc_world.specs.Transcript.{Course, Leads, after_restart, after_round, beginning}
use Rattle.auc_record.specs.declared.event.Event.{Event as Happens}
use Rattle.auc_record.specs.declared.event.Event.TheVariants as event
use Rattle.auc_record.specs.declared.record.JobSessions.{JobSessions}
use Rattle.auc_record.specs.declared.record.LineRecord.{LineRecord}
use Rattle.auc_record.specs.declared.record.PartRecord.{PartRecord}
use Rattle.auc_record.specs.declared.record.PartRecord.TheVariants as record_of
use Rattle.auc_record.specs.declared.record.SessionVerdict.{SessionVerdict}
use Rattle.auc_transcript.specs.Completeness.{EachJobSucceeds, EachPlainSessionAgrees, IsOnlyEvent, IsSuited, PlainSessionsAgree, is_of_session, opening_in, records_of, session_in, session_named}
use Rattle.auc_transcript.specs.Keys.{AreNetsAfter}
use Rattle.auc_transcript.proofs.ListLemmas.{all_left, all_right}
use Rattle.auc_transcript.proofs.OneEventLemmas.{Laws as TellingLaws}
use Rattle.auc_transcript.proofs.OneToldLemmas.{jobs_one}
use Rattle.auc_transcript.proofs.OpeningLemmas.{opening_among}
use Rattle.auc_transcript.proofs.PlainLineLemmas.{job_leaves, plain_line}
use Rattle.auc_transcript.proofs.KeptNameLemmas.{AreKept, first_named, round_named}
use Rattle.auc_transcript.proofs.ReadyLemmas.{open_is_ready}
use Rattle.auc_transcript.proofs.QuietLemmas.{DrawsNone, job_none, numbers_told}
use Rattle.auc_transcript.proofs.SizeLemmas.{AreKeptSized, first_sized, round_sized}
use Rattle.auc_transcript.proofs.StayingLemmas.{Leaves, found_has_number}

-- the laws on which it stands
pub record Laws : Type 0 where
  pub telling : TellingLaws
  pub plain : EachPlainSessionSucceeds

-- ---- lists

-- of three lists without an element none has one
middle_none : {X : Type 0} (xs ys zs : List X) → xs ++ (ys ++ zs) ≡ [] → ys ≡ []
middle_none [] [] zs none = refl
middle_none [] (y ∷ ys) zs none = absurd (let no : ⊥ = cc in no)
middle_none (x ∷ xs) ys zs none = absurd (let no : ⊥ = cc in no)

-- what stands in one of some lists stands in all of them together
in_flat_map : {X Y : Type 0} (f : X → List Y) (xs : List X) (k : ℕ) (x : X) (y : Y) → slice_get xs k ≡ Some x → Contains (f x) y → Contains (flat_map f xs) y
in_flat_map {X} {Y} f [] k x y there is = absurd cc
in_flat_map {X} {Y} f (z ∷ xs) zero x y there is =
    let same : x ≡ z = cc in Contains-append_left (f z) (flat_map f xs) y (subst (λ (a : X). Contains (f a) y) same is)
in_flat_map {X} {Y} f (z ∷ xs) (suc k) x y there is = Contains-append_right (f z) (flat_map f xs) y (in_flat_map f xs k x y there is)

-- ---- what records tell

-- what the results of three parts tell
told-append : {X : Type 0} (f : Came → List X) (front own back : List LineRecord)
    → flat_map f (results (front ++ (own ++ back))) ≡ flat_map f (results front) ++ (flat_map f (results own) ++ flat_map f (results back))
told-append {X} f front own back =
    ap (flat_map f) (flat_map-append came_of front (own ++ back) ∙ ap (λ (cs : List Came). results front ++ cs) (flat_map-append came_of own back))
    ∙ flat_map-append f (results front) (results own ++ results back) ∙ ap (λ (ns : List X). flat_map f (results front) ++ ns) (flat_map-append f (results own) (results back))

-- some of the records tell of no re-authentication, or of a challenge after it, if all of them do and the others tell of no number
challenge_told : (front own back : List LineRecord) → numbers_told front ≡ [] → numbers_told back ≡ [] → TellChallenge (front ++ (own ++ back)) → TellChallenge own
challenge_told front own back none also (inl quiet) =
    inl (middle_none (flat_map counter_resumed (results front)) (flat_map counter_resumed (results own)) (flat_map counter_resumed (results back))
    (sym (told-append counter_resumed front own back) ∙ quiet))
challenge_told front own back none also (inr another) =
    inr (record {
      drawn = λ nothing. another.drawn
          (told-append (λ (c : Came). number_released (number_in c)) front own back ∙ ap (λ (ns : List ℕ). ns ++ (numbers_told own ++ numbers_told back)) none
          ∙ ap (λ (ns : List ℕ). ns ++ numbers_told back) nothing ∙ also);
      none = middle_none (flat_map counter_accepted (results front)) (flat_map counter_accepted (results own)) (flat_map counter_accepted (results back))
          (sym (told-append counter_accepted front own back) ∙ another.none);
    })

-- some of the records tell no cause if all of them tell none
some_tell : (sub syncs : ℕ) (front own back : List LineRecord) → numbers_told front ≡ [] → numbers_told back ≡ [] → TellNoCause sub syncs (front ++ (own ++ back)) → TellNoCause sub syncs own
some_tell sub syncs front own back none also all =
    let cut : results (front ++ (own ++ back)) ≡ results front ++ (results own ++ results back) =
    flat_map-append came_of front (own ++ back) ∙ ap (λ (cs : List Came). results front ++ cs) (flat_map-append came_of own back) in
    let within : (P : Came → Type 0) → All P (results (front ++ (own ++ back))) → All P (results own) =
    λ P is. all_left P (results own) (results back) (all_right P (results front) (results own ++ results back) (subst (All P) cut is)) in
    let reported : Came → List (List ℕ) = λ c. sqn_reported (usim_in c) in
    let counted : flat_map reported (results (front ++ (own ++ back))) ≡ flat_map reported (results front) ++ (flat_map reported (results own) ++ flat_map reported (results back)) =
    ap (flat_map reported) cut ∙ flat_map-append reported (results front) (results own ++ results back)
    ∙ ap (λ (ns : List (List ℕ)). flat_map reported (results front) ++ ns) (flat_map-append reported (results own) (results back)) in
    let once = subst (λ (ns : List (List ℕ)). length ns ≤ syncs) counted all.once in
    let long = length-append (flat_map reported (results front)) (flat_map reported (results own) ++ flat_map reported (results back)) in
    let more = length-append (flat_map reported (results own)) (flat_map reported (results back)) in
    record {
      own = within (λ c. IsAskedFor sub (asked_in c)) all.own;
      given = within (λ c. is_refused (number_in c) ≡ false) all.given;
      resolved = within (λ c. is_unresolved (resync_in c) ≡ false) all.resolved;
      once = omega (arith, once, long, more);
      challenge = challenge_told front own back none also all.challenge;
    }

-- ---- the records of a plain line

-- each is that of an event in the session
event_of : (set : Setting) (before : Before) (w next : Net) (e : Happens) (session : ℕ) (l : LineRecord) → session_in e ≡ Some session → EventGives set before w e (l ∷ []) next
    → is_of_session session l ≡ true
event_of set before w next e session l same gives =
    ap (is_of_session session) (heads l _ [] [] gives.lines_are) ∙ ap (is_that session) same ∙ eq-eqb session session refl
  where
    heads : (a b : LineRecord) (xs ys : List LineRecord) → a ∷ xs ≡ b ∷ ys → a ≡ b
    heads a b xs ys e = cc

counted : (session : ℕ) (l : LineRecord) (lines : List LineRecord) → is_of_session session l ≡ true → records_of session lines ≡ lines → records_of session (l ∷ lines) ≡ l ∷ lines
counted session l lines is rest =
    cond-true (is_of_session session l) (l ∷ records_of session lines) (records_of session lines) is ∙ ap (λ (ls : List LineRecord). l ∷ ls) rest

relay_of : (set : Setting) (before : Before) (w next : Net) (session : ℕ) (at' : End) (o : Option ℕ) (lines : List LineRecord) → RelayGives set before w session at' o lines next
    → records_of session lines ≡ lines
relay_of set before w next session at' None [] gives = refl
relay_of set before w next session at' None (l ∷ lines) gives = absurd gives
relay_of set before w next session at' (Some packet) [] gives = absurd gives
relay_of set before w next session at' (Some packet) (l ∷ lines) (mid, first, more) =
    counted session l lines (event_of set before w mid (event.Deliver session at' packet) session l refl first)
    (relay_of set (behind before (l ∷ [])) mid next session (other_end at') (packet_of l) lines more)

plain_of : (set : Setting) (before : Before) (w next : Net) (session : ℕ) (lines : List LineRecord) → PlainGives set before w session lines next → records_of session lines ≡ lines
plain_of set before w next session [] gives = absurd gives
plain_of set before w next session (l ∷ lines) (mid, first, more) =
    counted session l lines (event_of set before w mid (event.Start session) session l refl first)
    (relay_of set (behind before (l ∷ [])) mid next session end.Peer (packet_of l) lines more)

-- so they tell no cause if those of the session in the whole job tell none
own_tell : (sub session : ℕ) (records front own back : List LineRecord) → records ≡ front ++ (own ++ back) → records_of session own ≡ own → DrawsNone session front → DrawsNone session back → TellNoCause sub 1 (records_of session records)
    → TellNoCause sub 1 own
own_tell sub session records front own back cut is none also tell =
    let parts : records_of session records ≡ records_of session front ++ (own ++ records_of session back) =
    ap (records_of session) cut ∙ filter-append (is_of_session session) front (own ++ back)
    ∙ ap (λ (ls : List LineRecord). records_of session front ++ ls)
    (filter-append (is_of_session session) own back ∙ ap (λ (ls : List LineRecord). ls ++ records_of session back) is) in
    some_tell sub 1 (records_of session front) own (records_of session back) none also (subst (TellNoCause sub 1) parts tell)

-- ---- a job

-- Success stays
pub success_stays : (rows : List Row) (opening : SessionLine) (net last : Net) (Suits : Type 0) → Leaves rows opening net last Suits → Succeeds net opening.session → Succeeds last opening.session
success_stays rows opening net last Suits leaves s = record {
  own = s.own;
  is = leaves.stays s.own s.is;
  keys = s.keys;
  server = s.server;
  peer = s.peer;
  verdict = s.verdict;
}

-- a plain line whose lines tell no cause
line_succeeds : Laws → (set : Setting) (before : Before) (kept : List Kept) (front : List Line) (opening : SessionLine) (back : List Line) (records : List LineRecord) (last : Net) → AreSubscribers set.rows
    → IsRealm set.realm → AreKept kept → AreKeptSized kept → IsSuited set.rows opening → opening_in opening.session front ≡ Some opening → All (λ l. session_named l ≢ Some opening.session) front
    → All (λ l. session_named l ≢ Some opening.session) back
    → JobGives set before (start_of set kept (front ++ line.Plain opening.session ∷ back)) (front ++ line.Plain opening.session ∷ back) records last
    → TellNoCause opening.sub 1 (records_of opening.session records) → Succeeds last opening.session
line_succeeds laws set before kept front opening back records last are realm named sized suited first apart also gives tell =
    let job = front ++ line.Plain opening.session ∷ back in
    let p = plain_line set before kept front opening back records last suited.row named sized suited.known first apart gives in
    let is = open_is_ready set p.net (held_subs job) opening p.found.0 are suited p.fresh.of p.found.1 p.fresh.new in
    let own = own_tell opening.sub opening.session records p.early p.own p.rest p.cut (plain_of set p.at' p.net p.next opening.session p.own p.gives)
    (job_none set before (start_of set kept job) p.net front opening.session p.early apart p.leads) (job_none set p.after p.next last back opening.session p.rest also p.more) tell in
    success_stays set.rows opening p.next last ⊥ (job_leaves set opening p.after p.next last back p.rest also p.more)
    (laws.plain set p.at' p.net p.next opening.session p.own are realm is.ready p.gives (subst (λ (sub : ℕ). TellNoCause sub 1 p.own) (sym is.own) own))

-- of the session that a plain line names
abbrev LineSucceeds : Setting → Before → List Kept → List Line → SessionLine → List Line → List LineRecord → Net → ℕ → Type 0
LineSucceeds set before kept front opening back records last session =
    opening_in session front ≡ Some opening → All (λ l. session_named l ≢ Some session) front → All (λ l. session_named l ≢ Some session) back
    → JobGives set before (start_of set kept (front ++ line.Plain session ∷ back)) (front ++ line.Plain session ∷ back) records last
    → TellNoCause opening.sub 1 (records_of session records) → Succeeds last session

job_succeeds : Laws → (set : Setting) (before : Before) (kept : List Kept) (job : List Line) (records : List LineRecord) (last : Net) (front back : List Line) (session : ℕ)
    → AreSubscribers set.rows → IsRealm set.realm → AreKept kept → AreKeptSized kept → JobGives set before (start_of set kept job) job records last → job ≡ front ++ line.Plain session ∷ back
    → (only : IsOnlyEvent set.rows front session back) → TellNoCause only.opening.sub 1 (records_of session records) → Succeeds last session
job_succeeds laws set before kept job records last front back session are realm named sized gives cut only tell =
    let opening = only.opening in
    let by : LineSucceeds set before kept front opening back records last session =
    subst (LineSucceeds set before kept front opening back records last) (opening_among session front opening only.opened).0
    (line_succeeds laws set before kept front opening back records last are realm named sized only.suited) in
    by only.opened only.first only.last (subst (λ (j : List Line). JobGives set before (start_of set kept j) j records last) cut gives) tell

-- its verdict is one of the job's
pub verdict_in : (net : Net) (session : ℕ) → Succeeds net session → Contains (flat_map verdict_on net.sessions) (record { session = session; agree = true })
verdict_in net session s =
    let (i, there, has) = found_has_number net session s.own s.is in
    in_flat_map verdict_on net.sessions i s.own (record { session = session; agree = true }) there
    (subst (λ (vs : List SessionVerdict). Contains vs (record { session = session; agree = true })) (sym s.verdict) (zero, omega arith, refl))

-- ---- rounds

-- the verdicts of some jobs
abbrev pub verdicts_of : List Net → List SessionVerdict
verdicts_of nets = flat_map (λ (job : JobSessions). job.verdicts) (map job_sessions nets)

jobs_succeed : Laws → (set : Setting) (early : List LineRecord) (kept : List Kept) (beside : List LineRecord) (jobs : List (List Line)) (records : List (List LineRecord)) (nets : List Net)
    (verdicts : List SessionVerdict) → AreSubscribers set.rows → IsRealm set.realm → AreKept kept → AreKeptSized kept → ((v : SessionVerdict) → Contains (verdicts_of nets) v → Contains verdicts v)
    → JobsGive set early kept beside jobs records nets → EachJobSucceeds set.rows verdicts jobs records nets
jobs_succeed laws set early kept beside [] [] [] verdicts are realm named sized told gives = tt
jobs_succeed laws set early kept beside [] [] (net ∷ nets) verdicts are realm named sized told (none, is) = absurd cc
jobs_succeed laws set early kept beside [] (lines ∷ records) nets verdicts are realm named sized told (none, is) = absurd cc
jobs_succeed laws set early kept beside (job ∷ jobs) [] nets verdicts are realm named sized told gives = absurd gives
jobs_succeed laws set early kept beside (job ∷ jobs) (lines ∷ records) [] verdicts are realm named sized told gives = absurd gives
jobs_succeed laws set early kept beside (job ∷ jobs) (lines ∷ records) (net ∷ nets) verdicts are realm named sized told (first, more) = (
  λ front back session cut only tell.
      let s = job_succeeds laws set (record { early = early; beside = beside; own = [] }) kept job lines net front back session are realm named sized first cut only tell in (
        s,
        told (record { session = session; agree = true })
            (Contains-append_left (flat_map verdict_on net.sessions) (verdicts_of nets) (record { session = session; agree = true }) (verdict_in net session s)),
      ),
  jobs_succeed laws set early kept (beside ++ lines) jobs records nets verdicts are realm named sized
      (λ v is. told v (Contains-append_right (flat_map verdict_on net.sessions) (verdicts_of nets) v is)) more,
)

-- ---- parts

parts_agree : Laws → (set : Setting) (stop : Option Stop) (at : Course) (parts : List Part) (records : List PartRecord) (end : Course) (nets : List (List Net)) → AreSubscribers set.rows
    → IsRealm set.realm → AreKept at.kept → AreKeptSized at.kept → Leads set stop at parts records end → AreNetsAfter set at.early at.kept parts records nets → PlainSessionsAgree set.rows parts records nets
parts_agree laws set stop at [] records end nets are realm named sized leads lead = tt
parts_agree laws set stop at (part.Round jobs ∷ parts) [] end nets are realm named sized leads lead = absurd leads
parts_agree laws set stop at (part.Round jobs ∷ parts) (record_of.Restart ∷ records) end nets are realm named sized leads lead = absurd lead
parts_agree laws set stop at (part.Round jobs ∷ parts) (record_of.Round round ∷ records) end [] are realm named sized leads lead = absurd lead
parts_agree laws set stop at (part.Round jobs ∷ parts) (record_of.Round round ∷ records) end (first ∷ nets) are realm named sized (next, serves, rest) (gives, more) =
    let one = jobs_one laws.telling set at.early at.early at.kept [] [] jobs round.jobs round.jobs serves.lawful.nets first serves.lawful.given gives refl in
    let verdicts = serves.lawful.sessions in (
      jobs_succeed laws set at.early at.kept [] jobs round.jobs first round.sessions are realm named sized
          (λ v is. Contains-permutation _ round.sessions v verdicts.same (subst (λ (ns : List Net). Contains (verdicts_of ns) v) (sym one.1) is)) gives,
      parts_agree laws set stop (after_round set.rows at round serves.words serves.lawful.nets) parts records end nets are realm
          (round_named set at.early at.kept jobs round.jobs serves.lawful.nets named serves.lawful.given)
          (round_sized set at.early at.kept jobs round.jobs serves.lawful.nets sized serves.lawful.given) (subst (λ (c : Course). Leads set stop c parts records end) serves.leads rest)
          (subst (λ (ns : List Net). AreNetsAfter set (at.early ++ all_lines round.jobs) (kept_by_jobs at.kept ns) parts records nets) (sym one.1) more),
    )
parts_agree laws set stop at (part.Restart ∷ parts) [] end nets are realm named sized leads lead = absurd leads
parts_agree laws set stop at (part.Restart ∷ parts) (record_of.Round round ∷ records) end nets are realm named sized leads lead = absurd lead
parts_agree laws set stop at (part.Restart ∷ parts) (record_of.Restart ∷ records) end nets are realm named sized (next, restarts, rest) lead =
    parts_agree laws set stop (after_restart set.rows at restarts.limits) parts records end nets are realm named sized
    (subst (λ (c : Course). Leads set stop c parts records end) restarts.leads rest) lead

-- each plain session agrees
pub each_plain_session_agrees : Laws → EachPlainSessionAgrees
each_plain_session_agrees laws set reserved stop parts records nets are realm (end, leads) lead =
    parts_agree laws set stop (beginning set.rows reserved) parts records end nets are realm (first_named set.rows) (first_sized set.rows) leads lead
