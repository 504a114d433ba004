-- The law of resumed sessions: one whose server takes up a context again that its device has succeeds in its job, and its round
-- says that the ends agree.
use Rattle.std.proofs.Common.{◌≡◌, ◌≢◌, ℕ, ◌==◌, true, List, [], ◌∷◌, ◌++◌, get_or, All, Contains, Option, Some, None, slice_get, slice_set, refl, sym, ap, ◌∙◌, subst, arith, ⊎_elim}
use Rattle.std.specs.Prelude.{flat_map}
use Rattle.std.proofs.lemmas.List.{get_or-set_same, length-set}
use Rattle.std.proofs.lemmas.List.Elements.{Contains-append_left, Contains-append_right}
use Rattle.std.proofs.lemmas.List.Quantifiers.{position-Some}
use Rattle.std.proofs.lemmas.List.Sorted.{Contains-permutation}
use Rattle.std.proofs.lemmas.Option.{get_or_from_slice_get, slice_get-get_or, slice_get_within}
use Rattle.auc_memory.specs.declared.stop.Stop.{Stop}
use Rattle.auc_lines.specs.Part.{IsShortIdentity, held_subs}
use Rattle.auc_lines.specs.declared.part.End.{End}
use Rattle.auc_lines.specs.declared.part.End.TheVariants as end
use Rattle.auc_lines.specs.declared.part.Line.{Line}
use Rattle.auc_lines.specs.declared.part.Line.TheVariants as line
use Rattle.auc_lines.specs.declared.part.Part.{Part}
use Rattle.auc_lines.specs.declared.part.Part.TheVariants as part
use Rattle.auc_lines.specs.declared.part.SessionLine.{SessionLine}
use Rattle.auc_peer.specs.Subscription.{Subscription}
use Rattle.auc_reauth.specs.declared.context.Context.{Context}
use Rattle.auc_subs.specs.Setting.{Setting}
use Rattle.auc_server.specs.declared.server.Resumed.{Resumed}
use Rattle.auc_subs.specs.Subscriber.{AreSubscribers, same_identity}
use Rattle.auc_subs.specs.declared.row.Row.{Row}
use Rattle.auc_world.specs.Agreement.{IsRealm, IsSized}
use Rattle.auc_world.specs.Came.{session_at}
use Rattle.auc_world.specs.Given.{Before, JobGives, JobsGive, PlainGives, RelayGives, behind, packet_of}
use Rattle.auc_world.specs.Happened.{ToldEvent, happened, start}
use Rattle.auc_record.specs.Lines.{all_lines}
use Rattle.auc_world.specs.Net.{Net, other, place_with, session_place}
use Rattle.auc_world.specs.Plain.{EachResumedSessionSucceeds, HasResumed, HasSameContext, IsReadyAgain, Succeeds}
use Rattle.auc_world.specs.Sessions.{verdict_on}
use Rattle.auc_world.specs.Start.{Kept, kept_by_jobs, start_of}
use Rattle.auc_world.specs.Transcript.{Course, Leads, after_restart, after_round, beginning}
use Rattle.auc_world.specs.World.{IsName}
use Rattle.auc_record.specs.declared.event.Event.TheVariants as event
use Rattle.auc_world.specs.declared.net.Session.{Session}
use Rattle.auc_record.specs.declared.record.LineRecord.{LineRecord}
use Rattle.auc_record.specs.declared.record.PartRecord.{PartRecord}
use Rattle.auc_record.specs.declared.record.PartRecord.TheVariants as record_of
use Rattle.auc_record.specs.declared.record.SessionVerdict.{SessionVerdict}
use Rattle.auc_transcript.specs.Completeness.{EachJobResumes, EachResumedSessionAgrees, HasContext, ResumedSessionsAgreeAfter, ResumedSessionsSucceed, opening_in, session_named}
use Rattle.auc_transcript.specs.Keys.{AreNetsAfter}
use Rattle.auc_transcript.proofs.FirstLemmas.{none_passes}
use Rattle.auc_transcript.proofs.KeptNameLemmas.{AreKept, first_named, round_named}
use Rattle.auc_transcript.proofs.OneEventLemmas.{Laws as TellingLaws}
use Rattle.auc_transcript.proofs.OneToldLemmas.{front_one, jobs_one}
use Rattle.auc_transcript.proofs.OpeningLemmas.{opening_among}
use Rattle.auc_transcript.proofs.PlainLemmas.{success_stays, verdict_in, verdicts_of}
use Rattle.auc_transcript.proofs.PlainLineLemmas.{IsFresh, IsOpen, job_leaves, plain_line}
use Rattle.auc_transcript.proofs.ReadyLemmas.{IsCard, cards, found_is_new}
use Rattle.auc_transcript.proofs.SizeLemmas.{AreKeptSized, first_sized, job_reaches, reached_itself, reached_resumes, round_sized}
use Rattle.auc_transcript.proofs.StayingLemmas.{IsMove, IsTurn, at_moves, delivery_moves, found_has_number, has_number, start_moves}
use Rattle.auc_record.specs.Told.{told_job}

-- the laws on which it stands
pub record Laws : Type 0 where
  pub telling : TellingLaws
  pub resumed : EachResumedSessionSucceeds

-- ---- a session stays open in its own events

-- one of the number is open
one_is_open : (w : Net) (number i : ℕ) (s : Session) → slice_get w.sessions i ≡ Some s → has_number number s ≡ true → IsOpen w number
one_is_open w number i s there has = by (session_place w.sessions number) refl
  where
    found : (k : ℕ) → session_place w.sessions number ≡ Some k → (o : Option Session) → slice_get w.sessions k ≡ o → IsOpen w number
    found k first None none =
        let some = slice_get-get_or w.sessions k s (position-Some (has_number number) w.sessions k s first).0 in
        let no : ⊥ = cc in
        absurd no
    found k first (Some t) is = (t, ap (session_at w) first ∙ is)

    by : (o : Option ℕ) → session_place w.sessions number ≡ o → IsOpen w number
    by None none =
        let fails = none_passes (has_number number) w.sessions none i s (slice_get_within w.sessions i s there) in
        let passes = ap (has_number number) (get_or_from_slice_get w.sessions i s s there) ∙ has in
        let no : ⊥ = cc in
        absurd no
    by (Some k) first = found k first (slice_get w.sessions k) refl

set_there : {X : Type 0} (xs : List X) (i : ℕ) (old new : X) → slice_get xs i ≡ Some old → slice_get (slice_set xs i new) i ≡ Some new
set_there xs i old new there =
    let inside = slice_get_within xs i old there in
    let long = length-set xs i new in
    slice_get-get_or (slice_set xs i new) i new (omega arith) ∙ ap Some (get_or-set_same xs i new new inside)

move_opens : (w next : Net) (number : ℕ) → IsMove w next number → IsOpen w number → IsOpen next number
move_opens w next number m (s, is) = ⊎_elim same turned m.sessions
  where
    same : next.sessions ≡ w.sessions → IsOpen next number
    same alike =
        let (i, there, has) = found_has_number w number s is in
        one_is_open next number i s (subst (λ (l : List Session). slice_get l i ≡ Some s) (sym alike) there) has

    turned : IsTurn w.sessions next.sessions number → IsOpen next number
    turned t =
        one_is_open next number t.place t.new (subst (λ (l : List Session). slice_get l t.place ≡ Some t.new) (sym t.is) (set_there w.sessions t.place t.old t.new t.there))
        (ap (λ (n : ℕ). n == number) t.same ∙ t.numbered)

start_move : (set : Setting) (w : Net) (session : ℕ) (told : ToldEvent) → IsMove w (happened set w (event.Start session) told) session
start_move set w session told =
    let m = at_moves w session (λ place s. start w place s s.server) (λ place s st. start_moves w session place s s.server st) in
    record { sessions = m.sessions; devices = m.devices; homes = m.homes }

deliver_move : (set : Setting) (w : Net) (session packet : ℕ) (at' : End) (told : ToldEvent) → IsMove w (happened set w (event.Deliver session at' packet) told) session
deliver_move set w session packet at' told = let m = delivery_moves set w session at' told packet in record { sessions = m.sessions; devices = m.devices; homes = m.homes }

relay_opens : (set : Setting) (before : Before) (w next : Net) (session : ℕ) (at' : End) (o : Option ℕ) (lines : List LineRecord) → RelayGives set before w session at' o lines next
    → IsOpen w session → IsOpen next session
relay_opens set before w next session at' None [] gives there = subst (λ (n : Net). IsOpen n session) (sym gives) there
relay_opens set before w next session at' None (l ∷ lines) gives there = absurd gives
relay_opens set before w next session at' (Some packet) [] gives there = absurd gives
relay_opens set before w next session at' (Some packet) (l ∷ lines) (mid, first, more) there =
    relay_opens set (behind before (l ∷ [])) mid next session (other at') (packet_of l) lines more
    (subst (λ (n : Net). IsOpen n session) (sym first.leads) (move_opens w _ session (deliver_move set w session packet at' first.told) there))

plain_opens : (set : Setting) (before : Before) (w next : Net) (session : ℕ) (lines : List LineRecord) → PlainGives set before w session lines next → IsOpen w session → IsOpen next session
plain_opens set before w next session [] gives there = absurd gives
plain_opens set before w next session (l ∷ lines) (mid, first, more) there =
    relay_opens set (behind before (l ∷ [])) mid next session end.Peer (packet_of l) lines more
    (subst (λ (n : Net). IsOpen n session) (sym first.leads) (move_opens w _ session (start_move set w session first.told) there))

-- ---- readiness

-- a new session whose device has a context is ready for its plain line
ready_again : (set : Setting) (kept : List Kept) (job : List Line) (net : Net) (opening : SessionLine) (row : Row) (c : Context) → IsFresh set kept job opening net
    → slice_get set.rows opening.sub ≡ Some row → IsName opening.name → IsShortIdentity opening.identity → IsSized c → HasContext net opening.session c
    → IsReadyAgain set net opening.session c
ready_again set kept job net opening row c fresh known name identity sized has =
    let s = has.own in
    let new = found_is_new set net opening s has.is fresh.new in
    let listed : slice_get set.rows s.sub ≡ Some row = ap (λ (x : Session). slice_get set.rows x.sub) new.is ∙ known in
    let first = sym (ap (place_with net.devices) listed) ∙ new.placed in
    let d0 : Subscription = record { imsi = row.imsi; realm = set.realm; secret = row.secret } in
    let at' = position-Some (λ (d : Subscription). same_identity d.imsi row.imsi) net.devices s.device d0 first in
    let card = subst (All (IsCard set (held_subs job))) (sym fresh.of.devices) (cards set (held_subs job)) s.device d0 at'.0 in
    record {
      own = s;
      is = has.is;
      opening = opening;
      short = name;
      first = identity;
      options = ap (λ (x : Session). x.options) new.is;
      server = ap (λ (x : Session). x.server) new.is;
      peer = ap (λ (x : Session). x.peer) new.is;
      device = get_or net.devices s.device d0;
      there = slice_get-get_or net.devices s.device d0 at'.0;
      realm = card.realm;
      keeps = has.keeps;
      stored = has.stored;
      sized = sized;
      same = subst (λ m. HasSameContext m has.keeps c) (ap (λ (x : Session). x.options.method) new.is) has.same;
    }

-- ---- a job

one_session : (o : Option Session) (s t : Session) → o ≡ Some s → o ≡ Some t → s ≡ t
one_session o s t e f = cc

-- the plain line of a session whose server takes up a context again
line_resumes : Laws → (set : Setting) (before : Before) (kept : List Kept) (front : List Line) (opening : SessionLine) (back : List Line) (records early late : List LineRecord) (mid last : Net) (row : Row)
    (r : Resumed) → AreSubscribers set.rows → IsRealm set.realm → AreKept kept → AreKeptSized kept → slice_get set.rows opening.sub ≡ Some row → IsName opening.name → IsShortIdentity opening.identity
    → records ≡ early ++ late → opening_in opening.session front ≡ Some opening → All (λ l. session_named l ≢ Some opening.session) front
    → All (λ l. session_named l ≢ Some opening.session) back
    → JobGives set before (start_of set kept (front ++ line.Plain opening.session ∷ back)) (front ++ line.Plain opening.session ∷ back) records last
    → JobGives set before (start_of set kept (front ++ line.Plain opening.session ∷ back)) front early mid
    → HasResumed last opening.session r → HasContext mid opening.session r.context → Succeeds last opening.session
line_resumes laws set before kept front opening back records early late mid last row r are realm named sized known name identity cut first apart also gives leads resumed has =
    let job = front ++ line.Plain opening.session ∷ back in
    let p = plain_line set before kept front opening back records last row named sized known first apart gives in
    let same = front_one laws.telling set before before (start_of set kept job) mid p.net front early p.early late (p.own ++ p.rest) leads p.leads (ap told_job (sym cut ∙ p.cut)) in
    let leaves = job_leaves set opening p.after p.next last back p.rest also p.more in
    let (t, is) = plain_opens set p.at' p.net p.next opening.session p.own p.gives p.found in
    let one = one_session _ t resumed.own (leaves.stays t is) resumed.is in
    let then : HasResumed p.next opening.session r = record { own = resumed.own; is = is ∙ ap Some one; server = resumed.server; started = resumed.started; resumed = resumed.resumed } in
    let (place, there, numbered) = found_has_number last opening.session resumed.own resumed.is in
    let reached = job_reaches set (start_of set kept job) before (start_of set kept job) last job records gives (reached_itself set (start_of set kept job)) in
    let small = reached_resumes set kept job last place resumed.own resumed.server r sized reached there resumed.started resumed.resumed in
    let ready = ready_again set kept job p.net opening row r.context p.fresh known name identity small (subst (λ (w : Net). HasContext w opening.session r.context) same has) in
    success_stays set.rows opening p.next last ⊥ leaves (laws.resumed set p.at' p.net p.next opening.session p.own r are realm p.gives then ready)

-- of the session that a plain line names
abbrev LineResumes : Setting → Before → List Kept → List Line → SessionLine → List Line → List LineRecord → List LineRecord → Net → Net → Resumed → ℕ → Type 0
LineResumes set before kept front opening back records early mid last r session =
    opening_in session front ≡ Some opening → All (λ l. session_named l ≢ Some session) front → All (λ l. session_named l ≢ Some session) back
    → JobGives set before (start_of set kept (front ++ line.Plain session ∷ back)) (front ++ line.Plain session ∷ back) records last
    → JobGives set before (start_of set kept (front ++ line.Plain session ∷ back)) front early mid → HasResumed last session r → HasContext mid session r.context → Succeeds last session

job_resumes : Laws → (set : Setting) (verdicts : List SessionVerdict) (before : Before) (kept : List Kept) (job : List Line) (records : List LineRecord) (last : Net) → AreSubscribers set.rows
    → IsRealm set.realm → AreKept kept → AreKeptSized kept → ((v : SessionVerdict) → Contains (flat_map verdict_on last.sessions) v → Contains verdicts v)
    → JobGives set before (start_of set kept job) job records last → ResumedSessionsSucceed set verdicts before (start_of set kept job) job records last
job_resumes laws set verdicts before kept job records last are realm named sized told gives front back session early late mid r cut parts leads alone resumed has =
    let opening = alone.opening in
    let by : LineResumes set before kept front opening back records early mid last r session =
    subst (LineResumes set before kept front opening back records early mid last r) (opening_among session front opening alone.opened).0
    (line_resumes laws set before kept front opening back records early late mid last alone.row r are realm named sized alone.known alone.name alone.identity parts) in
    let s = by alone.opened alone.first alone.last (subst (λ (j : List Line). JobGives set before (start_of set kept j) j records last) cut gives)
    (subst (λ (j : List Line). JobGives set before (start_of set kept j) front early mid) cut leads) resumed has in
    (s, told (record { session = session; agree = true }) (verdict_in last session s))

-- ---- rounds and parts

jobs_resume : Laws → (set : Setting) (verdicts : List SessionVerdict) (early : List LineRecord) (kept : List Kept) (beside : List LineRecord) (jobs : List (List Line)) (records : List (List LineRecord)) (nets : List Net)
    → AreSubscribers set.rows → IsRealm set.realm → AreKept kept → AreKeptSized kept → ((v : SessionVerdict) → Contains (verdicts_of nets) v → Contains verdicts v)
    → JobsGive set early kept beside jobs records nets → EachJobResumes set verdicts early kept beside jobs records nets
jobs_resume laws set verdicts early kept beside [] [] [] are realm named sized told gives = tt
jobs_resume laws set verdicts early kept beside [] [] (net ∷ nets) are realm named sized told (none, is) = absurd cc
jobs_resume laws set verdicts early kept beside [] (lines ∷ records) nets are realm named sized told (none, is) = absurd cc
jobs_resume laws set verdicts early kept beside (job ∷ jobs) [] nets are realm named sized told gives = absurd gives
jobs_resume laws set verdicts early kept beside (job ∷ jobs) (lines ∷ records) [] are realm named sized told gives = absurd gives
jobs_resume laws set verdicts early kept beside (job ∷ jobs) (lines ∷ records) (net ∷ nets) are realm named sized told (first, more) = (
  job_resumes laws set verdicts (record { early = early; beside = beside; own = [] }) kept job lines net are realm named sized
      (λ v is. told v (Contains-append_left (flat_map verdict_on net.sessions) (verdicts_of nets) v is)) first,
  jobs_resume laws set verdicts early kept (beside ++ lines) jobs records nets are realm named sized
      (λ v is. told v (Contains-append_right (flat_map verdict_on net.sessions) (verdicts_of nets) v is)) more,
)

parts_resume : Laws → (set : Setting) (stop : Option Stop) (at : Course) (parts : List Part) (records : List PartRecord) (end : Course) (nets : List (List Net)) → AreSubscribers set.rows
    → IsRealm set.realm → AreKept at.kept → AreKeptSized at.kept → Leads set stop at parts records end → AreNetsAfter set at.early at.kept parts records nets
    → ResumedSessionsAgreeAfter set at.early at.kept parts records nets
parts_resume laws set stop at [] records end nets are realm named sized leads lead = tt
parts_resume laws set stop at (part.Round jobs ∷ parts) [] end nets are realm named sized leads lead = absurd leads
parts_resume laws set stop at (part.Round jobs ∷ parts) (record_of.Restart ∷ records) end nets are realm named sized leads lead = absurd lead
parts_resume laws set stop at (part.Round jobs ∷ parts) (record_of.Round round ∷ records) end [] are realm named sized leads lead = absurd lead
parts_resume laws set stop at (part.Round jobs ∷ parts) (record_of.Round round ∷ records) end (first ∷ nets) are realm named sized (next, serves, rest) (gives, more) =
    let one = jobs_one laws.telling set at.early at.early at.kept [] [] jobs round.jobs round.jobs serves.lawful.nets first serves.lawful.given gives refl in
    let verdicts = serves.lawful.sessions in
    let later : List Net → Type 0 = λ (ns : List Net). ResumedSessionsAgreeAfter set (at.early ++ all_lines round.jobs) (kept_by_jobs at.kept ns) parts records nets in (
      jobs_resume laws set round.sessions at.early at.kept [] jobs round.jobs first are realm named sized
          (λ v is. Contains-permutation _ round.sessions v verdicts.same (subst (λ (ns : List Net). Contains (verdicts_of ns) v) (sym one.1) is)) gives,
      subst later one.1 (parts_resume laws set stop (after_round set.rows at round serves.words serves.lawful.nets) parts records end nets are realm
          (round_named set at.early at.kept jobs round.jobs serves.lawful.nets named serves.lawful.given)
          (round_sized set at.early at.kept jobs round.jobs serves.lawful.nets sized serves.lawful.given) (subst (λ (c : Course). Leads set stop c parts records end) serves.leads rest)
          (subst (λ (ns : List Net). AreNetsAfter set (at.early ++ all_lines round.jobs) (kept_by_jobs at.kept ns) parts records nets) (sym one.1) more)),
    )
parts_resume laws set stop at (part.Restart ∷ parts) [] end nets are realm named sized leads lead = absurd leads
parts_resume laws set stop at (part.Restart ∷ parts) (record_of.Round round ∷ records) end nets are realm named sized leads lead = absurd lead
parts_resume laws set stop at (part.Restart ∷ parts) (record_of.Restart ∷ records) end nets are realm named sized (next, restarts, rest) lead =
    parts_resume laws set stop (after_restart set.rows at restarts.limits) parts records end nets are realm named sized
    (subst (λ (c : Course). Leads set stop c parts records end) restarts.leads rest) lead

-- each resumed session agrees
pub each_resumed_session_agrees : Laws → EachResumedSessionAgrees
each_resumed_session_agrees laws set reserved stop parts records nets are realm (end, leads) lead =
    parts_resume laws set stop (beginning set.rows reserved) parts records end nets are realm (first_named set.rows) (first_sized set.rows) leads lead
