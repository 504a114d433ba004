-- For the law of contexts: there is one network before each event of a job, and what a peer accepts there is of its device's context.
use Rattle.std.proofs.Common.{◌≡◌, ℕ, List, [], ◌∷◌, ◌++◌, map, All, Option, Some, None, slice_get, refl, sym, ap, ◌∙◌, subst}
use Rattle.std.proofs.lemmas.List.{append_cancel_left}
use Rattle.std.proofs.lemmas.List.Elements.{All-cons, All-head, All-nil, All-tail}
use Rattle.std.proofs.lemmas.Option.{get_or_from_slice_get, slice_get_within}
use Rattle.auc_lines.specs.declared.part.End.{End}
use Rattle.auc_lines.specs.declared.part.End.TheVariants as end
use Rattle.auc_lines.specs.declared.part.Line.{Line}
use Rattle.auc_lines.specs.declared.part.Part.{Part}
use Rattle.auc_lines.specs.declared.part.Part.TheVariants as part
use Rattle.auc_peer.specs.Subscription.{Subscription}
use Rattle.auc_server.specs.Server.{ServerEnd}
use Rattle.auc_subs.specs.Setting.{Setting}
use Rattle.auc_subs.specs.declared.row.Row.{Row}
use Rattle.auc_vector.specs.declared.notes.CounterNote.{CounterNote}
use Rattle.auc_vector.specs.declared.notes.CounterNote.TheVariants as counts
use Rattle.auc_record.specs.Event.{Came}
use Rattle.auc_world.specs.Came.{came, came_at_peer, came_at_server, came_changed, came_delivered, came_given_up, came_in, came_opened, came_repeated, came_started, server_came_to_give_up, session_at, session_of}
use Rattle.auc_world.specs.Given.{Before, EventGives, JobGives, JobsGive, behind}
use Rattle.auc_world.specs.Happened.{Delivery, ToldEvent, changed_in, delivery_at, delivery_of, peer_turn}
use Rattle.auc_record.specs.Lines.{all_lines}
use Rattle.auc_world.specs.Net.{Net, device_place, keeps_at, packet_at, session_place}
use Rattle.auc_world.specs.Plain.{counter_taken}
use Rattle.auc_world.specs.Resumption.{AcceptsIn, AcceptsItsOwn, EachAcceptanceIsOwn}
use Rattle.auc_world.specs.Start.{Kept, fresh_kept, kept_by_jobs, start_of}
use Rattle.auc_record.specs.Told.{told_came}
use Rattle.auc_record.specs.declared.event.Event.{Event as Happens}
use Rattle.auc_record.specs.declared.event.Event.TheVariants as event
use Rattle.auc_record.specs.declared.event.EventRecord.{EventRecord}
use Rattle.auc_world.specs.declared.net.SentPacket.{SentPacket}
use Rattle.auc_world.specs.declared.net.Session.{Session}
use Rattle.auc_record.specs.declared.record.LineRecord.{LineRecord}
use Rattle.auc_record.specs.declared.record.LineRecord.TheVariants.{Number, Sync, Give, Further, Event}
use Rattle.auc_record.specs.declared.record.PartRecord.{PartRecord}
use Rattle.auc_record.specs.declared.record.PartRecord.TheVariants as record_of
use Rattle.auc_world.proofs.Facts.{AreAt}
use Rattle.auc_transcript.specs.Completeness.{session_in}
use Rattle.auc_transcript.specs.Counters.{AcceptancesAreOwn, AcceptancesAreOwnAfter, EachJobLeadsOn, IsOwn, IsOwnIn, JobAcceptsOwn, JobsAcceptOwn, LineLeads, LinesLead, accepted_noted}
use Rattle.auc_transcript.specs.Headline.{IsOutsideSessions}
use Rattle.auc_transcript.specs.Keys.{AreNets, AreNetsAfter}
use Rattle.auc_transcript.proofs.ChangeLemmas.{change_holds}
use Rattle.auc_transcript.proofs.DeviceEventLemmas.{IsPlaced, event_stays}
use Rattle.auc_transcript.proofs.DeviceFoldLemmas.{placed_on}
use Rattle.auc_transcript.proofs.JobFoldLemmas.{job_keeps_outside}
use Rattle.auc_transcript.proofs.KindLemmas.{behind_none, behind_on}
use Rattle.auc_transcript.proofs.OneEventLemmas.{Laws, event_one}

-- ---- lines lead on

module _ (set : Setting) where
  -- lines, and then others
  lead_on : (before : Before) (start mid last : Net) (xs ys : List LineRecord) → LinesLead set before start xs mid → LinesLead set (behind before xs) mid ys last
      → LinesLead set before start (xs ++ ys) last
  lead_on before start mid last [] ys same more =
      subst (λ (w : Net). LinesLead set before w ys last) same (subst (λ (b : Before). LinesLead set b mid ys last) (behind_none before) more)
  lead_on before start mid last (x ∷ xs) ys (next, first, rest) more = (
    next,
    first,
    lead_on (behind before (x ∷ [])) next mid last xs ys rest (subst (λ (b : Before). LinesLead set b mid ys last) (sym (behind_on before (x ∷ []) xs)) more),
  )

  -- and the network between them
  cut_at : (before : Before) (start last : Net) (xs ys : List LineRecord) → LinesLead set before start (xs ++ ys) last
      → (mid : Net) × LinesLead set before start xs mid × LinesLead set (behind before xs) mid ys last
  cut_at before start last [] ys leads = (start, refl, subst (λ (b : Before). LinesLead set b start ys last) (sym (behind_none before)) leads)
  cut_at before start last (x ∷ xs) ys (next, first, rest) =
      let (mid, front, more) = cut_at (behind before (x ∷ [])) next last xs ys rest in
      (mid, (next, first, front), subst (λ (b : Before). LinesLead set b mid ys last) (behind_on before (x ∷ []) xs) more)

  -- a line outside sessions leaves the network as it is
  quiet_line : (before : Before) (w : Net) (line : LineRecord) → IsOutsideSessions line → LineLeads set before w line w
  quiet_line before w (Number sub note) is = refl
  quiet_line before w (Sync sub answer) is = refl
  quiet_line before w (Give sub n answer) is = refl
  quiet_line before w (Further said) is = refl
  quiet_line before w (Event r) is = absurd is

  quiet_lines : (before : Before) (w : Net) (lines : List LineRecord) → All IsOutsideSessions lines → LinesLead set before w lines w
  quiet_lines before w [] quiet = refl
  quiet_lines before w (line ∷ lines) quiet = (
    w,
    quiet_line before w line (All-head IsOutsideSessions line lines quiet),
    quiet_lines (behind before (line ∷ [])) w lines (All-tail IsOutsideSessions line lines quiet),
  )

  -- what an event gives leads on
  event_leads : (before : Before) (w next : Net) (e : Happens) (lines : List LineRecord) → EventGives set before w e lines next → LinesLead set before w lines next
  event_leads before w next e lines gives =
      subst (λ (ls : List LineRecord). LinesLead set before w ls next) (sym gives.lines_are)
      (next, subst (λ (ls : List LineRecord). EventGives set before w e ls next) gives.lines_are gives, refl)

  -- the lines of a job so far lead from its first network
  abbrev LedSoFar : Before → Net → Before → Net → Type 0
  LedSoFar before start now w = (lines : List LineRecord) × (now ≡ behind before lines) × LinesLead set before start lines w

  more_led : (before : Before) (start : Net) (now : Before) (w next : Net) (lines : List LineRecord) → LinesLead set now w lines next → LedSoFar before start now w
      → LedSoFar before start (behind now lines) next
  more_led before start now w next lines leads (front, is, led) = (
    front ++ lines,
    ap (λ (b : Before). behind b lines) is ∙ behind_on before front lines,
    lead_on before start w next front lines led (subst (λ (b : Before). LinesLead set b w lines next) is leads),
  )

  job_leads : (before : Before) (start last : Net) (job : List Line) (lines : List LineRecord) → JobGives set before start job lines last → LinesLead set before start lines last
  job_leads before start last job lines gives =
      let (all, is, leads) = job_keeps_outside set (LedSoFar before start)
      (λ now w quiet outside led. more_led before start now w w quiet (quiet_lines now w quiet outside) led)
      (λ now w next e given event led. more_led before start now w next given (event_leads now w next e given event) led)
      before start last job lines gives ([], sym (behind_none before), refl) in
      subst (λ (ls : List LineRecord). LinesLead set before start ls last) (sym (append_cancel_left before.own lines all (ap (λ (b : Before). b.own) is))) leads

-- ---- to one network alone

result_of : (a b : EventRecord) → ◌≡◌ {A = List LineRecord} (Event a ∷ []) (Event b ∷ []) → a.result ≡ b.result
result_of a b same = cc

module _ (laws : Laws) (set : Setting) where
  one_line : (before : Before) (w a b : Net) (line : LineRecord) → LineLeads set before w line a → LineLeads set before w line b → a ≡ b
  one_line before w a b (Number sub note) first second = first ∙ sym second
  one_line before w a b (Sync sub answer) first second = first ∙ sym second
  one_line before w a b (Give sub n answer) first second = first ∙ sym second
  one_line before w a b (Further said) first second = first ∙ sym second
  one_line before w a b (Event r) first second =
      let came_first = result_of r (record { event = r.event; result = came set w r.event first.told }) first.lines_are in
      let came_second = result_of r (record { event = r.event; result = came set w r.event second.told }) second.lines_are in
      let one = event_one laws set before before w r.event first.told second.told
      (record { received = first.received; replies = first.replies; tells = first.notes; usim = first.usim })
      (record { received = second.received; replies = second.replies; tells = second.notes; usim = second.usim }) (ap told_came (sym came_first ∙ came_second)) in
      first.leads ∙ one.leads ∙ sym second.leads

  pub one_network : (before : Before) (w a b : Net) (lines : List LineRecord) → LinesLead set before w lines a → LinesLead set before w lines b → a ≡ b
  one_network before w a b [] first second = first ∙ sym second
  one_network before w a b (line ∷ lines) (next, first, rest) (other, second, more) =
      one_network (behind before (line ∷ [])) next a b lines rest
      (subst (λ (v : Net). LinesLead set (behind before (line ∷ [])) v lines b) (sym (one_line before w next other line first second)) more)

pub each_job_leads_on : Laws → EachJobLeadsOn
each_job_leads_on laws set before start last job lines gives =
    let leads = job_leads set before start last job lines gives in (leads, λ other led. one_network laws set before start other last lines led leads)

-- ---- sessions stay at the devices of their subscribers

record Stands (set : Setting) (start w : Net) : Type 0 where
  devices : w.devices ≡ start.devices
  placed : AreAt (IsPlaced set start.devices) w.sessions

line_stands : (set : Setting) (start : Net) (before : Before) (w next : Net) (line : LineRecord) → LineLeads set before w line next → Stands set start w → Stands set start next
line_stands set start before w next (Number sub note) leads st = subst (Stands set start) (sym leads) st
line_stands set start before w next (Sync sub answer) leads st = subst (Stands set start) (sym leads) st
line_stands set start before w next (Give sub n answer) leads st = subst (Stands set start) (sym leads) st
line_stands set start before w next (Further said) leads st = subst (Stands set start) (sym leads) st
line_stands set start before w next (Event r) gives st =
    subst (Stands set start) (sym gives.leads) (record {
      devices = (event_stays set w r.event gives.told).devices ∙ st.devices;
      placed = placed_on set start w r.event gives.told st.devices st.placed;
    })

lines_stand : (set : Setting) (start : Net) (before : Before) (w last : Net) (lines : List LineRecord) → LinesLead set before w lines last → Stands set start w → Stands set start last
lines_stand set start before w last [] same st = subst (Stands set start) (sym same) st
lines_stand set start before w last (line ∷ lines) (next, first, rest) st =
    lines_stand set start (behind before (line ∷ [])) next last lines rest (line_stands set start before w next line first st)

-- ---- an acceptance

module _ (law : EachAcceptanceIsOwn) (set : Setting) (w : Net) (told : ToldEvent) (placed : AreAt (IsPlaced set w.devices) w.sessions) (session : ℕ) where
  abbrev Owns : Came → Type 0
  Owns c = All (IsOwn set w session) (accepted_noted c)

  -- an end that accepts nothing
  none : (c : Came) → accepted_noted c ≡ [] → Owns c
  none c nothing = subst (All (IsOwn set w session)) (sym nothing) (All-nil (IsOwn set w session))

  module _ (t : ℕ) (s : Session) (first : session_place w.sessions session ≡ Some t) (there : slice_get w.sessions t ≡ Some s) where
    taken : (note : Option CounterNote) → ((counter : ℕ) → note ≡ Some (counts.Taken counter) → IsOwn set w session counter) → All (IsOwn set w session) (counter_taken note)
    taken None each = All-nil (IsOwn set w session)
    taken (Some (counts.Small counter)) each = All-nil (IsOwn set w session)
    taken (Some (counts.Taken counter)) each = All-cons (IsOwn set w session) counter [] (each counter refl) (All-nil (IsOwn set w session))

    at_device : IsPlaced set w.devices s.sub s.device
    at_device =
        subst (λ (x : Session). IsPlaced set w.devices x.sub x.device) (get_or_from_slice_get w.sessions t s s there) (placed t s (slice_get_within w.sessions t s there))

    peer_owns : (d : Delivery) → d.session ≡ s → (o : Option Subscription) → AcceptsItsOwn set w d told o → Owns (came_at_peer set w d told o)
    peer_owns d is None accepts = none (came_at_peer set w d told None) refl
    peer_owns d is (Some device) accepts =
        taken (peer_turn set device (keeps_at w d.session.device) d.session told).1.notes.counter (λ counter noted. record {
          own = d.session;
          there = ap (session_at w) first ∙ there ∙ ap Some (sym is);
          placed = subst (λ (x : Session). IsPlaced set w.devices x.sub x.device) (sym is) at_device;
          resumes = accepts counter noted;
        })

    server_owns : (o : Option ServerEnd) → Owns (came_at_server set w told o)
    server_owns None = none (came_at_server set w told None) refl
    server_owns (Some q) = none (came_at_server set w told (Some q)) refl

  lost : (at' : End) (y : Option SentPacket) → Owns (came_delivered set w at' told y None)
  lost at' None = none (came_delivered set w at' told None None) refl
  lost at' (Some sent) = none (came_delivered set w at' told (Some sent) None) refl

  delivery_owns : (at' : End) (packet : ℕ) (o : Option ℕ) → session_place w.sessions session ≡ o → AcceptsIn set w told (delivery_at w packet o)
      → Owns (came_delivered set w at' told (packet_at w.packets packet) (delivery_at w packet o))
  delivery_owns at' packet None first accepts = lost at' (packet_at w.packets packet)
  delivery_owns at' packet (Some t) first accepts = by (slice_get w.sessions t) (packet_at w.packets packet) refl at' accepts
    where
      by : (x : Option Session) (y : Option SentPacket) → slice_get w.sessions t ≡ x → (e : End) → AcceptsIn set w told (delivery_of packet t x y)
          → Owns (came_delivered set w e told y (delivery_of packet t x y))
      by (Some s) (Some sent) there end.Server accepts = server_owns t s first there s.server
      by (Some s) (Some sent) there end.Peer accepts =
          peer_owns t s first there (record { place = t; session = s; bytes = sent.bytes; packet = packet }) refl (slice_get w.devices s.device) accepts
      by (Some s) None there e accepts = lost e None
      by None (Some sent) there e accepts = lost e (Some sent)
      by None None there e accepts = lost e None

  -- the other events
  opened_owns : (first place : Option ℕ) → Owns (came_opened first place)
  opened_owns (Some one) place = none (came_opened (Some one) place) refl
  opened_owns None None = none (came_opened None None) refl
  opened_owns None (Some place) = none (came_opened None (Some place)) refl

  in_owns : (does : Session → Came) (o : Option Session) → ((s : Session) → Owns (does s)) → Owns (came_in does o)
  in_owns does None each = none (came_in does None) refl
  in_owns does (Some s) each = each s

  start_owns : (s : Session) (o : Option ServerEnd) → Owns (came_started w s.options o)
  start_owns s None = none (came_started w s.options None) refl
  start_owns s (Some q) = none (came_started w s.options (Some q)) refl

  repeat_owns : (o : Option ServerEnd) → Owns (came_repeated w o)
  repeat_owns None = none (came_repeated w None) refl
  repeat_owns (Some q) = none (came_repeated w (Some q)) refl

  over_owns : (at' : End) (s : Session) → Owns (came_given_up w at' s)
  over_owns end.Peer s = none (came_given_up w end.Peer s) refl
  over_owns end.Server s = by s.server
    where
      by : (o : Option ServerEnd) → Owns (server_came_to_give_up w o)
      by None = none (server_came_to_give_up w None) refl
      by (Some q) = none (server_came_to_give_up w (Some q)) refl

-- where a packet is changed, nothing is accepted
changed_owns : (set : Setting) (w : Net) (e : Happens) (sent : Option SentPacket) → All (IsOwnIn set w None) (accepted_noted (came_changed w.packets sent (changed_in w.packets e)))
changed_owns set w e sent =
    change_holds (λ c. All (IsOwnIn set w None) (accepted_noted c)) (λ why. All-nil (IsOwnIn set w None)) (λ packets bytes. All-nil (IsOwnIn set w None)) w.packets sent (changed_in w.packets e)

event_owns : EachAcceptanceIsOwn → (set : Setting) (w : Net) (e : Happens) (told : ToldEvent) → AreAt (IsPlaced set w.devices) w.sessions → All (IsOwnIn set w (session_in e)) (accepted_noted (came set w e told))
event_owns law set w (event.Open opening) told placed =
    opened_owns law set w told placed opening.session (session_place w.sessions opening.session) (device_place set.rows w.devices opening.sub)
event_owns law set w (event.Start session) told placed =
    in_owns law set w told placed session (λ s. came_started w s.options s.server) (session_of w session) (λ s. start_owns law set w told placed session s s.server)
event_owns law set w (event.Deliver session at' packet) told placed =
    delivery_owns law set w told placed session at' packet (session_place w.sessions session) refl (law set w session packet told)
event_owns law set w (event.Repeat session) told placed =
    in_owns law set w told placed session (λ s. came_repeated w s.server) (session_of w session) (λ s. repeat_owns law set w told placed session s.server)
event_owns law set w (event.GiveUp session at') told placed =
    in_owns law set w told placed session (came_given_up w at') (session_of w session) (over_owns law set w told placed session at')
event_owns law set w (event.Tamper packet place byte) told placed = changed_owns set w (event.Tamper packet place byte) (packet_at w.packets packet)
event_owns law set w (event.Cut packet count) told placed = changed_owns set w (event.Cut packet count) (packet_at w.packets packet)

-- ---- jobs and rounds

job_accepts_own : Laws → EachAcceptanceIsOwn → (set : Setting) (before : Before) (start last : Net) (job : List Line) (lines : List LineRecord) → start.sessions ≡ []
    → JobGives set before start job lines last → JobAcceptsOwn set before start lines
job_accepts_own laws law set before start last job lines fresh gives r now at' =
    let leads = subst (λ (ls : List LineRecord). LinesLead set before start ls last) at'.lines_are (job_leads set before start last job lines gives) in
    let (mid, front, (next, event, rest)) = cut_at set before start last at'.front (Event r ∷ at'.rest) leads in
    let same : mid ≡ now = one_network laws set before start mid now at'.front front at'.leads in
    let result = result_of r (record { event = r.event; result = came set mid r.event event.told }) event.lines_are in
    let began : Stands set start start = record {
      devices = refl;
      placed = subst (AreAt (IsPlaced set start.devices)) (sym fresh) (All-nil (λ (s : Session). IsPlaced set start.devices s.sub s.device));
    } in
    let stands = lines_stand set start before start mid at'.front front began in
    let placed = subst (λ ds. AreAt (IsPlaced set ds) mid.sessions) (sym stands.devices) stands.placed in
    subst (λ (w : Net). All (IsOwnIn set w (session_in r.event)) (accepted_noted r.result)) same
    (subst (λ (c : Came). All (IsOwnIn set mid (session_in r.event)) (accepted_noted c)) (sym result) (event_owns law set mid r.event event.told placed))

jobs_accept_own : Laws → EachAcceptanceIsOwn → (set : Setting) (early : List LineRecord) (kept : List Kept) (beside : List LineRecord) (jobs : List (List Line)) (records : List (List LineRecord))
    (nets : List Net) → JobsGive set early kept beside jobs records nets → JobsAcceptOwn set early kept beside jobs records
jobs_accept_own laws law set early kept beside [] records nets (none, is) = subst (JobsAcceptOwn set early kept beside []) (sym none) tt
jobs_accept_own laws law set early kept beside (job ∷ jobs) [] nets gives = absurd gives
jobs_accept_own laws law set early kept beside (job ∷ jobs) (lines ∷ records) [] gives = absurd gives
jobs_accept_own laws law set early kept beside (job ∷ jobs) (lines ∷ records) (net ∷ nets) (gives, more) = (
  job_accepts_own laws law set (record { early = early; beside = beside; own = [] }) (start_of set kept job) net job lines refl gives,
  jobs_accept_own laws law set early kept (beside ++ lines) jobs records nets more,
)

acceptances_after : Laws → EachAcceptanceIsOwn → (set : Setting) (early : List LineRecord) (kept : List Kept) (parts : List Part) (records : List PartRecord) (nets : List (List Net))
    → AreNetsAfter set early kept parts records nets → AcceptancesAreOwnAfter set early kept parts records nets
acceptances_after laws law set early kept [] records nets gives = tt
acceptances_after laws law set early kept (part.Round jobs ∷ parts) [] nets gives = absurd gives
acceptances_after laws law set early kept (part.Round jobs ∷ parts) (record_of.Restart ∷ records) nets gives = absurd gives
acceptances_after laws law set early kept (part.Round jobs ∷ parts) (record_of.Round round ∷ records) [] gives = absurd gives
acceptances_after laws law set early kept (part.Round jobs ∷ parts) (record_of.Round round ∷ records) (first ∷ nets) (gives, more) = (
  jobs_accept_own laws law set early kept [] jobs round.jobs first gives,
  acceptances_after laws law set (early ++ all_lines round.jobs) (kept_by_jobs kept first) parts records nets more,
)
acceptances_after laws law set early kept (part.Restart ∷ parts) [] nets gives = absurd gives
acceptances_after laws law set early kept (part.Restart ∷ parts) (record_of.Round round ∷ records) nets gives = absurd gives
acceptances_after laws law set early kept (part.Restart ∷ parts) (record_of.Restart ∷ records) nets gives = acceptances_after laws law set early kept parts records nets gives

-- each acceptance is of the own context
pub acceptances_are_own : Laws → EachAcceptanceIsOwn → (set : Setting) (parts : List Part) (records : List PartRecord) (nets : List (List Net)) → AreNets set parts records nets
    → AcceptancesAreOwn set parts records nets
acceptances_are_own laws law set parts records nets lead = acceptances_after laws law set [] (map (λ (row : Row). fresh_kept) set.rows) parts records nets lead
