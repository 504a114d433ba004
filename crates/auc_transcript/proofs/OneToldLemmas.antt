-- The law of one told transcript: two lawful transcripts of the same parts of which the same is told are one.
use Rattle.std.proofs.Common.{◌≡◌, ℕ, List, [], ◌∷◌, ◌++◌, map, Option, Some, None, refl, sym, ap, subst, ◌∙◌, append_assoc}
use Rattle.auc_memory.specs.declared.stop.Stop.{Stop}
use Rattle.auc_lines.specs.declared.part.End.{End}
use Rattle.auc_lines.specs.declared.part.End.TheVariants as end
use Rattle.auc_lines.specs.declared.part.Line.{Line}
use Rattle.auc_lines.specs.declared.part.Line.TheVariants as line
use Rattle.auc_lines.specs.declared.part.Part.{Part}
use Rattle.auc_lines.specs.declared.part.Part.TheVariants as part
use Rattle.auc_record.specs.Event.{Came}
use Rattle.auc_world.specs.Came.{came}
use Rattle.auc_world.specs.Given.{Before, EventGives, JobGives, JobsGive, LineGives, PlainGives, RelayGives, behind, packet_of}
use Rattle.auc_world.specs.Net.{Net, other}
use Rattle.auc_subs.specs.Setting.{Setting}
use Rattle.auc_world.specs.Start.{Kept, kept_by_jobs, start_of}
use Rattle.auc_record.specs.Told.{told, told_came, told_event, told_job, told_part, told_round}
use Rattle.auc_world.specs.Transcript.{Course, Leads, beginning}
use Rattle.auc_record.specs.declared.event.Event.{Event as Happens}
use Rattle.auc_record.specs.declared.event.Event.TheVariants as event
use Rattle.auc_record.specs.declared.event.EventRecord.{EventRecord}
use Rattle.auc_record.specs.declared.record.Closing.{Closing}
use Rattle.auc_record.specs.declared.record.LineRecord.{LineRecord}
use Rattle.auc_record.specs.declared.record.LineRecord.TheVariants.{Event}
use Rattle.auc_record.specs.declared.record.PartRecord.{PartRecord}
use Rattle.auc_record.specs.declared.record.PartRecord.TheVariants as record_of
use Rattle.auc_record.specs.declared.record.Premise.{Premise}
use Rattle.auc_record.specs.declared.record.RoundRecord.{RoundRecord}
use Rattle.auc_record.specs.declared.record.SessionVerdict.{SessionVerdict}
use Rattle.auc_transcript.specs.OneTold.{EachToldTranscriptIsOne}
use Rattle.auc_transcript.proofs.OneEventLemmas.{Laws, event_one}
use Rattle.auc_transcript.proofs.OneLineLemmas.{answered_one, conses, draw_one, eps_one, fiveg_one, heads, same_rest, sim_one, sites_one, sync_one, tails}

-- lines that begin with others of which the same is told: those are the same, lead to the same network, and the same is told
-- of the rest
record AreOne (lines others rest others_rest : List LineRecord) (net other_net : Net) : Type 0 where
  lines_are : lines ≡ others
  nets_are : net ≡ other_net
  rests_are : told_job rest ≡ told_job others_rest

-- ---- events

records_of : (r t : EventRecord) → Event r ≡ Event t → r ≡ t
records_of r t same = cc

came_of_told : (e f : Happens) (a b : Came) → Event (record { event = e; result = a }) ≡ Event (record { event = f; result = b }) → a ≡ b
came_of_told e f a b same = ap (λ (r : EventRecord). r.result) (records_of (record { event = e; result = a }) (record { event = f; result = b }) same)

event_lines_one : Laws → (set : Setting) (before also_before : Before) (net next also_next : Net) (e : Happens) (xs ys rest others : List LineRecord)
    → EventGives set before net e xs next → EventGives set also_before net e ys also_next → told_job (xs ++ rest) ≡ told_job (ys ++ others) → AreOne xs ys rest others next also_next
event_lines_one laws set before also_before net next also_next e xs ys rest others gives gave same =
    let a = gives.told in
    let b = gave.told in
    let line : Came → LineRecord = λ c. Event (record { event = e; result = c }) in
    let told_first : Came → LineRecord = λ c. Event (record { event = told_event e; result = told_came c }) in
    let cut : told_first (came set net e a) ∷ told_job rest ≡ told_first (came set net e b) ∷ told_job others =
    ap (λ (ls : List LineRecord). told_job (ls ++ rest)) (sym gives.lines_are) ∙ same ∙ ap (λ (ls : List LineRecord). told_job (ls ++ others)) gave.lines_are in
    let results = came_of_told (told_event e) (told_event e) (told_came (came set net e a)) (told_came (came set net e b))
    (heads (told_first (came set net e a)) (told_first (came set net e b)) (told_job rest) (told_job others) cut) in
    let one = event_one laws set before also_before net e a b
    (record { received = gives.received; replies = gives.replies; tells = gives.notes; usim = gives.usim })
    (record { received = gave.received; replies = gave.replies; tells = gave.notes; usim = gave.usim }) results in
    record {
      lines_are = gives.lines_are ∙ ap (λ (c : Came). line c ∷ []) one.same ∙ sym gave.lines_are;
      nets_are = gives.leads ∙ one.leads ∙ sym gave.leads;
      rests_are = tails (told_first (came set net e a)) (told_first (came set net e b)) (told_job rest) (told_job others) cut;
    }

-- deliveries until one makes no packet: whether one does is told
relay_one : Laws → (set : Setting) (before also_before : Before) (net next also_next : Net) (session : ℕ) (at' : End) (o : Option ℕ) (xs ys rest others : List LineRecord)
    → RelayGives set before net session at' o xs next → RelayGives set also_before net session at' o ys also_next → told_job (xs ++ rest) ≡ told_job (ys ++ others)
    → AreOne xs ys rest others next also_next
relay_one laws set before also_before net next also_next session at' None [] [] rest others gives gave same =
    record { lines_are = refl; nets_are = gives ∙ sym gave; rests_are = same }
relay_one laws set before also_before net next also_next session at' None [] (y ∷ ys) rest others gives gave same = absurd gave
relay_one laws set before also_before net next also_next session at' None (x ∷ xs) ys rest others gives gave same = absurd gives
relay_one laws set before also_before net next also_next session at' (Some packet) [] ys rest others gives gave same = absurd gives
relay_one laws set before also_before net next also_next session at' (Some packet) (x ∷ xs) [] rest others gives gave same = absurd gave
relay_one laws set before also_before net next also_next session at' (Some packet) (x ∷ xs) (y ∷ ys) rest others (mid, first, more) (also_mid, also_first, also_more) same =
    let one = event_lines_one laws set before also_before net mid also_mid (event.Deliver session at' packet) (x ∷ []) (y ∷ []) (xs ++ rest) (ys ++ others) first also_first same in
    let lines : x ≡ y = heads x y [] [] one.lines_are in
    let gave = subst (λ (l : LineRecord). RelayGives set (behind also_before (y ∷ [])) mid session (other at') (packet_of l) ys also_next) (sym lines)
    (subst (λ (w : Net). RelayGives set (behind also_before (y ∷ [])) w session (other at') (packet_of y) ys also_next) (sym one.nets_are) also_more) in
    let all = relay_one laws set (behind before (x ∷ [])) (behind also_before (y ∷ [])) mid next also_next session (other at') (packet_of x) xs ys rest others more gave one.rests_are in
    record { lines_are = conses x y xs ys lines all.lines_are; nets_are = all.nets_are; rests_are = all.rests_are }

plain_one : Laws → (set : Setting) (before also_before : Before) (net next also_next : Net) (session : ℕ) (xs ys rest others : List LineRecord)
    → PlainGives set before net session xs next → PlainGives set also_before net session ys also_next → told_job (xs ++ rest) ≡ told_job (ys ++ others) → AreOne xs ys rest others next also_next
plain_one laws set before also_before net next also_next session [] ys rest others gives gave same = absurd gives
plain_one laws set before also_before net next also_next session (x ∷ xs) [] rest others gives gave same = absurd gave
plain_one laws set before also_before net next also_next session (x ∷ xs) (y ∷ ys) rest others (mid, first, more) (also_mid, also_first, also_more) same =
    let one = event_lines_one laws set before also_before net mid also_mid (event.Start session) (x ∷ []) (y ∷ []) (xs ++ rest) (ys ++ others) first also_first same in
    let lines : x ≡ y = heads x y [] [] one.lines_are in
    let gave = subst (λ (l : LineRecord). RelayGives set (behind also_before (y ∷ [])) mid session end.Peer (packet_of l) ys also_next) (sym lines)
    (subst (λ (w : Net). RelayGives set (behind also_before (y ∷ [])) w session end.Peer (packet_of y) ys also_next) (sym one.nets_are) also_more) in
    let all = relay_one laws set (behind before (x ∷ [])) (behind also_before (y ∷ [])) mid next also_next session end.Peer (packet_of x) xs ys rest others more gave one.rests_are in
    record { lines_are = conses x y xs ys lines all.lines_are; nets_are = all.nets_are; rests_are = all.rests_are }

-- ---- lines of a job

-- lines without an event leave the network as it is
quiet_one : (net next also_next : Net) (xs ys rest others : List LineRecord) → xs ≡ ys → next ≡ net → also_next ≡ net → told_job (xs ++ rest) ≡ told_job (ys ++ others)
    → AreOne xs ys rest others next also_next
quiet_one net next also_next xs ys rest others lines is was same =
    record { lines_are = lines; nets_are = is ∙ sym was; rests_are = same_rest xs ys rest others lines same }

line_one : Laws → (set : Setting) (before also_before : Before) (net next also_next : Net) (l : Line) (xs ys rest others : List LineRecord)
    → LineGives set before net l xs next → LineGives set also_before net l ys also_next → told_job (xs ++ rest) ≡ told_job (ys ++ others) → AreOne xs ys rest others next also_next
line_one laws set before also_before net next also_next (line.Draw sub count) xs ys rest others (gives, is) (gave, was) same =
    quiet_one net next also_next xs ys rest others (draw_one set sub count xs ys rest others gives gave same) is was same
line_one laws set before also_before net next also_next (line.Sync sub report count) xs ys rest others (gives, is) (gave, was) same =
    quiet_one net next also_next xs ys rest others (sync_one set sub report count xs ys rest others gives gave same) is was same
line_one laws set before also_before net next also_next (line.Give sub n) xs ys rest others (gives, is) (gave, was) same =
    quiet_one net next also_next xs ys rest others
    (answered_one sub n (λ answer. []) xs ys rest others gives.answer gave.answer gives.lines_are gave.lines_are same) is was same
line_one laws set before also_before net next also_next (line.Eps sub snid) xs ys rest others (gives, is) (gave, was) same =
    quiet_one net next also_next xs ys rest others (eps_one set sub snid xs ys rest others gives gave same) is was same
line_one laws set before also_before net next also_next (line.Fiveg l) xs ys rest others (gives, is) (gave, was) same =
    quiet_one net next also_next xs ys rest others (fiveg_one set before also_before l xs ys rest others gives gave same) is was same
line_one laws set before also_before net next also_next (line.Sites l) xs ys rest others (gives, is) (gave, was) same =
    quiet_one net next also_next xs ys rest others (sites_one set l xs ys rest others gives gave same) is was same
line_one laws set before also_before net next also_next (line.Sim l) xs ys rest others (gives, is) (gave, was) same =
    quiet_one net next also_next xs ys rest others (sim_one laws.runs set l xs ys rest others gives gave same) is was same
line_one laws set before also_before net next also_next (line.Session opening) xs ys rest others gives gave same =
    event_lines_one laws set before also_before net next also_next (event.Open opening) xs ys rest others gives gave same
line_one laws set before also_before net next also_next (line.Start session) xs ys rest others gives gave same =
    event_lines_one laws set before also_before net next also_next (event.Start session) xs ys rest others gives gave same
line_one laws set before also_before net next also_next (line.Deliver session at' packet) xs ys rest others gives gave same =
    event_lines_one laws set before also_before net next also_next (event.Deliver session at' packet) xs ys rest others gives gave same
line_one laws set before also_before net next also_next (line.Repeat session) xs ys rest others gives gave same =
    event_lines_one laws set before also_before net next also_next (event.Repeat session) xs ys rest others gives gave same
line_one laws set before also_before net next also_next (line.GiveUp session at') xs ys rest others gives gave same =
    event_lines_one laws set before also_before net next also_next (event.GiveUp session at') xs ys rest others gives gave same
line_one laws set before also_before net next also_next (line.Tamper packet place byte) xs ys rest others gives gave same =
    event_lines_one laws set before also_before net next also_next (event.Tamper packet place byte) xs ys rest others gives gave same
line_one laws set before also_before net next also_next (line.Cut packet count) xs ys rest others gives gave same =
    event_lines_one laws set before also_before net next also_next (event.Cut packet count) xs ys rest others gives gave same
line_one laws set before also_before net next also_next (line.Plain session) xs ys rest others gives gave same =
    plain_one laws set before also_before net next also_next session xs ys rest others gives gave same

-- a job
job_one : Laws → (set : Setting) (before also_before : Before) (net last also_last : Net) (job : List Line) (xs ys : List LineRecord)
    → JobGives set before net job xs last → JobGives set also_before net job ys also_last → told_job xs ≡ told_job ys → (xs ≡ ys) × (last ≡ also_last)
job_one laws set before also_before net last also_last [] xs ys (none, is) (nothing, was) same = (none ∙ sym nothing, is ∙ sym was)
job_one laws set before also_before net last also_last (l ∷ job) xs ys (front, rest, next, cut, gives, more) (also_front, also_rest, also_next, also_cut, gave, also_more) same =
    let one = line_one laws set before also_before net next also_next l front also_front rest also_rest gives gave (ap told_job (sym cut) ∙ same ∙ ap told_job also_cut) in
    let gave_more = subst (λ (w : Net). JobGives set (behind also_before also_front) w job also_rest also_last) (sym one.nets_are) also_more in
    let all = job_one laws set (behind before front) (behind also_before also_front) next last also_last job rest also_rest more gave_more one.rests_are in
    (cut ∙ ap (λ (ls : List LineRecord). ls ++ rest) one.lines_are ∙ ap (λ (ls : List LineRecord). also_front ++ ls) all.0 ∙ sym also_cut, all.1)

-- the front of a job, whatever follows
pub front_one : Laws → (set : Setting) (before also_before : Before) (net mid also_mid : Net) (front : List Line) (xs ys rest others : List LineRecord)
    → JobGives set before net front xs mid → JobGives set also_before net front ys also_mid → told_job (xs ++ rest) ≡ told_job (ys ++ others) → mid ≡ also_mid
front_one laws set before also_before net mid also_mid [] xs ys rest others (none, is) (nothing, was) same = is ∙ sym was
front_one laws set before also_before net mid also_mid (l ∷ front) xs ys rest others (lines, more_lines, next, cut, gives, more) (also_lines, also_more_lines, also_next, also_cut, gave, also_more) same =
    let parts : xs ++ rest ≡ lines ++ (more_lines ++ rest) = ap (λ (ls : List LineRecord). ls ++ rest) cut ∙ append_assoc lines more_lines rest in
    let also_parts : ys ++ others ≡ also_lines ++ (also_more_lines ++ others) = ap (λ (ls : List LineRecord). ls ++ others) also_cut ∙ append_assoc also_lines also_more_lines others in
    let one = line_one laws set before also_before net next also_next l lines also_lines (more_lines ++ rest) (also_more_lines ++ others) gives gave
    (ap told_job (sym parts) ∙ same ∙ ap told_job also_parts) in
    front_one laws set (behind before lines) (behind also_before also_lines) next mid also_mid front more_lines also_more_lines rest others more
    (subst (λ (w : Net). JobGives set (behind also_before also_lines) w front also_more_lines also_mid) (sym one.nets_are) also_more) one.rests_are

-- the jobs of a round
pub jobs_one : Laws → (set : Setting) (early also_early : List LineRecord) (kept : List Kept) (beside also_beside : List LineRecord) (jobs : List (List Line)) (xs ys : List (List LineRecord)) (nets also_nets : List Net)
    → JobsGive set early kept beside jobs xs nets → JobsGive set also_early kept also_beside jobs ys also_nets → map told_job xs ≡ map told_job ys → (xs ≡ ys) × (nets ≡ also_nets)
jobs_one laws set early also_early kept beside also_beside [] xs ys nets also_nets (none, is) (nothing, was) same = (none ∙ sym nothing, is ∙ sym was)
jobs_one laws set early also_early kept beside also_beside (job ∷ jobs) [] ys nets also_nets gives gave same = absurd gives
jobs_one laws set early also_early kept beside also_beside (job ∷ jobs) (x ∷ xs) ys [] also_nets gives gave same = absurd gives
jobs_one laws set early also_early kept beside also_beside (job ∷ jobs) (x ∷ xs) [] (net ∷ nets) also_nets gives gave same = absurd gave
jobs_one laws set early also_early kept beside also_beside (job ∷ jobs) (x ∷ xs) (y ∷ ys) (net ∷ nets) [] gives gave same = absurd gave
jobs_one laws set early also_early kept beside also_beside (job ∷ jobs) (x ∷ xs) (y ∷ ys) (net ∷ nets) (also_net ∷ also_nets) (first, more) (also_first, also_more) same =
    let one = job_one laws set (record { early = early; beside = beside; own = [] }) (record { early = also_early; beside = also_beside; own = [] }) (start_of set kept job) net also_net job x y first also_first
    (heads (told_job x) (told_job y) (map told_job xs) (map told_job ys) same) in
    let all = jobs_one laws set early also_early kept (beside ++ x) (also_beside ++ y) jobs xs ys nets also_nets more also_more (tails (told_job x) (told_job y) (map told_job xs) (map told_job ys) same) in
    (conses x y xs ys one.0 all.0, conses net also_net nets also_nets one.1 all.1)

-- ---- parts

one_round : (a b : ℕ) (c d : List (List LineRecord)) (e f : List Closing) (g h : List SessionVerdict) (i j : Premise) → a ≡ b → c ≡ d → e ≡ f → g ≡ h → i ≡ j
    → ◌≡◌ {A = RoundRecord} (record { number = a; jobs = c; closings = e; sessions = g; premise = i }) (record { number = b; jobs = d; closings = f; sessions = h; premise = j })
one_round a b c d e f g h i j p q r s t = cc

-- all of a round is told but its jobs
round_one : (a b : RoundRecord) → a.jobs ≡ b.jobs → told_round a ≡ told_round b → a ≡ b
round_one a b jobs same =
    one_round a.number b.number a.jobs b.jobs a.closings b.closings a.sessions b.sessions a.premise b.premise
    (ap (λ (r : RoundRecord). r.number) same) jobs (ap (λ (r : RoundRecord). r.closings) same) (ap (λ (r : RoundRecord). r.sessions) same) (ap (λ (r : RoundRecord). r.premise) same)

rounds_told : (a b : RoundRecord) → record_of.Round a ≡ record_of.Round b → a ≡ b
rounds_told a b e = cc

parts_one : Laws → (set : Setting) (stop also_stop : Option Stop) (at also_at : Course) (parts : List Part) (xs ys : List PartRecord) (end also_end : Course)
    → at.kept ≡ also_at.kept → Leads set stop at parts xs end → Leads set also_stop also_at parts ys also_end → told xs ≡ told ys → xs ≡ ys
parts_one laws set stop also_stop at also_at [] xs ys end also_end kept (none, is) (nothing, was) same = none ∙ sym nothing
parts_one laws set stop also_stop at also_at (p ∷ parts) [] ys end also_end kept leads led same = absurd leads
parts_one laws set stop also_stop at also_at (p ∷ parts) (x ∷ xs) [] end also_end kept leads led same = absurd led
parts_one laws set stop also_stop at also_at (part.Round jobs ∷ parts) (record_of.Round a ∷ xs) (record_of.Round b ∷ ys) end also_end kept (next, serves, rest) (also_next, served, also_rest) same =
    let rounds = rounds_told (told_round a) (told_round b) (heads (told_part (record_of.Round a)) (told_part (record_of.Round b)) (told xs) (told ys) same) in
    let given = subst (λ (k : List Kept). JobsGive set also_at.early k [] jobs b.jobs served.lawful.nets) (sym kept) served.lawful.given in
    let one = jobs_one laws set at.early also_at.early at.kept [] [] jobs a.jobs b.jobs serves.lawful.nets served.lawful.nets serves.lawful.given given
    (ap (λ (r : RoundRecord). r.jobs) rounds) in
    let later : next.kept ≡ also_next.kept =
    ap (λ (c : Course). c.kept) serves.leads ∙ ap (λ (k : List Kept). kept_by_jobs k serves.lawful.nets) kept ∙ ap (kept_by_jobs also_at.kept) one.1
    ∙ sym (ap (λ (c : Course). c.kept) served.leads) in
    conses (record_of.Round a) (record_of.Round b) xs ys (ap record_of.Round (round_one a b one.0 rounds))
    (parts_one laws set stop also_stop next also_next parts xs ys end also_end later rest also_rest (tails (told_part (record_of.Round a)) (told_part (record_of.Round b)) (told xs) (told ys) same))
parts_one laws set stop also_stop at also_at (part.Round jobs ∷ parts) (record_of.Round a ∷ xs) (record_of.Restart ∷ ys) end also_end kept leads (also_next, served, also_rest) same = absurd served
parts_one laws set stop also_stop at also_at (part.Round jobs ∷ parts) (record_of.Restart ∷ xs) (y ∷ ys) end also_end kept (next, serves, rest) led same = absurd serves
parts_one laws set stop also_stop at also_at (part.Restart ∷ parts) (record_of.Round a ∷ xs) (y ∷ ys) end also_end kept (next, serves, rest) led same = absurd serves
parts_one laws set stop also_stop at also_at (part.Restart ∷ parts) (record_of.Restart ∷ xs) (record_of.Round b ∷ ys) end also_end kept leads (also_next, served, also_rest) same = absurd served
parts_one laws set stop also_stop at also_at (part.Restart ∷ parts) (record_of.Restart ∷ xs) (record_of.Restart ∷ ys) end also_end kept (next, serves, rest) (also_next, served, also_rest) same =
    let later : next.kept ≡ also_next.kept = ap (λ (c : Course). c.kept) serves.leads ∙ kept ∙ sym (ap (λ (c : Course). c.kept) served.leads) in
    ap (λ (rs : List PartRecord). record_of.Restart ∷ rs)
    (parts_one laws set stop also_stop next also_next parts xs ys end also_end later rest also_rest (tails record_of.Restart record_of.Restart (told xs) (told ys) same))

-- the law
pub each_told_transcript_is_one : Laws → EachToldTranscriptIsOne
each_told_transcript_is_one laws set parts reserved others_reserved stop others_stop records others (end, leads) (also_end, led) same =
    parts_one laws set stop others_stop (beginning set.rows reserved) (beginning set.rows others_reserved) parts records others end also_end refl leads led same
