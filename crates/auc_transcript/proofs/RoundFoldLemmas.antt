-- For the laws of contexts: what holds of one subscriber's home and device, job by job and round by round. At most one job of a round
-- holds the subscriber; the others leave what is kept of it.
use Rattle.std.proofs.Common.{◌≡◌, ℕ, ◌<◌, Bool, true, false, List, [], ◌∷◌, ◌++◌, length, flat_map, All, AllPairs, Some, refl, sym, ap, ◌∙◌, subst, arith, append_assoc, append-nil}
use Rattle.std.proofs.lemmas.List.{length-map}
use Rattle.std.proofs.lemmas.List.Elements.{All-head, All-tail}
use Rattle.auc_history.proofs.Facts.{AllPairs-head, AllPairs-tail}
use Rattle.auc_lines.specs.Part.{AreApart, held_subs, holds}
use Rattle.auc_lines.specs.declared.part.Line.{Line}
use Rattle.auc_lines.specs.declared.part.Part.{Part}
use Rattle.auc_lines.specs.declared.part.Part.TheVariants as part
use Rattle.auc_server.specs.Ordinals.{home_at, home_place}
use Rattle.auc_subs.specs.Setting.{Setting}
use Rattle.auc_server.specs.declared.setting.HomeRow.{HomeRow}
use Rattle.auc_world.specs.Given.{Before, JobGives, JobsGive}
use Rattle.auc_record.specs.Lines.{all_lines}
use Rattle.auc_world.specs.Net.{Net, keeps_at}
use Rattle.auc_world.specs.Start.{Kept, kept_by_jobs, kept_now, kept_of, kept_with, start_of}
use Rattle.auc_world.specs.Transcript.{lines_of}
use Rattle.auc_world.specs.declared.net.Session.{Session}
use Rattle.auc_record.specs.declared.record.LineRecord.{LineRecord}
use Rattle.auc_record.specs.declared.record.PartRecord.{PartRecord}
use Rattle.auc_record.specs.declared.record.PartRecord.TheVariants as record_of
use Rattle.auc_transcript.specs.Counters.{all_sessions}
use Rattle.auc_transcript.specs.Keys.{AreHeldApart, AreNetsAfter, IsHeldApart}
use Rattle.auc_transcript.proofs.DeviceEventLemmas.{Stays, event_stays}
use Rattle.auc_transcript.proofs.JobFoldLemmas.{job_keeps}
use Rattle.auc_transcript.proofs.PutBackLemmas.{home_among, homes_of, kept_by_place, length-put_back, not_held, place_among, put_idle, put_is, stores_begin}

-- ---- a job

pub then_stays : (a b c : Net) → Stays a b → Stays b c → Stays a c
then_stays a b c first more = record { devices = more.devices ∙ first.devices; subs = more.subs ∙ first.subs; stores = more.stores ∙ first.stores }

-- the homes and devices of a job stay those of the same subscribers
pub job_stays : (set : Setting) (place : Before) (start last : Net) (job : List Line) (lines : List LineRecord) → JobGives set place start job lines last → Stays start last
job_stays set place start last job lines gives =
    job_keeps set (λ b w. Stays start w) (λ b w more is. is)
    (λ b w next e more here is. then_stays start w next is (subst (Stays w) (sym here.leads) (event_stays set w e here.told))) place start last job lines gives
    (record { devices = refl; subs = refl; stores = refl })

module _ (set : Setting) (kept : List Kept) (job : List Line) (net : Net) (sub : ℕ) (is : Stays (start_of set kept job) net) where
  -- after a job a subscriber's home is at its place among those whose USIMs the job holds
  pub home_after : home_place net.homes sub ≡ place_among sub (held_subs job)
  home_after = home_among net.homes sub ∙ ap (place_among sub) (is.subs ∙ homes_of kept (held_subs job))

  -- a job that doesn't hold the subscriber leaves what is kept of it
  pub kept_idle : (all : List Kept) → holds sub job ≡ false → kept_of (kept_with all net) sub ≡ kept_of all sub
  kept_idle all none = put_idle all net.homes net.stores sub (home_after ∙ not_held sub job none)

  -- what its home and its device have is kept after a job that does
  pub kept_busy : (all : List Kept) (place : ℕ) → All (λ s. s < length set.rows) (held_subs job) → place_among sub (held_subs job) ≡ Some place → sub < length all
      → kept_of (kept_with all net) sub ≡ kept_now (home_at net.homes place) (keeps_at net place)
  kept_busy all place known there inside =
      let began = stores_begin set kept (held_subs job) known in
      let stores = is.stores in
      let count = length-map net.homes (λ (home : HomeRow). home.sub) in
      let subs = ap length (is.subs ∙ homes_of kept (held_subs job)) in
      put_is all net.homes net.stores sub (omega (arith, began, stores, count, subs)) inside ∙ ap (kept_by_place all net.homes net.stores sub) (home_after ∙ there)

-- ---- the jobs of a round

-- the sessions of some jobs
abbrev pub sessions_of : List Net → List Session
sessions_of nets = flat_map (λ (net : Net). net.sessions) nets

-- lines stand at the front of others
abbrev pub StandInFront : List LineRecord → List LineRecord → Type 0
StandInFront total lines = (rest : List LineRecord) × (total ≡ lines ++ rest)

length-kept : (kept : List Kept) (nets : List Net) → length (kept_by_jobs kept nets) ≡ length kept
length-kept kept [] = refl
length-kept kept (net ∷ nets) = length-kept (kept_with kept net) nets ∙ length-put_back kept net.homes net.stores

lines_join : (early beside lines more : List LineRecord) → (early ++ (beside ++ lines)) ++ more ≡ (early ++ beside) ++ (lines ++ more)
lines_join early beside lines more = ap (λ (l : List LineRecord). l ++ more) (sym (append_assoc early beside lines)) ∙ append_assoc (early ++ beside) lines more

-- a subscriber whose USIM a job holds has a row
abbrev pub IsKnownJob : Setting → List Line → Type 0
IsKnownJob set job = (sub : ℕ) → holds sub job ≡ true → sub < length set.rows

-- what holds of a subscriber after some lines, with what is kept of it and the sessions so far: a job that doesn't hold it keeps it
-- with what is kept, and a job that does keeps it with what its home and its device have then
module _ (set : Setting) (sub : ℕ) (total : List LineRecord) (State : List LineRecord → Kept → List Session → Type 0)
    (idle : (early : List LineRecord) (kept : List Kept) (beside : List LineRecord) (job : List Line) (lines : List LineRecord) (net : Net) (k : Kept) (sessions : List Session)
    → JobGives set (record { early = early; beside = beside; own = [] }) (start_of set kept job) job lines net → IsKnownJob set job → holds sub job ≡ false
    → State (early ++ beside) k sessions → State ((early ++ beside) ++ lines) k (sessions ++ net.sessions))
    (busy : (early : List LineRecord) (kept : List Kept) (beside : List LineRecord) (job : List Line) (lines : List LineRecord) (net : Net) (all : List Kept) (sessions : List Session)
    → JobGives set (record { early = early; beside = beside; own = [] }) (start_of set kept job) job lines net → IsKnownJob set job → holds sub job ≡ true
    → StandInFront total ((early ++ beside) ++ lines) → length all ≡ length set.rows
    → State (early ++ beside) (kept_of kept sub) sessions → State ((early ++ beside) ++ lines) (kept_of (kept_with all net) sub) (sessions ++ net.sessions)) where
  none_more : (lines : List LineRecord) (all : List Kept) (sessions : List Session) (records : List (List LineRecord)) (nets : List Net) → records ≡ [] → nets ≡ [] → State lines (kept_of all sub) sessions
      → State (lines ++ all_lines records) (kept_of (kept_by_jobs all nets) sub) (sessions ++ sessions_of nets)
  none_more lines all sessions records nets none is st =
      subst (λ (rs : List (List LineRecord)). State (lines ++ all_lines rs) (kept_of (kept_by_jobs all nets) sub) (sessions ++ sessions_of nets)) (sym none)
      (subst (λ (ns : List Net). State (lines ++ []) (kept_of (kept_by_jobs all ns) sub) (sessions ++ sessions_of ns)) (sym is)
      (subst (λ (l : List LineRecord). State l (kept_of all sub) (sessions ++ [])) (sym (append-nil lines)) (subst (State lines (kept_of all sub)) (sym (append-nil sessions)) st)))

  -- after one job, and those that follow it
  one_more : (early beside lines : List LineRecord) (k : Kept) (sessions : List Session) (net : Net) (records : List (List LineRecord)) (nets : List Net)
      → State ((early ++ (beside ++ lines)) ++ all_lines records) k ((sessions ++ net.sessions) ++ sessions_of nets)
      → State ((early ++ beside) ++ (lines ++ all_lines records)) k (sessions ++ (net.sessions ++ sessions_of nets))
  one_more early beside lines k sessions net records nets st =
      subst (λ (l : List LineRecord). State l k (sessions ++ (net.sessions ++ sessions_of nets))) (lines_join early beside lines (all_lines records))
      (subst (State ((early ++ (beside ++ lines)) ++ all_lines records) k) (append_assoc sessions net.sessions (sessions_of nets)) st)

  -- jobs that don't hold the subscriber
  jobs_idle : (early : List LineRecord) (kept : List Kept) (beside : List LineRecord) (jobs : List (List Line)) (records : List (List LineRecord)) (nets : List Net) (all : List Kept) (sessions : List Session)
      → JobsGive set early kept beside jobs records nets → All (IsKnownJob set) jobs → All (λ job. holds sub job ≡ false) jobs → State (early ++ beside) (kept_of all sub) sessions
      → State ((early ++ beside) ++ all_lines records) (kept_of (kept_by_jobs all nets) sub) (sessions ++ sessions_of nets)
  jobs_idle early kept beside [] records nets all sessions (none, is) known free st = none_more (early ++ beside) all sessions records nets none is st
  jobs_idle early kept beside (job ∷ jobs) [] nets all sessions gives known free st = absurd gives
  jobs_idle early kept beside (job ∷ jobs) (lines ∷ records) [] all sessions gives known free st = absurd gives
  jobs_idle early kept beside (job ∷ jobs) (lines ∷ records) (net ∷ nets) all sessions (gives, more) known free st =
      let unheld = All-head (λ (j : List Line). holds sub j ≡ false) job jobs free in
      let here = idle early kept beside job lines net (kept_of all sub) sessions gives (All-head (IsKnownJob set) job jobs known) unheld st in
      let stays = job_stays set (record { early = early; beside = beside; own = [] }) (start_of set kept job) net job lines gives in
      one_more early beside lines (kept_of (kept_by_jobs (kept_with all net) nets) sub) sessions net records nets
      (jobs_idle early kept (beside ++ lines) jobs records nets (kept_with all net) (sessions ++ net.sessions) more (All-tail (IsKnownJob set) job jobs known)
      (All-tail (λ (j : List Line). holds sub j ≡ false) job jobs free)
      (subst (λ (k : Kept). State (early ++ (beside ++ lines)) k (sessions ++ net.sessions)) (sym (kept_idle set kept job net sub stays all unheld))
      (subst (λ (l : List LineRecord). State l (kept_of all sub) (sessions ++ net.sessions)) (append_assoc early beside lines) here)))

  -- the jobs of a round, of which at most one holds it
  jobs_fold : (early : List LineRecord) (kept : List Kept) (beside : List LineRecord) (jobs : List (List Line)) (records : List (List LineRecord)) (nets : List Net) (all : List Kept) (sessions : List Session)
      → JobsGive set early kept beside jobs records nets → All (IsKnownJob set) jobs → AllPairs AreApart jobs → StandInFront total ((early ++ beside) ++ all_lines records)
      → length all ≡ length set.rows → kept_of all sub ≡ kept_of kept sub → State (early ++ beside) (kept_of all sub) sessions
      → State ((early ++ beside) ++ all_lines records) (kept_of (kept_by_jobs all nets) sub) (sessions ++ sessions_of nets)
  jobs_fold early kept beside [] records nets all sessions (none, is) known apart front size same st = none_more (early ++ beside) all sessions records nets none is st
  jobs_fold early kept beside (job ∷ jobs) [] nets all sessions gives known apart front size same st = absurd gives
  jobs_fold early kept beside (job ∷ jobs) (lines ∷ records) [] all sessions gives known apart front size same st = absurd gives
  jobs_fold early kept beside (job ∷ jobs) (lines ∷ records) (net ∷ nets) all sessions (gives, more) known apart (rest, cut) size same st =
      one_more early beside lines (kept_of (kept_by_jobs (kept_with all net) nets) sub) sessions net records nets
      (by (λ alike here. jobs_fold early kept (beside ++ lines) jobs records nets (kept_with all net) (sessions ++ net.sessions) more others (AllPairs-tail AreApart job jobs apart) whole
      (length-put_back all net.homes net.stores ∙ size) alike here) (holds sub job) refl)
    where
      stays : Stays (start_of set kept job) net
      stays = job_stays set (record { early = early; beside = beside; own = [] }) (start_of set kept job) net job lines gives

      own : IsKnownJob set job
      own = All-head (IsKnownJob set) job jobs known

      others : All (IsKnownJob set) jobs
      others = All-tail (IsKnownJob set) job jobs known

      whole : StandInFront total ((early ++ (beside ++ lines)) ++ all_lines records)
      whole = (rest, cut ∙ ap (λ (l : List LineRecord). l ++ rest) (sym (lines_join early beside lines (all_lines records))))

      first : StandInFront total ((early ++ beside) ++ lines)
      first = (
        all_lines records ++ rest,
        cut ∙ ap (λ (l : List LineRecord). l ++ rest) (sym (append_assoc (early ++ beside) lines (all_lines records))) ∙ append_assoc ((early ++ beside) ++ lines) (all_lines records) rest,
      )

      further : (k : Kept) → State ((early ++ beside) ++ lines) k (sessions ++ net.sessions) → State (early ++ (beside ++ lines)) k (sessions ++ net.sessions)
      further k here = subst (λ (l : List LineRecord). State l k (sessions ++ net.sessions)) (append_assoc early beside lines) here

      by : (kept_of (kept_with all net) sub ≡ kept_of kept sub → State (early ++ (beside ++ lines)) (kept_of (kept_with all net) sub) (sessions ++ net.sessions)
          → State ((early ++ (beside ++ lines)) ++ all_lines records) (kept_of (kept_by_jobs (kept_with all net) nets) sub) ((sessions ++ net.sessions) ++ sessions_of nets))
          → (b : Bool) → holds sub job ≡ b
          → State ((early ++ (beside ++ lines)) ++ all_lines records) (kept_of (kept_by_jobs (kept_with all net) nets) sub) ((sessions ++ net.sessions) ++ sessions_of nets)
      by again true held =
          let was = subst (λ (k : Kept). State (early ++ beside) k sessions) same st in
          let here = busy early kept beside job lines net all sessions gives own held first size was in
          jobs_idle early kept (beside ++ lines) jobs records nets (kept_with all net) (sessions ++ net.sessions) more others
          (λ k d inside. AllPairs-head AreApart job jobs apart k d inside sub held) (further (kept_of (kept_with all net) sub) here)
      by again false free =
          let left = kept_idle set kept job net sub stays all free in
          let here = idle early kept beside job lines net (kept_of all sub) sessions gives own free st in
          again (left ∙ same)
          (subst (λ (k : Kept). State (early ++ (beside ++ lines)) k (sessions ++ net.sessions)) (sym left) (further (kept_of all sub) here))

  -- ---- the rounds

  pub rounds_fold : (early : List LineRecord) (kept : List Kept) (parts : List Part) (records : List PartRecord) (nets : List (List Net)) (sessions : List Session)
      → AreNetsAfter set early kept parts records nets → All (IsHeldApart (length set.rows)) parts → StandInFront total (early ++ lines_of records) → length kept ≡ length set.rows
      → State early (kept_of kept sub) sessions → (k : Kept) × State (early ++ lines_of records) k (sessions ++ all_sessions nets)
  rounds_fold early kept [] records nets sessions (none, is) held front size st = (
    kept_of kept sub,
    subst (λ (rs : List PartRecord). State (early ++ lines_of rs) (kept_of kept sub) (sessions ++ all_sessions nets)) (sym none)
        (subst (λ (ns : List (List Net)). State (early ++ []) (kept_of kept sub) (sessions ++ all_sessions ns)) (sym is)
        (subst (λ (l : List LineRecord). State l (kept_of kept sub) (sessions ++ [])) (sym (append-nil early)) (subst (State early (kept_of kept sub)) (sym (append-nil sessions)) st))),
  )
  rounds_fold early kept (part.Round jobs ∷ parts) [] nets sessions gives held front size st = absurd gives
  rounds_fold early kept (part.Round jobs ∷ parts) (record_of.Restart ∷ records) nets sessions gives held front size st = absurd gives
  rounds_fold early kept (part.Round jobs ∷ parts) (record_of.Round round ∷ records) [] sessions gives held front size st = absurd gives
  rounds_fold early kept (part.Round jobs ∷ parts) (record_of.Round round ∷ records) (first ∷ nets) sessions (gives, more) held (rest, cut) size st =
      let apart : AreHeldApart (length set.rows) jobs = All-head (IsHeldApart (length set.rows)) (part.Round jobs) parts held in
      let lines = all_lines round.jobs in
      let join = append_assoc early lines (lines_of records) in
      let whole : StandInFront total ((early ++ []) ++ lines) = (
        lines_of records ++ rest,
        cut ∙ ap (λ (l : List LineRecord). l ++ rest) (sym join) ∙ append_assoc (early ++ lines) (lines_of records) rest
            ∙ ap (λ (l : List LineRecord). (l ++ lines) ++ (lines_of records ++ rest)) (sym (append-nil early)),
      ) in
      let began = subst (λ (l : List LineRecord). State l (kept_of kept sub) sessions) (sym (append-nil early)) st in
      let here = jobs_fold early kept [] jobs round.jobs first kept sessions gives apart.known apart.apart whole size refl began in
      let after = subst (λ (l : List LineRecord). State (l ++ lines) (kept_of (kept_by_jobs kept first) sub) (sessions ++ sessions_of first)) (append-nil early) here in
      let (k, last) = rounds_fold (early ++ lines) (kept_by_jobs kept first) parts records nets (sessions ++ sessions_of first) more
      (All-tail (IsHeldApart (length set.rows)) (part.Round jobs) parts held) (rest, cut ∙ ap (λ (l : List LineRecord). l ++ rest) (sym join)) (length-kept kept first ∙ size) after in (
        k,
        subst (λ (l : List LineRecord). State l k (sessions ++ (sessions_of first ++ all_sessions nets))) join
            (subst (State ((early ++ lines) ++ lines_of records) k) (append_assoc sessions (sessions_of first) (all_sessions nets)) last),
      )
  rounds_fold early kept (part.Restart ∷ parts) [] nets sessions gives held front size st = absurd gives
  rounds_fold early kept (part.Restart ∷ parts) (record_of.Round round ∷ records) nets sessions gives held front size st = absurd gives
  rounds_fold early kept (part.Restart ∷ parts) (record_of.Restart ∷ records) nets sessions gives held front size st =
      rounds_fold early kept parts records nets sessions gives (All-tail (IsHeldApart (length set.rows)) part.Restart parts held) front size st
