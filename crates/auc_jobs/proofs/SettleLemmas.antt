-- For a job: its lines with its own USIMs, after its worker's earlier lines.
use Rattle.std.proofs.Common.{◌≡◌, ℕ, ◌<◌, ◌≤◌, true, List, [], ◌∷◌, ◌++◌, length, refl, sym, ◌∙◌, ap, subst, append-nil}
use Rattle.std.specs.Prelude.{Option, Some, None, All}
use Rattle.std.proofs.lemmas.List.Elements.{All-append, All-nil}
use Rattle.auc_memory.specs.declared.stop.Stop.{Stop}
use Rattle.auc_history.specs.declared.entry.Entry.{Entry}
use Rattle.auc_lines.specs.declared.part.Line.{Line}
use Rattle.auc_lines.specs.declared.part.Line.TheVariants as line
use Rattle.auc_lines.specs.Part.{holds}
use Rattle.auc_sqn.specs.Past.{Remembers}
use Rattle.auc_subs.specs.Subscriber.{top_at}
use Rattle.auc_subs.specs.declared.row.Row.{Row}
use Rattle.auc_usim.specs.Usim.{Memory}
use Rattle.auc_record.specs.declared.record.LineRecord.{LineRecord}
use Rattle.auc_record.specs.declared.record.LineRecord.TheVariants.{Event as Happening}
use Rattle.auc_world.specs.Given.{Before, behind, past_of, LineGives, JobGives}
use Rattle.auc_record.specs.Lines.{accepted}
use Rattle.auc_subs.specs.Setting.{Setting}
use Rattle.auc_world.proofs.Facts.{accepted-append, job_quiet}
use Rattle.auc_record.specs.Released.{Released}
use Rattle.auc_vector.specs.declared.notes.NumberNote.{NumberNote}
use Rattle.auc_vector.specs.declared.notes.NumberNote.TheVariants as number
use Rattle.auc_record.specs.Event.{Came, asked_in, number_in, number_with}
use Rattle.auc_world.specs.Net.{Net}
use Rattle.auc_world.specs.Sessions.{job_sessions}
use Rattle.auc_world.specs.Start.{Kept, start_of}
use Rattle.auc_record.specs.declared.event.Event.{Event}
use Rattle.auc_record.specs.declared.event.Event.TheVariants as event
use Rattle.auc_record.specs.declared.record.JobSessions.{JobSessions}
use Rattle.auc_record.specs.Record.{further_subscriber}
use Rattle.auc_record.specs.Vectors.{IsReleasableLine, IsReleasableNumber}
use Rattle.auc_jobs.specs.Serving.{IsKnownLine}
use Rattle.auc_jobs.specs.Usims.{HaveSecrets, AreOfRows}
use Rattle.auc_jobs.specs.InnerRound.{JobBegins, ServesJob, left_in, left_on}
use Rattle.auc_jobs.specs.InnerServing.{before_at, JobStands, ServesLines}
use Rattle.auc_jobs.specs.InnerUsims.{OwnDevices, has_usim, usim_in, AreCopies}
use Rattle.auc_jobs.proofs.EventLemmas.{IsOwnAnswer, IsOwnNumber, event_lines, plain_lines}
use Rattle.auc_jobs.proofs.CopyLemmas.{copies_found, copies_keyed}
use Rattle.auc_jobs.proofs.RequestLemmas.{AreSo, draw_lines, eps_lines, fiveg_lines, give_lines, sim_lines, sites_lines, sync_lines}

-- ---- before the job

-- copies have the rows' secrets
pub copies_secrets : (rows : List Row) (usims : List Memory) (job : List Line) (own : ℕ → Option Memory) → AreOfRows rows usims → AreCopies usims job own → HaveSecrets rows own
copies_secrets rows usims job own are copies sub row usim at there = are.secrets sub row usim at ((copies_found usims job own sub usim copies there).1)

-- what a USIM accepted by lines before a job, of which those of the round accepted nothing
quiet_before : (bits sub : ℕ) (early beside : List LineRecord) → accepted bits sub beside ≡ [] → accepted bits sub ((early ++ beside) ++ []) ≡ accepted bits sub early
quiet_before bits sub early beside quiet =
    ap (accepted bits sub) (append-nil (early ++ beside)) ∙ accepted-append bits sub early beside ∙ ap (λ (sqns : List (List ℕ)). accepted bits sub early ++ sqns) quiet ∙ append-nil (accepted bits sub early)

-- so its copies remember what all lines before it say
pub begins_stands : (rows : List Row) (early beside : List LineRecord) (kept : ℕ → Option ℕ) (released : Released) (usims : List Memory) (job : List Line) (own : ℕ → Option Memory)
    → AreCopies usims job own → JobBegins rows early beside kept released usims job → JobStands rows (before_at early beside []) kept released own
begins_stands rows early beside kept released usims job own copies begins = record {
  told = λ sub. rw (append-nil beside) (begins.told sub);
  earlier = begins.earlier;
  numbers = (begins.numbers, λ sub. All-nil (λ n. n ≤ top_at rows sub));
  pasts = λ sub row usim at there.
      let found = copies_found usims job own sub usim copies there in
      subst (λ (sqns : List (List ℕ)). Remembers usim.array (past_of row.bits row.usim sqns)) (sym (quiet_before row.bits sub early beside (begins.quiet row.bits sub found.0)))
      (begins.pasts sub row usim at found.1);
}

-- ---- after the job

-- what a USIM accepted by the lines of a job, without those beside it
quiet_beside : (bits sub : ℕ) (early beside lines : List LineRecord) → accepted bits sub beside ≡ [] → accepted bits sub ((early ++ beside) ++ lines) ≡ accepted bits sub (early ++ lines)
quiet_beside bits sub early beside lines quiet =
    accepted-append bits sub (early ++ beside) lines
    ∙ ap (λ (sqns : List (List ℕ)). sqns ++ accepted bits sub lines)
    (accepted-append bits sub early beside ∙ ap (λ (sqns : List (List ℕ)). accepted bits sub early ++ sqns) quiet ∙ append-nil (accepted bits sub early))
    ∙ sym (accepted-append bits sub early lines)

-- a USIM that is there is among those of its job
given_there : (job : List Line) (own : ℕ → Option Memory) (sub : ℕ) (usim : Memory) → has_usim own sub ≡ holds sub job → own sub ≡ Some usim → holds sub job ≡ true
given_there job own sub usim keyed there = sym keyed ∙ rw there refl

-- the job's lines and its own USIMs
pub job_settles : (goes : ℕ → List Entry → List (ℕ × Stop) → Type 0) (set : Setting) (early beside : List LineRecord) (old kept : ℕ → Option ℕ) (released : Released) (usims : List Memory) (stores : List Kept)
    (job : List Line) (lines : List LineRecord) (copies : ℕ → Option Memory) (own : OwnDevices) → length usims ≡ length set.rows → All (IsKnownLine set.rows) job → AreCopies usims job copies
    → ((sub : ℕ) → has_usim (usim_in own) sub ≡ has_usim copies sub) → HaveSecrets set.rows (usim_in own) → JobBegins set.rows early beside old released usims job
    → (net : Net) (sessions : JobSessions) → sessions ≡ job_sessions net → left_on own ≡ left_in net
    → ServesLines goes set early beside kept released (usim_in own) (start_of set stores job) job lines net → ServesJob goes set early beside kept stores job lines own sessions
job_settles goes set early beside old kept released usims stores job lines copies own size known are same secrets begins net sessions ends left s = record {
  net = net;
  given = s.given;
  ends = ends;
  left = left;
  made = s.made;
  told = s.stands.told;
  settled = record {
    keyed = keyed;
    secrets = secrets;
    behind = λ sub row usim at there.
        subst (λ (sqns : List (List ℕ)). Remembers usim.array (past_of row.bits row.usim sqns))
        (quiet_beside row.bits sub early beside lines (begins.quiet row.bits sub (given_there job (usim_in own) sub usim (keyed sub) there))) (s.stands.pasts sub row usim at there);
    quiet = λ bits sub other. job_quiet set (before_at early beside []) stores job bits sub lines net s.given other;
  };
}
  where
    keyed : (sub : ℕ) → has_usim (usim_in own) sub ≡ holds sub job
    keyed sub = same sub ∙ copies_keyed set.rows usims job copies sub size known are

-- ---- the vectors that a job's lines release

-- those of a subscriber's requests
requests_releasable : (set : Setting) (sub : ℕ) → AreSo set sub (IsReleasableLine set)
requests_releasable set sub = record {
  number = λ note is. is;
  sync = λ note. tt;
  give = λ n answer. tt;
  further = λ said. none (further_subscriber said);
}
  where
    none : (s : Option ℕ) → IsReleasableNumber set (number_with s None)
    none None = tt
    none (Some s) = tt

-- those of a line
event_releasable : (set : Setting) (e : Event) (c : Came) → IsOwnAnswer set.rows (asked_in c) (number_in c) → IsReleasableLine set (Happening (record { event = e; result = c }))
event_releasable set e c own = by (asked_in c) (number_in c) own
  where
    of_number : (s : ℕ) (o : Option NumberNote) → s < length set.rows → IsOwnNumber (top_at set.rows s) o → IsReleasableNumber set (number_with (Some s) o)
    of_number s None known is = tt
    of_number s (Some (number.Drew n)) known is = record { known = known; first = is.0; last = is.1 }
    of_number s (Some (number.Exhausted word)) known is = tt
    of_number s (Some (number.Withheld n stop)) known is = tt

    by : (a : Option ℕ) (o : Option NumberNote) → IsOwnAnswer set.rows a o → IsReleasableNumber set (number_with a o)
    by None o own = tt
    by (Some s) o own = of_number s o own.0 own.1

line_releasable : (set : Setting) (before : Before) (net next : Net) (l : Line) (lines : List LineRecord) → LineGives set before net l lines next → All (IsReleasableLine set) lines
line_releasable set before net next (line.Session opened) lines gives = event_lines set (IsReleasableLine set) (event_releasable set) before net next (event.Open opened) lines gives
line_releasable set before net next (line.Start session) lines gives = event_lines set (IsReleasableLine set) (event_releasable set) before net next (event.Start session) lines gives
line_releasable set before net next (line.Deliver session at' packet) lines gives = event_lines set (IsReleasableLine set) (event_releasable set) before net next (event.Deliver session at' packet) lines gives
line_releasable set before net next (line.Repeat session) lines gives = event_lines set (IsReleasableLine set) (event_releasable set) before net next (event.Repeat session) lines gives
line_releasable set before net next (line.GiveUp session at') lines gives = event_lines set (IsReleasableLine set) (event_releasable set) before net next (event.GiveUp session at') lines gives
line_releasable set before net next (line.Plain session) lines gives = plain_lines set (IsReleasableLine set) (event_releasable set) before net next session lines gives
line_releasable set before net next (line.Tamper packet place byte) lines gives = event_lines set (IsReleasableLine set) (event_releasable set) before net next (event.Tamper packet place byte) lines gives
line_releasable set before net next (line.Cut packet count) lines gives = event_lines set (IsReleasableLine set) (event_releasable set) before net next (event.Cut packet count) lines gives
line_releasable set before net next (line.Draw sub count) lines (gives, is) = draw_lines set sub (IsReleasableLine set) (requests_releasable set sub) count lines gives
line_releasable set before net next (line.Sync sub report count) lines (gives, is) = sync_lines set sub (IsReleasableLine set) (requests_releasable set sub) report count lines gives
line_releasable set before net next (line.Give sub n) lines (gives, is) = give_lines set sub (IsReleasableLine set) (requests_releasable set sub) before n lines gives
line_releasable set before net next (line.Eps sub snid) lines (gives, is) = eps_lines set sub (IsReleasableLine set) (requests_releasable set sub) snid lines gives
line_releasable set before net next (line.Fiveg fiveg) lines (gives, is) = fiveg_lines set fiveg (IsReleasableLine set) (requests_releasable set fiveg.sub) before lines gives
line_releasable set before net next (line.Sites sites) lines (gives, is) = sites_lines set sites (IsReleasableLine set) (requests_releasable set sites.sub) lines gives
line_releasable set before net next (line.Sim sim) lines (gives, is) = sim_lines set sim (IsReleasableLine set) (requests_releasable set sim.sub) lines gives

-- those of a job
pub job_releasable : (set : Setting) (before : Before) (net last : Net) (job : List Line) (lines : List LineRecord) → JobGives set before net job lines last → All (IsReleasableLine set) lines
job_releasable set before net last [] lines (gives, is) = subst (All (IsReleasableLine set)) (sym gives) (All-nil (IsReleasableLine set))
job_releasable set before net last (l ∷ job) lines (front, rest, next, is, first, more) =
    subst (All (IsReleasableLine set)) (sym is) (All-append (IsReleasableLine set) front rest (line_releasable set before net next l front first) (job_releasable set (behind before front) next last job rest more))
