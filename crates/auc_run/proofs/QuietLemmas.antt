-- For a service: the lines of a block rest on no line of an earlier round, and by them no USIM accepts anything.
use Rattle.std.proofs.Common.{◌≡◌, ℕ, ◌++◌, true, false, List, [], ◌∷◌, All, Option, refl, sym, ap, ◌∙◌, subst, inl, inr}
use Rattle.std.proofs.lemmas.Bool.{true≢false}
use Rattle.std.proofs.lemmas.List.Elements.{All-head, All-tail}
use Rattle.auc_memory.specs.declared.stop.Stop.{Stop}
use Rattle.auc_jobs.specs.State.{AcceptNothing}
use Rattle.auc_lines.specs.Part.{holds, is_held_by}
use Rattle.auc_lines.specs.declared.part.Line.{Line}
use Rattle.auc_lines.specs.declared.part.Line.TheVariants.{Draw, Sync, Give, Eps, Fiveg, Sites, Sim, Session, Start, Deliver, Repeat, GiveUp, Plain, Tamper, Cut}
use Rattle.auc_script.specs.Scenario.{may_stand_in_block}
use Rattle.auc_world.specs.Given.{Before, JobGives, JobsGive, LineGives, behind}
use Rattle.auc_record.specs.Lines.{accepted, all_lines}
use Rattle.auc_world.specs.Net.{Net}
use Rattle.auc_world.specs.Round.{IsLawfulRound}
use Rattle.auc_subs.specs.Setting.{Setting}
use Rattle.auc_world.specs.Start.{Kept, start_of}
use Rattle.auc_record.specs.declared.record.LineRecord.{LineRecord}
use Rattle.auc_record.specs.declared.record.RoundRecord.{RoundRecord}
use Rattle.auc_world.proofs.Facts.{accepted-append, job_quiet}
use Rattle.auc_run.specs.Inner.{AreEnough, AreQuiet}

-- a line that may stand in a block, and such lines
abbrev MayStand : Line → Type 0
MayStand line = may_stand_in_block line ≡ true

abbrev MayAllStand : List Line → Type 0
MayAllStand job = All MayStand job

-- ---- what such lines give

-- a line gives the same whatever came before
line_anyhow : (set : Setting) (before other : Before) (net next : Net) (l : Line) (lines : List LineRecord) → MayStand l → LineGives set before net l lines next → LineGives set other net l lines next
line_anyhow set before other net next (Draw sub count) lines quiet gives = gives
line_anyhow set before other net next (Sync sub report count) lines quiet gives = gives
line_anyhow set before other net next (Eps sub snid) lines quiet gives = gives
line_anyhow set before other net next (Sites line) lines quiet gives = gives
line_anyhow set before other net next (Sim line) lines quiet gives = gives
line_anyhow set before other net next (Give sub n) lines quiet gives = absurd (true≢false (sym quiet))
line_anyhow set before other net next (Fiveg line) lines quiet gives = absurd (true≢false (sym quiet))
line_anyhow set before other net next (Session line) lines quiet gives = absurd (true≢false (sym quiet))
line_anyhow set before other net next (Start session) lines quiet gives = absurd (true≢false (sym quiet))
line_anyhow set before other net next (Deliver session at' packet) lines quiet gives = absurd (true≢false (sym quiet))
line_anyhow set before other net next (Repeat session) lines quiet gives = absurd (true≢false (sym quiet))
line_anyhow set before other net next (GiveUp session at') lines quiet gives = absurd (true≢false (sym quiet))
line_anyhow set before other net next (Plain session) lines quiet gives = absurd (true≢false (sym quiet))
line_anyhow set before other net next (Tamper packet place byte) lines quiet gives = absurd (true≢false (sym quiet))
line_anyhow set before other net next (Cut packet count) lines quiet gives = absurd (true≢false (sym quiet))

-- so do the lines of a job
job_anyhow : (set : Setting) (before other : Before) (net last : Net) (job : List Line) (lines : List LineRecord) → MayAllStand job → JobGives set before net job lines last → JobGives set other net job lines last
job_anyhow set before other net last [] lines quiet gives = gives
job_anyhow set before other net last (l ∷ job) lines quiet (front, rest, next, is, first, more) = (
  front,
  rest,
  next,
  is,
  line_anyhow set before other net next l front (All-head MayStand l job quiet) first,
  job_anyhow set (behind before front) (behind other front) next last job rest (All-tail MayStand l job quiet) more,
)

-- and the jobs of a round
jobs_anyhow : (set : Setting) (known early : List LineRecord) (kept : List Kept) (beside : List LineRecord) (jobs : List (List Line)) (records : List (List LineRecord)) (nets : List Net) → AreQuiet jobs
    → JobsGive set known kept beside jobs records nets → JobsGive set early kept beside jobs records nets
jobs_anyhow set known early kept beside [] records nets quiet gives = gives
jobs_anyhow set known early kept beside (job ∷ jobs) [] nets quiet gives = absurd gives
jobs_anyhow set known early kept beside (job ∷ jobs) (lines ∷ records) [] quiet gives = absurd gives
jobs_anyhow set known early kept beside (job ∷ jobs) (lines ∷ records) (net ∷ nets) quiet (first, more) = (
  job_anyhow set (record { early = known; beside = beside; own = [] }) (record { early = early; beside = beside; own = [] }) (start_of set kept job) net job lines (All-head MayAllStand job jobs quiet) first,
  jobs_anyhow set known early kept (beside ++ lines) jobs records nets (All-tail MayAllStand job jobs quiet) more,
)

-- a round that is lawful after some lines is so after all earlier ones, with the same networks, if the former are all that its
-- jobs ask of the latter
pub lawful_after : (set : Setting) (stop : Option Stop) (known early : List LineRecord) (kept : List Kept) (openings : List ℕ) (jobs : List (List Line)) (round : RoundRecord) (words : List ℕ) → AreEnough jobs early known
    → (is : IsLawfulRound set stop known kept openings jobs round words) → (lawful : IsLawfulRound set stop early kept openings jobs round words) × (lawful.nets ≡ is.nets)
lawful_after set stop known early kept openings jobs round words (inl same) is =
    subst (λ (lines : List LineRecord). (lawful : IsLawfulRound set stop lines kept openings jobs round words) × (lawful.nets ≡ is.nets)) same (is, refl)
lawful_after set stop known early kept openings jobs round words (inr quiet) is = (
  record {
    sizes = is.sizes;
    fits = is.fits;
    nets = is.nets;
    given = jobs_anyhow set known early kept [] jobs round.jobs is.nets quiet is.given;
    split = is.split;
    closings = is.closings;
    withheld = is.withheld;
    sessions = is.sessions;
    premise = is.premise;
  },
  refl,
)

-- ---- what USIMs accept by them

-- a line holds no USIM, and neither does a job
line_holds_none : (sub : ℕ) (l : Line) → MayStand l → is_held_by sub l ≡ false
line_holds_none sub (Draw who count) quiet = refl
line_holds_none sub (Sync who report count) quiet = refl
line_holds_none sub (Eps who snid) quiet = refl
line_holds_none sub (Sites line) quiet = refl
line_holds_none sub (Sim line) quiet = refl
line_holds_none sub (Give who n) quiet = absurd (true≢false (sym quiet))
line_holds_none sub (Fiveg line) quiet = absurd (true≢false (sym quiet))
line_holds_none sub (Session line) quiet = absurd (true≢false (sym quiet))
line_holds_none sub (Start session) quiet = refl
line_holds_none sub (Deliver session at' packet) quiet = refl
line_holds_none sub (Repeat session) quiet = refl
line_holds_none sub (GiveUp session at') quiet = refl
line_holds_none sub (Plain session) quiet = refl
line_holds_none sub (Tamper packet place byte) quiet = refl
line_holds_none sub (Cut packet count) quiet = refl

job_holds_none : (sub : ℕ) (job : List Line) → MayAllStand job → holds sub job ≡ false
job_holds_none sub [] quiet = refl
job_holds_none sub (l ∷ job) quiet = rw (line_holds_none sub l (All-head MayStand l job quiet)) (job_holds_none sub job (All-tail MayStand l job quiet))

-- no USIM accepts anything by the jobs of a round
pub jobs_accept_nothing : (set : Setting) (early : List LineRecord) (kept : List Kept) (beside : List LineRecord) (jobs : List (List Line)) (records : List (List LineRecord)) (nets : List Net) → AreQuiet jobs
    → JobsGive set early kept beside jobs records nets → AcceptNothing (all_lines records)
jobs_accept_nothing set early kept beside [] records nets quiet (none, ends) = λ bits sub. ap (λ (rs : List (List LineRecord)). accepted bits sub (all_lines rs)) none
jobs_accept_nothing set early kept beside (job ∷ jobs) [] nets quiet gives = absurd gives
jobs_accept_nothing set early kept beside (job ∷ jobs) (lines ∷ records) [] quiet gives = absurd gives
jobs_accept_nothing set early kept beside (job ∷ jobs) (lines ∷ records) (net ∷ nets) quiet (first, more) = λ bits sub.
    accepted-append bits sub lines (all_lines records)
    ∙ ap (λ (sqns : List (List ℕ)). sqns ++ accepted bits sub (all_lines records))
    (job_quiet set (record { early = early; beside = beside; own = [] }) kept job bits sub lines net first (job_holds_none sub job (All-head MayAllStand job jobs quiet)))
    ∙ jobs_accept_nothing set early kept (beside ++ lines) jobs records nets (All-tail MayAllStand job jobs quiet) more bits sub
