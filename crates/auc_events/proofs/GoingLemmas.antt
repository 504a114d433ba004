-- For the laws: a run may go on.
use Rattle.std.proofs.Common.{◌≡◌, ℕ, ◌<◌, List, [], ◌∷◌, length, map, sym, ◌∙◌, ap, subst, arith}
use Rattle.std.specs.Prelude.{All, slice_index}
use Rattle.std.proofs.lemmas.List.{length-map}
use Rattle.std.proofs.lemmas.List.Elements.{All-append, All-cons, All-head, All-map, All-nil, All-tail, All-weaker}
use Rattle.auc_cards.proofs.Facts.{helds_known}
use Rattle.auc_core.specs.Step.{CoreState}
use Rattle.auc_jobs.proofs.Facts.{same_known}
use Rattle.auc_jobs.specs.Serving.{IsKnownLine}
use Rattle.auc_lines.specs.Part.{held_subs}
use Rattle.auc_lines.specs.declared.part.Line.TheVariants as line
use Rattle.auc_server.specs.Steps.{IsHome}
use Rattle.auc_server.specs.declared.setting.HomeRow.{HomeRow}
use Rattle.auc_subs.specs.declared.row.Row.{Row}
use Rattle.auc_record.specs.Event.{Came}
use Rattle.auc_world.specs.Net.{Net}
use Rattle.auc_subs.specs.Setting.{Setting}
use Rattle.auc_world.specs.Start.{home_of}
use Rattle.auc_world.specs.World.{IsKnownEvent, WorldState}
use Rattle.auc_record.specs.declared.event.Event.{Event}
use Rattle.auc_record.specs.declared.event.Event.TheVariants as event
use Rattle.auc_events.specs.Promises.{EachRunMayGoOn}
use Rattle.auc_events.specs.Run.{IsRun, LeadsTo, all_fresh, first_core, job_records, job_with, line_for, top_in}
use Rattle.auc_events.proofs.HoldingLemmas.{holding}
use Rattle.auc_events.proofs.LawfulLemmas.{Serves, run_serves}

-- ---- the lines of the job are known

pub event_known : (rows : List Row) (e : Event) → IsKnownEvent (length rows) e → IsKnownLine rows (line_for e)
event_known rows (event.Open opening) known = known
event_known rows (event.Start session) known = tt
event_known rows (event.Deliver session at' packet) known = tt
event_known rows (event.Repeat session) known = tt
event_known rows (event.GiveUp session at') known = tt
event_known rows (event.Tamper packet place byte) known = tt
event_known rows (event.Cut packet length) known = tt

events_known : (set : Setting) (world : WorldState) (core : CoreState) (events : List Event) (results : List Came) (last : WorldState) (end : CoreState) → LeadsTo set world core events results last end
    → All (IsKnownEvent (length set.rows)) events
events_known set world core [] results last end leads = All-nil (IsKnownEvent (length set.rows))
events_known set world core (e ∷ events) [] last end leads = absurd leads
events_known set world core (e ∷ events) (result ∷ results) last end (mid, next, step, more) =
    All-cons (IsKnownEvent (length set.rows)) e events step.known (events_known set mid next events results last end more)

holding_known : (rows : List Row) (subs : List ℕ) → All (λ sub. sub < length rows) subs → All (IsKnownLine rows) (holding subs)
holding_known rows [] known = All-nil (IsKnownLine rows)
holding_known rows (s ∷ subs) known =
    All-cons (IsKnownLine rows) (line.Give s 1) (holding subs) (All-head (λ (n : ℕ). n < length rows) s subs known, omega arith, omega arith)
    (holding_known rows subs (All-tail (λ (n : ℕ). n < length rows) s subs known))

pub job_known : (set : Setting) (subs : List ℕ) (events : List Event) (results : List Came) (last : WorldState) (core : CoreState) → IsRun set subs events results last core
    → All (IsKnownLine set.rows) (job_with subs events)
job_known set subs events results last core run =
    All-append (IsKnownLine set.rows) (holding subs) (map line_for events) (holding_known set.rows subs run.known)
    (All-map (IsKnownLine set.rows) line_for events
    (All-weaker (IsKnownEvent (length set.rows)) (λ (e : Event). IsKnownLine set.rows (line_for e)) (event_known set.rows) events
    (events_known set run.first (first_core set.rows) events results last core run.leads)))

-- ---- the homes

abbrev IsRowed : ℕ → HomeRow → Type 0
IsRowed count home = home.sub < count

homes_after : (set : Setting) (world : WorldState) (core : CoreState) (events : List Event) (results : List Came) (last : WorldState) (end : CoreState) → LeadsTo set world core events results last end
    → All (IsRowed (length set.rows)) world.net.homes → All (IsRowed (length set.rows)) last.net.homes
homes_after set world core [] results last end (none, same, is) known = subst (λ (w : WorldState). All (IsRowed (length set.rows)) w.net.homes) (sym same) known
homes_after set world core (e ∷ events) [] last end leads known = absurd leads
homes_after set world core (e ∷ events) (result ∷ results) last end (mid, next, step, more) known =
    homes_after set mid next events results last end more (same_known (length set.rows) world.net.homes mid.net.homes step.homes known)

pub each_run_may_go_on : EachRunMayGoOn
each_run_may_go_on set subs events results last core run =
    All-weaker (IsRowed (length set.rows)) (λ (h : HomeRow). IsHome set.rows (length core.words) (top_in core) h.sub)
    (λ (h : HomeRow) (low : IsRowed (length set.rows) h). record {
      listed = low;
      known = subst (λ (n : ℕ). h.sub < n) (sym size) low;
      greatest = ap (λ (tops : List ℕ). slice_index tops h.sub) serves.tops;
    })
    last.net.homes (homes_after set run.first (first_core set.rows) events results last core run.leads first)
  where
    serves : Serves set (job_with subs events) (job_records subs events results) last.net core
    serves = run_serves set subs events results last core run

    size : length core.words ≡ length set.rows
    size = serves.size ∙ length-map set.rows (λ (row : Row). row.seq)

    first : All (IsRowed (length set.rows)) run.first.net.homes
    first = subst (λ (net : Net). All (IsRowed (length set.rows)) net.homes) (sym run.begins)
        (All-map (IsRowed (length set.rows)) (home_of (all_fresh set.rows)) (held_subs (job_with subs events))
        (helds_known set.rows (job_with subs events) (job_known set subs events results last core run)))
