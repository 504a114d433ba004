-- For the laws: the transcript of a run is lawful.
use Rattle.std.proofs.Common.{◌≡◌, ℕ, ◌≤◌, List, [], ◌∷◌, length, map, refl, sym, ◌∙◌, ap, subst, append-nil, arith}
use Rattle.std.specs.Prelude.{All, None, min, slice_index}
use Rattle.std.proofs.lemmas.List.{length-map}
use Rattle.std.proofs.lemmas.List.Elements.{All-head, All-tail}
use Rattle.auc_core.specs.Step.{CoreState}
use Rattle.auc_memory.specs.declared.stop.Stop.{Stop}
use Rattle.auc_history.proofs.Facts.{cut_history_is_a_split}
use Rattle.auc_history.specs.History.{IsLegal}
use Rattle.auc_history.specs.Split.{Splits}
use Rattle.auc_history.specs.declared.entry.Entry.{Entry}
use Rattle.auc_lines.specs.declared.part.Line.{Line}
use Rattle.auc_sqn.specs.Number.{top_of}
use Rattle.auc_subs.specs.Subscriber.{IsRow, top_at, tops_of}
use Rattle.auc_subs.specs.declared.row.Row.{Row}
use Rattle.auc_subs.proofs.Facts.{length-tops_of, tops_within}
use Rattle.auc_vector.specs.Stretch.{IsStretch}
use Rattle.auc_record.proofs.Facts.{none_held}
use Rattle.auc_record.specs.Event.{Came}
use Rattle.auc_record.specs.Entries.{entries_of_lines}
use Rattle.auc_world.specs.Given.{JobGives}
use Rattle.auc_world.specs.Limits.{greater, opened}
use Rattle.auc_record.specs.Openings.{lesser}
use Rattle.auc_record.specs.Lines.{held_of, withheld_of}
use Rattle.auc_world.specs.Net.{Net}
use Rattle.auc_world.specs.Round.{IsLawfulRound, closings_from}
use Rattle.auc_world.specs.Sessions.{AreVerdicts, job_sessions, premise_from}
use Rattle.auc_subs.specs.Setting.{Setting}
use Rattle.auc_world.specs.Start.{start_of}
use Rattle.auc_world.specs.Transcript.{Course, after_round, beginning}
use Rattle.auc_world.specs.World.{WorldState}
use Rattle.auc_record.specs.declared.event.Event.{Event}
use Rattle.auc_record.specs.declared.record.LineRecord.{LineRecord}
use Rattle.auc_record.specs.declared.record.RoundRecord.{RoundRecord}
use Rattle.auc_record.specs.declared.record.SessionVerdict.{SessionVerdict}
use Rattle.auc_jobs.specs.InnerServing.{before_at}
use Rattle.auc_events.specs.Promises.{EachRunIsLawful, IsLawfulJob}
use Rattle.auc_events.specs.Run.{IsRun, all_fresh, event_records, first_core, first_words, job_records, job_with, line_for}
use Rattle.auc_events.proofs.HoldingLemmas.{absent, entries_absent, held_absent, holding_gives, holds_first}
use Rattle.auc_events.proofs.RunLemmas.{RunGives, run_gives}
use Rattle.auc_events.proofs.VerdictLemmas.{some_verdicts}
use Rattle.auc_events.proofs.WordLemmas.{AreLow}

-- nothing was reserved, so each subscriber is opened at its row's number, which is no mark
greater_none : (numbers : List ℕ) → greater numbers [] ≡ numbers
greater_none [] = refl
greater_none (n ∷ numbers) = ap (λ (ns : List ℕ). n ∷ ns) (greater_none numbers)

lesser_own : (rows : List Row) → All IsRow rows → lesser (tops_of rows) (first_words rows) ≡ first_words rows
lesser_own [] each = refl
lesser_own (row ∷ rows) each =
    let here : min (top_of row.bits) row.seq ≡ row.seq = least (top_of row.bits) row.seq (All-head IsRow row rows each).drawn in
    ap (λ (n : ℕ). n ∷ lesser (tops_of rows) (first_words rows)) here ∙ ap (λ (ns : List ℕ). row.seq ∷ ns) (lesser_own rows (All-tail IsRow row rows each))
  where
    least : (top n : ℕ) → n ≤ top → min top n ≡ n
    least top n within = omega (arith, within)

-- what a job gave from the rows' numbers on, and the centre after it
pub record Serves (set : Setting) (job : List Line) (lines : List LineRecord) (net : Net) (core : CoreState) : Type 0 where
  pub rows : All IsRow set.rows
  pub given : JobGives set (before_at [] [] []) (start_of set (all_fresh set.rows) job) job lines net
  pub made : (sub : ℕ) → IsStretch (first_core set.rows) sub (entries_of_lines sub [] lines) (held_of sub lines) core
  pub size : length core.words ≡ length (first_words set.rows)
  pub tops : core.tops ≡ tops_of set.rows
  pub low : AreLow core

-- the record of a round with this job alone
abbrev round_with : List ℕ → List LineRecord → Net → List ℕ → List SessionVerdict → RoundRecord
round_with begun lines net words verdicts = record {
  number = 1;
  jobs = lines ∷ [];
  closings = closings_from 0 begun words (lines ∷ []);
  sessions = verdicts;
  premise = premise_from 1 (job_sessions net ∷ []);
}

module _ (set : Setting) (job : List Line) (lines : List LineRecord) (net : Net) (core : CoreState) (s : Serves set job lines net core) where
  abbrev words : List ℕ
  words = core.words

  opens : opened set.rows [] ≡ first_words set.rows
  opens = ap (lesser (tops_of set.rows)) (greater_none (first_words set.rows)) ∙ lesser_own set.rows s.rows

  history : (sub : ℕ) → IsLegal (top_at set.rows sub) (slice_index (first_words set.rows) sub) (slice_index words sub) (entries_of_lines sub [] lines)
  history sub = (s.made sub).legal

  -- one list is a split of its history
  split : (sub : ℕ) → Splits (top_at set.rows sub) (slice_index (opened set.rows []) sub) (slice_index words sub) (entries_of_lines sub [] lines ∷ [])
  split sub =
      subst (λ (begun : List ℕ). Splits (top_at set.rows sub) (slice_index begun sub) (slice_index words sub) (entries_of_lines sub [] lines ∷ [])) (sym opens)
      (cut_history_is_a_split (top_at set.rows sub) (slice_index (first_words set.rows) sub) (slice_index words sub) (entries_of_lines sub [] lines ∷ [])
      (subst (IsLegal (top_at set.rows sub) (slice_index (first_words set.rows) sub) (slice_index words sub)) (sym (append-nil (entries_of_lines sub [] lines))) (history sub)))

  -- the round is lawful
  round_is : (verdicts : List SessionVerdict) → AreVerdicts (job_sessions net ∷ []) verdicts
      → IsLawfulRound set None [] (all_fresh set.rows) (opened set.rows []) (job ∷ []) (round_with (opened set.rows []) lines net words verdicts) words
  round_is verdicts are = record {
    sizes = s.size ∙ ap (λ (ns : List ℕ). length ns) (sym opens);
    fits = λ sub inside.
        let low = s.low sub in
        let same = ap (λ (tops : List ℕ). slice_index tops sub) s.tops in
        let size = s.size in
        let numbers = length-map set.rows (λ (row : Row). row.seq) in
        let tops = length-tops_of set.rows in
        let most = tops_within set.rows sub 0 (omega (arith, inside, size, numbers, tops)) in
        omega (arith, low, same, most);
    nets = net ∷ [];
    given = (s.given, (refl, refl));
    split = λ sub inside. split sub;
    closings = refl;
    withheld = λ sub. ap (withheld_of sub) (append-nil lines) ∙ none_held sub lines (s.made sub).nothing;
    sessions = are;
    premise = refl;
  }

  -- what the next round would go on from
  abbrev after : List SessionVerdict → Course
  after verdicts = after_round set.rows (beginning set.rows []) (round_with (opened set.rows []) lines net words verdicts) words (net ∷ [])

  pub job_is_lawful : (round : RoundRecord) × IsLawfulJob set job lines net words round
  unfolding round_is
  job_is_lawful = by (some_verdicts net)
    where
      by : (verdicts : List SessionVerdict) × AreVerdicts (job_sessions net ∷ []) verdicts → (round : RoundRecord) × IsLawfulJob set job lines net words round
      by (verdicts, are) = (
        round_with (opened set.rows []) lines net words verdicts,
        record {
          jobs = refl;
          lawful = (after verdicts, (after verdicts, record { numbered = refl; words = words; lawful = round_is verdicts are; leads = refl }, (refl, refl)));
          nets = ((s.given, (refl, refl)), (refl, refl));
          histories = λ sub inside. history sub;
        },
      )

-- a run serves its job
pub run_serves : (set : Setting) (subs : List ℕ) (events : List Event) (results : List Came) (last : WorldState) (core : CoreState) → IsRun set subs events results last core
    → Serves set (job_with subs events) (job_records subs events results) last.net core
run_serves set subs events results last core run = record {
  rows = run.subscribers.each;
  given = subst (λ (net : Net). JobGives set (before_at [] [] []) net (job_with subs events) (job_records subs events results) last.net) run.begins
      (holding_gives set [] subs run.first.net last.net (map line_for events) (event_records events results) run.known (λ sub. refl) gives.given);
  made = λ sub.
      subst (λ (es : List Entry). IsStretch (first_core set.rows) sub es (held_of sub (job_records subs events results)) core) (sym (entries_absent sub [] subs (event_records events results)))
      (subst (λ (ws : List (ℕ × Stop)). IsStretch (first_core set.rows) sub (entries_of_lines sub (absent subs) (event_records events results)) ws core) (sym (held_absent sub subs (event_records events results))) (gives.made sub));
  size = gives.size;
  tops = (gives.made 0).tops;
  low = gives.low;
}
  where
    gives : RunGives set (absent subs) run.first.net (first_core set.rows) events (event_records events results) last.net core
    gives = run_gives set (absent subs) run.first (first_core set.rows) events results last core run.subscribers run.leads
        (holds_first set subs run.first run.subscribers run.fresh (ap (λ (net : Net). net.sessions) run.begins))

pub each_run_is_lawful : EachRunIsLawful
each_run_is_lawful set subs events results last core run =
    job_is_lawful set (job_with subs events) (job_records subs events results) last.net core (run_serves set subs events results last core run)
