-- For the transcript: a lawful one names subscribers alone.
use Rattle.std.proofs.Common.{◌≡◌, ℕ, ◌+◌, ◌<◌, Bool, true, false, List, [], ◌∷◌, length, All, Option, ap, arith}
use Rattle.std.specs.Prelude.{◌==◌, if◌then◌else◌}
use Rattle.std.proofs.lemmas.List.Elements.{All-nil, All-cons, All-head, All-tail, All-append, All-same}
use Rattle.auc_history.specs.History.{drawn, skipped}
use Rattle.auc_history.specs.Split.{all_entries}
use Rattle.auc_memory.specs.declared.stop.Stop.{Stop}
use Rattle.auc_jobs.specs.Serving.{AreAllKnown}
use Rattle.auc_lines.specs.declared.part.Line.{Line}
use Rattle.auc_lines.specs.declared.part.Part.{Part}
use Rattle.auc_lines.specs.declared.part.Part.TheVariants.{Round, Restart}
use Rattle.auc_record.specs.Entries.{entries_of_jobs}
use Rattle.auc_subs.specs.Setting.{Setting}
use Rattle.auc_world.specs.Start.{Kept}
use Rattle.auc_record.specs.Lines.{numbers_of, withheld_of, all_lines}
use Rattle.auc_world.specs.Round.{IsLawfulRound, closing_of, closings_from}
use Rattle.auc_world.proofs.Facts.{length-opened}
use Rattle.auc_record.proofs.Facts.{length-reopened}
use Rattle.auc_world.specs.Transcript.{Course, Leads, ServesPart, stop_before}
use Rattle.auc_record.specs.Record.{NamesBelow, PartNamesBelow}
use Rattle.auc_record.specs.declared.record.Closing.{Closing}
use Rattle.auc_record.specs.declared.record.LineRecord.{LineRecord}
use Rattle.auc_record.specs.declared.record.PartRecord.{PartRecord}
use Rattle.auc_record.specs.declared.record.PartRecord.TheVariants as record_of
use Rattle.auc_record.specs.declared.record.RoundRecord.{RoundRecord}
use Rattle.auc_run.specs.Inner.{IsKnownPart}
use Rattle.auc_run.proofs.NameLemmas.{jobs_named}

-- ---- closings

-- a closing names one of so many subscribers
abbrev IsNamedIn : ℕ → Closing → Type 0
IsNamedIn count closing = closing.sub < count

-- the closing of a subscriber
closing_named : (count sub opening closing : ℕ) (jobs : List (List LineRecord)) → sub < count → All (IsNamedIn count) (closing_of sub opening closing jobs)
closing_named count sub opening closing jobs inside = cases (opening == closing)
  where
    one : Closing
    one = record {
      sub = sub;
      first = opening;
      last = closing;
      drawn = length (drawn (all_entries (entries_of_jobs sub [] jobs)));
      skipped = skipped (all_entries (entries_of_jobs sub [] jobs));
      released = length (numbers_of sub (all_lines jobs));
      withheld = length (withheld_of sub (all_lines jobs));
    }

    cases : (stood : Bool) → All (IsNamedIn count) (if stood then [] else one ∷ [])
    cases true = All-nil (IsNamedIn count)
    cases false = All-cons (IsNamedIn count) one [] inside (All-nil (IsNamedIn count))

-- and all closings
closings_named : (count sub : ℕ) (openings words : List ℕ) (jobs : List (List LineRecord)) → sub + length openings ≡ count
    → All (IsNamedIn count) (closings_from sub openings words jobs)
closings_named count sub [] words jobs all = All-nil (IsNamedIn count)
closings_named count sub (opening ∷ openings) [] jobs all = All-nil (IsNamedIn count)
closings_named count sub (opening ∷ openings) (word ∷ words) jobs all =
    All-append (IsNamedIn count) (closing_of sub opening word jobs) (closings_from (sub + 1) openings words jobs)
    (closing_named count sub opening word jobs (omega (arith, all)))
    (closings_named count (sub + 1) openings words jobs (omega (arith, all)))

-- ---- rounds

-- a lawful round
pub round_named : (set : Setting) (stop : Option Stop) (early : List LineRecord) (kept : List Kept) (openings : List ℕ) (jobs : List (List Line)) (round : RoundRecord) (words : List ℕ)
    → length openings ≡ length set.rows → AreAllKnown set.rows jobs → IsLawfulRound set stop early kept openings jobs round words
    → NamesBelow (length set.rows) round
round_named set stop early kept openings jobs round words count known lawful = record {
  jobs = jobs_named set early kept [] jobs round.jobs lawful.nets known lawful.given;
  closings = All-same (IsNamedIn (length set.rows)) round.closings (closings_from 0 openings words round.jobs) lawful.closings
      (closings_named (length set.rows) 0 openings words round.jobs (omega (arith, count)));
}

-- a part of a lawful transcript
part_named : (set : Setting) (stop : Option Stop) (at : Course) (part : Part) (made : PartRecord) (next : Course) → length at.openings ≡ length set.rows
    → IsKnownPart set.rows part → ServesPart set stop at part made next → PartNamesBelow (length set.rows) made
part_named set stop at (Round jobs) (record_of.Round round) next count known serves =
    round_named set stop at.early at.kept at.openings jobs round serves.words count known.known serves.lawful
part_named set stop at (Round jobs) record_of.Restart next count known serves = absurd serves
part_named set stop at Restart (record_of.Round round) next count known serves = absurd serves
part_named set stop at Restart record_of.Restart next count known serves = tt

-- the next part has as many openings
part_follows : (set : Setting) (stop : Option Stop) (at : Course) (part : Part) (made : PartRecord) (next : Course) → length at.openings ≡ length set.rows
    → ServesPart set stop at part made next → length next.openings ≡ length set.rows
part_follows set stop at (Round jobs) (record_of.Round round) next count serves =
    let kept = length-reopened set.rows serves.words in
    let opens = ap (λ (c : Course). length c.openings) serves.leads in
    omega (arith, kept, opens)
part_follows set stop at (Round jobs) record_of.Restart next count serves = absurd serves
part_follows set stop at Restart (record_of.Round round) next count serves = absurd serves
part_follows set stop at Restart record_of.Restart next count serves =
    let opens = ap (λ (c : Course). length c.openings) serves.leads in
    let many = length-opened set.rows serves.limits in
    omega (arith, opens, many)

-- the parts of a lawful transcript
pub parts_named : (set : Setting) (stop : Option Stop) (at : Course) (parts : List Part) (records : List PartRecord) (end : Course)
    → length at.openings ≡ length set.rows → All (IsKnownPart set.rows) parts → Leads set stop at parts records end
    → All (PartNamesBelow (length set.rows)) records
parts_named set stop at [] records end count known (none, same) =
    All-same (PartNamesBelow (length set.rows)) records [] none (All-nil (PartNamesBelow (length set.rows)))
parts_named set stop at (part ∷ parts) [] end count known leads = absurd leads
parts_named set stop at (part ∷ parts) (first ∷ records) end count known (next, serves, rest) =
    All-cons (PartNamesBelow (length set.rows)) first records
    (part_named set (stop_before stop records) at part first next count (All-head (IsKnownPart set.rows) part parts known) serves)
    (parts_named set stop next parts records end (part_follows set (stop_before stop records) at part first next count serves)
    (All-tail (IsKnownPart set.rows) part parts known) rest)
