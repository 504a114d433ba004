-- A text tells what is told of its transcript.
use Rattle.std.proofs.Common.{ℕ, ◌+◌, ◌<◌, ◌≡◌, ◌≢◌, ◌∙◌, refl, sym, ap, subst, Bool, List, [], ◌∷◌, ◌++◌, length, map, flat_map, All, arith}
use Rattle.std.proofs.lemmas.List.{get_or-map, length-map}
use Rattle.std.specs.List.{AllPairs}
use Rattle.std.proofs.lemmas.List.Concat.{flat_map-append}
use Rattle.std.proofs.lemmas.List.Elements.{All-nil, All-cons, All-head, All-tail, All-append, All-map, recursion_from_All}
use Rattle.auc_memory.specs.Identity.{Identity, IsIdentity}
use Rattle.auc_subs.specs.Subscriber.{AreSubscribers}
use Rattle.auc_subs.specs.declared.row.Row.{Row}
use Rattle.auc_record.specs.Record.{IsBelow, PartNamesBelow, subscriber_of}
use Rattle.auc_subs.specs.Setting.{Setting}
use Rattle.auc_record.specs.Told.{told}
use Rattle.auc_record.specs.declared.record.Closing.{Closing}
use Rattle.auc_record.specs.declared.record.LineRecord.{LineRecord}
use Rattle.auc_record.specs.declared.record.PartRecord.{PartRecord}
use Rattle.auc_record.specs.declared.record.PartRecord.TheVariants.{Round, Restart}
use Rattle.auc_record.specs.declared.record.Premise.{Premise}
use Rattle.auc_record.specs.declared.record.Premise.TheVariants as premise
use Rattle.auc_record.specs.declared.record.RoundRecord.{RoundRecord}
use Rattle.auc_record.specs.declared.record.SessionVerdict.{SessionVerdict}
use Rattle.auc_print.specs.Text.{Line, RoundLine, JobLine, RecordLine, ClosedLine, SessionLine, HeldLine, BrokenLine, RestartLine, end_lines, identities_of, job_lines, jobs_lines, line_text, part_lines, part_text, premise_lines, round_lines, transcript_text}
use Rattle.auc_print.specs.OneText.{AnswerFits, AreIdentities, IsPrintable, OneTranscript, PartFits}
use Rattle.auc_record.specs.Ends.{AreAtTheirEnds, IsAtItsEnd, PartIsAtItsEnds}
use Rattle.auc_print.proofs.LineLemmas.{LineAt, LineFits, lines_injective}
use Rattle.auc_print.proofs.RoundLemmas.{parts_injective, told_lines}

-- the text of parts is the text of their lines
text_of_lines : (set : Setting) (full : Bool) (records : List PartRecord)
    → transcript_text set full records ≡ flat_map (line_text set full) (flat_map part_lines records)
text_of_lines set full [] = refl
text_of_lines set full (part ∷ records) =
    ap (λ rest. part_text set full part ++ rest) (text_of_lines set full records)
    ∙ sym (flat_map-append (line_text set full) (part_lines part) (flat_map part_lines records))

-- what holds of each record, of each closing and of the other lines holds of each line of a round
record LineRule (P : Line → Type 0) (Q : LineRecord → Type 0) (R : Closing → Type 0) : Type 0 where
  record_line : (job : List LineRecord) (answer : LineRecord) → Q answer → P (RecordLine job answer)
  closed_line : (closing : Closing) → R closing → P (ClosedLine closing)
  round_line : (number : ℕ) → P (RoundLine number)
  job_line : (number : ℕ) → P (JobLine number)
  session_line : (verdict : SessionVerdict) → P (SessionLine verdict)
  premise_line : (p : Premise) → All P (premise_lines p)
  restart_line : P RestartLine

jobs_all : (P : Line → Type 0) (Q : LineRecord → Type 0) (R : Closing → Type 0) (number : ℕ) (jobs : List (List LineRecord)) → LineRule P Q R
    → All (All Q) jobs → All P (jobs_lines number jobs)
jobs_all P Q R number [] rule all = All-nil P
jobs_all P Q R number (job ∷ jobs) rule all =
    let here : All Q job = All-head (All Q) job jobs all in
    All-append P (job_lines number job) (jobs_lines (number + 1) jobs)
    (All-cons P (JobLine number) (map (RecordLine job) job) (rule.job_line number)
    (All-map P (RecordLine job) job (λ k d lt. rule.record_line job _ (here k d lt))))
    (jobs_all P Q R (number + 1) jobs rule (All-tail (All Q) job jobs all))

round_all : (P : Line → Type 0) (Q : LineRecord → Type 0) (R : Closing → Type 0) (round : RoundRecord) → LineRule P Q R → All (All Q) round.jobs
    → All R round.closings → All P (round_lines round)
round_all P Q R round rule jobs closings =
    All-cons P (RoundLine round.number) (jobs_lines 1 round.jobs ++ end_lines round) (rule.round_line round.number)
    (All-append P (jobs_lines 1 round.jobs) (end_lines round) (jobs_all P Q R 1 round.jobs rule jobs)
    (All-append P (map ClosedLine round.closings) (map SessionLine round.sessions ++ premise_lines round.premise)
    (All-map P ClosedLine round.closings (λ k d lt. rule.closed_line _ (closings k d lt)))
    (All-append P (map SessionLine round.sessions) (premise_lines round.premise)
    (All-map P SessionLine round.sessions (λ k d lt. rule.session_line _)) (rule.premise_line round.premise))))

-- ---- values that fit

premise_fits : (identities : List Identity) (p : Premise) → All (LineFits identities) (premise_lines p)
premise_fits identities premise.NoSession = All-nil (LineFits identities)
premise_fits identities premise.Held = All-cons (LineFits identities) HeldLine [] tt (All-nil (LineFits identities))
premise_fits identities (premise.Broken job breach) = All-cons (LineFits identities) (BrokenLine job breach) [] tt (All-nil (LineFits identities))

-- a record that may be printed
abbrev IsPrinted : List Identity → LineRecord → Type 0
IsPrinted identities answer = IsBelow (length identities) (subscriber_of answer) × AnswerFits answer

fit_rule : (identities : List Identity) → LineRule (LineFits identities) (IsPrinted identities) (λ closing. closing.sub < length identities)
fit_rule identities = record {
  record_line = λ job answer is. is;
  closed_line = λ closing is. is;
  round_line = λ number. tt;
  job_line = λ number. tt;
  session_line = λ verdict. tt;
  premise_line = λ p. premise_fits identities p;
  restart_line = tt;
}

part_fits : (identities : List Identity) (part : PartRecord) → PartNamesBelow (length identities) part → PartFits part
    → All (LineFits identities) (part_lines part)
part_fits identities (Round round) named fits =
    round_all (LineFits identities) (IsPrinted identities) (λ closing. closing.sub < length identities) round (fit_rule identities)
    (λ k d lt i x inside. (named.jobs k d lt i x inside, fits k d lt i x inside)) named.closings
part_fits identities Restart named fits = All-cons (LineFits identities) RestartLine [] tt (All-nil (LineFits identities))

-- the lines of printable parts fit
parts_fit : (identities : List Identity) (records : List PartRecord) → All (PartNamesBelow (length identities)) records → All PartFits records
    → All (LineFits identities) (flat_map part_lines records)
parts_fit identities [] named fits = All-nil (LineFits identities)
parts_fit identities (part ∷ records) named fits =
    All-append (LineFits identities) (part_lines part) (flat_map part_lines records)
    (part_fits identities part (All-head (PartNamesBelow (length identities)) part records named) (All-head PartFits part records fits))
    (parts_fit identities records (All-tail (PartNamesBelow (length identities)) part records named) (All-tail PartFits part records fits))

-- the lines of a printable transcript fit
transcript_fits : (rows : List Row) (records : List PartRecord) → IsPrintable (length rows) records
    → All (LineFits (identities_of rows)) (flat_map part_lines records)
transcript_fits rows records p =
    parts_fit (identities_of rows) records
    (subst (λ count. All (PartNamesBelow count) records) (sym (length-map rows (λ (row : Row). row.imsi))) p.named) p.fit

-- ---- events at their ends

premise_at : (p : Premise) → All LineAt (premise_lines p)
premise_at premise.NoSession = All-nil LineAt
premise_at premise.Held = All-cons LineAt HeldLine [] tt (All-nil LineAt)
premise_at (premise.Broken job breach) = All-cons LineAt (BrokenLine job breach) [] tt (All-nil LineAt)

at_rule : LineRule LineAt IsAtItsEnd (λ closing. Unit {0})
at_rule = record {
  record_line = λ job answer is. is;
  closed_line = λ closing is. tt;
  round_line = λ number. tt;
  job_line = λ number. tt;
  session_line = λ verdict. tt;
  premise_line = premise_at;
  restart_line = tt;
}

part_at : (part : PartRecord) → PartIsAtItsEnds part → All LineAt (part_lines part)
part_at (Round round) is = round_all LineAt IsAtItsEnd (λ closing. Unit {0}) round at_rule is (λ k d lt. tt)
part_at Restart is = All-cons LineAt RestartLine [] tt (All-nil LineAt)

parts_at : (records : List PartRecord) → AreAtTheirEnds records → All LineAt (flat_map part_lines records)
parts_at [] are = All-nil LineAt
parts_at (part ∷ records) are =
    All-append LineAt (part_lines part) (flat_map part_lines records)
    (part_at part (All-head PartIsAtItsEnds part records are)) (parts_at records (All-tail PartIsAtItsEnds part records are))

-- ---- the law

-- two transcripts with the same text tell the same
pub one_transcript : OneTranscript
one_transcript set full records others are p x y e =
    let lines = lines_injective set full (flat_map part_lines records) (flat_map part_lines others) are
    (recursion_from_All (LineFits (identities_of set.rows)) (flat_map part_lines records) (transcript_fits set.rows records p))
    (recursion_from_All LineAt (flat_map part_lines records) (parts_at records x))
    (recursion_from_All LineAt (flat_map part_lines others) (parts_at others y))
    (sym (text_of_lines set full records) ∙ e ∙ text_of_lines set full others) in
    parts_injective (told records) (told others) (sym (told_lines records) ∙ lines ∙ told_lines others)

-- rows with different identities have identities of which no two are the same
rows_differ : (rows : List Row) → AllPairs (λ a b. a.imsi ≢ b.imsi) rows → AllPairs ◌≢◌ (identities_of rows)
rows_differ [] differ i j d before within same = absurd (omega arith)
rows_differ (row ∷ rows) differ i j d before within same =
    let second : j < length (row ∷ rows) = omega (arith, length-map rows (λ (r : Row). r.imsi)) in
    let first : i < length (row ∷ rows) = omega arith in
    differ i j row before second
    (sym (get_or-map (λ r. r.imsi) (row ∷ rows) i row d first) ∙ same ∙ get_or-map (λ r. r.imsi) (row ∷ rows) j row d second)

-- no two subscribers have the same identity; this is the premise of the law on texts
pub are_identities : (rows : List Row) → AreSubscribers rows → AreIdentities (identities_of rows)
are_identities rows are = record {
  each = All-map (λ identity. IsIdentity identity.digits identity.number) (λ row. row.imsi) rows (λ k d within. (are.each k d within).identity);
  differ = rows_differ rows are.differ;
}
