-- Inner facts: what only private contracts of this crate cite.
use Rattle.std.specs.Prelude.{◌≡◌, ◌≢◌, ℕ, ◌+◌, ◌*◌, ◌<◌, ◌≤◌, ◌^◌, ◌↔◌, ◌⊎◌, ◌∷◌, ◌++◌, max, true, false, AllPairs, All, Bool, List, [], length, map, slice_index, Option, Some, None, Result, Ok, Err, OnOk}
use Rattle.auc_compact.specs.Compact.{IsAnew, compact_image}
use Rattle.auc_memory.specs.Identity.{Identity}
use Rattle.auc_edge.specs.Shelf.{File}
use Rattle.auc_edge.specs.Sink.{Appends, AppendsFront}
use Rattle.auc_memory.specs.declared.no_memory.NoMemory.{NoMemory as NoMemoryError}
use Rattle.auc_memory.specs.declared.stop.Stop.{Stop}
use Rattle.auc_memory.specs.declared.stop.Stop.TheVariants.{Fault, Full}
use Rattle.auc_forms.specs.Algorithm.{algorithm_named}
use Rattle.auc_forms.specs.Reserved.{IsReservedText}
use Rattle.auc_forms.specs.declared.algorithm.AlgorithmForm.{AlgorithmForm}
use Rattle.auc_journal.specs.Durable.{IsDurable, IsTold}
use Rattle.auc_journal.specs.Image.{Frame, Keeps, Reading, read_image, reserved_in}
use Rattle.auc_journal.specs.Journal.{JournalState, imsi_at, limits_of}
use Rattle.auc_journal.specs.Limits.{AreLimits}
use Rattle.auc_journal.specs.Opening.{IsOpening}
use Rattle.auc_journal.specs.Settled.{IsClosable, LeavesOnly}
use Rattle.auc_load.specs.Words.{load_named}
use Rattle.auc_load.specs.declared.words.LoadWords.{LoadWords}
use Rattle.auc_jobs.specs.Round.{DrewFull}
use Rattle.auc_jobs.specs.Serving.{AreAllKnown}
use Rattle.auc_jobs.specs.State.{Standing, StandsAt}
use Rattle.auc_print.specs.OneText.{PartFits, RoundFits}
use Rattle.auc_print.specs.Text.{part_text, round_text, transcript_text}
use Rattle.auc_script.specs.Numbers.{most_jobs}
use Rattle.auc_script.specs.Scenario.{may_stand_in_block}
use Rattle.auc_lines.specs.Part.{AreApart}
use Rattle.auc_lines.specs.declared.part.Line.{Line}
use Rattle.auc_lines.specs.declared.part.Part.{Part}
use Rattle.auc_lines.specs.declared.part.Part.TheVariants.{Round, Restart}
use Rattle.auc_subs.specs.declared.row.Row.{Row}
use Rattle.auc_transcript.specs.Completeness.{EachPlainSessionAgrees, EachResumedSessionAgrees}
use Rattle.auc_transcript.specs.Counters.{EachTranscriptKeepsContexts}
use Rattle.auc_transcript.specs.Keys.{EachAuthenticationAgrees, EachBreachIsTold, EachTranscriptHasItsNets}
use Rattle.auc_transcript.specs.Leases.{EachLeasedNumberIsHandedOutOnce}
use Rattle.auc_transcript.specs.OneTold.{EachToldTranscriptIsOne}
use Rattle.auc_transcript.specs.Presented.{EachFailureInSessionsIsByPlace, EachPresentedVectorHasARightMac}
use Rattle.auc_transcript.specs.SimSessions.{EachSimSessionAgrees}
use Rattle.auc_transcript.specs.Systems.{EachHonestAuthenticationIsConfirmed}
use Rattle.auc_subs.specs.Setting.{Setting}
use Rattle.auc_world.specs.Limits.{Raises, least_step}
use Rattle.auc_record.specs.Lines.{all_lines, numbers_of}
use Rattle.auc_world.specs.Transcript.{Course, Leads, ServesPart, ServesRound}
use Rattle.auc_record.specs.declared.record.LineRecord.{LineRecord}
use Rattle.auc_record.specs.declared.record.PartRecord.{PartRecord}
use Rattle.auc_record.specs.declared.record.RoundRecord.{RoundRecord}
use Rattle.auc_input.specs.Opening.{IsNoJournal, JournalStops, limits_in}
use Rattle.auc_run.specs.Crash.{IsFull, IsKept, IsKeptSoFar, MayLeave}
use Rattle.auc_input.specs.Reading.{AreRight, AreWrong}
use Rattle.auc_run.specs.Outcome.{EndsFull, IsStopOf, IsWritten, RunsFiles}
use Rattle.auc_input.specs.Words.{journal_named, Files, files_named}
use Rattle.auc_run.specs.Telling.{IsLongTold, TellsJournal}
use Rattle.auc_input.specs.declared.forms.JournalForm.{JournalForm}
use Rattle.auc_input.specs.declared.forms.JournalForm.TheVariants as telling
use Rattle.auc_refusal.specs.declared.refusal.Refusal.{Refusal}
use Rattle.auc_refusal.specs.declared.refusal.Refusal.TheVariants as refused
use Rattle.auc_refusal.specs.declared.status.Status.{Status}
use Rattle.auc_refusal.specs.declared.status.Status.TheVariants.{Done, SubscribersRefused, ScenarioRefused, ReadFault, WriteFault, StoreFull, TooLong, NoMemory}
use Rattle.auc_refusal.specs.Refusal.{status_in}
use Rattle.auc_refusal.specs.Told.{OutputStops}

-- ---- why each step of a run is refused

-- why rounds end early
abbrev pub RoundsStop : Refusal → Type 0
RoundsStop refused.WriteFault = Unit {0}
RoundsStop refused.StoreFault = Unit {0}
RoundsStop refused.StoreFull = Unit {0}
RoundsStop refused.NoMemory = Unit {0}
RoundsStop _ = ⊥

-- the rounds of a run's files were served so far, or its rounds didn't begin and nothing was written
abbrev pub FilesLeave : Option (List File) → Files → Option (List ℕ) → (List ℕ → Type 0) → (List ℕ → Type 0) → Status → Option (List ℕ) → Option (List ℕ) → Type 0
FilesLeave told files seen leaves ever Done old new = RunsFiles told files seen leaves ever Done old new
FilesLeave told files seen leaves ever StoreFull old new = RunsFiles told files seen leaves ever StoreFull old new
FilesLeave told files seen leaves ever WriteFault old new = RunsFiles told files seen leaves ever WriteFault old new
FilesLeave told files seen leaves ever status old new = RunsFiles told files seen leaves ever status old new ⊎ (new ≡ old)

-- a run ended before the journal was opened, and not because memory ran out
abbrev pub IsBeforeJournal : Status → Type 0
IsBeforeJournal SubscribersRefused = Unit {0}
IsBeforeJournal ScenarioRefused = Unit {0}
IsBeforeJournal ReadFault = Unit {0}
IsBeforeJournal TooLong = Unit {0}
IsBeforeJournal status = ⊥

-- why a run whose words name files ends early
abbrev pub FilesStop : Option (List File) → Files → Option (List ℕ) → Refusal → Type 0
FilesStop told files seen refused.ReadFault = Unit {0}
FilesStop told files seen refused.WriteFault = AreRight told files
FilesStop told files seen refused.StoreFault = AreRight told files
FilesStop told files seen (refused.NotJournal place) = AreRight told files × IsNoJournal seen place
FilesStop told files seen refused.StoreFull = AreRight told files
FilesStop told files seen refused.NoMemory = Unit {0}
FilesStop told files seen refusal = AreWrong told files refusal

-- why files that are right aren't served to the end
abbrev pub InputStops : Option (List ℕ) → Refusal → Type 0
InputStops seen refusal = JournalStops seen refusal ⊎ RoundsStop refusal

-- limits are too long to be told in a form
abbrev pub IsLong : JournalForm → List Frame → Type 0
IsLong telling.Reserved limits = ⊥
IsLong telling.Compact limits = 2 ^ 30 < 17 + 19 * length limits

-- why limits aren't told in a form
abbrev pub LimitsStop : JournalForm → List Frame → Refusal → Type 0
LimitsStop form limits refused.TooLong = IsLong form limits
LimitsStop form limits refusal = OutputStops refusal

-- why a journal isn't told in a form
abbrev pub TellingStops : JournalForm → Option (List ℕ) → Refusal → Type 0
TellingStops form seen refused.WriteFault = Unit {0}
TellingStops form seen refused.TooLong = IsLongTold form seen
TellingStops form seen refusal = JournalStops seen refusal

-- a text is the bytes of a journal that has some limits
pub record IsCompactText (limits : List Frame) (text : List ℕ) : Type 0 where
  pub bytes : text ≡ compact_image limits
  pub fits : 17 + 19 * length limits ≤ 2 ^ 30
  pub anew : (file : List ℕ) (reading : Reading) → read_image file ≡ Ok reading → AreLimits limits reading.frames → IsAnew file limits text

-- a text is what a form tells of some limits
abbrev pub TellsLimits : JournalForm → List Frame → List ℕ → Type 0
TellsLimits telling.Reserved limits text = IsReservedText limits text
TellsLimits telling.Compact limits text = IsCompactText limits text

-- what a form tells of limits was written, or some first bytes of it if the output failed, or nothing
abbrev pub WritesLimits : JournalForm → List Frame → Status → Option (List ℕ) → Option (List ℕ) → Type 0
WritesLimits form limits Done old new = (text : List ℕ) × TellsLimits form limits text × Appends old new text
WritesLimits form limits WriteFault old new = (text : List ℕ) × TellsLimits form limits text × AppendsFront old new text
WritesLimits form limits _ old new = new ≡ old

-- the same of the journal that was found
abbrev pub LimitsLeave : JournalForm → Option (List ℕ) → Status → Option (List ℕ) → Option (List ℕ) → Type 0
LimitsLeave form seen Done old new = (text : List ℕ) × TellsJournal form seen text × Appends old new text
LimitsLeave form seen WriteFault old new = (text : List ℕ) × TellsJournal form seen text × AppendsFront old new text
LimitsLeave form seen _ old new = new ≡ old

-- why a load ends early: the words are none of a load, or in serving it or writing its lines
abbrev pub LoadStops : List (List ℕ) → Refusal → Type 0
LoadStops words refusal = ((load_named words ≡ None) × (refusal ≡ refused.Usage))
    ⊎ ((load : LoadWords) × (load_named words ≡ Some load) × OutputStops refusal)

-- why a run ends early: by its files, in printing the lines of `vector` or `auts`, in telling the journal, or in a load, or by
-- the words alone
abbrev pub Stops : List (List ℕ) → Option (List File) → Option (List ℕ) → Refusal → Type 0
Stops words told seen refusal = ((files : Files) × (files_named words ≡ Some files) × FilesStop told files seen refusal)
    ⊎ ((form : AlgorithmForm) × (files_named words ≡ None) × (algorithm_named words ≡ Some form) × OutputStops refusal)
    ⊎ ((form : JournalForm) × (files_named words ≡ None) × (algorithm_named words ≡ None) × (journal_named words ≡ Some form) × TellingStops form seen refusal)
    ⊎ ((files_named words ≡ None) × (algorithm_named words ≡ None) × (journal_named words ≡ None) × LoadStops words refusal)

-- nothing was written, unless a refusal is one that may come after rounds were written
abbrev pub IsSilent : Refusal → Option (List ℕ) → Option (List ℕ) → Type 0
IsSilent refused.WriteFault old new = Unit {0}
IsSilent refused.StoreFault old new = Unit {0}
IsSilent refused.StoreFull old new = Unit {0}
IsSilent refused.NoMemory old new = Unit {0}
IsSilent _ old new = new ≡ old

-- ---- the journal

-- the greatest limit that a crash may leave of a subscriber: what was reserved at first, or a step above its greatest word
abbrev pub most_at : List ℕ → Course → ℕ → ℕ
most_at reserved at sub = max (slice_index reserved sub) (slice_index at.highs sub + least_step)

-- an image is read as a journal that reserves for each subscriber a limit between the one at first and a bound, forgets nothing
-- of the file that was found, and whose gate can be closed
pub record IsGrown (file : List ℕ) (rows : List Row) (reserved : List ℕ) (most : ℕ → ℕ) (image : List ℕ) : Type 0 where
  pub reading : Reading
  pub is_read : read_image image ≡ Ok reading
  pub least : (sub : ℕ) → sub < length rows → slice_index reserved sub ≤ slice_index (limits_in rows reading.frames) sub
  pub greatest : (sub : ℕ) → sub < length rows → slice_index (limits_in rows reading.frames) sub ≤ most sub
  pub keeps : Keeps file image
  pub closable : IsClosable image

-- what a crash at some moment since a file was found leaves: what its opening may leave, or such a journal
abbrev pub IsSince : List ℕ → List Row → List ℕ → (ℕ → ℕ) → List ℕ → Type 0
IsSince file rows reserved most image = IsOpening file image ⊎ IsGrown file rows reserved most image

-- what a crash at some moment of a run that ended so leaves, and that forgets nothing of a file whose gate can be closed
abbrev pub IsLeftInRun : List ℕ → Status → List Row → List ℕ → Course → List ℕ → Type 0
IsLeftInRun file status rows reserved end image =
    (IsOpening file image ⊎ IsKeptSoFar status rows reserved end image) × (IsClosable file → Keeps file image × IsClosable image)

-- a journal of these subscribers has limits that a restart may have, and a crash leaves none that are lower, and none above
-- those that the rounds so far may reserve
pub record Reserves {D : Type 0} (seen : D → Option (List ℕ)) (may_leave : D → List ℕ → Type 0) (moment : D → ℕ) (left_since : D → ℕ → List ℕ → Type 0) (rows : List Row) (from : D) (reserved : List ℕ) (at : Course) (journal : JournalState D) : Type 0 where
  pub subscribers : journal.imsis ≡ map (λ row. row.imsi) rows
  pub all : journal.all ≡ journal.imsis
  pub raises : Raises rows at.early at.limits at.highs (limits_of journal)
  -- the bound of each identity, which for each subscriber is no higher
  pub most : Identity → ℕ
  pub near : (sub : ℕ) → sub < length rows → most (imsi_at journal.imsis sub) ≤ most_at reserved at sub
  pub durable : IsDurable seen may_leave from most journal
  pub above : (sub : ℕ) → sub < length rows → slice_index reserved sub ≤ slice_index (limits_of journal) sub
  pub always : (told : IsTold seen may_leave from) → LeavesOnly moment left_since from journal.disk (IsSince told.0 rows reserved (most_at reserved at))

-- a journal of these subscribers reserves each number that was released, and a crash leaves no lower limits
pub record Covers {D : Type 0} (seen : D → Option (List ℕ)) (may_leave : D → List ℕ → Type 0) (moment : D → ℕ) (left_since : D → ℕ → List ℕ → Type 0) (rows : List Row) (from : D) (reserved : List ℕ) (early : List LineRecord) (journal : JournalState D) : Type 0 where
  pub subscribers : journal.imsis ≡ map (λ row. row.imsi) rows
  pub released : (sub : ℕ) → sub < length rows → All (λ n. n ≤ slice_index (limits_of journal) sub) (numbers_of sub early)
  pub most : Identity → ℕ
  pub durable : IsDurable seen may_leave from most journal
  pub always : (told : IsTold seen may_leave from) → (highest : ℕ → ℕ) × LeavesOnly moment left_since from journal.disk (IsSince told.0 rows reserved highest)

-- ---- the rounds, one after the other

-- each line of a round is one of known subscribers, no two of its jobs hold one USIM, and it has not too many jobs
pub record IsKnownRound (rows : List Row) (jobs : List (List Line)) : Type 0 where
  pub known : AreAllKnown rows jobs
  pub apart : AllPairs AreApart jobs
  pub few : length jobs ≤ most_jobs

-- a part that can be served: such a round, or a restart
abbrev pub IsKnownPart : List Row → Part → Type 0
IsKnownPart rows (Round jobs) = IsKnownRound rows jobs
IsKnownPart rows Restart = Unit {0}

-- the lines of some jobs may all stand in a block: they rest on no line of an earlier round
abbrev pub AreQuiet : List (List Line) → Type 0
AreQuiet jobs = All (λ job. All (λ line. may_stand_in_block line ≡ true) job) jobs

-- some lines are all that jobs ask of those of earlier rounds: they are these, or the jobs ask of none
abbrev pub AreEnough : List (List Line) → List LineRecord → List LineRecord → Type 0
AreEnough jobs early known = (known ≡ early) ⊎ AreQuiet jobs

-- a part of a transcript goes on from here: the number of the next round, the state, which knows some lines, and the journal
pub record StandsAfter {D : Type 0} (seen : D → Option (List ℕ)) (may_leave : D → List ℕ → Type 0) (moment : D → ℕ) (left_since : D → ℕ → List ℕ → Type 0) (set : Setting) (from : D) (reserved : List ℕ) (at : Course) (known : List LineRecord) (number : ℕ) (state : Standing) (journal : JournalState D) : Type 0 where
  pub numbered : at.number ≡ number
  pub stands : StandsAt set known state
  pub kept : state.kept ≡ at.kept
  pub opens : state.words ≡ at.openings
  pub ready : journal.failed ≡ false
  pub reserves : Reserves seen may_leave moment left_since set.rows from reserved at journal

-- the state knows the lines of all rounds so far
abbrev pub StandsOn : {D : Type 0} → (D → Option (List ℕ)) → (D → List ℕ → Type 0) → (D → ℕ) → (D → ℕ → List ℕ → Type 0) → Setting → D → List ℕ → Course → ℕ → Standing → JournalState D → Type 0
StandsOn {D} seen may_leave moment left_since set from reserved at number state journal = StandsAfter seen may_leave moment left_since set from reserved at at.early number state journal

-- the text of a part is written after what waited, or waits with it: a restart's line waits
abbrev pub IsPut : Part → List ℕ → List ℕ → List ℕ → Option (List ℕ) → Option (List ℕ) → Type 0
IsPut (Round jobs) text before after old new = Appends old new (before ++ text) × (after ≡ [])
IsPut Restart text before after old new = (new ≡ old) × (after ≡ before ++ text)

-- a part was served, and the next one goes on from there
pub record GoesOn {D : Type 0} (seen : D → Option (List ℕ)) (may_leave : D → List ℕ → Type 0) (moment : D → ℕ) (left_since : D → ℕ → List ℕ → Type 0) (set : Setting) (full : Bool) (from : D) (reserved : List ℕ) (at : Course) (part : Part)
    (number : ℕ) (state : Standing) (journal : JournalState D) (before after : List ℕ) (old new : Option (List ℕ)) : Type 0 where
  pub made : PartRecord
  pub next : Course
  pub served : ServesPart set None at part made next
  pub on : StandsOn seen may_leave moment left_since set from reserved next number state journal
  pub fits : PartFits made
  pub put : IsPut part (part_text set full made) before after old new

-- the last part of a run that ends early was served, and its text was written after what waited
pub record ServesLast {D : Type 0} (seen : D → Option (List ℕ)) (may_leave : D → List ℕ → Type 0) (moment : D → ℕ) (left_since : D → ℕ → List ℕ → Type 0) (set : Setting) (full : Bool) (from : D) (reserved : List ℕ) (at : Course) (part : Part)
    (status : Status) (journal : JournalState D) (before : List ℕ) (old new : Option (List ℕ)) : Type 0 where
  pub stop : Option Stop
  pub stopped : IsStopOf status stop
  pub made : PartRecord
  pub next : Course
  pub served : ServesPart set stop at part made next
  pub fits : PartFits made
  pub reserves : Reserves seen may_leave moment left_since set.rows from reserved next journal
  pub written : IsWritten status old new (before ++ part_text set full made)
  pub full_at : status ≡ StoreFull → IsTold seen may_leave from → IsFull (seen journal.disk)
  pub ends_full : status ≡ StoreFull → EndsFull seen may_leave set.rows from (made ∷ []) journal.disk

-- a run ended in a part: if memory ran out, nothing of it was written
abbrev pub EndsIn : {D : Type 0} → (D → Option (List ℕ)) → (D → List ℕ → Type 0) → (D → ℕ) → (D → ℕ → List ℕ → Type 0) → Setting → Bool → D → List ℕ → Course → Part
    → Status → JournalState D → List ℕ → Option (List ℕ) → Option (List ℕ) → Type 0
EndsIn seen may_leave moment left_since set full from reserved at part NoMemory journal before old new = Covers seen may_leave moment left_since set.rows from reserved at.early journal × (new ≡ old)
EndsIn seen may_leave moment left_since set full from reserved at part status journal before old new =
    ServesLast seen may_leave moment left_since set full from reserved at part status journal before old new

-- a round that was served leads on
pub record RoundLeads {D : Type 0} (seen : D → Option (List ℕ)) (may_leave : D → List ℕ → Type 0) (moment : D → ℕ) (left_since : D → ℕ → List ℕ → Type 0) (set : Setting) (from : D) (reserved : List ℕ) (at : Course) (jobs : List (List Line)) (round : RoundRecord)
    (stop : Option Stop) (state : Standing) (journal : JournalState D) : Type 0 where
  pub next : Course
  pub served : ServesRound set stop at jobs round next
  pub early : next.early ≡ at.early ++ all_lines round.jobs
  pub number : next.number ≡ at.number + 1
  pub kept : state.kept ≡ next.kept
  pub opens : state.words ≡ next.openings
  pub reserves : Reserves seen may_leave moment left_since set.rows from reserved next journal
  pub needs : stop ≡ Some Full → (drew : DrewFull set.rows round) × (reserved_in journal.limits drew.row.imsi < drew.number)

-- wherever it began, if the state knew enough
abbrev pub EachLeads : {D : Type 0} → (D → Option (List ℕ)) → (D → List ℕ → Type 0) → (D → ℕ) → (D → ℕ → List ℕ → Type 0) → Setting → ℕ → Standing → JournalState D → List (List Line) → RoundRecord → Option Stop → Standing → JournalState D → Type 0
EachLeads {D} seen may_leave moment left_since set number state journal jobs round stop next after =
    (from : D) (reserved : List ℕ) (at : Course) (known : List LineRecord) → StandsAfter seen may_leave moment left_since set from reserved at known number state journal → AreEnough jobs at.early known → RoundLeads seen may_leave moment left_since set from reserved at jobs round stop next after

-- a round was served, and its text stands behind what isn't written yet
pub record MakesRound {D : Type 0} (seen : D → Option (List ℕ)) (may_leave : D → List ℕ → Type 0) (moment : D → ℕ) (left_since : D → ℕ → List ℕ → Type 0) (set : Setting) (full : Bool) (number : ℕ) (state : Standing) (journal : JournalState D) (jobs : List (List Line))
    (stop : Option Stop) (next : Standing) (after : JournalState D) (before text : List ℕ) : Type 0 where
  pub round : RoundRecord
  pub leads : EachLeads seen may_leave moment left_since set number state journal jobs round stop next after
  pub stands : (early : List LineRecord) → StandsAt set early state → StandsAt set (early ++ all_lines round.jobs) next
  pub failed : (after.failed ≡ true) ↔ (stop ≡ Some Fault)
  pub no_room : stop ≡ Some Full → 2 ^ 30 < after.place + 20
  pub fits : RoundFits round
  pub is_text : text ≡ before ++ round_text set full round

-- the refusal of a round in which reservations ended
abbrev pub stopped_by : Option Stop → Result (Unit {0}) Refusal
stopped_by None = Ok tt
stopped_by (Some Fault) = Err refused.StoreFault
stopped_by (Some Full) = Err refused.StoreFull

-- the text of a round was written, or some first bytes of it if the output failed; then the run ends as its reservations did
pub record WritesMade (stop : Option Stop) (text : List ℕ) (result : Result (Unit {0}) Refusal) (left : List ℕ) (old new : Option (List ℕ)) : Type 0 where
  pub stopped : IsStopOf (status_in result) stop
  pub written : IsWritten (status_in result) old new text
  pub spared : result ≢ Err refused.NoMemory
  pub done : OnOk result (left ≡ [])

-- so it was if the round was made; if memory ran out before, nothing was written
abbrev pub WritesRound : Result (Option Stop) NoMemoryError → List ℕ → Result (Unit {0}) Refusal → List ℕ → Option (List ℕ) → Option (List ℕ) → Type 0
WritesRound (Ok stop) text result left old new = WritesMade stop text result left old new
WritesRound (Err none) text result left old new = (result ≡ Err refused.NoMemory) × (new ≡ old)

-- the first of some parts were served and written, all of them if the run is done, and the disk is left so
pub record RunsParts {D : Type 0} (seen : D → Option (List ℕ)) (may_leave : D → List ℕ → Type 0) (moment : D → ℕ) (left_since : D → ℕ → List ℕ → Type 0) (set : Setting) (full : Bool) (from : D) (reserved : List ℕ) (at : Course) (parts : List Part)
    (status : Status) (disk : D) (old new : Option (List ℕ)) : Type 0 where
  pub served : List Part
  pub left : List Part
  pub cut : parts ≡ served ++ left
  pub whole : status ≡ Done → left ≡ []
  pub stop : Option Stop
  pub stopped : IsStopOf status stop
  pub records : List PartRecord
  pub end : Course
  pub leads : Leads set stop at served records end
  pub fits : All PartFits records
  pub written : IsWritten status old new (transcript_text set full records)
  pub kept : (image : List ℕ) → MayLeave seen may_leave from disk image → IsKept status set.rows reserved end image
  pub keeps : (told : IsTold seen may_leave from) → (image : List ℕ) → may_leave disk image → Keeps told.0 image × IsClosable image
  pub always : (told : IsTold seen may_leave from) → LeavesOnly moment left_since from disk (IsLeftInRun told.0 status set.rows reserved end)
  pub full_at : status ≡ StoreFull → IsTold seen may_leave from → IsFull (seen disk)
  pub ends_full : status ≡ StoreFull → EndsFull seen may_leave set.rows from records disk

-- ---- what an output stands on

-- the laws of transcripts
pub record Laws : Type 0 where
  pub told : EachToldTranscriptIsOne
  pub nets : EachTranscriptHasItsNets
  pub keys : EachAuthenticationAgrees
  pub breaches : EachBreachIsTold
  pub in_sessions : EachFailureInSessionsIsByPlace
  pub macs : EachPresentedVectorHasARightMac
  pub contexts : EachTranscriptKeepsContexts
  pub plain : EachPlainSessionAgrees
  pub resumed : EachResumedSessionAgrees
  pub authentications : EachHonestAuthenticationIsConfirmed
  pub leases : EachLeasedNumberIsHandedOutOnce
  pub sim_sessions : EachSimSessionAgrees
