-- For the forms that tell the journal: what they write is what they tell of the journal that was found, and how they end.
use Rattle.std.proofs.Common.{◌≡◌, ◌⊎◌, ℕ, List, Option, Some, Result, Ok, Err, OnOk, IfErr, inl, inr, refl, sym, ◌∙◌, ap, subst, arith}
use Rattle.auc_memory.specs.Identity.{Identity}
use Rattle.auc_compact.proofs.Facts.{same_length}
use Rattle.auc_edge.specs.Shelf.{File}
use Rattle.auc_edge.specs.Sink.{Appends, AppendsFront}
use Rattle.auc_forms.specs.Algorithm.{algorithm_named}
use Rattle.auc_forms.specs.Reserved.{IsReservedText}
use Rattle.auc_forms.specs.declared.algorithm.AlgorithmForm.{AlgorithmForm}
use Rattle.auc_journal.specs.Durable.{IsDurable}
use Rattle.auc_journal.specs.Image.{Frame, Reading, read_image, reserved_in}
use Rattle.auc_journal.specs.Journal.{JournalState}
use Rattle.auc_journal.specs.Limits.{AreLimits}
use Rattle.auc_journal.specs.Opening.{Opens}
use Rattle.auc_journal.specs.declared.open_why.OpenWhy.{OpenWhy}
use Rattle.auc_journal.specs.declared.open_why.OpenWhy.TheVariants as unopened
use Rattle.auc_load.specs.Words.{load_named}
use Rattle.auc_load.specs.declared.words.LoadWords.{LoadWords}
use Rattle.auc_input.specs.Opening.{IsNoJournal}
use Rattle.auc_run.specs.Crash.{Remembers}
use Rattle.auc_refusal.specs.Causes.{open_refusal}
use Rattle.auc_refusal.specs.Refusal.{status_in, line_of, status_of}
use Rattle.auc_refusal.specs.Told.{Tells}
use Rattle.auc_run.specs.Inner.{IsLong, LimitsLeave, LimitsStop, Stops, TellingStops, TellsLimits, WritesLimits}
use Rattle.auc_run.specs.Outcome.{AreUnknown, MayTell, NeedsNoJournal}
use Rattle.auc_input.specs.Words.{journal_named, files_named}
use Rattle.auc_run.specs.Telling.{AreLimitLines, EndsTelling, IsLongTold, MayBeLong, TellsJournal}
use Rattle.auc_input.specs.declared.forms.JournalForm.{JournalForm}
use Rattle.auc_input.specs.declared.forms.JournalForm.TheVariants as telling
use Rattle.auc_refusal.specs.declared.refusal.Refusal.{Refusal}
use Rattle.auc_refusal.specs.declared.refusal.Refusal.TheVariants as refused
use Rattle.auc_refusal.specs.declared.status.Status.{Status}
use Rattle.auc_refusal.specs.declared.status.Status.TheVariants as status
use Rattle.auc_run.proofs.CauseLemmas.{long_found, ok_err, some_none, telling_alone}
use Rattle.auc_run.proofs.RememberLemmas.{durable_keeps}
use Rattle.auc_run.proofs.TopLemmas.{Appends-nothing, from_old}

-- ---- the limits of the journal that was found

-- lines of its limits are those of the frames that were found
lines_found : {D : Type 0} (seen : D → Option (List ℕ)) (may_leave : D → List ℕ → Type 0) (from disk : D) (limits written : List Frame) (place : ℕ) (text : List ℕ)
    → Opens seen may_leave from disk limits place → written ≡ limits → IsReservedText written text → AreLimitLines (seen from) text
lines_found seen may_leave from disk limits written place text opens same is = (
  opens.frames,
  λ file told. (place, opens.read file told),
  record {
    limits = is.limits;
    listed = record {
      ordered = is.listed.ordered;
      each = is.listed.each;
      same = λ imsi. is.listed.same imsi ∙ ap (λ (fs : List Frame). reserved_in fs imsi) same ∙ opens.are.same imsi;
    };
    is_text = is.is_text;
  },
)

-- what a form tells of them is what it tells of the journal
tells_found : {D : Type 0} (seen : D → Option (List ℕ)) (may_leave : D → List ℕ → Type 0) (from disk : D) (form : JournalForm) (limits written : List Frame) (place : ℕ) (text : List ℕ)
    → Opens seen may_leave from disk limits place → written ≡ limits → TellsLimits form written text → TellsJournal form (seen from) text
tells_found seen may_leave from disk telling.Reserved limits written place text opens same tells = lines_found seen may_leave from disk limits written place text opens same tells
tells_found seen may_leave from disk telling.Compact limits written place text opens same tells =
    let are : AreLimits written opens.frames = subst (λ (l : List Frame). AreLimits l opens.frames) (sym same) opens.are in
    record {
      found = opens.frames;
      is_found = λ file told. (place, opens.read file told);
      limits = written;
      are = are;
      bytes = tells.bytes;
      fits = tells.fits;
      anew = λ file told. tells.anew file (record { frames = opens.frames; end = place }) (opens.read file told) are;
    }

long_told : {D : Type 0} (seen : D → Option (List ℕ)) (may_leave : D → List ℕ → Type 0) (from disk : D) (form : JournalForm) (limits written : List Frame) (place : ℕ)
    → Opens seen may_leave from disk limits place → written ≡ limits → IsLong form written → IsLongTold form (seen from)
long_told seen may_leave from disk telling.Reserved limits written place opens same long = long
long_told seen may_leave from disk telling.Compact limits written place opens same long = record {
  found = opens.frames;
  is_found = λ file told. (place, opens.read file told);
  limits = written;
  are = subst (λ (l : List Frame). AreLimits l opens.frames) (sym same) opens.are;
  long = long;
}

-- it was written, or wasn't
pub done_found : {D : Type 0} (seen : D → Option (List ℕ)) (may_leave : D → List ℕ → Type 0) (from disk : D) (form : JournalForm) (limits written : List Frame) (place : ℕ) (result : Result (Unit {0}) Refusal) (old new : Option (List ℕ))
    → Opens seen may_leave from disk limits place → written ≡ limits → OnOk result ((text : List ℕ) × TellsLimits form written text × Appends old new text)
    → OnOk result ((text : List ℕ) × TellsJournal form (seen from) text × Appends old new text)
done_found seen may_leave from disk form limits written place (Err refusal) old new opens same writes = tt
done_found seen may_leave from disk form limits written place (Ok done) old new opens same (text, tells, appended) =
    (text, tells_found seen may_leave from disk form limits written place text opens same tells, appended)

pub limits_found : {D : Type 0} (seen : D → Option (List ℕ)) (may_leave : D → List ℕ → Type 0) (from disk : D) (form : JournalForm) (limits written : List Frame) (place : ℕ) (s : Status) (old new : Option (List ℕ))
    → Opens seen may_leave from disk limits place → written ≡ limits → WritesLimits form written s old new → LimitsLeave form (seen from) s old new
limits_found seen may_leave from disk form limits written place status.Done old new opens same (text, tells, appended) = (text, tells_found seen may_leave from disk form limits written place text opens same tells, appended)
limits_found seen may_leave from disk form limits written place status.WriteFault old new opens same (text, tells, appended) = (text, tells_found seen may_leave from disk form limits written place text opens same tells, appended)
limits_found seen may_leave from disk form limits written place status.Usage old new opens same writes = writes
limits_found seen may_leave from disk form limits written place status.SubscribersRefused old new opens same writes = writes
limits_found seen may_leave from disk form limits written place status.ScenarioRefused old new opens same writes = writes
limits_found seen may_leave from disk form limits written place status.ReadFault old new opens same writes = writes
limits_found seen may_leave from disk form limits written place status.StoreFault old new opens same writes = writes
limits_found seen may_leave from disk form limits written place status.NotJournal old new opens same writes = writes
limits_found seen may_leave from disk form limits written place status.StoreFull old new opens same writes = writes
limits_found seen may_leave from disk form limits written place status.TooLong old new opens same writes = writes
limits_found seen may_leave from disk form limits written place status.NoMemory old new opens same writes = writes

-- why not
pub stops_found : {D : Type 0} (seen : D → Option (List ℕ)) (may_leave : D → List ℕ → Type 0) (from disk : D) (form : JournalForm) (limits written : List Frame) (place : ℕ) (result : Result (Unit {0}) Refusal)
    → Opens seen may_leave from disk limits place → written ≡ limits → IfErr result (LimitsStop form written) → IfErr result (TellingStops form (seen from))
stops_found seen may_leave from disk form limits written place (Ok done) opens same stops = tt
stops_found seen may_leave from disk form limits written place (Err refused.TooLong) opens same stops = long_told seen may_leave from disk form limits written place opens same stops
stops_found seen may_leave from disk form limits written place (Err refused.WriteFault) opens same stops = tt
stops_found seen may_leave from disk form limits written place (Err refused.NoMemory) opens same stops = tt
stops_found seen may_leave from disk form limits written place (Err refused.Usage) opens same stops = absurd stops
stops_found seen may_leave from disk form limits written place (Err (refused.Subscribers row fault)) opens same stops = absurd stops
stops_found seen may_leave from disk form limits written place (Err (refused.Scenario line fault)) opens same stops = absurd stops
stops_found seen may_leave from disk form limits written place (Err refused.ReadFault) opens same stops = absurd stops
stops_found seen may_leave from disk form limits written place (Err refused.StoreFault) opens same stops = absurd stops
stops_found seen may_leave from disk form limits written place (Err (refused.NotJournal at)) opens same stops = absurd stops
stops_found seen may_leave from disk form limits written place (Err refused.StoreFull) opens same stops = absurd stops

-- ---- a journal that isn't opened

pub limits_unopened : (form : JournalForm) (seen : Option (List ℕ)) (why : OpenWhy) (old : Option (List ℕ)) → LimitsLeave form seen (status_of (open_refusal why)) old old
limits_unopened form seen unopened.StoreFault old = refl
limits_unopened form seen (unopened.NotJournal place) old = refl
limits_unopened form seen unopened.NoMemory old = refl

pub unopened_stops : (form : JournalForm) (seen : Option (List ℕ)) (why : OpenWhy) → ((place : ℕ) → why ≡ unopened.NotJournal place → IsNoJournal seen place) → TellingStops form seen (open_refusal why)
unopened_stops form seen unopened.StoreFault none = tt
unopened_stops form seen (unopened.NotJournal place) none = none place refl
unopened_stops form seen unopened.NoMemory none = tt

-- ---- what a crash leaves

-- a journal that was opened isn't told to be none
told_journal : (form : JournalForm) (limits : List Frame) (result : Result (Unit {0}) Refusal) → IfErr result (LimitsStop form limits) → status_in result ≡ status.NotJournal → ⊥
told_journal form limits (Ok done) stops is = cc is
told_journal form limits (Err refused.TooLong) stops is = cc is
told_journal form limits (Err refused.WriteFault) stops is = cc is
told_journal form limits (Err refused.NoMemory) stops is = cc is
told_journal form limits (Err refused.Usage) stops is = absurd stops
told_journal form limits (Err (refused.Subscribers row fault)) stops is = absurd stops
told_journal form limits (Err (refused.Scenario row fault)) stops is = absurd stops
told_journal form limits (Err refused.ReadFault) stops is = absurd stops
told_journal form limits (Err refused.StoreFault) stops is = absurd stops
told_journal form limits (Err (refused.NotJournal place)) stops is = absurd stops
told_journal form limits (Err refused.StoreFull) stops is = absurd stops

pub remembers_limits : {D : Type 0} (seen : D → Option (List ℕ)) (may_leave : D → List ℕ → Type 0) (from disk : D) (most : Identity → ℕ) (journal : JournalState D) (form : JournalForm) (limits : List Frame) (result : Result (Unit {0}) Refusal)
    → IsDurable seen may_leave from most journal → disk ≡ journal.disk → IfErr result (LimitsStop form limits) → Remembers seen may_leave (status_in result) from disk
remembers_limits seen may_leave from disk most journal form limits result durable same stops = record {
  keeps = λ told premise image leaves. let both = durable_keeps seen may_leave from disk most journal durable same told image leaves in both.0;
  closable = λ told is image leaves. let both = durable_keeps seen may_leave from disk most journal durable same told image leaves in both.1;
  stays = λ is. absurd (told_journal form limits result stops is);
}

-- words that tell the journal need it
pub telling_needs : (words : List (List ℕ)) (form : JournalForm) (seen : Option (List ℕ)) (result : Result (Unit {0}) Refusal) → journal_named words ≡ Some form → IfErr result (TellingStops form seen)
    → NeedsNoJournal words (status_in result) → ⊥
telling_needs words form seen result named stops needs = of_result result stops needs
  where
    no_other : ((f : AlgorithmForm) × (algorithm_named words ≡ Some f)) ⊎ ((load : LoadWords) × (load_named words ≡ Some load)) ⊎ AreUnknown words → ⊥
    no_other (inl (f, is)) = some_none (algorithm_named words) f is (telling_alone words form named).1
    no_other (inr (inl (load, is))) = some_none (load_named words) load is (telling_alone words form named).2
    no_other (inr (inr unknown)) = some_none (journal_named words) form named unknown.no_telling

    of_result : (result : Result (Unit {0}) Refusal) → IfErr result (TellingStops form seen) → NeedsNoJournal words (status_in result) → ⊥
    of_result (Ok done) stops needs = no_other needs
    of_result (Err refused.Usage) stops needs = stops
    of_result (Err (refused.Subscribers row fault)) stops needs = stops
    of_result (Err (refused.Scenario line fault)) stops needs = stops
    of_result (Err refused.ReadFault) stops needs = stops
    of_result (Err refused.TooLong) stops needs = some_none (journal_named words) form named needs
    of_result (Err refused.WriteFault) stops needs = no_other needs
    of_result (Err refused.StoreFault) stops needs = no_other needs
    of_result (Err (refused.NotJournal place)) stops needs = no_other needs
    of_result (Err refused.StoreFull) stops needs = stops
    of_result (Err refused.NoMemory) stops needs = no_other needs

-- ---- the whole run

-- why a journal isn't told
telling_stops : (words : List (List ℕ)) (told : Option (List File)) (seen : Option (List ℕ)) (refusal : Refusal) (form : JournalForm) → journal_named words ≡ Some form → Stops words told seen refusal → TellingStops form seen refusal
telling_stops words told seen refusal form named (inl (files, is, stop)) = absurd (some_none (files_named words) files is (telling_alone words form named).0)
telling_stops words told seen refusal form named (inr (inl (other, none, is, stop))) = absurd (some_none (algorithm_named words) other is (telling_alone words form named).1)
telling_stops words told seen refusal form named (inr (inr (inl (other, none, no_algorithm, is, stop)))) =
    subst (λ (f : JournalForm). TellingStops f seen refusal) (one (sym is ∙ named)) stop
  where
    one : Some other ≡ Some form → other ≡ form
    one same = cc
telling_stops words told seen refusal form named (inr (inr (inr (none, no_algorithm, no_telling, stop)))) = absurd (some_none (journal_named words) form named no_telling)

ends_as : (form : JournalForm) (seen : Option (List ℕ)) (s ended : Status) (old new : Option (List ℕ)) → ended ≡ s → EndsTelling form seen s old new → EndsTelling form seen ended old new
ends_as form seen s ended old new is ends = subst (λ (e : Status). EndsTelling form seen e old new) (sym is) ends

-- it was told, or wasn't, and the refusal was told
refusal_told : (form : JournalForm) (seen : Option (List ℕ)) (refusal : Refusal) (ended : Status) (old mid new : Option (List ℕ)) → TellingStops form seen refusal → LimitsLeave form seen (status_of refusal) old mid
    → Tells refusal ended mid new → AppendsFront mid new (line_of refusal) → (ended ≡ status.NoMemory → new ≡ mid) → EndsTelling form seen ended old new
refusal_told form seen refused.WriteFault ended old mid new stop (text, tells, part) (inl (is, none)) front spared =
    ends_as form seen status.WriteFault ended old new is (inl (text, tells, subst (λ (o : Option (List ℕ)). AppendsFront old o text) (sym (Appends-nothing mid new none)) part))
refusal_told form seen refused.WriteFault ended old mid new stop leave (inr untold) front spared = absurd untold
refusal_told form seen refused.StoreFault ended old mid new stop still (inl (is, none)) front spared = ends_as form seen status.StoreFault ended old new is (Appends-nothing mid new none ∙ still)
refusal_told form seen refused.StoreFault ended old mid new stop still (inr untold) front spared = absurd untold
refusal_told form seen refused.NoMemory ended old mid new stop still (inl (is, none)) front spared = ends_as form seen status.NoMemory ended old new is (Appends-nothing mid new none ∙ still)
refusal_told form seen refused.NoMemory ended old mid new stop still (inr untold) front spared = absurd untold
refusal_told form seen refused.TooLong ended old mid new stop still (inl (is, none)) front spared = ends_as form seen status.TooLong ended old new is (stop, Appends-nothing mid new none ∙ still)
refusal_told form seen refused.TooLong ended old mid new stop still (inr untold) front spared = absurd untold
refusal_told form seen (refused.NotJournal place) ended old mid new stop still (inl (is, line)) front spared =
    ends_as form seen status.NotJournal ended old new is (place, stop, subst (λ (o : Option (List ℕ)). Appends o new (line_of (refused.NotJournal place))) still line)
refusal_told form seen (refused.NotJournal place) ended old mid new stop still (inr (inl is)) front spared =
    ends_as form seen status.WriteFault ended old new is (inr (place, stop, from_old old mid new (line_of (refused.NotJournal place)) still front))
refusal_told form seen (refused.NotJournal place) ended old mid new stop still (inr (inr is)) front spared = ends_as form seen status.NoMemory ended old new is (spared is ∙ still)
refusal_told form seen refused.Usage ended old mid new stop leave tells front spared = absurd stop
refusal_told form seen (refused.Subscribers row fault) ended old mid new stop leave tells front spared = absurd stop
refusal_told form seen (refused.Scenario line fault) ended old mid new stop leave tells front spared = absurd stop
refusal_told form seen refused.ReadFault ended old mid new stop leave tells front spared = absurd stop
refusal_told form seen refused.StoreFull ended old mid new stop leave tells front spared = absurd stop

pub telling_told : (words : List (List ℕ)) (told : Option (List File)) (seen : Option (List ℕ)) (form : JournalForm) (refusal : Refusal) (ended : Status) (old mid new : Option (List ℕ)) → journal_named words ≡ Some form
    → Stops words told seen refusal → LimitsLeave form seen (status_of refusal) old mid → Tells refusal ended mid new → AppendsFront mid new (line_of refusal) → (ended ≡ status.NoMemory → new ≡ mid)
    → EndsTelling form seen ended old new
telling_told words told seen form refusal ended old mid new named stops = refusal_told form seen refusal ended old mid new (telling_stops words told seen refusal form named stops)

-- ---- each journal comes to its status

read_same : (file : List ℕ) (a b : Reading) → read_image file ≡ Ok a → read_image file ≡ Ok b → a ≡ b
read_same file a b one other = of (sym one ∙ other)
  where
    of : ◌≡◌ {A = Result Reading ℕ} (Ok a) (Ok b) → a ≡ b
    of same = cc

-- what is too long isn't told
not_both : (form : JournalForm) (file text : List ℕ) → IsLongTold form (Some file) → TellsJournal form (Some file) text → ⊥
not_both telling.Reserved file text long tells = long
not_both telling.Compact file text long tells =
    let first = long.is_found file refl in
    let second = tells.is_found file refl in
    let same : long.found ≡ tells.found = ap (λ (r : Reading). r.frames) (read_same file (record { frames = long.found; end = first.0 }) (record { frames = tells.found; end = second.0 }) first.1 second.1) in
    let count = same_length tells.found long.limits tells.limits (subst (λ (fs : List Frame). AreLimits long.limits fs) same long.are) tells.are in
    omega (arith, count, long.long, tells.fits)

long_ends : (form : JournalForm) (file : List ℕ) (ended : Status) (old new : Option (List ℕ)) → IsLongTold form (Some file) → EndsTelling form (Some file) ended old new → MayBeLong ended
long_ends form file status.Done old new long (text, tells, written) = absurd (not_both form file text long tells)
long_ends form file status.WriteFault old new long (inl (text, tells, written)) = absurd (not_both form file text long tells)
long_ends form file status.WriteFault old new long (inr (place, none, written)) = absurd (long_found form file place long (none file refl))
long_ends form file status.NotJournal old new long (place, none, written) = absurd (long_found form file place long (none file refl))
long_ends form file status.TooLong old new long ends = inl refl
long_ends form file status.StoreFault old new long ends = inr (inl refl)
long_ends form file status.NoMemory old new long ends = inr (inr refl)
long_ends form file status.Usage old new long ends = absurd ends
long_ends form file status.SubscribersRefused old new long ends = absurd ends
long_ends form file status.ScenarioRefused old new long ends = absurd ends
long_ends form file status.ReadFault old new long ends = absurd ends
long_ends form file status.StoreFull old new long ends = absurd ends

pub long_comes : (form : JournalForm) (seen : Option (List ℕ)) (file : List ℕ) (ended : Status) (old new : Option (List ℕ)) → seen ≡ Some file → IsLongTold form (Some file) → EndsTelling form seen ended old new → MayBeLong ended
long_comes form seen file ended old new told long ends = long_ends form file ended old new long (subst (λ (s : Option (List ℕ)). EndsTelling form s ended old new) told ends)

tell_long : (form : JournalForm) (file : List ℕ) → IsLongTold form (Some file) → MayTell form status.TooLong
tell_long telling.Reserved file long = absurd long
tell_long telling.Compact file long = inr (inr refl)

tell_done : (form : JournalForm) → MayTell form status.Done
tell_done telling.Reserved = inl (inl refl)
tell_done telling.Compact = inl (inl refl)

tell_write : (form : JournalForm) → MayTell form status.WriteFault
tell_write telling.Reserved = inl (inr (inl refl))
tell_write telling.Compact = inl (inr (inl refl))

tell_memory : (form : JournalForm) → MayTell form status.NoMemory
tell_memory telling.Reserved = inl (inr (inr refl))
tell_memory telling.Compact = inl (inr (inr refl))

tell_store : (form : JournalForm) → MayTell form status.StoreFault
tell_store telling.Reserved = inr refl
tell_store telling.Compact = inr (inl refl)

journal_ends : (form : JournalForm) (file : List ℕ) (reading : Reading) (ended : Status) (old new : Option (List ℕ)) → read_image file ≡ Ok reading → EndsTelling form (Some file) ended old new → MayTell form ended
journal_ends form file reading status.Done old new read ends = tell_done form
journal_ends form file reading status.WriteFault old new read ends = tell_write form
journal_ends form file reading status.NotJournal old new read (place, none, written) = absurd (ok_err (read_image file) reading place read (none file refl))
journal_ends form file reading status.TooLong old new read ends = tell_long form file ends.0
journal_ends form file reading status.StoreFault old new read ends = tell_store form
journal_ends form file reading status.NoMemory old new read ends = tell_memory form
journal_ends form file reading status.Usage old new read ends = absurd ends
journal_ends form file reading status.SubscribersRefused old new read ends = absurd ends
journal_ends form file reading status.ScenarioRefused old new read ends = absurd ends
journal_ends form file reading status.ReadFault old new read ends = absurd ends
journal_ends form file reading status.StoreFull old new read ends = absurd ends

pub journal_comes : (form : JournalForm) (seen : Option (List ℕ)) (file : List ℕ) (reading : Reading) (ended : Status) (old new : Option (List ℕ)) → seen ≡ Some file → read_image file ≡ Ok reading
    → EndsTelling form seen ended old new → MayTell form ended
journal_comes form seen file reading ended old new told read ends =
    journal_ends form file reading ended old new read (subst (λ (s : Option (List ℕ)). EndsTelling form s ended old new) told ends)
