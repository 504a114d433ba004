-- For the top call: what its clauses say of a form that ended, and of how its refusal was told.
use Rattle.std.proofs.Common.{◌≡◌, ◌⊎◌, ℕ, List, [], Option, Some, None, inl, inr, refl, sym, ◌∙◌, ap, subst, append-nil}
use Rattle.auc_edge.specs.Shelf.{File}
use Rattle.auc_edge.specs.Sink.{Appends, AppendsFront}
use Rattle.auc_input.specs.Opening.{JournalStops, IsNoJournal}
use Rattle.auc_refusal.specs.Causes.{open_refusal}
use Rattle.auc_refusal.specs.Told.{Tells}
use Rattle.auc_run.specs.Inner.{FilesLeave, IsSilent, Stops}
use Rattle.auc_load.specs.declared.words.LoadWords.{LoadWords}
use Rattle.auc_refusal.specs.Faults.{IsQuiet}
use Rattle.auc_run.specs.Outcome.{EndsLoad, IsCause, IsStop, NeedsNoJournal, Refuses, RunsFiles, RunsFull, RunsScenario}
use Rattle.auc_refusal.specs.Refusal.{line_of, status_of}
use Rattle.auc_journal.specs.declared.open_why.OpenWhy.{OpenWhy}
use Rattle.auc_journal.specs.declared.open_why.OpenWhy.TheVariants as unopened
use Rattle.auc_input.specs.Words.{journal_named, Files, files_named}
use Rattle.auc_run.specs.Telling.{IsLongTold, IsTooLong}
use Rattle.auc_input.specs.declared.forms.JournalForm.{JournalForm}
use Rattle.auc_refusal.specs.declared.refusal.Refusal.{Refusal}
use Rattle.auc_refusal.specs.declared.refusal.Refusal.TheVariants as refused
use Rattle.auc_refusal.specs.declared.status.Status.{Status}
use Rattle.auc_refusal.specs.declared.status.Status.TheVariants as status

-- ---- texts

-- nothing was written
pub Appends-nothing : (old new : Option (List ℕ)) → Appends old new [] → new ≡ old
Appends-nothing None new is = is
Appends-nothing (Some old) new is = is ∙ ap Some (append-nil old)

-- ---- a run of a scenario that ended early, and whose refusal was told

pub still_runs : (told : Option (List File)) (files : Files) (seen : Option (List ℕ)) (leaves : List ℕ → Type 0) (ever : List ℕ → Type 0) (s ended : Status) (old mid new : Option (List ℕ))
    → ended ≡ s → Appends mid new [] → RunsFiles told files seen leaves ever s old mid → RunsFiles told files seen leaves ever ended old new
still_runs told files seen leaves ever s ended old mid new is none runs =
    subst (λ (e : Status). RunsFiles told files seen leaves ever e old new) (sym is)
    (subst (λ (o : Option (List ℕ)). RunsFiles told files seen leaves ever s old o) (sym (Appends-nothing mid new none)) runs)

pub from_old : (old mid new : Option (List ℕ)) (bytes : List ℕ) → mid ≡ old → AppendsFront mid new bytes → AppendsFront old new bytes
from_old old mid new bytes same front = subst (λ (o : Option (List ℕ)). AppendsFront o new bytes) same front

load_still : (load : LoadWords) (s ended : Status) (old mid new : Option (List ℕ)) → ended ≡ s → Appends mid new [] → EndsLoad load s old mid → EndsLoad load ended old new
load_still load s ended old mid new is none ends =
    subst (λ (e : Status). EndsLoad load e old new) (sym is) (subst (λ (o : Option (List ℕ)). EndsLoad load s old o) (sym (Appends-nothing mid new none)) ends)

-- a load that ended early, and whose refusal was told
pub load_told : (load : LoadWords) (refusal : Refusal) (ended : Status) (old mid new : Option (List ℕ)) → EndsLoad load (status_of refusal) old mid → Tells refusal ended mid new → EndsLoad load ended old new
load_told load refused.WriteFault ended old mid new ends (inl (is, none)) = load_still load status.WriteFault ended old mid new is none ends
load_told load refused.WriteFault ended old mid new ends (inr untold) = absurd untold
load_told load refused.NoMemory ended old mid new ends (inl (is, none)) = load_still load status.NoMemory ended old mid new is none ends
load_told load refused.NoMemory ended old mid new ends (inr untold) = absurd untold
load_told load refused.Usage ended old mid new ends tells = absurd ends
load_told load (refused.Subscribers row fault) ended old mid new ends tells = absurd ends
load_told load (refused.Scenario row fault) ended old mid new ends tells = absurd ends
load_told load refused.ReadFault ended old mid new ends tells = absurd ends
load_told load refused.StoreFault ended old mid new ends tells = absurd ends
load_told load (refused.NotJournal place) ended old mid new ends tells = absurd ends
load_told load refused.StoreFull ended old mid new ends tells = absurd ends
load_told load refused.TooLong ended old mid new ends tells = absurd ends

-- ---- which refusal it was

-- no call of the disk failed, if none failed in a run that ended so
pub quiet_told : (refusal : Refusal) (ended : Status) (mid new : Option (List ℕ)) → Tells refusal ended mid new → IsQuiet ended → IsQuiet (status_of refusal)
quiet_told refusal ended mid new (inl (is, line)) quiet = subst IsQuiet is quiet
quiet_told refused.Usage ended mid new (inr is) quiet = tt
quiet_told (refused.Subscribers row fault) ended mid new (inr untold) quiet = tt
quiet_told (refused.Scenario row fault) ended mid new (inr untold) quiet = tt
quiet_told (refused.NotJournal place) ended mid new (inr untold) quiet = tt
quiet_told refused.ReadFault ended mid new (inr untold) quiet = absurd untold
quiet_told refused.WriteFault ended mid new (inr untold) quiet = absurd untold
quiet_told refused.StoreFault ended mid new (inr untold) quiet = absurd untold
quiet_told refused.StoreFull ended mid new (inr untold) quiet = absurd untold
quiet_told refused.TooLong ended mid new (inr untold) quiet = absurd untold
quiet_told refused.NoMemory ended mid new (inr untold) quiet = absurd untold

-- a run that needed no journal was refused by what needs none
pub untouched_told : (words : List (List ℕ)) (refusal : Refusal) (ended : Status) (mid new : Option (List ℕ)) → Tells refusal ended mid new → NeedsNoJournal words ended
    → NeedsNoJournal words (status_of refusal)
untouched_told words refusal ended mid new (inl (is, line)) needs = subst (NeedsNoJournal words) is needs
untouched_told words refused.Usage ended mid new (inr is) needs = tt
untouched_told words (refused.Subscribers row fault) ended mid new (inr untold) needs = tt
untouched_told words (refused.Scenario row fault) ended mid new (inr untold) needs = tt
untouched_told words (refused.NotJournal place) ended mid new (inr (inl is)) needs = subst (NeedsNoJournal words) is needs
untouched_told words (refused.NotJournal place) ended mid new (inr (inr is)) needs = subst (NeedsNoJournal words) is needs
untouched_told words refused.ReadFault ended mid new (inr untold) needs = absurd untold
untouched_told words refused.WriteFault ended mid new (inr untold) needs = absurd untold
untouched_told words refused.StoreFault ended mid new (inr untold) needs = absurd untold
untouched_told words refused.StoreFull ended mid new (inr untold) needs = absurd untold
untouched_told words refused.TooLong ended mid new (inr untold) needs = absurd untold
untouched_told words refused.NoMemory ended mid new (inr untold) needs = absurd untold

-- only a journal that is full ends a run so, and only a run of a scenario
pub full_files : (words : List (List ℕ)) (told : Option (List File)) (seen : Option (List ℕ)) → Stops words told seen refused.StoreFull → (files : Files) × (files_named words ≡ Some files)
full_files words told seen (inl (files, named, right)) = (files, named)
full_files words told seen (inr (inl (form, none, named, stop))) = absurd stop
full_files words told seen (inr (inr (inl (form, none, no_algorithm, asks, stop)))) = absurd stop
full_files words told seen (inr (inr (inr (none, no_algorithm, asks, inl (no_load, is))))) = absurd (apart is)
  where
    apart : refused.StoreFull ≡ refused.Usage → ⊥
    apart same = cc
full_files words told seen (inr (inr (inr (none, no_algorithm, asks, inr (load, named, stop))))) = absurd stop

pub full_told : (refusal : Refusal) (ended : Status) (mid new : Option (List ℕ)) → Tells refusal ended mid new → ended ≡ status.StoreFull → refusal ≡ refused.StoreFull
full_told refused.StoreFull ended mid new tells full = refl
full_told refused.Usage ended mid new (inl (is, line)) full = cc (is, full)
full_told refused.Usage ended mid new (inr is) full = cc (is, full)
full_told (refused.Subscribers row fault) ended mid new (inl (is, line)) full = cc (is, full)
full_told (refused.Subscribers row fault) ended mid new (inr (inl is)) full = cc (is, full)
full_told (refused.Subscribers row fault) ended mid new (inr (inr is)) full = cc (is, full)
full_told (refused.Scenario row fault) ended mid new (inl (is, line)) full = cc (is, full)
full_told (refused.Scenario row fault) ended mid new (inr (inl is)) full = cc (is, full)
full_told (refused.Scenario row fault) ended mid new (inr (inr is)) full = cc (is, full)
full_told (refused.NotJournal place) ended mid new (inl (is, line)) full = cc (is, full)
full_told (refused.NotJournal place) ended mid new (inr (inl is)) full = cc (is, full)
full_told (refused.NotJournal place) ended mid new (inr (inr is)) full = cc (is, full)
full_told refused.ReadFault ended mid new (inl (is, line)) full = cc (is, full)
full_told refused.ReadFault ended mid new (inr untold) full = absurd untold
full_told refused.WriteFault ended mid new (inl (is, line)) full = cc (is, full)
full_told refused.WriteFault ended mid new (inr untold) full = absurd untold
full_told refused.StoreFault ended mid new (inl (is, line)) full = cc (is, full)
full_told refused.StoreFault ended mid new (inr untold) full = absurd untold
full_told refused.TooLong ended mid new (inl (is, line)) full = cc (is, full)
full_told refused.TooLong ended mid new (inr untold) full = absurd untold
full_told refused.NoMemory ended mid new (inl (is, line)) full = cc (is, full)
full_told refused.NoMemory ended mid new (inr untold) full = absurd untold

pub fault_told : (refusal : Refusal) (ended : Status) (mid new : Option (List ℕ)) → Tells refusal ended mid new → ended ≡ status.StoreFault → refusal ≡ refused.StoreFault
fault_told refused.StoreFault ended mid new tells full = refl
fault_told refused.Usage ended mid new (inl (is, line)) full = cc (is, full)
fault_told refused.Usage ended mid new (inr is) full = cc (is, full)
fault_told (refused.Subscribers row fault) ended mid new (inl (is, line)) full = cc (is, full)
fault_told (refused.Subscribers row fault) ended mid new (inr (inl is)) full = cc (is, full)
fault_told (refused.Subscribers row fault) ended mid new (inr (inr is)) full = cc (is, full)
fault_told (refused.Scenario row fault) ended mid new (inl (is, line)) full = cc (is, full)
fault_told (refused.Scenario row fault) ended mid new (inr (inl is)) full = cc (is, full)
fault_told (refused.Scenario row fault) ended mid new (inr (inr is)) full = cc (is, full)
fault_told (refused.NotJournal place) ended mid new (inl (is, line)) full = cc (is, full)
fault_told (refused.NotJournal place) ended mid new (inr (inl is)) full = cc (is, full)
fault_told (refused.NotJournal place) ended mid new (inr (inr is)) full = cc (is, full)
fault_told refused.ReadFault ended mid new (inl (is, line)) full = cc (is, full)
fault_told refused.ReadFault ended mid new (inr untold) full = absurd untold
fault_told refused.WriteFault ended mid new (inl (is, line)) full = cc (is, full)
fault_told refused.WriteFault ended mid new (inr untold) full = absurd untold
fault_told refused.StoreFull ended mid new (inl (is, line)) full = cc (is, full)
fault_told refused.StoreFull ended mid new (inr untold) full = absurd untold
fault_told refused.TooLong ended mid new (inl (is, line)) full = cc (is, full)
fault_told refused.TooLong ended mid new (inr untold) full = absurd untold
fault_told refused.NoMemory ended mid new (inl (is, line)) full = cc (is, full)
fault_told refused.NoMemory ended mid new (inr untold) full = absurd untold

-- the rounds of a run whose journal is full
pub full_runs : (words : List (List ℕ)) (told : Option (List File)) (seen : Option (List ℕ)) (leaves : List ℕ → Type 0) (ever : List ℕ → Type 0) (refusal : Refusal) (ended : Status) (old mid new : Option (List ℕ))
    → Stops words told seen refusal → ((files : Files) → files_named words ≡ Some files → FilesLeave told files seen leaves ever (status_of refusal) old mid)
    → Tells refusal ended mid new → refusal ≡ refused.StoreFull → RunsScenario words told seen leaves ever status.StoreFull old new
full_runs words told seen leaves ever refusal ended old mid new stops leave tells is =
    at_full (subst (λ (r : Refusal). Stops words told seen r) is stops)
    (λ files named. subst (λ (r : Refusal). FilesLeave told files seen leaves ever (status_of r) old mid) is (leave files named))
    (subst (λ (r : Refusal). Tells r ended mid new) is tells)
  where
    at_full : Stops words told seen refused.StoreFull → ((files : Files) → files_named words ≡ Some files → FilesLeave told files seen leaves ever status.StoreFull old mid)
        → Tells refused.StoreFull ended mid new → RunsScenario words told seen leaves ever status.StoreFull old new
    at_full stops leave (inl (is, none)) =
        let files = full_files words told seen stops in
        (files.0, files.1, still_runs told files.0 seen leaves ever status.StoreFull status.StoreFull old mid new refl none (leave files.0 files.1))
    at_full stops leave (inr untold) = absurd untold

-- and the round with which they end
pub full_ends : {D : Type 0} (seen : D → Option (List ℕ)) (may_leave : D → List ℕ → Type 0) (words : List (List ℕ)) (told : Option (List File)) (from disk : D) (refusal : Refusal) (ended : Status) (old mid new : Option (List ℕ))
    → Stops words told (seen from) refusal → ((files : Files) → files_named words ≡ Some files → RunsFull seen may_leave told files from disk old mid)
    → Tells refusal ended mid new → refusal ≡ refused.StoreFull → (files : Files) × (files_named words ≡ Some files) × RunsFull seen may_leave told files from disk old new
full_ends {D} seen may_leave words told from disk refusal ended old mid new stops runs tells is =
    at_full (subst (λ (r : Refusal). Stops words told (seen from) r) is stops) (subst (λ (r : Refusal). Tells r ended mid new) is tells)
  where
    at_full : Stops words told (seen from) refused.StoreFull → Tells refused.StoreFull ended mid new
        → (files : Files) × (files_named words ≡ Some files) × RunsFull seen may_leave told files from disk old new
    at_full stops (inl (is, none)) =
        let files = full_files words told (seen from) stops in
        (files.0, files.1, subst (λ (o : Option (List ℕ)). RunsFull seen may_leave told files.0 from disk old o) (sym (Appends-nothing mid new none)) (runs files.0 files.1))
    at_full stops (inr untold) = absurd untold

-- ---- the journal

-- a journal isn't opened
pub journal_stops : (seen : Option (List ℕ)) (why : OpenWhy) → ((place : ℕ) → why ≡ unopened.NotJournal place → IsNoJournal seen place) → JournalStops seen (open_refusal why)
journal_stops seen unopened.StoreFault none = tt
journal_stops seen (unopened.NotJournal place) none = none place refl
journal_stops seen unopened.NoMemory none = tt

-- ---- refusals and their causes

-- a file that couldn't be read is told by its status
pub read_told : (ended : Status) (mid new : Option (List ℕ)) → Tells refused.ReadFault ended mid new → ended ≡ status.ReadFault
read_told ended mid new (inl (is, line)) = is
read_told ended mid new (inr untold) = absurd untold

-- a refusal that has a line has its cause, and one of what is too long: a file, or what is told of the journal
abbrev pub HasCause : Refusal → List (List ℕ) → Option (List File) → Option (List ℕ) → Type 0
HasCause refused.ReadFault words told seen = Unit {0}
HasCause refused.WriteFault words told seen = Unit {0}
HasCause refused.StoreFault words told seen = Unit {0}
HasCause refused.StoreFull words told seen = Unit {0}
HasCause refused.NoMemory words told seen = Unit {0}
HasCause refused.TooLong words told seen = IsCause words told seen refused.TooLong ⊎ ((form : JournalForm) × (journal_named words ≡ Some form) × IsLongTold form seen)
HasCause refusal words told seen = IsCause words told seen refusal

pub cause_of : (words : List (List ℕ)) (told : Option (List File)) (seen : Option (List ℕ)) (refusal : Refusal) → Stops words told seen refusal → HasCause refusal words told seen
cause_of words told seen refused.ReadFault stops = tt
cause_of words told seen refused.WriteFault stops = tt
cause_of words told seen refused.StoreFault stops = tt
cause_of words told seen refused.StoreFull stops = tt
cause_of words told seen refused.NoMemory stops = tt
cause_of words told seen refused.Usage (inl (files, named, stop)) = absurd stop
cause_of words told seen refused.Usage (inr (inl (form, none, named, stop))) = absurd stop
cause_of words told seen refused.Usage (inr (inr (inl (form, none, no_algorithm, asks, stop)))) = absurd stop
cause_of words told seen refused.Usage (inr (inr (inr (none, no_algorithm, asks, inl (no_load, is))))) = (none, no_algorithm, no_load, asks)
cause_of words told seen refused.Usage (inr (inr (inr (none, no_algorithm, asks, inr (load, named, stop))))) = absurd stop
cause_of words told seen (refused.Subscribers row fault) (inl (files, named, stop)) = (files, named, stop)
cause_of words told seen (refused.Subscribers row fault) (inr (inl (form, none, named, stop))) = absurd stop
cause_of words told seen (refused.Subscribers row fault) (inr (inr (inl (form, none, no_algorithm, asks, stop)))) = absurd stop
cause_of words told seen (refused.Subscribers row fault) (inr (inr (inr (none, no_algorithm, asks, inl (no_load, is))))) = absurd (apart is)
  where
    apart : refused.Subscribers row fault ≡ refused.Usage → ⊥
    apart same = cc
cause_of words told seen (refused.Subscribers row fault) (inr (inr (inr (none, no_algorithm, asks, inr (load, named, stop))))) = absurd stop
cause_of words told seen (refused.Scenario row fault) (inl (files, named, stop)) = (files, named, stop)
cause_of words told seen (refused.Scenario row fault) (inr (inl (form, none, named, stop))) = absurd stop
cause_of words told seen (refused.Scenario row fault) (inr (inr (inl (form, none, no_algorithm, asks, stop)))) = absurd stop
cause_of words told seen (refused.Scenario row fault) (inr (inr (inr (none, no_algorithm, asks, inl (no_load, is))))) = absurd (apart is)
  where
    apart : refused.Scenario row fault ≡ refused.Usage → ⊥
    apart same = cc
cause_of words told seen (refused.Scenario row fault) (inr (inr (inr (none, no_algorithm, asks, inr (load, named, stop))))) = absurd stop
cause_of words told seen refused.TooLong (inl (files, named, stop)) = inl (files, named, stop)
cause_of words told seen refused.TooLong (inr (inl (form, none, named, stop))) = absurd stop
cause_of words told seen refused.TooLong (inr (inr (inl (form, none, no_algorithm, asks, stop)))) = inr (form, asks, stop)
cause_of words told seen refused.TooLong (inr (inr (inr (none, no_algorithm, asks, inl (no_load, is))))) = absurd (apart is)
  where
    apart : refused.TooLong ≡ refused.Usage → ⊥
    apart same = cc
cause_of words told seen refused.TooLong (inr (inr (inr (none, no_algorithm, asks, inr (load, named, stop))))) = absurd stop
cause_of words told seen (refused.NotJournal place) (inl (files, named, both)) = (inr (files, named, both.0), both.1)
cause_of words told seen (refused.NotJournal place) (inr (inl (form, none, named, stop))) = absurd stop
cause_of words told seen (refused.NotJournal place) (inr (inr (inl (form, none, no_algorithm, asks, stop)))) = (inl (form, asks), stop)
cause_of words told seen (refused.NotJournal place) (inr (inr (inr (none, no_algorithm, asks, inl (no_load, is))))) = absurd (apart is)
  where
    apart : refused.NotJournal place ≡ refused.Usage → ⊥
    apart same = cc
cause_of words told seen (refused.NotJournal place) (inr (inr (inr (none, no_algorithm, asks, inr (load, named, stop))))) = absurd stop

-- the words of a refusal of the files
pub files_of : (words : List (List ℕ)) (told : Option (List File)) (seen : Option (List ℕ)) (refusal : Refusal) (ended : Status) (old mid new : Option (List ℕ)) (cause : IsCause words told seen refusal)
    → ended ≡ status_of refusal → mid ≡ old → Appends mid new (line_of refusal) → Refuses words told seen ended old new
files_of words told seen refusal ended old mid new cause is still line =
    record { refusal = refusal; is_status = is; cause = cause; written = subst (λ (o : Option (List ℕ)). Appends o new (line_of refusal)) still line }

pub refused_told : (words : List (List ℕ)) (told : Option (List File)) (seen : Option (List ℕ)) (refusal : Refusal) (ended : Status) (old mid new : Option (List ℕ))
    → Stops words told seen refusal → IsSilent refusal old mid → Tells refusal ended mid new → IsStop ended ⊎ Refuses words told seen ended old new ⊎ IsTooLong words seen ended old new
refused_told words told seen refused.ReadFault ended old mid new stops still (inl (is, line)) = inl (inl is)
refused_told words told seen refused.ReadFault ended old mid new stops still (inr untold) = absurd untold
refused_told words told seen refused.WriteFault ended old mid new stops still (inl (is, line)) = inl (inr (inl is))
refused_told words told seen refused.WriteFault ended old mid new stops still (inr untold) = absurd untold
refused_told words told seen refused.StoreFault ended old mid new stops still (inl (is, line)) = inl (inr (inr (inl is)))
refused_told words told seen refused.StoreFault ended old mid new stops still (inr untold) = absurd untold
refused_told words told seen refused.StoreFull ended old mid new stops still (inl (is, line)) = inl (inr (inr (inr (inl is))))
refused_told words told seen refused.StoreFull ended old mid new stops still (inr untold) = absurd untold
refused_told words told seen refused.NoMemory ended old mid new stops still (inl (is, line)) = inl (inr (inr (inr (inr is))))
refused_told words told seen refused.NoMemory ended old mid new stops still (inr untold) = absurd untold
refused_told words told seen refused.Usage ended old mid new stops still (inr is) = inl (inr (inl is))
refused_told words told seen (refused.Subscribers row fault) ended old mid new stops still (inr (inl is)) = inl (inr (inl is))
refused_told words told seen (refused.Subscribers row fault) ended old mid new stops still (inr (inr is)) = inl (inr (inr (inr (inr is))))
refused_told words told seen (refused.Scenario row fault) ended old mid new stops still (inr (inl is)) = inl (inr (inl is))
refused_told words told seen (refused.Scenario row fault) ended old mid new stops still (inr (inr is)) = inl (inr (inr (inr (inr is))))
refused_told words told seen (refused.NotJournal place) ended old mid new stops still (inr (inl is)) = inl (inr (inl is))
refused_told words told seen (refused.NotJournal place) ended old mid new stops still (inr (inr is)) = inl (inr (inr (inr (inr is))))
refused_told words told seen refused.TooLong ended old mid new stops still (inr untold) = absurd untold
refused_told words told seen refused.Usage ended old mid new stops still (inl (is, line)) = inr (inl (files_of words told seen refused.Usage ended old mid new (cause_of words told seen refused.Usage stops) is still line))
refused_told words told seen (refused.Subscribers row fault) ended old mid new stops still (inl (is, line)) =
    inr (inl (files_of words told seen (refused.Subscribers row fault) ended old mid new (cause_of words told seen (refused.Subscribers row fault) stops) is still line))
refused_told words told seen (refused.Scenario row fault) ended old mid new stops still (inl (is, line)) =
    inr (inl (files_of words told seen (refused.Scenario row fault) ended old mid new (cause_of words told seen (refused.Scenario row fault) stops) is still line))
refused_told words told seen (refused.NotJournal place) ended old mid new stops still (inl (is, line)) =
    inr (inl (files_of words told seen (refused.NotJournal place) ended old mid new (cause_of words told seen (refused.NotJournal place) stops) is still line))
refused_told words told seen refused.TooLong ended old mid new stops still (inl (is, line)) = long_told (cause_of words told seen refused.TooLong stops)
  where
    long_told : HasCause refused.TooLong words told seen → IsStop ended ⊎ Refuses words told seen ended old new ⊎ IsTooLong words seen ended old new
    long_told (inl cause) = inr (inl (files_of words told seen refused.TooLong ended old mid new cause is still line))
    long_told (inr (form, named, long)) = inr (inr (record { form = form; named = named; is_status = is; long = long; same = Appends-nothing mid new line ∙ still }))
