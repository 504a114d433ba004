-- For the top call: how each form ended, by what it left before its refusal was told.
use Rattle.std.proofs.Common.{◌≡◌, ◌⊎◌, ℕ, List, [], Option, Some, inl, inr, refl, sym, ◌∙◌, subst}
use Rattle.auc_edge.specs.Shelf.{File}
use Rattle.auc_edge.specs.Sink.{Appends, AppendsFront}
use Rattle.auc_forms.specs.Algorithm.{algorithm_named}
use Rattle.auc_forms.specs.declared.algorithm.AlgorithmForm.{AlgorithmForm}
use Rattle.auc_load.specs.Words.{load_named}
use Rattle.auc_refusal.specs.Told.{Tells}
use Rattle.auc_run.specs.Inner.{FilesLeave, IsSilent, Stops}
use Rattle.auc_run.specs.Outcome.{AreUnknown, EndsAlgorithm, EndsBefore, EndsUsage, IsCause, MayPrint, RunsFiles}
use Rattle.auc_refusal.specs.Refusal.{line_of, status_of}
use Rattle.auc_input.specs.Words.{journal_named, Files, files_named}
use Rattle.auc_refusal.specs.declared.refusal.Refusal.{Refusal}
use Rattle.auc_refusal.specs.declared.refusal.Refusal.TheVariants as refused
use Rattle.auc_refusal.specs.declared.status.Status.{Status}
use Rattle.auc_refusal.specs.declared.status.Status.TheVariants as status
use Rattle.auc_run.proofs.CauseLemmas.{files_long, some_none}
use Rattle.auc_run.proofs.TopLemmas.{Appends-nothing, cause_of, files_of, from_old, still_runs}

-- an output that failed is told by its status
pub write_told : (ended : Status) (mid new : Option (List ℕ)) → Tells refused.WriteFault ended mid new → ended ≡ status.WriteFault
write_told ended mid new (inl (is, line)) = is
write_told ended mid new (inr untold) = absurd untold

-- ---- a run of a scenario

ends_so : (words : List (List ℕ)) (told : Option (List File)) (seen : Option (List ℕ)) (s ended : Status) (old new : Option (List ℕ)) → ended ≡ s
    → EndsBefore words told seen s old new → EndsBefore words told seen ended old new
ends_so words told seen s ended old new is ends = subst (λ (e : Status). EndsBefore words told seen e old new) (sym is) ends

-- the output failed in the line of a refusal
in_part : (words : List (List ℕ)) (told : Option (List File)) (seen : Option (List ℕ)) (refusal : Refusal) (ended : Status) (old mid new : Option (List ℕ))
    → IsCause words told seen refusal → mid ≡ old → AppendsFront mid new (line_of refusal) → ended ≡ status.WriteFault → EndsBefore words told seen ended old new
in_part words told seen refusal ended old mid new cause still front is =
    ends_so words told seen status.WriteFault ended old new is (record { refusal = refusal; cause = cause; written = from_old old mid new (line_of refusal) still front })

-- it ended, and its refusal was told
pub ran_told : (words : List (List ℕ)) (told : Option (List File)) (files : Files) (seen : Option (List ℕ)) (leaves : List ℕ → Type 0) (ever : List ℕ → Type 0) (refusal : Refusal) (ended : Status) (old mid new : Option (List ℕ))
    → files_named words ≡ Some files → Stops words told seen refusal → FilesLeave told files seen leaves ever (status_of refusal) old mid
    → Tells refusal ended mid new → AppendsFront mid new (line_of refusal) → (ended ≡ status.NoMemory → new ≡ mid)
    → RunsFiles told files seen leaves ever ended old new ⊎ EndsBefore words told seen ended old new
ran_told words told files seen leaves ever refused.StoreFull ended old mid new named stops runs (inl (is, none)) front spared = inl (still_runs told files seen leaves ever status.StoreFull ended old mid new is none runs)
ran_told words told files seen leaves ever refused.StoreFull ended old mid new named stops runs (inr untold) front spared = absurd untold
ran_told words told files seen leaves ever refused.WriteFault ended old mid new named stops runs (inl (is, none)) front spared = inl (still_runs told files seen leaves ever status.WriteFault ended old mid new is none runs)
ran_told words told files seen leaves ever refused.WriteFault ended old mid new named stops runs (inr untold) front spared = absurd untold
ran_told words told files seen leaves ever refused.NoMemory ended old mid new named stops (inl runs) (inl (is, none)) front spared = inl (still_runs told files seen leaves ever status.NoMemory ended old mid new is none runs)
ran_told words told files seen leaves ever refused.NoMemory ended old mid new named stops (inr still) (inl (is, none)) front spared =
    inr (ends_so words told seen status.NoMemory ended old new is (Appends-nothing mid new none ∙ still))
ran_told words told files seen leaves ever refused.NoMemory ended old mid new named stops runs (inr untold) front spared = absurd untold
ran_told words told files seen leaves ever refused.StoreFault ended old mid new named stops (inl runs) (inl (is, none)) front spared = inl (still_runs told files seen leaves ever status.StoreFault ended old mid new is none runs)
ran_told words told files seen leaves ever refused.StoreFault ended old mid new named stops (inr still) (inl (is, none)) front spared =
    inr (ends_so words told seen status.StoreFault ended old new is (Appends-nothing mid new none ∙ still))
ran_told words told files seen leaves ever refused.StoreFault ended old mid new named stops runs (inr untold) front spared = absurd untold
ran_told words told files seen leaves ever refused.ReadFault ended old mid new named stops (inl runs) tells front spared = absurd runs.stopped
ran_told words told files seen leaves ever refused.ReadFault ended old mid new named stops (inr still) (inl (is, none)) front spared =
    inr (ends_so words told seen status.ReadFault ended old new is (Appends-nothing mid new none ∙ still))
ran_told words told files seen leaves ever refused.ReadFault ended old mid new named stops (inr still) (inr untold) front spared = absurd untold
ran_told words told files seen leaves ever refused.Usage ended old mid new named stops leave tells front spared =
    let cause = cause_of words told seen refused.Usage stops in absurd (some_none (files_named words) files named cause.0)
ran_told words told files seen leaves ever refused.TooLong ended old mid new named stops (inl runs) tells front spared = absurd runs.stopped
ran_told words told files seen leaves ever refused.TooLong ended old mid new named stops (inr still) (inl (is, line)) front spared =
    inr (ends_so words told seen status.TooLong ended old new is
    (files_of words told seen refused.TooLong status.TooLong old mid new (files_long words told files seen named (cause_of words told seen refused.TooLong stops)) refl still line))
ran_told words told files seen leaves ever refused.TooLong ended old mid new named stops (inr still) (inr untold) front spared = absurd untold
ran_told words told files seen leaves ever (refused.Subscribers row fault) ended old mid new named stops (inl runs) tells front spared = absurd runs.stopped
ran_told words told files seen leaves ever (refused.Subscribers row fault) ended old mid new named stops (inr still) (inl (is, line)) front spared =
    inr (ends_so words told seen status.SubscribersRefused ended old new is
    (files_of words told seen (refused.Subscribers row fault) status.SubscribersRefused old mid new (cause_of words told seen (refused.Subscribers row fault) stops) refl still line))
ran_told words told files seen leaves ever (refused.Subscribers row fault) ended old mid new named stops (inr still) (inr (inl is)) front spared =
    inr (in_part words told seen (refused.Subscribers row fault) ended old mid new (cause_of words told seen (refused.Subscribers row fault) stops) still front is)
ran_told words told files seen leaves ever (refused.Subscribers row fault) ended old mid new named stops (inr still) (inr (inr is)) front spared =
    inr (ends_so words told seen status.NoMemory ended old new is (spared is ∙ still))
ran_told words told files seen leaves ever (refused.Scenario row fault) ended old mid new named stops (inl runs) tells front spared = absurd runs.stopped
ran_told words told files seen leaves ever (refused.Scenario row fault) ended old mid new named stops (inr still) (inl (is, line)) front spared =
    inr (ends_so words told seen status.ScenarioRefused ended old new is
    (files_of words told seen (refused.Scenario row fault) status.ScenarioRefused old mid new (cause_of words told seen (refused.Scenario row fault) stops) refl still line))
ran_told words told files seen leaves ever (refused.Scenario row fault) ended old mid new named stops (inr still) (inr (inl is)) front spared =
    inr (in_part words told seen (refused.Scenario row fault) ended old mid new (cause_of words told seen (refused.Scenario row fault) stops) still front is)
ran_told words told files seen leaves ever (refused.Scenario row fault) ended old mid new named stops (inr still) (inr (inr is)) front spared =
    inr (ends_so words told seen status.NoMemory ended old new is (spared is ∙ still))
ran_told words told files seen leaves ever (refused.NotJournal place) ended old mid new named stops (inl runs) tells front spared = absurd runs.stopped
ran_told words told files seen leaves ever (refused.NotJournal place) ended old mid new named stops (inr still) (inl (is, line)) front spared =
    inr (ends_so words told seen status.NotJournal ended old new is
    (files_of words told seen (refused.NotJournal place) status.NotJournal old mid new (cause_of words told seen (refused.NotJournal place) stops) refl still line))
ran_told words told files seen leaves ever (refused.NotJournal place) ended old mid new named stops (inr still) (inr (inl is)) front spared =
    inr (in_part words told seen (refused.NotJournal place) ended old mid new (cause_of words told seen (refused.NotJournal place) stops) still front is)
ran_told words told files seen leaves ever (refused.NotJournal place) ended old mid new named stops (inr still) (inr (inr is)) front spared =
    inr (ends_so words told seen status.NoMemory ended old new is (spared is ∙ still))

-- ---- the lines of `vector` or `auts`

form_still : (form : AlgorithmForm) (s ended : Status) (old mid new : Option (List ℕ)) → ended ≡ s → Appends mid new [] → EndsAlgorithm form s old mid → EndsAlgorithm form ended old new
form_still form s ended old mid new is none ends =
    subst (λ (e : Status). EndsAlgorithm form e old new) (sym is) (subst (λ (o : Option (List ℕ)). EndsAlgorithm form s old o) (sym (Appends-nothing mid new none)) ends)

-- they were printed, or weren't, and the refusal was told
pub algorithm_told : (form : AlgorithmForm) (refusal : Refusal) (ended : Status) (old mid new : Option (List ℕ)) → EndsAlgorithm form (status_of refusal) old mid → Tells refusal ended mid new
    → EndsAlgorithm form ended old new
algorithm_told form refused.WriteFault ended old mid new ends (inl (is, none)) = form_still form status.WriteFault ended old mid new is none ends
algorithm_told form refused.WriteFault ended old mid new ends (inr untold) = absurd untold
algorithm_told form refused.NoMemory ended old mid new ends (inl (is, none)) = form_still form status.NoMemory ended old mid new is none ends
algorithm_told form refused.NoMemory ended old mid new ends (inr untold) = absurd untold
algorithm_told form refused.Usage ended old mid new ends tells = absurd ends
algorithm_told form (refused.Subscribers row fault) ended old mid new ends tells = absurd ends
algorithm_told form (refused.Scenario row fault) ended old mid new ends tells = absurd ends
algorithm_told form refused.ReadFault ended old mid new ends tells = absurd ends
algorithm_told form refused.StoreFault ended old mid new ends tells = absurd ends
algorithm_told form (refused.NotJournal place) ended old mid new ends tells = absurd ends
algorithm_told form refused.StoreFull ended old mid new ends tells = absurd ends
algorithm_told form refused.TooLong ended old mid new ends tells = absurd ends

-- so they end in one of three ways
pub algorithm_may : (form : AlgorithmForm) (ended : Status) (old new : Option (List ℕ)) → EndsAlgorithm form ended old new → MayPrint ended
algorithm_may form status.Done old new ends = inl refl
algorithm_may form status.WriteFault old new ends = inr (inl refl)
algorithm_may form status.NoMemory old new ends = inr (inr refl)
algorithm_may form status.Usage old new ends = absurd ends
algorithm_may form status.SubscribersRefused old new ends = absurd ends
algorithm_may form status.ScenarioRefused old new ends = absurd ends
algorithm_may form status.ReadFault old new ends = absurd ends
algorithm_may form status.StoreFault old new ends = absurd ends
algorithm_may form status.NotJournal old new ends = absurd ends
algorithm_may form status.StoreFull old new ends = absurd ends
algorithm_may form status.TooLong old new ends = absurd ends

-- ---- words of no form

-- they are refused so
unknown_stops : (words : List (List ℕ)) (told : Option (List File)) (seen : Option (List ℕ)) (refusal : Refusal) → AreUnknown words → Stops words told seen refusal → refusal ≡ refused.Usage
unknown_stops words told seen refusal unknown (inl (files, named, stop)) = absurd (some_none (files_named words) files named unknown.no_files)
unknown_stops words told seen refusal unknown (inr (inl (form, none, named, stop))) = absurd (some_none (algorithm_named words) form named unknown.no_algorithm)
unknown_stops words told seen refusal unknown (inr (inr (inl (form, none, no_algorithm, asks, stop)))) = absurd (some_none (journal_named words) form asks unknown.no_telling)
unknown_stops words told seen refusal unknown (inr (inr (inr (none, no_algorithm, asks, inl (unloaded, is))))) = is
unknown_stops words told seen refusal unknown (inr (inr (inr (none, no_algorithm, asks, inr (load, named, stop))))) = absurd (some_none (load_named words) load named unknown.no_load)

usage_so : (s ended : Status) (old new : Option (List ℕ)) → ended ≡ s → EndsUsage s old new → EndsUsage ended old new
usage_so s ended old new is ends = subst (λ (e : Status). EndsUsage e old new) (sym is) ends

-- and the refusal was told
told_usage : (ended : Status) (old mid new : Option (List ℕ)) → mid ≡ old → Tells refused.Usage ended mid new → AppendsFront mid new (line_of refused.Usage) → EndsUsage ended old new
told_usage ended old mid new still (inl (is, line)) front = usage_so status.Usage ended old new is (subst (λ (o : Option (List ℕ)). Appends o new (line_of refused.Usage)) still line)
told_usage ended old mid new still (inr is) front = usage_so status.WriteFault ended old new is (from_old old mid new (line_of refused.Usage) still front)

pub usage_told : (words : List (List ℕ)) (told : Option (List File)) (seen : Option (List ℕ)) (refusal : Refusal) (ended : Status) (old mid new : Option (List ℕ)) → AreUnknown words
    → Stops words told seen refusal → IsSilent refusal old mid → Tells refusal ended mid new → AppendsFront mid new (line_of refusal) → EndsUsage ended old new
usage_told words told seen refusal ended old mid new unknown stops silent tells front =
    let is = unknown_stops words told seen refusal unknown stops in
    told_usage ended old mid new
    (subst (λ (r : Refusal). IsSilent r old mid) is silent)
    (subst (λ (r : Refusal). Tells r ended mid new) is tells)
    (subst (λ (r : Refusal). AppendsFront mid new (line_of r)) is front)
