-- For the top call: each cause comes to its refusal, if the shelf tells its files and the disk its bytes.
use Rattle.std.proofs.Common.{◌≡◌, ℕ, ◌<◌, List, [], ◌∷◌, length, Option, Some, None, Result, Ok, Err, IfErr, ◌⊎◌, inl, inr, refl, sym, ◌∙◌, ap, subst, arith}
use Rattle.auc_edge.specs.Shelf.{File, IsLonger, IsLongerFile, file_of}
use Rattle.auc_forms.specs.Algorithm.{algorithm_named}
use Rattle.auc_forms.specs.declared.algorithm.AlgorithmForm.{AlgorithmForm}
use Rattle.auc_journal.specs.Image.{read_image}
use Rattle.auc_load.specs.Words.{load_named}
use Rattle.auc_load.specs.declared.words.LoadWords.{LoadWords}
use Rattle.auc_script.specs.Reading.{script_of}
use Rattle.auc_script.specs.declared.refusal.ScriptRefusal.TheVariants.{Line}
use Rattle.auc_subs.specs.File.{subscribers_in}
use Rattle.auc_subs.specs.declared.refusal.SubsRefusal.{SubsRefusal}
use Rattle.auc_subs.specs.declared.row.Row.{Row}
use Rattle.auc_refusal.specs.Refusal.{status_in, MayRefuse, MayStop, status_of}
use Rattle.auc_refusal.specs.Told.{Tells}
use Rattle.auc_run.specs.Inner.{FilesLeave, FilesStop, IsBeforeJournal, Stops}
use Rattle.auc_input.specs.Reading.{AreRead, AreRight, AreWrong, BeginsWith, HasText, IsReadNext, max_file}
use Rattle.auc_run.specs.Outcome.{AreUnknown, IsCause, NeedsNoJournal, OpensJournal}
use Rattle.auc_input.specs.Words.{Files, files_named, journal_named}
use Rattle.auc_run.specs.Telling.{IsLongTold}
use Rattle.auc_run.proofs.TopLemmas.{HasCause, cause_of, full_files}
use Rattle.auc_input.specs.declared.forms.JournalForm.{JournalForm}
use Rattle.auc_input.specs.declared.forms.JournalForm.TheVariants as telling
use Rattle.auc_refusal.specs.declared.refusal.Refusal.{Refusal}
use Rattle.auc_refusal.specs.declared.refusal.Refusal.TheVariants as refused
use Rattle.auc_refusal.specs.declared.status.Status.{Status}
use Rattle.auc_refusal.specs.declared.status.Status.TheVariants as status

-- a result is of one kind
pub ok_err : {A E : Type 0} (x : Result A E) (a : A) (e : E) → x ≡ Ok a → x ≡ Err e → ⊥
ok_err x a e ok err = apart (sym ok ∙ err)
  where
    apart : Ok a ≡ Err e → ⊥
    apart same = cc

pub some_none : {A : Type 0} (x : Option A) (a : A) → x ≡ Some a → x ≡ None → ⊥
some_none x a some none = apart (sym some ∙ none)
  where
    apart : Some a ≡ None → ⊥
    apart same = cc

some_same : {A : Type 0} (x : Option A) (a b : A) → x ≡ Some a → x ≡ Some b → a ≡ b
some_same x a b first second = one (sym first ∙ second)
  where
    one : Some a ≡ Some b → a ≡ b
    one same = cc

ok_same : {A E : Type 0} (x : Result A E) (a b : A) → x ≡ Ok a → x ≡ Ok b → a ≡ b
ok_same {A} {E} x a b first second = one (sym first ∙ second)
  where
    one : ◌≡◌ {A = Result A E} (Ok a) (Ok b) → a ≡ b
    one same = cc

-- ---- what a shelf tells

text_same : (there : List File) (name a b : List ℕ) → HasText (Some there) name a → HasText (Some there) name b → a ≡ b
text_same there name a b first second = some_same (file_of there name) a b first.file second.file

-- a file that is too long has no text
long_has : (there : List File) (name text : List ℕ) → IsLongerFile (Some there) name max_file → HasText (Some there) name text → ⊥
long_has there name text long has =
    let more : max_file < length text = subst (λ (file : Option (List ℕ)). IsLonger file max_file) has.file long in
    let within = has.within in omega (arith, more, within)

-- wrong subscribers aren't begun with, and neither are those of a file that is too long
wrong_begins : (there : List File) (subscribers : Option (List ℕ)) (name text : List ℕ) (refusal : SubsRefusal) (rows : List Row) → subscribers ≡ Some name → HasText (Some there) name text
    → subscribers_in text ≡ Err refusal → BeginsWith (Some there) subscribers rows → ⊥
wrong_begins there subscribers name text refusal rows named has wrong begins =
    at_name (subst (λ (s : Option (List ℕ)). BeginsWith (Some there) s rows) named begins)
  where
    at_name : BeginsWith (Some there) (Some name) rows → ⊥
    at_name (other, there_is, read) =
        ok_err (subscribers_in text) rows refusal (ap subscribers_in (text_same there name text other has there_is) ∙ read) wrong

long_begins : (there : List File) (subscribers : Option (List ℕ)) (name : List ℕ) (rows : List Row) → subscribers ≡ Some name → IsLongerFile (Some there) name max_file
    → BeginsWith (Some there) subscribers rows → ⊥
long_begins there subscribers name rows named long begins = at_name (subst (λ (s : Option (List ℕ)). BeginsWith (Some there) s rows) named begins)
  where
    at_name : BeginsWith (Some there) (Some name) rows → ⊥
    at_name (other, there_is, read) = long_has there name other long there_is

begins_same : (there : List File) (subscribers : Option (List ℕ)) (rows others : List Row) → BeginsWith (Some there) subscribers rows → BeginsWith (Some there) subscribers others → rows ≡ others
begins_same there None rows others first second = first ∙ sym second
begins_same there (Some name) rows others (text, has, read) (other, there_is, reads) =
    ok_same (subscribers_in text) rows others read (ap subscribers_in (text_same there name text other has there_is) ∙ reads)

-- files that are right aren't wrong
pub right_wrong : (there : List File) (files : Files) (cause : Refusal) → AreRight (Some there) files → AreWrong (Some there) files cause → ⊥
right_wrong there files (refused.Subscribers row fault) right (name, text, named, has, wrong) =
    wrong_begins there files.subscribers name text _ right.rows named has wrong right.are_read.begins
right_wrong there files (refused.Scenario line fault) right (rows, text, read, wrong) =
    let same = begins_same there files.subscribers rows right.rows read.begins right.are_read.begins in
    let one = text_same there files.scenario text right.text read.has right.are_read.has in
    wrong_script rows right.rows text right.text same one wrong right.is_script
  where
    wrong_script : (rows others : List Row) (text other : List ℕ) → rows ≡ others → text ≡ other → script_of rows text ≡ Err (Line line fault) → script_of others other ≡ Ok (right.script, right.after) → ⊥
    wrong_script rows others text other same one wrong is =
        ok_err (script_of rows text) (right.script, right.after) (Line line fault) (ap (λ (rs : List Row). script_of rs text) same ∙ ap (λ (t : List ℕ). script_of others t) one ∙ is) wrong
right_wrong there files refused.TooLong right (name, inl named, long) = long_begins there files.subscribers name right.rows named long right.are_read.begins
right_wrong there files refused.TooLong right (name, inr (rows, begins, named), long) =
    long_has there name right.text long (subst (λ (n : List ℕ). HasText (Some there) n right.text) named right.are_read.has)
right_wrong there files refused.Usage right wrong = absurd wrong
right_wrong there files refused.ReadFault right wrong = absurd wrong
right_wrong there files refused.WriteFault right wrong = absurd wrong
right_wrong there files refused.StoreFault right wrong = absurd wrong
right_wrong there files (refused.NotJournal place) right wrong = absurd wrong
right_wrong there files refused.StoreFull right wrong = absurd wrong
right_wrong there files refused.NoMemory right wrong = absurd wrong

-- ---- the first that is wrong

-- the subscribers are wrong, the scenario is, or the next file is too long
data Wrong (there : List File) (files : Files) (refusal : Refusal) : Type 0 where
  subscribers : (name text : List ℕ) (why : SubsRefusal) → status_of refusal ≡ status.SubscribersRefused → files.subscribers ≡ Some name → HasText (Some there) name text → subscribers_in text ≡ Err why
      → Wrong there files refusal
  scenario : (rows : List Row) (text : List ℕ) → status_of refusal ≡ status.ScenarioRefused → AreRead (Some there) files rows text → Wrong there files refusal
  long : (name : List ℕ) → status_of refusal ≡ status.TooLong → IsReadNext (Some there) files name → IsLongerFile (Some there) name max_file → Wrong there files refusal

judged : (there : List File) (files : Files) (refusal : Refusal) → AreWrong (Some there) files refusal → Wrong there files refusal
judged there files (refused.Subscribers row fault) (name, text, named, has, wrong) = subscribers name text _ refl named has wrong
judged there files (refused.Scenario line fault) (rows, text, read, wrong) = scenario rows text refl read
judged there files refused.TooLong (name, next, longer) = long name refl next longer
judged there files refused.Usage wrong = absurd wrong
judged there files refused.ReadFault wrong = absurd wrong
judged there files refused.WriteFault wrong = absurd wrong
judged there files refused.StoreFault wrong = absurd wrong
judged there files (refused.NotJournal place) wrong = absurd wrong
judged there files refused.StoreFull wrong = absurd wrong
judged there files refused.NoMemory wrong = absurd wrong

-- wrong subscribers, or a wrong scenario, and the next file is not too long
not_long : (there : List File) (files : Files) (name text next : List ℕ) (why : SubsRefusal) → files.subscribers ≡ Some name → HasText (Some there) name text → subscribers_in text ≡ Err why
    → IsReadNext (Some there) files next → IsLongerFile (Some there) next max_file → ⊥
not_long there files name text next why named has wrong (inl is) longer =
    long_has there name text (subst (λ (n : List ℕ). IsLongerFile (Some there) n max_file) (some_same files.subscribers next name is named) longer) has
not_long there files name text next why named has wrong (inr (rows, begins, is)) longer = wrong_begins there files.subscribers name text why rows named has wrong begins

not_long_read : (there : List File) (files : Files) (rows : List Row) (text next : List ℕ) → AreRead (Some there) files rows text
    → IsReadNext (Some there) files next → IsLongerFile (Some there) next max_file → ⊥
not_long_read there files rows text next read (inl is) longer = long_begins there files.subscribers next rows is longer read.begins
not_long_read there files rows text next read (inr (others, begins, is)) longer = long_has there next text longer (subst (λ (n : List ℕ). HasText (Some there) n text) is read.has)

-- so it comes to one status
one_wrong : (there : List File) (files : Files) (a b : Refusal) → Wrong there files a → Wrong there files b → status_of a ≡ status_of b
one_wrong there files a b (subscribers name text why is named has wrong) (subscribers name' text' why' is' named' has' wrong') = is ∙ sym is'
one_wrong there files a b (scenario rows text is read) (scenario rows' text' is' read') = is ∙ sym is'
one_wrong there files a b (long name is next longer) (long name' is' next' longer') = is ∙ sym is'
one_wrong there files a b (subscribers name text why is named has wrong) (scenario rows text' is' read) = absurd (wrong_begins there files.subscribers name text why rows named has wrong read.begins)
one_wrong there files a b (scenario rows text' is' read) (subscribers name text why is named has wrong) = absurd (wrong_begins there files.subscribers name text why rows named has wrong read.begins)
one_wrong there files a b (subscribers name text why is named has wrong) (long next is' read longer) = absurd (not_long there files name text next why named has wrong read longer)
one_wrong there files a b (long next is' read longer) (subscribers name text why is named has wrong) = absurd (not_long there files name text next why named has wrong read longer)
one_wrong there files a b (scenario rows text is read) (long next is' after longer) = absurd (not_long_read there files rows text next read after longer)
one_wrong there files a b (long next is' after longer) (scenario rows text is read) = absurd (not_long_read there files rows text next read after longer)

-- ---- how a run ends then

may_read : (there : List File) (files : Files) (cause : Refusal) (ended : Status) → AreWrong (Some there) files cause → ended ≡ status.ReadFault → MayStop cause ended
may_read there files (refused.Subscribers row fault) ended wrong is = inl is
may_read there files (refused.Scenario line fault) ended wrong is = inl is
may_read there files refused.TooLong ended wrong is = inl is
may_read there files refused.Usage ended wrong is = absurd wrong
may_read there files refused.ReadFault ended wrong is = absurd wrong
may_read there files refused.WriteFault ended wrong is = absurd wrong
may_read there files refused.StoreFault ended wrong is = absurd wrong
may_read there files (refused.NotJournal place) ended wrong is = absurd wrong
may_read there files refused.StoreFull ended wrong is = absurd wrong
may_read there files refused.NoMemory ended wrong is = absurd wrong

may_memory : (there : List File) (files : Files) (cause : Refusal) (ended : Status) → AreWrong (Some there) files cause → ended ≡ status.NoMemory → MayStop cause ended
may_memory there files (refused.Subscribers row fault) ended wrong is = inr (inr is)
may_memory there files (refused.Scenario line fault) ended wrong is = inr (inr is)
may_memory there files refused.TooLong ended wrong is = inr is
may_memory there files refused.Usage ended wrong is = absurd wrong
may_memory there files refused.ReadFault ended wrong is = absurd wrong
may_memory there files refused.WriteFault ended wrong is = absurd wrong
may_memory there files refused.StoreFault ended wrong is = absurd wrong
may_memory there files (refused.NotJournal place) ended wrong is = absurd wrong
may_memory there files refused.StoreFull ended wrong is = absurd wrong
may_memory there files refused.NoMemory ended wrong is = absurd wrong

may_write : (there : List File) (files : Files) (cause : Refusal) (ended : Status) → AreWrong (Some there) files cause → (status_of cause ≡ status.TooLong → ⊥) → ended ≡ status.WriteFault → MayStop cause ended
may_write there files (refused.Subscribers row fault) ended wrong not is = inr (inl is)
may_write there files (refused.Scenario line fault) ended wrong not is = inr (inl is)
may_write there files refused.TooLong ended wrong not is = absurd (not refl)
may_write there files refused.Usage ended wrong not is = absurd wrong
may_write there files refused.ReadFault ended wrong not is = absurd wrong
may_write there files refused.WriteFault ended wrong not is = absurd wrong
may_write there files refused.StoreFault ended wrong not is = absurd wrong
may_write there files (refused.NotJournal place) ended wrong not is = absurd wrong
may_write there files refused.StoreFull ended wrong not is = absurd wrong
may_write there files refused.NoMemory ended wrong not is = absurd wrong

subs_long : (s : Status) → status.SubscribersRefused ≡ s → s ≡ status.TooLong → ⊥
subs_long s a b = apart (a ∙ b)
  where
    apart : status.SubscribersRefused ≡ status.TooLong → ⊥
    apart same = cc

scen_long : (s : Status) → status.ScenarioRefused ≡ s → s ≡ status.TooLong → ⊥
scen_long s a b = apart (a ∙ b)
  where
    apart : status.ScenarioRefused ≡ status.TooLong → ⊥
    apart same = cc

comes_files : (there : List File) (files : Files) (seen : Option (List ℕ)) (cause refusal : Refusal) (ended : Status) (mid new : Option (List ℕ)) → AreWrong (Some there) files cause
    → FilesStop (Some there) files seen refusal → Tells refusal ended mid new → MayRefuse cause ended
comes_files there files seen cause refused.ReadFault ended mid new wrong stop (inl (is, line)) = inr (may_read there files cause ended wrong is)
comes_files there files seen cause refused.ReadFault ended mid new wrong stop (inr untold) = absurd untold
comes_files there files seen cause refused.NoMemory ended mid new wrong stop (inl (is, line)) = inr (may_memory there files cause ended wrong is)
comes_files there files seen cause refused.NoMemory ended mid new wrong stop (inr untold) = absurd untold
comes_files there files seen cause refused.WriteFault ended mid new wrong stop tells = absurd (right_wrong there files cause stop wrong)
comes_files there files seen cause refused.StoreFault ended mid new wrong stop tells = absurd (right_wrong there files cause stop wrong)
comes_files there files seen cause refused.StoreFull ended mid new wrong stop tells = absurd (right_wrong there files cause stop wrong)
comes_files there files seen cause (refused.NotJournal place) ended mid new wrong stop tells = absurd (right_wrong there files cause stop.0 wrong)
comes_files there files seen cause refused.Usage ended mid new wrong stop tells = absurd stop
comes_files there files seen cause (refused.Subscribers row fault) ended mid new wrong stop tells =
    let same = one_wrong there files (refused.Subscribers row fault) cause (judged there files (refused.Subscribers row fault) stop) (judged there files cause wrong) in
    elim tells [
      | inl told ↦ inl (told.0 ∙ same)
      | inr untold ↦ elim untold [
        | inl is ↦ inr (may_write there files cause ended wrong (subs_long (status_of cause) same) is)
        | inr is ↦ inr (may_memory there files cause ended wrong is)
      ]
    ]
comes_files there files seen cause (refused.Scenario line fault) ended mid new wrong stop tells =
    let same = one_wrong there files (refused.Scenario line fault) cause (judged there files (refused.Scenario line fault) stop) (judged there files cause wrong) in
    elim tells [
      | inl told ↦ inl (told.0 ∙ same)
      | inr untold ↦ elim untold [
        | inl is ↦ inr (may_write there files cause ended wrong (scen_long (status_of cause) same) is)
        | inr is ↦ inr (may_memory there files cause ended wrong is)
      ]
    ]
comes_files there files seen cause refused.TooLong ended mid new wrong stop (inl (is, line)) =
    inl (is ∙ one_wrong there files refused.TooLong cause (judged there files refused.TooLong stop) (judged there files cause wrong))
comes_files there files seen cause refused.TooLong ended mid new wrong stop (inr untold) = absurd untold

-- words that tell the journal have no other form
pub telling_alone : (words : List (List ℕ)) (form : JournalForm) → journal_named words ≡ Some form → (files_named words ≡ None) × (algorithm_named words ≡ None) × (load_named words ≡ None)
telling_alone [] form is = absurd (some_none None form is refl)
telling_alone (word ∷ []) form is = (refl, refl, refl)
telling_alone (word ∷ next ∷ more) form is = absurd (some_none None form is refl)

-- so of files it is one of them that is too long
pub files_long : (words : List (List ℕ)) (told : Option (List File)) (files : Files) (seen : Option (List ℕ)) → files_named words ≡ Some files → HasCause refused.TooLong words told seen
    → IsCause words told seen refused.TooLong
files_long words told files seen named (inl cause) = cause
files_long words told files seen named (inr (form, asks, over)) = absurd (some_none (files_named words) files named (telling_alone words form asks).0)

-- words that name files have no other form
named_alone : (words : List (List ℕ)) (files : Files) → files_named words ≡ Some files → (algorithm_named words ≡ None) × (load_named words ≡ None)
named_alone [] files is = absurd (some_none None files is refl)
named_alone (word ∷ []) files is = absurd (some_none None files is refl)
named_alone (word ∷ first ∷ []) files is = (refl, refl)
named_alone (word ∷ first ∷ second ∷ []) files is = (refl, refl)
named_alone (word ∷ first ∷ second ∷ next ∷ more) files is = absurd (some_none None files is refl)

-- so a run of theirs that needs no journal ends before it is opened
pub ends_before : (words : List (List ℕ)) (told : Option (List File)) (files : Files) (seen : Option (List ℕ)) (result : Result (Unit {0}) Refusal)
    → files_named words ≡ Some files → IfErr result (FilesStop told files seen) → NeedsNoJournal words (status_in result) → IsBeforeJournal (status_in result)
ends_before words told files seen result named stops needs = of_result result stops needs
  where
    no_other : ((form : AlgorithmForm) × (algorithm_named words ≡ Some form)) ⊎ ((load : LoadWords) × (load_named words ≡ Some load)) ⊎ AreUnknown words → ⊥
    no_other (inl (form, is)) = some_none (algorithm_named words) form is (named_alone words files named).0
    no_other (inr (inl (load, is))) = some_none (load_named words) load is (named_alone words files named).1
    no_other (inr (inr unknown)) = some_none (files_named words) files named unknown.no_files

    of_result : (result : Result (Unit {0}) Refusal) → IfErr result (FilesStop told files seen) → NeedsNoJournal words (status_in result) → IsBeforeJournal (status_in result)
    of_result (Ok done) stops needs = absurd (no_other needs)
    of_result (Err refused.Usage) stops needs = absurd stops
    of_result (Err (refused.Subscribers row fault)) stops needs = tt
    of_result (Err (refused.Scenario line fault)) stops needs = tt
    of_result (Err refused.ReadFault) stops needs = tt
    of_result (Err refused.TooLong) stops needs = tt
    of_result (Err refused.WriteFault) stops needs = absurd (no_other needs)
    of_result (Err refused.StoreFault) stops needs = absurd (no_other needs)
    of_result (Err (refused.NotJournal place)) stops needs = absurd (no_other needs)
    of_result (Err refused.StoreFull) stops needs = absurd (no_other needs)
    of_result (Err refused.NoMemory) stops needs = absurd (no_other needs)

-- a cause of the files
comes_named : (words : List (List ℕ)) (there : List File) (seen : Option (List ℕ)) (cause refusal : Refusal) (ended : Status) (mid new : Option (List ℕ)) (files : Files) → files_named words ≡ Some files
    → AreWrong (Some there) files cause → Stops words (Some there) seen refusal → Tells refusal ended mid new → MayRefuse cause ended
comes_named words there seen cause refusal ended mid new files named wrong (inl (others, is, stop)) tells =
    comes_files there files seen cause refusal ended mid new wrong (subst (λ (fs : Files). FilesStop (Some there) fs seen refusal) (some_same (files_named words) others files is named) stop) tells
comes_named words there seen cause refusal ended mid new files named wrong (inr (inl (form, none, is, stop))) tells = absurd (some_none (files_named words) files named none)
comes_named words there seen cause refusal ended mid new files named wrong (inr (inr (inl (form, none, no_algorithm, asks, stop)))) tells = absurd (some_none (files_named words) files named none)
comes_named words there seen cause refusal ended mid new files named wrong (inr (inr (inr (none, no_algorithm, asks, stop)))) tells = absurd (some_none (files_named words) files named none)

-- words of no form
comes_usage : (words : List (List ℕ)) (told : Option (List File)) (seen : Option (List ℕ)) (refusal : Refusal) (ended : Status) (mid new : Option (List ℕ)) → IsCause words told seen refused.Usage
    → Stops words told seen refusal → Tells refusal ended mid new → MayRefuse refused.Usage ended
comes_usage words told seen refusal ended mid new (none, no_algorithm, no_load, no_asks) (inl (files, named, stop)) tells = absurd (some_none (files_named words) files named none)
comes_usage words told seen refusal ended mid new (none, no_algorithm, no_load, no_asks) (inr (inl (form, unnamed, named, stop))) tells = absurd (some_none (algorithm_named words) form named no_algorithm)
comes_usage words told seen refusal ended mid new (none, no_algorithm, no_load, no_asks) (inr (inr (inl (form, unnamed, unvalued, asks, stop)))) tells = absurd (some_none (journal_named words) form asks no_asks)
comes_usage words told seen refusal ended mid new (none, no_algorithm, no_load, no_asks) (inr (inr (inr (unnamed, unvalued, asks, inl (unloaded, is))))) tells =
    usage_told (subst (λ (r : Refusal). Tells r ended mid new) is tells)
  where
    usage_told : Tells refused.Usage ended mid new → MayRefuse refused.Usage ended
    usage_told (inl (is, line)) = inl is
    usage_told (inr is) = inr is
comes_usage words told seen refusal ended mid new (none, no_algorithm, no_load, no_asks) (inr (inr (inr (unnamed, unvalued, asks, inr (load, named, stop))))) tells = absurd (some_none (load_named words) load named no_load)

-- a journal that is none
unopened_files : (words : List (List ℕ)) (there : List File) (files : Files) (wrong : Refusal) → OpensJournal words (Some there) → files_named words ≡ Some files → AreWrong (Some there) files wrong → ⊥
unopened_files words there files wrong (inl (form, asks)) named is = some_none (files_named words) files named (telling_alone words form asks).0
unopened_files words there files wrong (inr (others, other, right)) named is =
    right_wrong there files wrong (subst (λ (fs : Files). AreRight (Some there) fs) (some_same (files_named words) others files other named) right) is

-- what is told of a journal is too long, so the file is one
pub long_found : (form : JournalForm) (file : List ℕ) (place : ℕ) → IsLongTold form (Some file) → read_image file ≡ Err place → ⊥
long_found telling.Reserved file place over none = over
long_found telling.Compact file place over none = let found = over.is_found file refl in ok_err (read_image file) (record { frames = over.found; end = found.0 }) place found.1 none

comes_journal : (words : List (List ℕ)) (there : List File) (file : List ℕ) (leaves : List ℕ → Type 0) (ever : List ℕ → Type 0) (place : ℕ) (refusal : Refusal) (ended : Status) (old mid new : Option (List ℕ))
    → IsCause words (Some there) (Some file) (refused.NotJournal place) → Stops words (Some there) (Some file) refusal
    → ((files : Files) → files_named words ≡ Some files → FilesLeave (Some there) files (Some file) leaves ever (status_of refusal) old mid)
    → Tells refusal ended mid new → MayRefuse (refused.NotJournal place) ended
comes_journal words there file leaves ever place (refused.NotJournal other) ended old mid new cause stops leave (inl (is, line)) = inl is
comes_journal words there file leaves ever place (refused.NotJournal other) ended old mid new cause stops leave (inr (inl is)) = inr (inr (inl is))
comes_journal words there file leaves ever place (refused.NotJournal other) ended old mid new cause stops leave (inr (inr is)) = inr (inr (inr (inr is)))
comes_journal words there file leaves ever place refused.ReadFault ended old mid new cause stops leave (inl (is, line)) = inr (inl is)
comes_journal words there file leaves ever place refused.ReadFault ended old mid new cause stops leave (inr untold) = absurd untold
comes_journal words there file leaves ever place refused.WriteFault ended old mid new cause stops leave (inl (is, line)) = inr (inr (inl is))
comes_journal words there file leaves ever place refused.WriteFault ended old mid new cause stops leave (inr untold) = absurd untold
comes_journal words there file leaves ever place refused.StoreFault ended old mid new cause stops leave (inl (is, line)) = inr (inr (inr (inl is)))
comes_journal words there file leaves ever place refused.StoreFault ended old mid new cause stops leave (inr untold) = absurd untold
comes_journal words there file leaves ever place refused.NoMemory ended old mid new cause stops leave (inl (is, line)) = inr (inr (inr (inr is)))
comes_journal words there file leaves ever place refused.NoMemory ended old mid new cause stops leave (inr untold) = absurd untold
comes_journal words there file leaves ever place refused.StoreFull ended old mid new (opens, none) stops leave tells =
    let files = full_files words (Some there) (Some file) stops in
    let found = (leave files.0 files.1).is_found file refl in
    absurd (ok_err (read_image file) (record { frames = (leave files.0 files.1).found; end = found.0 }) place found.1 (none file refl))
comes_journal words there file leaves ever place refused.Usage ended old mid new (opens, none) stops leave tells =
    let cause = cause_of words (Some there) (Some file) refused.Usage stops in
    elim opens [
      | inl asks ↦ absurd (some_none (journal_named words) asks.0 asks.1 cause.3)
      | inr named ↦ absurd (some_none (files_named words) named.0 named.1 cause.0)
    ]
comes_journal words there file leaves ever place (refused.Subscribers row fault) ended old mid new (opens, none) stops leave tells =
    let cause = cause_of words (Some there) (Some file) (refused.Subscribers row fault) stops in
    absurd (unopened_files words there cause.0 (refused.Subscribers row fault) opens cause.1 cause.2)
comes_journal words there file leaves ever place (refused.Scenario line fault) ended old mid new (opens, none) stops leave tells =
    let cause = cause_of words (Some there) (Some file) (refused.Scenario line fault) stops in
    absurd (unopened_files words there cause.0 (refused.Scenario line fault) opens cause.1 cause.2)
comes_journal words there file leaves ever place refused.TooLong ended old mid new (opens, none) stops leave tells =
    of_cause (cause_of words (Some there) (Some file) refused.TooLong stops)
  where
    of_cause : HasCause refused.TooLong words (Some there) (Some file) → MayRefuse (refused.NotJournal place) ended
    of_cause (inl cause) = absurd (unopened_files words there cause.0 refused.TooLong opens cause.1 cause.2)
    of_cause (inr (form, named, over)) = absurd (long_found form file place over (none file refl))

comes : (words : List (List ℕ)) (there : List File) (file : List ℕ) (leaves : List ℕ → Type 0) (ever : List ℕ → Type 0) (cause refusal : Refusal) (ended : Status) (old mid new : Option (List ℕ))
    → IsCause words (Some there) (Some file) cause → Stops words (Some there) (Some file) refusal
    → ((files : Files) → files_named words ≡ Some files → FilesLeave (Some there) files (Some file) leaves ever (status_of refusal) old mid) → Tells refusal ended mid new → MayRefuse cause ended
comes words there file leaves ever refused.Usage refusal ended old mid new is stops leave tells = comes_usage words (Some there) (Some file) refusal ended mid new is stops tells
comes words there file leaves ever (refused.NotJournal place) refusal ended old mid new is stops leave tells = comes_journal words there file leaves ever place refusal ended old mid new is stops leave tells
comes words there file leaves ever (refused.Subscribers row fault) refusal ended old mid new (files, named, wrong) stops leave tells =
    comes_named words there (Some file) (refused.Subscribers row fault) refusal ended mid new files named wrong stops tells
comes words there file leaves ever (refused.Scenario line fault) refusal ended old mid new (files, named, wrong) stops leave tells =
    comes_named words there (Some file) (refused.Scenario line fault) refusal ended mid new files named wrong stops tells
comes words there file leaves ever refused.TooLong refusal ended old mid new (files, named, wrong) stops leave tells =
    comes_named words there (Some file) refused.TooLong refusal ended mid new files named wrong stops tells
comes words there file leaves ever refused.ReadFault refusal ended old mid new (files, named, wrong) stops leave tells = absurd wrong
comes words there file leaves ever refused.WriteFault refusal ended old mid new (files, named, wrong) stops leave tells = absurd wrong
comes words there file leaves ever refused.StoreFault refusal ended old mid new (files, named, wrong) stops leave tells = absurd wrong
comes words there file leaves ever refused.StoreFull refusal ended old mid new (files, named, wrong) stops leave tells = absurd wrong
comes words there file leaves ever refused.NoMemory refusal ended old mid new (files, named, wrong) stops leave tells = absurd wrong

pub comes_at : (words : List (List ℕ)) (told : Option (List File)) (seen : Option (List ℕ)) (there : List File) (file : List ℕ) (leaves : List ℕ → Type 0) (ever : List ℕ → Type 0) (cause refusal : Refusal) (ended : Status) (old mid new : Option (List ℕ))
    → told ≡ Some there → seen ≡ Some file → IsCause words (Some there) (Some file) cause → Stops words told seen refusal
    → ((files : Files) → files_named words ≡ Some files → FilesLeave told files seen leaves ever (status_of refusal) old mid) → Tells refusal ended mid new → MayRefuse cause ended
comes_at words told seen there file leaves ever cause refusal ended old mid new told_is seen_is is stops leave tells =
    comes words there file leaves ever cause refusal ended old mid new is
    (subst (λ (s : Option (List ℕ)). Stops words (Some there) s refusal) seen_is (subst (λ (t : Option (List File)). Stops words t seen refusal) told_is stops))
    (λ files named. subst (λ (s : Option (List ℕ)). FilesLeave (Some there) files s leaves ever (status_of refusal) old mid) seen_is
    (subst (λ (t : Option (List File)). FilesLeave t files seen leaves ever (status_of refusal) old mid) told_is (leave files named)))
    tells
