-- For the law of chains: what a run releases is above what its file reserved, and at most what its image reserves.
use Rattle.std.proofs.Common.{◌≡◌, ◌<◌, ◌≤◌, ◌⊎◌, ℕ, List, [], ◌∷◌, length, All, Contains, Option, None, Result, Ok, false, inl, inr, refl, sym, ◌∙◌, ap, subst, arith}
use Rattle.std.specs.Prelude.{slice_index}
use Rattle.std.proofs.Math.ListN.{length-map}
use Rattle.std.proofs.lemmas.List.Elements.{All-nil, All-cons}
use Rattle.auc_memory.specs.Identity.{Identity}
use Rattle.auc_history.proofs.Facts.{AllPairs-cons}
use Rattle.auc_journal.specs.Image.{Frame, Reading, read_image, reserved_as, reserved_by}
use Rattle.auc_journal.specs.Journal.{JournalState, imsi_at}
use Rattle.auc_journal.specs.Settled.{IsClosable}
use Rattle.auc_journal.proofs.Facts.{limits_at}
use Rattle.auc_subs.specs.declared.row.Row.{Row}
use Rattle.auc_transcript.proofs.Facts.{early_of_end}
use Rattle.auc_record.specs.Lines.{numbers_of}
use Rattle.auc_world.specs.Transcript.{beginning, lines_of}
use Rattle.auc_record.specs.declared.record.LineRecord.{LineRecord}
use Rattle.auc_run.specs.Chain.{AreChained, ChainRun, DrewAbove, EachCutRunIsOfAChain, EachOtherRunIsOfAChain, EachRunDrawsAboveEarlierRuns, EachServedRunIsOfAChain, EachServiceIsOfAChain, Releases, ServedOn, identities}
use Rattle.auc_input.specs.Opening.{IsFound, limits_in}
use Rattle.auc_run.specs.Outcome.{IsWritten}
use Rattle.auc_run.specs.Output.{setting_of}
use Rattle.auc_run.specs.Service.{parts_in}
use Rattle.auc_refusal.specs.declared.status.Status.{Status}
use Rattle.auc_refusal.specs.declared.status.Status.TheVariants as ended

-- the limit of a subscriber by frames that a file is read as is what the file reserves for its identity
limit_by : (rows : List Row) (file : List ℕ) (frames : List Frame) (end sub : ℕ) → read_image file ≡ Ok (record { frames = frames; end = end }) → sub < length rows
    → slice_index (limits_in rows frames) sub ≡ reserved_by file (imsi_at (identities rows) sub)
limit_by rows file frames end sub read inside =
    let journal : JournalState (Unit {0}) = record { disk = tt; place = 0; all = identities rows; imsis = identities rows; limits = frames; failed = false } in
    let many = length-map rows (λ (row : Row). row.imsi) in
    limits_at journal sub (omega (arith, many, inside)) ∙ sym (ap (λ (r : Result Reading ℕ). reserved_as r (imsi_at (identities rows) sub)) read)

-- what holds of all numbers of lines holds of each
of_contained : (P : ℕ → Type 0) (numbers : List ℕ) (n : ℕ) → All P numbers → Contains numbers n → P n
of_contained P numbers n all (k, inside, is) = subst P is (all k n inside)

-- nothing is released by no lines
none_released : (run : ChainRun) (imsi : Identity) (n : ℕ) → run.lines ≡ [] → Releases run imsi n → ⊥
none_released run imsi n none (sub, inside, is, there) =
    of_contained (λ (m : ℕ). ⊥) (numbers_of sub []) n (All-nil (λ (m : ℕ). ⊥)) (subst (λ (lines : List LineRecord). Contains (numbers_of sub lines) n) none there)

-- the numbers of a run that served rounds
served_above : (file : List ℕ) (run : ChainRun) → ServedOn file run → (imsi : Identity) (n : ℕ) → Releases run imsi n → reserved_by file imsi < n
served_above file run served imsi n (sub, inside, is, there) =
    let out = served.is_output in
    let found = served.is_found file refl in
    let reserved = limits_in run.rows served.found in
    let lines = served.lines_are ∙ early_of_end (setting_of run.rows served.script) served.stop (beginning run.rows reserved) served.served out.transcript served.end out.leads in
    let above : slice_index reserved sub < n = of_contained (λ (m : ℕ). slice_index reserved sub < m) (numbers_of sub (lines_of out.transcript)) n (out.above sub inside)
    (subst (λ (ls : List LineRecord). Contains (numbers_of sub ls) n) lines there) in
    let limit = limit_by run.rows file served.found found.0 sub found.1 inside in
    subst (λ (i : Identity). reserved_by file i < n) is (omega (arith, above, limit))

served_within : (file : List ℕ) (run : ChainRun) → ServedOn file run → (imsi : Identity) (n : ℕ) → Releases run imsi n → n ≤ reserved_by run.image imsi
served_within file run served imsi n (sub, inside, is, there) =
    let kept = served.kept in
    let frames = kept.reading.frames in
    let within : n ≤ slice_index (limits_in run.rows frames) sub = of_contained (λ (m : ℕ). m ≤ slice_index (limits_in run.rows frames) sub) (numbers_of sub served.end.early) n (kept.released sub inside)
    (subst (λ (ls : List LineRecord). Contains (numbers_of sub ls) n) served.lines_are there) in
    let limit = limit_by run.rows run.image frames kept.reading.end sub kept.is_read inside in
    subst (λ (i : Identity). n ≤ reserved_by run.image i) is (omega (arith, within, limit))

-- of any run
released_above : (file : List ℕ) (run : ChainRun) → (run.lines ≡ []) ⊎ ServedOn file run → (imsi : Identity) (n : ℕ) → Releases run imsi n → reserved_by file imsi < n
released_above file run (inl none) imsi n releases = absurd (none_released run imsi n none releases)
released_above file run (inr served) imsi n releases = served_above file run served imsi n releases

released_within : (file : List ℕ) (run : ChainRun) → (run.lines ≡ []) ⊎ ServedOn file run → (imsi : Identity) (n : ℕ) → Releases run imsi n → n ≤ reserved_by run.image imsi
released_within file run (inl none) imsi n releases = absurd (none_released run imsi n none releases)
released_within file run (inr served) imsi n releases = served_within file run served imsi n releases

-- a run releases nothing that isn't above a number
abbrev StaysAbove : Identity → ℕ → ChainRun → Type 0
StaysAbove imsi n run = (m : ℕ) → Releases run imsi m → n < m

-- what a file reserves is below all that the runs that follow release
later_above : (imsi : Identity) (n : ℕ) (file : List ℕ) (runs : List ChainRun) → IsClosable file → AreChained file runs → n ≤ reserved_by file imsi → All (StaysAbove imsi n) runs
later_above imsi n file [] closable chained low = All-nil (StaysAbove imsi n)
later_above imsi n file (run ∷ runs) closable (began, more) low =
    let up = began.keeps closable imsi in
    All-cons (StaysAbove imsi n) run runs
    (λ m releases. let above = released_above file run began.rounds imsi m releases in omega (arith, low, above))
    (later_above imsi n run.image runs (began.closable closable) more (omega (arith, low, up)))

-- the law
pub chain_above : EachRunDrawsAboveEarlierRuns
chain_above file [] closable chained = λ i j d before inside. absurd (omega (arith, inside))
chain_above file (run ∷ runs) closable (began, more) =
    AllPairs-cons DrewAbove run runs
    (λ k d inside imsi n m first second.
    later_above imsi n run.image runs (began.closable closable) more (released_within file run began.rounds imsi n first) k d inside m second)
    (chain_above run.image runs (began.closable closable) more)

-- what makes a run one of a chain
pub served_chained : {D : Type 0} (seen : D → Option (List ℕ)) (may_leave : D → List ℕ → Type 0) (moment : D → ℕ) (left_since : D → ℕ → List ℕ → Type 0) → EachServedRunIsOfAChain seen may_leave moment left_since
served_chained seen may_leave moment left_since from disk shelf files status old new told image runs remembers leaves = record {
  rounds = inr (record {
    script = runs.script;
    found = runs.found;
    is_found = subst (λ (bytes : Option (List ℕ)). IsFound bytes runs.found) told.1 runs.is_found;
    stop = runs.stop;
    served = runs.served;
    end = runs.end;
    output = runs.output;
    is_output = runs.is_output;
    written = runs.written;
    lines_are = refl;
    kept = runs.kept image (told, leaves);
  });
  keeps = λ closable. remembers.keeps told (λ is. closable) image leaves;
  closable = λ closable. remembers.closable told closable image leaves;
}

pub other_chained : {D : Type 0} (seen : D → Option (List ℕ)) (may_leave : D → List ℕ → Type 0) → EachOtherRunIsOfAChain seen may_leave
other_chained seen may_leave from disk status old new told image remembers leaves = record {
  rounds = inl refl;
  keeps = λ closable. remembers.keeps told (λ is. closable) image leaves;
  closable = λ closable. remembers.closable told closable image leaves;
}

pub cut_chained : {D : Type 0} (seen : D → Option (List ℕ)) (may_leave : D → List ℕ → Type 0) (moment : D → ℕ) (left_since : D → ℕ → List ℕ → Type 0) → EachCutRunIsOfAChain seen may_leave moment left_since
cut_chained seen may_leave moment left_since from disk status old new told image remembers left = record {
  rounds = inl refl;
  keeps = λ closable. ((remembers told closable).each image left).0;
  closable = λ closable. ((remembers told closable).each image left).1;
}

-- an output that tells nothing tells nothing of any text
untold_written : (status : Status) (text : List ℕ) → IsWritten status None None text
untold_written ended.WriteFault text = record { front = []; rest = text; whole = refl; appended = refl }
untold_written ended.Done text = refl
untold_written ended.Usage text = refl
untold_written ended.SubscribersRefused text = refl
untold_written ended.ScenarioRefused text = refl
untold_written ended.ReadFault text = refl
untold_written ended.StoreFault text = refl
untold_written ended.NotJournal text = refl
untold_written ended.StoreFull text = refl
untold_written ended.TooLong text = refl
untold_written ended.NoMemory text = refl

-- what makes a service one of a chain
pub service_chained : {D : Type 0} (seen : D → Option (List ℕ)) (may_leave : D → List ℕ → Type 0) (moment : D → ℕ) (left_since : D → ℕ → List ℕ → Type 0) → EachServiceIsOfAChain seen may_leave moment left_since
service_chained seen may_leave moment left_since from disk shelf subscribers status old new told image serves remembers leaves =
    let service = serves.service in
    record {
      rounds = inr (record {
        script = serves.header;
        found = serves.found;
        is_found = subst (λ (bytes : Option (List ℕ)). IsFound bytes serves.found) told.1 serves.is_found;
        stop = service.stop;
        served = parts_in service.answers;
        end = service.end;
        output = service.text;
        is_output = service.output;
        written = untold_written status service.text;
        lines_are = refl;
        kept = service.kept image (told, leaves);
      });
      keeps = λ closable. remembers.keeps told (λ is. closable) image leaves;
      closable = λ closable. remembers.closable told closable image leaves;
    }
