-- For the keeper of a round: the journal after it.
use Rattle.std.proofs.Common.{◌≡◌, ◌≢◌, ℕ, zero, suc, ◌+◌, ◌<◌, ◌≤◌, List, [], ◌∷◌, length, map, max, slice_get, slice_index, All, AllPairs, Contains, Option, Some, Result, Ok, Err, arith, refl, sym, ap, ◌∙◌, subst}
use Rattle.std.specs.Prelude.{IfOk, IsOk, OnOk}
use Rattle.std.proofs.lemmas.List.{length-map}
use Rattle.std.proofs.lemmas.Option.{slice_get_within}
use Rattle.std.proofs.lemmas.List.Elements.{All-contains, All-map}
use Rattle.auc_draw.specs.Book.{Opens}
use Rattle.auc_draw.specs.Values.{BookValue, KeeperValue, PassValue}
use Rattle.auc_memory.specs.Identity.{Identity}
use Rattle.auc_memory.specs.declared.no_memory.NoMemory.{NoMemory}
use Rattle.auc_memory.specs.declared.stop.Stop.{Stop}
use Rattle.auc_memory.specs.declared.stop.Stop.TheVariants.{Full}
use Rattle.auc_history.specs.History.{drawn}
use Rattle.auc_history.specs.Split.{all_entries}
use Rattle.auc_history.proofs.Facts.{AllPairs-cons, AllPairs-head, AllPairs-tail}
use Rattle.auc_journal.specs.Image.{reserved_in}
use Rattle.auc_journal.specs.Journal.{JournalState, limits_of}
use Rattle.auc_keeper.specs.Keeper.{IsAbove, Since}
use Rattle.auc_keeper.proofs.Facts.{begins_left}
use Rattle.auc_lines.specs.declared.part.Line.{Line}
use Rattle.auc_subs.specs.Subscriber.{AreSubscribers, tops_of}
use Rattle.auc_subs.specs.declared.row.Row.{Row}
use Rattle.auc_record.specs.declared.record.LineRecord.{LineRecord}
use Rattle.auc_record.specs.declared.record.RoundRecord.{RoundRecord}
use Rattle.auc_world.specs.Limits.{Raises}
use Rattle.auc_record.specs.Entries.{entries_of_jobs}
use Rattle.auc_record.specs.Lines.{all_lines, held_of, withheld_of}
use Rattle.auc_subs.specs.Setting.{Setting}
use Rattle.auc_record.proofs.Facts.{withheld_of-held_of}
use Rattle.auc_jobs.specs.declared.claiming.WorkerJobs.{WorkerJobs}
use Rattle.auc_jobs.specs.declared.round.Ran.{Ran}
use Rattle.auc_jobs.specs.declared.workers.RoundPieces.{RoundPieces}
use Rattle.auc_jobs.specs.InnerClaims.{HaveWorked, IsDone}
use Rattle.auc_jobs.specs.InnerKeeping.{CanKeep, StaysNear, TellsStop, told_stop}
use Rattle.auc_jobs.specs.InnerRound.{GoesByLimits, LeadsOn}
use Rattle.auc_jobs.specs.InnerSharing.{IsServable, IsShared, Shared}
use Rattle.auc_jobs.specs.Round.{DrewFull, IsJournalOf, LeavesMore, ServesRound}
use Rattle.auc_jobs.specs.State.{Standing, StandsAt}
use Rattle.auc_jobs.proofs.LineLemmas.{some_at}
use Rattle.auc_jobs.proofs.StoppingLemmas.{fault_told, full_told, jobs_drawn, number_held}

-- the identities of rows differ if the rows do
imsis_differ : (rows : List Row) → AllPairs (λ a b. a.imsi ≢ b.imsi) rows → AllPairs (λ (a b : Identity). a ≢ b) (map (λ row. row.imsi) rows)
imsis_differ [] differ = λ i j d low within. absurd (omega arith)
imsis_differ (row ∷ rows) differ =
    AllPairs-cons (λ (a b : Identity). a ≢ b) row.imsi (map (λ row. row.imsi) rows)
    (All-map (λ imsi. row.imsi ≢ imsi) (λ (r : Row). r.imsi) rows (AllPairs-head (λ a b. a.imsi ≢ b.imsi) row rows differ))
    (imsis_differ rows (AllPairs-tail (λ a b. a.imsi ≢ b.imsi) row rows differ))

pub subscribers_differ : (rows : List Row) (imsis : List Identity) → imsis ≡ map (λ row. row.imsi) rows → AllPairs (λ a b. a.imsi ≢ b.imsi) rows → AllPairs (λ (a b : Identity). a ≢ b) imsis
subscribers_differ rows imsis is differ = subst (AllPairs (λ (a b : Identity). a ≢ b)) (sym is) (imsis_differ rows differ)

-- what holds where a result is Ok, by what else holds there
pub if_ok_map : {A E : Type 0} (P Q : A → Type 0) (result : Result A E) → ((x : A) → P x → Q x) → IfOk result P → IfOk result Q
if_ok_map P Q (Ok x) f holds = f x holds
if_ok_map P Q (Err e) f holds = tt

-- what holds where a result is Ok, of one that is
pub served_ok : {A : Type 0} (served : Result A NoMemory) (P : Type 0) → IsOk served → OnOk served P → P
served_ok (Ok a) P is holds = holds
served_ok (Err e) P is holds = cc

-- a bound that admits the words admits what the keeper saw
above_seen : (imsis : List Identity) (seen words : List ℕ) (most more : Identity → ℕ) → ((i : ℕ) → i < length imsis → slice_index seen i ≤ slice_index words i) → IsAbove imsis words most more → IsAbove imsis seen most more
above_seen imsis seen words most more looked above = record {
  keeps = above.keeps;
  admits = λ i inside. let low = looked i inside in let high = above.admits i inside in omega (arith, low, high);
}

-- a crash leaves nothing above the words, if the keeper saw nothing above them
pub stays_near : {D : Type 0} (seen : D → Option (List ℕ)) (may_leave : D → List ℕ → Type 0) (faults moment : D → ℕ) (left_since : D → ℕ → List ℕ → Type 0) (journal after : JournalState D) (pass : KeeperValue) (words openings : List ℕ)
    → Since seen may_leave faults moment left_since journal (record { journal = after; pass = pass }) → length journal.imsis ≡ length openings
    → ((i : ℕ) → i < length openings → slice_index pass.seen i ≤ slice_index words i) → StaysNear seen may_leave moment left_since journal words after
stays_near seen may_leave faults moment left_since journal after pass words openings since sized looked =
    let seen_below : (i : ℕ) → i < length journal.imsis → slice_index pass.seen i ≤ slice_index words i = λ i inside. looked i (omega (arith, inside, sized)) in
    record {
      others = since.others;
      durable = λ from most more above. since.durable from most more (above_seen journal.imsis pass.seen words most more seen_below above);
      always = λ from most more above. since.always from most more (above_seen journal.imsis pass.seen words most more seen_below above);
    }

-- the greatest of some numbers
abbrev greatest : List ℕ → ℕ
greatest [] = 0
greatest (n ∷ numbers) = max n (greatest numbers)

greatest_is : (numbers : List ℕ) (i : ℕ) → slice_index numbers i ≤ greatest numbers
greatest_is [] i = omega arith
greatest_is (n ∷ numbers) zero = omega arith
greatest_is (n ∷ numbers) (suc i) = let less = greatest_is numbers i in omega (arith, less)

-- a bound for all that the keeper saw
abbrev above_all : List ℕ → (Identity → ℕ) → Identity → ℕ
above_all seen most imsi = max (most imsi) (greatest seen + 64)

above_all_is : (imsis : List Identity) (seen : List ℕ) (most : Identity → ℕ) → IsAbove imsis seen most (above_all seen most)
above_all_is imsis seen most = record {
  keeps = λ imsi. omega arith;
  admits = λ i inside. let less = greatest_is seen i in omega (arith, less);
}

-- what a crash leaves when the workers have ended, whether or not memory ran out
pub worked_leaves : {D : Type 0} (seen : D → Option (List ℕ)) (may_leave : D → List ℕ → Type 0) (faults moment : D → ℕ) (left_since : D → ℕ → List ℕ → Type 0) (journal after : JournalState D) (pass : KeeperValue)
    → Since seen may_leave faults moment left_since journal (record { journal = after; pass = pass }) → LeavesMore seen may_leave moment left_since journal after
worked_leaves seen may_leave faults moment left_since journal after pass since = record {
  rises = since.rises;
  durable = λ from most durable. (above_all pass.seen most, since.durable from most (above_all pass.seen most) (above_all_is journal.imsis pass.seen most) durable);
  always = λ from most durable told. (above_all pass.seen most, since.always from most (above_all pass.seen most) (above_all_is journal.imsis pass.seen most) durable told);
}

-- and if they didn't begin
pub unserved_leaves : {D : Type 0} (seen : D → Option (List ℕ)) (may_leave : D → List ℕ → Type 0) (moment : D → ℕ) (left_since : D → ℕ → List ℕ → Type 0) → ((disk : D) (image : List ℕ) → left_since disk (moment disk) image → may_leave disk image)
    → (journal : JournalState D) → LeavesMore seen may_leave moment left_since journal journal
unserved_leaves seen may_leave moment left_since only_now journal = record {
  rises = λ imsi. omega arith;
  durable = λ from most durable. (most, durable);
  always = λ from most durable told. (most, begins_left seen may_leave moment left_since only_now from most journal durable told);
}

-- what the stop that the lines tell says of the journals, by the keeper's
pub stop_told : {D : Type 0} (seen : D → Option (List ℕ)) (may_leave : D → List ℕ → Type 0) (faults moment : D → ℕ) (left_since : D → ℕ → List ℕ → Type 0) (journal after : JournalState D) (pass : KeeperValue) (records : List (List LineRecord))
    → Since seen may_leave faults moment left_since journal (record { journal = after; pass = pass }) → TellsStop faults journal (told_stop pass.stop records) after
stop_told seen may_leave faults moment left_since journal after pass records since =
    let told = fault_told pass.stop records in
    record {
      ready = (λ failed. told.1 (since.failed.0 failed), λ stop. since.failed.1 (told.0 stop));
      fault = λ stop. since.fault (told.0 stop);
      quiet = λ other. since.quiet (λ stop. other (told.1 stop));
      full = λ stop. (since.full (full_told pass.stop records stop)).0;
    }

-- a keeper can begin a round over its journal
pub can_keep : {D : Type 0} (rows : List Row) (openings tops : List ℕ) (workers : ℕ) (journal : JournalState D) (book : BookValue) (passes : List PassValue) (pass : KeeperValue)
    → AreSubscribers rows → IsJournalOf rows journal → Opens openings tops (limits_of journal) workers book passes pass → CanKeep book.id pass.passes (Some journal) journal pass
can_keep rows openings tops workers journal book passes pass subscribers is opens = record {
  own = opens.own;
  all = refl;
  begun = refl;
  ready = is.ready;
  differ = subscribers_differ rows journal.imsis is.subscribers subscribers.differ;
  limits = opens.reserved;
  running = opens.running;
}

-- the workers of a round share it and the book that was opened for it
pub opened_for : {D : Type 0} (shared : Shared) (journal : JournalState D) (book : BookValue) (passes : List PassValue) (keeper : KeeperValue) → IsServable shared → IsJournalOf shared.set.rows journal
    → Opens shared.state.words (tops_of shared.set.rows) (limits_of journal) shared.workers book passes keeper → IsShared book.id book.tops (length journal.imsis) shared book
opened_for shared journal book passes keeper servable is opens =
    let size : length book.openings ≡ length shared.set.rows = ap (λ (os : List ℕ). length os) opens.numbers ∙ servable.begins.1.subscribers.size in
    record {
      servable = servable;
      opened = record {
        own = (refl, refl);
        tops = opens.tops;
        size = size;
        sized = ap (λ (imsis : List Identity). length imsis) is.subscribers ∙ length-map shared.set.rows (λ (row : Row). row.imsi) ∙ sym size;
      };
    }

-- what they came to is of all its passes
pub have_worked : (shared : Shared) (limits : List ℕ) (book : BookValue) (passes : List PassValue) (before after : KeeperValue) (stop : Option Stop) (all : List WorkerJobs) → IsServable shared
    → Opens shared.state.words (tops_of shared.set.rows) limits shared.workers book passes before → after.id ≡ book.id → after.passes ≡ before.passes → stop ≡ after.stop
    → (length all ≡ length passes) × All (IsDone book.id book.tops shared) all → HaveWorked shared book all after stop
have_worked shared limits book passes before after stop all servable opens own kept stopped done = record {
  sized = ap (λ (os : List ℕ). length os) opens.numbers ∙ servable.begins.1.subscribers.size;
  tops = opens.tops;
  some = let some = servable.round.many.0 in omega (arith, done.0, opens.many, some);
  done = done.1;
  own = (own, kept ∙ opens.all ∙ sym opens.many ∙ sym done.0);
  stopped = stopped;
}

-- the limit at a row's place is what is reserved for its identity
limit_of_row : {D : Type 0} (rows : List Row) (journal : JournalState D) (sub : ℕ) (row : Row) → journal.imsis ≡ map (λ row. row.imsi) rows → slice_get rows sub ≡ Some row
    → slice_index (limits_of journal) sub ≡ reserved_in journal.limits row.imsi
limit_of_row rows journal sub row is there = ap (λ imsis. slice_index (map (λ imsi. reserved_in journal.limits imsi) imsis) sub) is ∙ by rows sub there
  where
    some_row : (a b : Row) → Some a ≡ Some b → a ≡ b
    some_row a b e = cc

    by : (rows : List Row) (sub : ℕ) → slice_get rows sub ≡ Some row → slice_index (map (λ imsi. reserved_in journal.limits imsi) (map (λ row. row.imsi) rows)) sub ≡ reserved_in journal.limits row.imsi
    by [] sub there = let bad : ⊥ = cc in absurd bad
    by (first ∷ rows) zero there = ap (λ (r : Row). reserved_in journal.limits r.imsi) (some_row first row there)
    by (first ∷ rows) (suc sub) there = by rows sub there

-- a round that tells of a full journal drew a number above its limit
drew_above : {D : Type 0} (set : Setting) (stop : Option Stop) (round : RoundRecord) (records : List (List LineRecord)) (before words : List ℕ) (after : JournalState D)
    → after.imsis ≡ map (λ row. row.imsi) set.rows → round.jobs ≡ records → GoesByLimits set stop records before words (limits_of after) → stop ≡ Some Full
    → (drew : DrewFull set.rows round) × (reserved_in after.limits drew.row.imsi < drew.number)
drew_above {D} set stop round records before words after subscribers is limits full =
    let (sub, known, n, held) = limits.full full in
    let (row, there) = some_at set.rows sub known in
    let numbers = subst (λ (ns : List ℕ). Contains ns n) (sym (withheld_of-held_of sub (all_lines records))) (number_held (held_of sub (all_lines records)) n Full held) in
    let above = All-contains (λ m. slice_index (limits_of after) sub < m) (withheld_of sub (all_lines records)) n (limits.above sub known) numbers in (
      record {
        sub = sub;
        row = row;
        there = there;
        number = n;
        drew = subst (λ (jobs : List (List LineRecord)). Contains (drawn (all_entries (entries_of_jobs sub [] jobs))) n) (sym is) (jobs_drawn sub [] records n Full held);
        withheld = subst (λ (jobs : List (List LineRecord)). Contains (held_of sub (all_lines jobs)) (n, Full)) (sym is) held;
      },
      subst (λ (limit : ℕ). limit < n) (limit_of_row set.rows after sub row subscribers there) above,
    )

-- a round whose pieces go by the limits is served
pub served_round : {D : Type 0} (seen : D → Option (List ℕ)) (may_leave : D → List ℕ → Type 0) (moment : D → ℕ) (left_since : D → ℕ → List ℕ → Type 0) (set : Setting) (state next : Standing) (jobs : List (List Line)) (journal after : JournalState D)
    (done : RoundPieces) (result : Result Ran NoMemory) → IfOk result (λ ran. (early : List LineRecord) → StandsAt set early state → LeadsOn set done.stop early state jobs ran.round done.words next)
    → IfOk result (λ ran. (ran.round.jobs ≡ done.jobs.records) × (ran.vectors ≡ done.jobs.vectors) × (ran.stop ≡ done.stop))
    → after.imsis ≡ map (λ row. row.imsi) set.rows → GoesByLimits set done.stop done.jobs.records (limits_of journal) done.words (limits_of after) → StaysNear seen may_leave moment left_since journal done.words after
    → IfOk result (λ ran. (early : List LineRecord) → StandsAt set early state → ServesRound seen may_leave moment left_since set early state jobs ran.round ran.stop journal next after)
served_round seen may_leave moment left_since set state next jobs journal after done (Ok ran) lawful parts subscribers limits near = λ early stands.
    let leads : LeadsOn set ran.stop early state jobs ran.round done.words next =
    subst (λ (stop : Option Stop). LeadsOn set stop early state jobs ran.round done.words next) (sym parts.2) (lawful early stands) in
    record {
      words = done.words;
      lawful = leads.lawful;
      opens = leads.opens;
      keeps = leads.keeps;
      limits = subst (λ (records : List (List LineRecord)). Raises set.rows (all_lines records) (limits_of journal) done.words (limits_of after)) (sym parts.0) limits.raises;
      withheld = λ sub row there.
          subst (λ (records : List (List LineRecord)). All (λ n. reserved_in after.limits row.imsi < n) (withheld_of sub (all_lines records))) (sym parts.0)
          (subst (λ (limit : ℕ). All (λ n. limit < n) (withheld_of sub (all_lines done.jobs.records))) (limit_of_row set.rows after sub row subscribers there)
          (limits.above sub (slice_get_within set.rows sub row there)));
      needs = λ full. drew_above set done.stop ran.round done.jobs.records (limits_of journal) done.words after subscribers parts.0 limits (sym parts.2 ∙ full);
      others = near.others;
      durable = near.durable;
      always = near.always;
    }
served_round seen may_leave moment left_since set state next jobs journal after done (Err e) lawful parts subscribers limits near = tt

-- what holds where a result is Ok holds of what it has
pub if_ok_at : {A E : Type 0} (P : A → Type 0) (result : Result A E) (x : A) → result ≡ Ok x → IfOk result P → P x
if_ok_at P result x is holds = subst (λ r. IfOk r P) is holds
