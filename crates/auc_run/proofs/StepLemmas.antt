-- For a part of a scenario: what came of it, by what its calls answer.
use Rattle.std.proofs.Common.{◌≡◌, ◌≢◌, ℕ, ◌+◌, ◌<◌, ◌^◌, Bool, true, false, List, [], ◌∷◌, ◌++◌, Option, Some, None, Result, Ok, Err, OnOk, OnErr, IfOk, IfErr, refl, sym, ◌∙◌, ap, subst, inl, inr, arith}
use Rattle.std.specs.Prelude.{◌↔◌}
use Rattle.auc_memory.specs.declared.no_memory.NoMemory.{NoMemory}
use Rattle.auc_edge.specs.Sink.{Appends, AppendsFront}
use Rattle.auc_memory.specs.declared.stop.Stop.{Stop}
use Rattle.auc_memory.specs.declared.stop.Stop.TheVariants.{Fault, Full}
use Rattle.auc_journal.specs.Durable.{IsTold}
use Rattle.auc_journal.specs.Image.{reserved_as, reserved_in}
use Rattle.auc_journal.specs.Journal.{JournalState, limits_of}
use Rattle.auc_jobs.specs.Round.{DrewFull}
use Rattle.auc_jobs.specs.State.{AcceptNothing, Standing, StandsAt}
use Rattle.auc_lines.specs.declared.part.Line.{Line}
use Rattle.auc_lines.specs.declared.part.Part.TheVariants.{Round, Restart}
use Rattle.auc_print.specs.OneText.{RoundFits}
use Rattle.auc_print.specs.Text.{restart_text, round_text}
use Rattle.auc_world.specs.Limits.{opened}
use Rattle.auc_record.specs.Lines.{all_lines}
use Rattle.auc_subs.specs.Setting.{Setting}
use Rattle.auc_world.specs.Transcript.{Course, ServesRound, after_restart}
use Rattle.auc_record.specs.declared.record.LineRecord.{LineRecord}
use Rattle.auc_record.specs.declared.record.PartRecord.TheVariants as record_of
use Rattle.auc_record.specs.declared.record.RoundRecord.{RoundRecord}
use Rattle.auc_run.specs.Crash.{IsFull}
use Rattle.auc_refusal.specs.Refusal.{status_in, status_of}
use Rattle.auc_run.specs.Inner.{AreEnough, AreQuiet, Covers, EachLeads, EndsIn, GoesOn, MakesRound, Reserves, RoundLeads, ServesLast, StandsAfter, StandsOn, WritesRound}
use Rattle.auc_refusal.specs.Faults.{RoseOnDisk, IsQuiet}
use Rattle.auc_run.specs.InnerFaults.{RoseInRound}
use Rattle.auc_run.specs.Outcome.{EndsFull, IsStopOf, IsWritten}
use Rattle.auc_refusal.specs.declared.refusal.Refusal.{Refusal}
use Rattle.auc_refusal.specs.declared.refusal.Refusal.TheVariants as refused
use Rattle.auc_refusal.specs.declared.status.Status.{Status}
use Rattle.auc_refusal.specs.declared.status.Status.TheVariants as status
use Rattle.auc_run.proofs.QuietLemmas.{jobs_accept_nothing}
use Rattle.auc_run.proofs.StandLemmas.{covers_before, covers_of, restart_stands}

-- a journal that didn't fail in a round whose reservations ended otherwise, or not
pub ready_if : (failed : Bool) (stop : Option Stop) → (failed ≡ true) ↔ (stop ≡ Some Fault) → stop ≢ Some Fault → failed ≡ false
ready_if true stop iff not_fault = absurd (not_fault (iff.0 refl))
ready_if false stop iff not_fault = refl

not_none : (stop : Option Stop) → stop ≡ None → stop ≢ Some Fault
not_none stop is fault = apart (sym is ∙ fault)
  where
    apart : None ≡ Some Fault → ⊥
    apart same = cc

not_full : (stop : Option Stop) → stop ≡ Some Full → stop ≢ Some Fault
not_full stop is fault = apart (sym is ∙ fault)
  where
    apart : Some Full ≡ Some Fault → ⊥
    apart same = cc

-- ---- a round

-- it was served, and its text was made
pub made_round : {D : Type 0} (seen : D → Option (List ℕ)) (may_leave : D → List ℕ → Type 0) (moment : D → ℕ) (left_since : D → ℕ → List ℕ → Type 0) (set : Setting) (full : Bool) (number : ℕ) (state next : Standing) (journal after : JournalState D)
    (jobs : List (List Line)) (stop : Option Stop) (round : RoundRecord) (result : Result (Option Stop) NoMemory) (waits text : List ℕ)
    → EachLeads seen may_leave moment left_since set number state journal jobs round stop next after → ((early : List LineRecord) → StandsAt set early state → StandsAt set (early ++ all_lines round.jobs) next)
    → (after.failed ≡ true) ↔ (stop ≡ Some Fault) → (stop ≡ Some Full → 2 ^ 30 < after.place + 20)
    → IfOk result (λ other. other ≡ stop) → OnOk result (text ≡ waits ++ round_text set full round) → OnOk result (RoundFits round)
    → IfOk result (λ other. MakesRound seen may_leave moment left_since set full number state journal jobs other next after waits text)
made_round seen may_leave moment left_since set full number state next journal after jobs stop round (Err none) waits text leads stands failed no_room same is fits = tt
made_round seen may_leave moment left_since set full number state next journal after jobs stop round (Ok other) waits text leads stands failed no_room same is fits =
    subst (λ (s : Option Stop). MakesRound seen may_leave moment left_since set full number state journal jobs s next after waits text) (sym same)
    (record { round = round; leads = leads; stands = stands; failed = failed; no_room = no_room; fits = fits; is_text = is })

-- it was served, and memory ran out for its text
pub covers_round : {D : Type 0} (seen : D → Option (List ℕ)) (may_leave : D → List ℕ → Type 0) (moment : D → ℕ) (left_since : D → ℕ → List ℕ → Type 0) (set : Setting) (number : ℕ) (state next : Standing) (journal after : JournalState D)
    (jobs : List (List Line)) (round : RoundRecord) (stop : Option Stop) (result : Result (Option Stop) NoMemory)
    → EachLeads seen may_leave moment left_since set number state journal jobs round stop next after
    → OnErr result ((from : D) (reserved : List ℕ) (at : Course) (known : List LineRecord) → StandsAfter seen may_leave moment left_since set from reserved at known number state journal → AreEnough jobs at.early known
    → Covers seen may_leave moment left_since set.rows from reserved at.early after)
covers_round seen may_leave moment left_since set number state next journal after jobs round stop (Ok other) leads = tt
covers_round seen may_leave moment left_since set number state next journal after jobs round stop (Err none) leads = λ from reserved at known on enough.
    let on_from = leads from reserved at known on enough in
    covers_before seen may_leave moment left_since set.rows from reserved at.early (all_lines round.jobs) on_from.next after on_from.early on_from.reserves

-- what holds of why reservations ended holds of the answer
pub each_stop : (result : Result (Option Stop) NoMemory) (stop : Option Stop) (P : Option Stop → Type 0) → IfOk result (λ other. other ≡ stop) → P stop → IfOk result P
each_stop (Ok other) stop P same holds = subst P (sym same) holds
each_stop (Err none) stop P same holds = tt

-- the next part goes on from a round in which no fault ended reservations
pub goes_on : {D : Type 0} (seen : D → Option (List ℕ)) (may_leave : D → List ℕ → Type 0) (moment : D → ℕ) (left_since : D → ℕ → List ℕ → Type 0) (set : Setting) (full : Bool) (number : ℕ) (state next : Standing) (journal after : JournalState D)
    (jobs : List (List Line)) (stop : Option Stop) (waits text : List ℕ)
    → (makes : MakesRound seen may_leave moment left_since set full number state journal jobs stop next after waits text) → stop ≢ Some Fault
    → (from : D) (reserved : List ℕ) (at : Course) (on : StandsOn seen may_leave moment left_since set from reserved at number state journal)
    → StandsOn seen may_leave moment left_since set from reserved (makes.leads from reserved at at.early on (inl refl)).next (number + 1) next after
goes_on seen may_leave moment left_since set full number state next journal after jobs stop waits text makes not_fault from reserved at on =
    let leads = makes.leads from reserved at at.early on (inl refl) in
    record {
      numbered = leads.number ∙ ap (λ (n : ℕ). n + 1) on.numbered;
      stands = subst (λ (early : List LineRecord). StandsAt set early next) (sym leads.early) (makes.stands at.early on.stands);
      kept = leads.kept;
      opens = leads.opens;
      ready = ready_if after.failed stop makes.failed not_fault;
      reserves = leads.reserves;
    }

-- if its lines may all stand in a block, it goes on from a state that has forgotten which vectors were released
pub goes_quietly : {D : Type 0} (seen : D → Option (List ℕ)) (may_leave : D → List ℕ → Type 0) (moment : D → ℕ) (left_since : D → ℕ → List ℕ → Type 0) (set : Setting) (full : Bool) (number : ℕ) (state next later : Standing) (journal after : JournalState D)
    (jobs : List (List Line)) (stop : Option Stop) (waits text : List ℕ)
    → (makes : MakesRound seen may_leave moment left_since set full number state journal jobs stop next after waits text) → stop ≢ Some Fault → (quiet : AreQuiet jobs)
    → later ≡ record next { released = [] } → ((other : Setting) (early : List LineRecord) → AcceptNothing early → StandsAt other early next → StandsAt other [] later)
    → (from : D) (reserved : List ℕ) (at : Course) (on : StandsAfter seen may_leave moment left_since set from reserved at [] number state journal)
    → StandsAfter seen may_leave moment left_since set from reserved (makes.leads from reserved at [] on (inr quiet)).next [] (number + 1) later after
goes_quietly seen may_leave moment left_since set full number state next later journal after jobs stop waits text makes not_fault quiet same forgets from reserved at on =
    let leads = makes.leads from reserved at [] on (inr quiet) in
    let lawful = leads.served.lawful in
    record {
      numbered = leads.number ∙ ap (λ (n : ℕ). n + 1) on.numbered;
      stands = forgets set (all_lines makes.round.jobs) (jobs_accept_nothing set at.early at.kept [] jobs makes.round.jobs lawful.nets quiet lawful.given) (makes.stands [] on.stands);
      kept = ap (λ (s : Standing). s.kept) same ∙ leads.kept;
      opens = ap (λ (s : Standing). s.words) same ∙ leads.opens;
      ready = ready_if after.failed stop makes.failed not_fault;
      reserves = leads.reserves;
    }

-- it was served and written, and the next part goes on
pub round_goes : {D : Type 0} (seen : D → Option (List ℕ)) (may_leave : D → List ℕ → Type 0) (moment : D → ℕ) (left_since : D → ℕ → List ℕ → Type 0) (set : Setting) (full : Bool) (number : ℕ) (state next : Standing) (journal after : JournalState D)
    (jobs : List (List Line)) (stop : Option Stop) (result : Result (Unit {0}) Refusal) (waits text left : List ℕ) (old new : Option (List ℕ))
    → MakesRound seen may_leave moment left_since set full number state journal jobs stop next after waits text
    → IsStopOf (status_in result) stop → IsWritten (status_in result) old new text
    → OnOk result (left ≡ []) → OnOk result ((from : D) (reserved : List ℕ) (at : Course) → StandsOn seen may_leave moment left_since set from reserved at number state journal
    → GoesOn seen may_leave moment left_since set full from reserved at (Round jobs) (number + 1) next after waits left old new)
round_goes seen may_leave moment left_since set full number state next journal after jobs stop (Err refusal) waits text left old new makes stopped written none = tt
round_goes seen may_leave moment left_since set full number state next journal after jobs stop (Ok done) waits text left old new makes stopped written none = λ from reserved at on.
    let leads = makes.leads from reserved at at.early on (inl refl) in
    record {
      made = record_of.Round makes.round;
      next = leads.next;
      served = subst (λ (s : Option Stop). ServesRound set s at jobs makes.round leads.next) stopped leads.served;
      on = goes_on seen may_leave moment left_since set full number state next journal after jobs stop waits text makes (not_none stop stopped) from reserved at on;
      fits = makes.fits;
      put = (subst (Appends old new) makes.is_text written, none);
    }

-- a journal that is full
pub full_journal : {D : Type 0} (seen : D → Option (List ℕ)) (may_leave : D → List ℕ → Type 0) (moment : D → ℕ) (left_since : D → ℕ → List ℕ → Type 0) (set : Setting) (from : D) (reserved : List ℕ) (end : Course) (after : JournalState D)
    → Reserves seen may_leave moment left_since set.rows from reserved end after → after.failed ≡ false → 2 ^ 30 < after.place + 20 → IsTold seen may_leave from → IsFull (seen after.disk)
full_journal seen may_leave moment left_since set from reserved end after reserves ready full told file is =
    let at = reserves.durable.ready told ready in
    (record { frames = at.frames; end = after.place }, (at.settled.at_rest file is).read, omega (arith, full))

-- a round that drew a number above what such a journal reserves for its subscriber
ends_full : {D : Type 0} (seen : D → Option (List ℕ)) (may_leave : D → List ℕ → Type 0) (moment : D → ℕ) (left_since : D → ℕ → List ℕ → Type 0) (set : Setting) (from : D) (reserved : List ℕ) (end : Course) (round : RoundRecord) (after : JournalState D)
    → Reserves seen may_leave moment left_since set.rows from reserved end after → after.failed ≡ false → (drew : DrewFull set.rows round) × (reserved_in after.limits drew.row.imsi < drew.number)
    → EndsFull seen may_leave set.rows from (record_of.Round round ∷ []) after.disk
ends_full seen may_leave moment left_since set from reserved end round after reserves ready (drew, above) = record {
  before = [];
  round = round;
  last = refl;
  drew = drew;
  above = λ told file is.
      let at = reserves.durable.ready told ready in
      let same = at.same drew.row.imsi in
      let read = ap (λ r. reserved_as r drew.row.imsi) (at.settled.at_rest file is).read in
      omega (arith, same, read, above);
}

-- it was the last, and it was written
last_round : {D : Type 0} (seen : D → Option (List ℕ)) (may_leave : D → List ℕ → Type 0) (moment : D → ℕ) (left_since : D → ℕ → List ℕ → Type 0) (set : Setting) (full : Bool) (from : D) (reserved : List ℕ) (at : Course) (next : Standing) (after : JournalState D)
    (jobs : List (List Line)) (round : RoundRecord) (stop : Option Stop) (waits : List ℕ) (old new : Option (List ℕ)) (ended : Status)
    → RoundLeads seen may_leave moment left_since set from reserved at jobs round stop next after → IsStopOf ended stop → IsWritten ended old new (waits ++ round_text set full round) → RoundFits round
    → (ended ≡ status.StoreFull → IsTold seen may_leave from → IsFull (seen after.disk)) → (ended ≡ status.StoreFull → EndsFull seen may_leave set.rows from (record_of.Round round ∷ []) after.disk)
    → ServesLast seen may_leave moment left_since set full from reserved at (Round jobs) ended after waits old new
last_round seen may_leave moment left_since set full from reserved at next after jobs round stop waits old new ended leads stopped written fits full_at ends = record {
  stop = stop;
  stopped = stopped;
  made = record_of.Round round;
  next = leads.next;
  served = leads.served;
  fits = fits;
  reserves = leads.reserves;
  written = written;
  full_at = full_at;
  ends_full = ends;
}

not_at : status.WriteFault ≡ status.StoreFull → ⊥
not_at same = cc

fault_at : status.StoreFault ≡ status.StoreFull → ⊥
fault_at same = cc

-- a run ends in it
pub round_ends : {D : Type 0} (seen : D → Option (List ℕ)) (may_leave : D → List ℕ → Type 0) (moment : D → ℕ) (left_since : D → ℕ → List ℕ → Type 0) (set : Setting) (full : Bool) (number : ℕ) (state next : Standing) (journal after : JournalState D)
    (jobs : List (List Line)) (stop : Option Stop) (result : Result (Unit {0}) Refusal) (waits text : List ℕ) (old new : Option (List ℕ))
    → MakesRound seen may_leave moment left_since set full number state journal jobs stop next after waits text
    → IsStopOf (status_in result) stop → IsWritten (status_in result) old new text → result ≢ Err refused.NoMemory
    → IfErr result (λ refusal. (from : D) (reserved : List ℕ) (at : Course) → StandsOn seen may_leave moment left_since set from reserved at number state journal
    → EndsIn seen may_leave moment left_since set full from reserved at (Round jobs) (status_of refusal) after waits old new)
round_ends seen may_leave moment left_since set full number state next journal after jobs stop (Ok done) waits text old new makes stopped written spared = tt
round_ends seen may_leave moment left_since set full number state next journal after jobs stop (Err refused.WriteFault) waits text old new makes stopped written spared = λ from reserved at on.
    let leads = makes.leads from reserved at at.early on (inl refl) in
    last_round seen may_leave moment left_since set full from reserved at next after jobs makes.round stop waits old new status.WriteFault leads tt (subst (AppendsFront old new) makes.is_text written) makes.fits (λ is told. absurd (not_at is)) (λ is. absurd (not_at is))
round_ends seen may_leave moment left_since set full number state next journal after jobs stop (Err refused.StoreFault) waits text old new makes stopped written spared = λ from reserved at on.
    let leads = makes.leads from reserved at at.early on (inl refl) in
    last_round seen may_leave moment left_since set full from reserved at next after jobs makes.round stop waits old new status.StoreFault leads stopped (subst (Appends old new) makes.is_text written) makes.fits (λ is told. absurd (fault_at is)) (λ is. absurd (fault_at is))
round_ends seen may_leave moment left_since set full number state next journal after jobs stop (Err refused.StoreFull) waits text old new makes stopped written spared = λ from reserved at on.
    let leads = makes.leads from reserved at at.early on (inl refl) in
    last_round seen may_leave moment left_since set full from reserved at next after jobs makes.round stop waits old new status.StoreFull leads stopped (subst (Appends old new) makes.is_text written) makes.fits
    (λ is. full_journal seen may_leave moment left_since set from reserved leads.next after leads.reserves (ready_if after.failed stop makes.failed (not_full stop stopped)) (makes.no_room stopped))
    (λ is. ends_full seen may_leave moment left_since set from reserved leads.next makes.round after leads.reserves (ready_if after.failed stop makes.failed (not_full stop stopped)) (leads.needs stopped))
round_ends seen may_leave moment left_since set full number state next journal after jobs stop (Err refused.NoMemory) waits text old new makes stopped written spared = absurd (spared refl)
round_ends seen may_leave moment left_since set full number state next journal after jobs stop (Err refused.Usage) waits text old new makes stopped written spared = absurd stopped
round_ends seen may_leave moment left_since set full number state next journal after jobs stop (Err (refused.Subscribers row fault)) waits text old new makes stopped written spared = absurd stopped
round_ends seen may_leave moment left_since set full number state next journal after jobs stop (Err (refused.Scenario line fault)) waits text old new makes stopped written spared = absurd stopped
round_ends seen may_leave moment left_since set full number state next journal after jobs stop (Err refused.ReadFault) waits text old new makes stopped written spared = absurd stopped
round_ends seen may_leave moment left_since set full number state next journal after jobs stop (Err (refused.NotJournal place)) waits text old new makes stopped written spared = absurd stopped
round_ends seen may_leave moment left_since set full number state next journal after jobs stop (Err refused.TooLong) waits text old new makes stopped written spared = absurd stopped

-- if it ends without a fault, reservations didn't end by one
pub quiet_round : (stop : Option Stop) (result : Result (Unit {0}) Refusal) → IsStopOf (status_in result) stop → IsQuiet (status_in result) → stop ≢ Some Fault
quiet_round stop (Ok done) stopped quiet = not_none stop stopped
quiet_round stop (Err refused.StoreFull) stopped quiet = not_full stop stopped
quiet_round stop (Err refused.WriteFault) stopped quiet = absurd quiet
quiet_round stop (Err refused.StoreFault) stopped quiet = absurd quiet
quiet_round stop (Err refused.NoMemory) stopped quiet = absurd quiet
quiet_round stop (Err refused.Usage) stopped quiet = absurd stopped
quiet_round stop (Err (refused.Subscribers row fault)) stopped quiet = absurd stopped
quiet_round stop (Err (refused.Scenario line fault)) stopped quiet = absurd stopped
quiet_round stop (Err refused.ReadFault) stopped quiet = absurd stopped
quiet_round stop (Err (refused.NotJournal place)) stopped quiet = absurd stopped
quiet_round stop (Err refused.TooLong) stopped quiet = absurd stopped

-- a fault that it ends with ended reservations
pub fault_round : (stop : Option Stop) (result : Result (Unit {0}) Refusal) → IsStopOf (status_in result) stop → result ≡ Err refused.StoreFault → stop ≡ Some Fault
fault_round stop (Err refused.StoreFault) stopped is = stopped
fault_round stop (Ok done) stopped is = cc
fault_round stop (Err refused.StoreFull) stopped is = cc
fault_round stop (Err refused.WriteFault) stopped is = cc
fault_round stop (Err refused.NoMemory) stopped is = cc
fault_round stop (Err refused.Usage) stopped is = cc
fault_round stop (Err (refused.Subscribers row fault)) stopped is = cc
fault_round stop (Err (refused.Scenario line fault)) stopped is = cc
fault_round stop (Err refused.ReadFault) stopped is = cc
fault_round stop (Err (refused.NotJournal place)) stopped is = cc
fault_round stop (Err refused.TooLong) stopped is = cc

-- ---- a round was made, and its text was written or not

-- the next part goes on
pub part_goes : {D : Type 0} (seen : D → Option (List ℕ)) (may_leave : D → List ℕ → Type 0) (moment : D → ℕ) (left_since : D → ℕ → List ℕ → Type 0) (set : Setting) (full : Bool) (number : ℕ) (state next : Standing) (journal after : JournalState D)
    (jobs : List (List Line)) (made : Result (Option Stop) NoMemory) (result : Result (Unit {0}) Refusal) (waits text left : List ℕ) (old new : Option (List ℕ))
    → IfOk made (λ stop. MakesRound seen may_leave moment left_since set full number state journal jobs stop next after waits text) → WritesRound made text result left old new
    → OnOk result ((from : D) (reserved : List ℕ) (at : Course) → StandsOn seen may_leave moment left_since set from reserved at number state journal
    → GoesOn seen may_leave moment left_since set full from reserved at (Round jobs) (number + 1) next after waits left old new)
part_goes seen may_leave moment left_since set full number state next journal after jobs (Ok stop) result waits text left old new makes wrote =
    round_goes seen may_leave moment left_since set full number state next journal after jobs stop result waits text left old new makes wrote.stopped wrote.written wrote.done
part_goes seen may_leave moment left_since set full number state next journal after jobs (Err none) result waits text left old new makes (is, same) = rw is tt

-- a run ends in it
pub part_ends : {D : Type 0} (seen : D → Option (List ℕ)) (may_leave : D → List ℕ → Type 0) (moment : D → ℕ) (left_since : D → ℕ → List ℕ → Type 0) (set : Setting) (full : Bool) (number : ℕ) (state next : Standing) (journal after : JournalState D)
    (jobs : List (List Line)) (made : Result (Option Stop) NoMemory) (result : Result (Unit {0}) Refusal) (waits text left : List ℕ) (old new : Option (List ℕ))
    → IfOk made (λ stop. MakesRound seen may_leave moment left_since set full number state journal jobs stop next after waits text)
    → OnErr made ((from : D) (reserved : List ℕ) (at : Course) (known : List LineRecord) → StandsAfter seen may_leave moment left_since set from reserved at known number state journal → AreEnough jobs at.early known
    → Covers seen may_leave moment left_since set.rows from reserved at.early after)
    → WritesRound made text result left old new
    → IfErr result (λ refusal. (from : D) (reserved : List ℕ) (at : Course) → StandsOn seen may_leave moment left_since set from reserved at number state journal
    → EndsIn seen may_leave moment left_since set full from reserved at (Round jobs) (status_of refusal) after waits old new)
part_ends seen may_leave moment left_since set full number state next journal after jobs (Ok stop) result waits text left old new makes covers wrote =
    round_ends seen may_leave moment left_since set full number state next journal after jobs stop result waits text old new makes wrote.stopped wrote.written wrote.spared
part_ends seen may_leave moment left_since set full number state next journal after jobs (Err none) result waits text left old new makes covers (is, same) =
    rw is (λ from reserved at on. (covers from reserved at at.early on (inl refl), same))

-- want of memory is no fault of the disk
not_store : (result : Result (Unit {0}) Refusal) → result ≡ Err refused.NoMemory → result ≡ Err refused.StoreFault → ⊥
not_store result is other = cc

-- the count of the disk rose exactly if a fault ended reservations
pub part_store : (made : Result (Option Stop) NoMemory) (result : Result (Unit {0}) Refusal) (text left : List ℕ) (old new : Option (List ℕ)) (before now : ℕ)
    → IfOk made (λ stop. RoseInRound stop before now) → WritesRound made text result left old new → RoseOnDisk result before now
part_store (Ok stop) result text left old new before now rose wrote = record {
  rose = λ is. rose.rose (fault_round stop result wrote.stopped is);
  same = λ quiet. rose.same (quiet_round stop result wrote.stopped quiet);
}
part_store (Err none) result text left old new before now rose (is, same) = record {
  rose = λ fault. absurd (not_store result is fault);
  same = λ quiet. absurd (rw is at quiet);
}

-- ---- a restart

-- the next part goes on from a restart
pub restart_goes : {D : Type 0} (seen : D → Option (List ℕ)) (may_leave : D → List ℕ → Type 0) (moment : D → ℕ) (left_since : D → ℕ → List ℕ → Type 0) (set : Setting) (full : Bool) (number later : ℕ) (state next : Standing) (journal after : JournalState D)
    (result : Result (Unit {0}) Refusal) (waits left : List ℕ) (old : Option (List ℕ))
    → after ≡ journal → later ≡ number
    → OnOk result (next.words ≡ opened set.rows (limits_of journal)) → OnOk result (next.kept ≡ state.kept) → OnOk result ((other : Setting) (early : List LineRecord) → other.rows ≡ set.rows → StandsAt other early state → StandsAt other early next)
    → OnOk result (left ≡ waits ++ restart_text)
    → OnOk result ((from : D) (reserved : List ℕ) (at : Course) → StandsOn seen may_leave moment left_since set from reserved at number state journal
    → GoesOn seen may_leave moment left_since set full from reserved at Restart later next after waits left old old)
restart_goes seen may_leave moment left_since set full number later state next journal after (Err refusal) waits left old same count words names stands text = tt
restart_goes {D} seen may_leave moment left_since set full number later state next journal after (Ok done) waits left old same count words names stands text = λ from reserved at on.
    let leads = restart_stands seen may_leave moment left_since set from reserved at number state next journal on words names (stands set at.early refl on.stands) in
    record {
      made = record_of.Restart;
      next = after_restart set.rows at (limits_of journal);
      served = leads.0;
      on = subst (λ (n : ℕ). StandsOn seen may_leave moment left_since set from reserved (after_restart set.rows at (limits_of journal)) n next after) (sym count)
          (subst (λ (j : JournalState D). StandsOn seen may_leave moment left_since set from reserved (after_restart set.rows at (limits_of journal)) number next j) (sym same) leads.1);
      fits = tt;
      put = (refl, text);
    }

-- a run ends in it if memory runs out
pub restart_ends : {D : Type 0} (seen : D → Option (List ℕ)) (may_leave : D → List ℕ → Type 0) (moment : D → ℕ) (left_since : D → ℕ → List ℕ → Type 0) (set : Setting) (full : Bool) (number : ℕ) (state : Standing) (journal after : JournalState D)
    (result : Result (Unit {0}) Refusal) (waits : List ℕ) (old : Option (List ℕ)) → after ≡ journal → IfErr result (λ refusal. refusal ≡ refused.NoMemory)
    → IfErr result (λ refusal. (from : D) (reserved : List ℕ) (at : Course) → StandsOn seen may_leave moment left_since set from reserved at number state journal
    → EndsIn seen may_leave moment left_since set full from reserved at Restart (status_of refusal) after waits old old)
restart_ends seen may_leave moment left_since set full number state journal after (Ok done) waits old same none = tt
restart_ends {D} seen may_leave moment left_since set full number state journal after (Err refusal) waits old same none = λ from reserved at on.
    subst (λ (r : Refusal). EndsIn seen may_leave moment left_since set full from reserved at Restart (status_of r) after waits old old) (sym none)
    (subst (λ (j : JournalState D). Covers seen may_leave moment left_since set.rows from reserved at.early j) (sym same) (covers_of seen may_leave moment left_since set.rows from reserved at journal on.reserves), refl)
