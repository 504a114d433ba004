-- Inner facts: what only private contracts of this crate cite. Here: a round that is served over the subscribers that its lines name.
use Rattle.std.specs.Prelude.{◌≡◌, ◌≢◌, ◌↔◌, ℕ, ◌+◌, ◌<◌, ◌≤◌, ◌^◌, ◌++◌, AllPairs, Bool, true, IfOk, List, [], length, map, slice_index, Option, Some, Result, if◌then◌else◌}
use Rattle.auc_memory.specs.Faults.{Rose}
use Rattle.auc_memory.specs.declared.no_memory.NoMemory.{NoMemory}
use Rattle.auc_memory.specs.declared.stop.Stop.TheVariants.{Fault, Full}
use Rattle.auc_jobs.specs.Round.{IsJournalOf, LeavesMore, ServesRound}
use Rattle.auc_jobs.specs.Serving.{AreAllKnown}
use Rattle.auc_jobs.specs.State.{Standing, StandsAt}
use Rattle.auc_jobs.specs.declared.round.Ran.{Ran}
use Rattle.auc_journal.specs.Journal.{JournalState, limits_of}
use Rattle.auc_lines.specs.Part.{AreApart}
use Rattle.auc_lines.specs.declared.part.Line.{Line}
use Rattle.auc_named.specs.Named.{put_words}
use Rattle.auc_script.specs.Numbers.{most_workers}
use Rattle.auc_sqn.specs.Number.{max_seq}
use Rattle.auc_subs.specs.Subscriber.{AreSubscribers}
use Rattle.auc_record.specs.Lines.{all_lines}
use Rattle.auc_record.specs.Released.{AreReleased}
use Rattle.auc_subs.specs.Setting.{Setting}
use Rattle.auc_record.specs.Vectors.{vectors_in}
use Rattle.auc_record.specs.declared.record.LineRecord.{LineRecord}

-- a round of these jobs may be served from a state and a journal: the lines are of known subscribers, the journal is of all
-- subscribers, and each limit is a number
pub record MayServe {D : Type 0} (set : Setting) (threads : ℕ) (jobs : List (List Line)) (state : Standing) (found : JournalState D) : Type 0 where
  pub stands : (early : List LineRecord) × StandsAt set early state
  pub known : AreAllKnown set.rows jobs
  pub few : length jobs ≤ 200000
  pub apart : AllPairs AreApart jobs
  pub workers : (1 ≤ threads) × (threads ≤ most_workers)
  pub subscribers : AreSubscribers set.rows
  pub journal : IsJournalOf set.rows found
  pub all : found.all ≡ found.imsis
  pub limits : (sub : ℕ) → sub < length set.rows → slice_index (limits_of found) sub ≤ max_seq

-- what came of it, with the vectors that a full print wants; the journal stays one of all subscribers
pub record IsServed {D : Type 0} (seen : D → Option (List ℕ)) (may_leave : D → List ℕ → Type 0) (faults moment : D → ℕ) (left_since : D → ℕ → List ℕ → Type 0) (set : Setting) (printed : Bool) (jobs : List (List Line)) (first : ℕ) (state : Standing) (journal : JournalState D)
    (result : Result Ran NoMemory) (led : Standing) (after : JournalState D) : Type 0 where
  pub served : IfOk result (λ ran. (early : List LineRecord) → StandsAt set early state → ServesRound seen may_leave moment left_since set early state jobs ran.round ran.stop journal led after)
  pub next : IfOk result (λ ran. (early : List LineRecord) → StandsAt set early state → StandsAt set (early ++ all_lines ran.round.jobs) led)
  pub number : IfOk result (λ ran. ran.round.number ≡ first)
  pub vectors : IfOk result (λ ran. ran.vectors ≡ (if printed then map (vectors_in set) ran.round.jobs else []))
  pub subscribers : after.imsis ≡ journal.imsis
  pub all : after.all ≡ journal.all
  -- an append failed exactly if reservations ended for a fault
  pub ready : IfOk result (λ ran. (after.failed ≡ true) ↔ (ran.stop ≡ Some Fault))
  pub fault : IfOk result (λ ran. ran.stop ≡ Some Fault → Rose (faults journal.disk) (faults after.disk))
  pub quiet : IfOk result (λ ran. ran.stop ≢ Some Fault → faults after.disk ≡ faults journal.disk)
  pub full : IfOk result (λ ran. ran.stop ≡ Some Full → 2 ^ 30 < after.place + 20)
  pub leaves : LeavesMore seen may_leave moment left_since journal after

-- a state was led from a round of the subscribers at some places to the next round: their words became these, and the numbers that
-- the round released are noted
pub record IsLed (places own : List ℕ) (records : List (List LineRecord)) (old new : Standing) : Type 0 where
  pub words : new.words ≡ put_words old.words places own
  pub usims : new.usims ≡ old.usims
  pub kept : new.kept ≡ old.kept
  pub noted : (before : List LineRecord) → AreReleased old.released before → AreReleased new.released (before ++ all_lines records)
