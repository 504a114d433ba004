-- A round that is served with a journal.
use Rattle.std.specs.Prelude.{◌≡◌, ◌≢◌, ℕ, ◌<◌, ◌≤◌, false, List, All, AllPairs, Contains, length, map, slice_get, Option, Some}
use Rattle.auc_memory.specs.Identity.{Identity}
use Rattle.auc_memory.specs.declared.stop.Stop.{Stop}
use Rattle.auc_memory.specs.declared.stop.Stop.TheVariants.{Full}
use Rattle.auc_history.specs.History.{drawn}
use Rattle.auc_journal.specs.Durable.{IsDurable, IsTold}
use Rattle.auc_journal.specs.Image.{reserved_in}
use Rattle.auc_journal.specs.Journal.{JournalState, limits_of}
use Rattle.auc_journal.specs.Settled.{LeavesOnly}
use Rattle.auc_keeper.specs.Keeper.{IsAbove, IsLeft}
use Rattle.auc_lines.specs.Part.{AreApart}
use Rattle.auc_lines.specs.declared.part.Line.{Line}
use Rattle.auc_subs.specs.Subscriber.{AreSubscribers}
use Rattle.auc_subs.specs.declared.row.Row.{Row}
use Rattle.auc_world.specs.Limits.{Raises}
use Rattle.auc_record.specs.Lines.{all_lines, held_of, withheld_of}
use Rattle.auc_world.specs.Round.{IsLawfulRound}
use Rattle.auc_subs.specs.Setting.{Setting}
use Rattle.auc_world.specs.Start.{kept_by_jobs}
use Rattle.auc_world.specs.Transcript.{entries_of}
use Rattle.auc_record.specs.Openings.{reopened}
use Rattle.auc_record.specs.declared.record.LineRecord.{LineRecord}
use Rattle.auc_record.specs.declared.record.RoundRecord.{RoundRecord}
use Rattle.auc_jobs.specs.Serving.{AreAllKnown}
use Rattle.auc_jobs.specs.State.{Standing}

-- a round of these jobs may be served by so many workers: their lines are of known subscribers, no two of them hold one USIM,
-- and the setting is one of subscribers
pub record IsRound (set : Setting) (jobs : List (List Line)) (workers : ℕ) : Type 0 where
  pub subscribers : AreSubscribers set.rows
  pub known : AreAllKnown set.rows jobs
  pub few : length jobs ≤ 200000
  pub apart : AllPairs AreApart jobs
  pub many : (1 ≤ workers) × (workers ≤ 64)

-- a journal is one of these subscribers, and no append failed
pub record IsJournalOf {D : Type 0} (rows : List Row) (journal : JournalState D) : Type 0 where
  pub subscribers : journal.imsis ≡ map (λ row. row.imsi) rows
  pub ready : journal.failed ≡ false

-- a round drew a number of a subscriber, and withheld it because the journal is full
pub record DrewFull (rows : List Row) (round : RoundRecord) : Type 0 where
  pub sub : ℕ
  pub row : Row
  pub there : slice_get rows sub ≡ Some row
  pub number : ℕ
  pub drew : Contains (drawn (entries_of sub round)) number
  pub withheld : Contains (held_of sub (all_lines round.jobs)) (number, Full)

-- a round was served after the lines of earlier rounds: from a state and a journal to the next ones. Reservations may have
-- ended in it, for this cause
pub record ServesRound {D : Type 0} (seen : D → Option (List ℕ)) (may_leave : D → List ℕ → Type 0) (moment : D → ℕ) (left_since : D → ℕ → List ℕ → Type 0) (set : Setting) (early : List LineRecord) (state : Standing) (jobs : List (List Line)) (round : RoundRecord) (stop : Option Stop) (journal : JournalState D) (next : Standing) (after : JournalState D) : Type 0 where
  -- the subscribers' words after it
  pub words : List ℕ
  pub lawful : IsLawfulRound set stop early state.kept state.words jobs round words
  pub opens : next.words ≡ reopened set.rows words
  -- homes and devices keep what the networks of the jobs leave
  pub keeps : next.kept ≡ kept_by_jobs state.kept lawful.nets
  -- each released number is within the limits of the journal
  pub limits : Raises set.rows (all_lines round.jobs) (limits_of journal) words (limits_of after)
  -- each withheld number is above what the journal reserves for its subscriber, by the identity
  pub withheld : (sub : ℕ) (row : Row) → slice_get set.rows sub ≡ Some row → All (λ n. reserved_in after.limits row.imsi < n) (withheld_of sub (all_lines round.jobs))
  -- reservations ended as full only if the round drew a number above what the journal reserves for its subscriber
  pub needs : stop ≡ Some Full → (drew : DrewFull set.rows round) × (reserved_in after.limits drew.row.imsi < drew.number)
  -- the limits of all other identities stand
  pub others : (imsi : Identity) → All (λ own. own ≢ imsi) journal.imsis → reserved_in after.limits imsi ≡ reserved_in journal.limits imsi
  -- a crash leaves these limits at least, and none above that of before and a step above the word
  pub durable : (from : D) (most more : Identity → ℕ) → IsAbove journal.imsis words most more → IsDurable seen may_leave from most journal → IsDurable seen may_leave from more after
  -- and at any moment since the round began, while its threads run too, a crash leaves the limits of before at least, and none
  -- above that bound
  pub always : (from : D) (most more : Identity → ℕ) → IsAbove journal.imsis words most more → IsDurable seen may_leave from most journal → (told : IsTold seen may_leave from)
      → LeavesOnly moment left_since journal.disk after.disk (IsLeft told.0 journal more)

-- what a round leaves of its journal, also if memory ran out: no limit fell, and a crash leaves journals with the limits at least; at
-- any moment since the round began it leaves those of before at least
pub record LeavesMore {D : Type 0} (seen : D → Option (List ℕ)) (may_leave : D → List ℕ → Type 0) (moment : D → ℕ) (left_since : D → ℕ → List ℕ → Type 0) (journal after : JournalState D) : Type 0 where
  pub rises : (imsi : Identity) → reserved_in journal.limits imsi ≤ reserved_in after.limits imsi
  pub durable : (from : D) (most : Identity → ℕ) → IsDurable seen may_leave from most journal → (more : Identity → ℕ) × IsDurable seen may_leave from more after
  pub always : (from : D) (most : Identity → ℕ) → IsDurable seen may_leave from most journal → (told : IsTold seen may_leave from)
      → (more : Identity → ℕ) × LeavesOnly moment left_since journal.disk after.disk (IsLeft told.0 journal more)
