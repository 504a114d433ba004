-- Keepers: what a reservation answers and leaves, and what holds of a keeper since its round began.
use Rattle.std.specs.Prelude.{◌≡◌, ◌≢◌, ◌↔◌, ◌⊎◌, ℕ, ◌+◌, ◌*◌, ◌^◌, ◌<◌, ◌≤◌, min, List, [], ◌∷◌, ◌++◌, All, length, slice_index, slice_set, true, false, Option, Some, None}
use Rattle.auc_memory.specs.Faults.{Rose}
use Rattle.auc_memory.specs.Identity.{Identity}
use Rattle.auc_memory.specs.declared.stop.Stop.{Stop}
use Rattle.auc_memory.specs.declared.stop.Stop.TheVariants.{Fault, Full}
use Rattle.auc_sqn.specs.Number.{max_seq}
use Rattle.auc_draw.specs.Values.{KeeperValue}
use Rattle.auc_journal.specs.Durable.{IsBetween, IsDurable, IsTold}
use Rattle.auc_journal.specs.Image.{Keeps, reserved_in}
use Rattle.auc_journal.specs.Journal.{JournalState, NeedsFrame, frame_for, frames_for, imsi_at, limits_of, reserved_at}
use Rattle.auc_journal.specs.Limits.{AreLimits}
use Rattle.auc_journal.specs.Settled.{IsClosable, LeavesOnly}
use Rattle.auc_keeper.specs.declared.keeper.Ensured.{Ensured}
use Rattle.auc_keeper.specs.declared.keeper.Ensured.TheVariants.{Yes, Stopped}
use Rattle.auc_keeper.specs.declared.keeper.Prepared.{Prepared}
use Rattle.auc_keeper.specs.declared.keeper.Prepared.TheVariants as prepared

-- what contracts see of a keeper: its journal, and its pass
pub record KeeperState (D : Type 0) : Type 0 where
  pub journal : JournalState D
  pub pass : KeeperValue

-- the limit that is reserved before a number is released: the number and the 63 after it, and no further than the greatest
abbrev pub limit_for : ℕ → ℕ
limit_for n = min (n + 63) max_seq

-- a limit was appended to the journal, and after that it was raised in the pass
pub record Reserves {D : Type 0} (sub limit : ℕ) (old new : KeeperState D) : Type 0 where
  pub limits : AreLimits new.journal.limits (old.journal.limits ++ frame_for old.journal sub limit ∷ [])
  pub place : new.journal.place ≡ old.journal.place + 19
  pub all : new.journal.all ≡ old.journal.all
  pub imsis : new.journal.imsis ≡ old.journal.imsis
  pub ready : new.journal.failed ≡ false
  pub raised : new.pass ≡ record old.pass { limits = slice_set old.pass.limits sub limit }

-- the append was refused for this cause: the limits stand, and the pass stopped
pub record Stops {D : Type 0} (stop : Stop) (old new : KeeperState D) : Type 0 where
  pub limits : new.journal.limits ≡ old.journal.limits
  pub place : new.journal.place ≡ old.journal.place
  pub all : new.journal.all ≡ old.journal.all
  pub imsis : new.journal.imsis ≡ old.journal.imsis
  pub failed : (new.journal.failed ≡ true) ↔ (stop ≡ Fault)
  -- it is full only if the file would have more than 2^30 bytes, and then nothing of it changed
  pub full : stop ≡ Full → (2 ^ 30 < old.journal.place + 20) × (new.journal ≡ old.journal)
  pub stopped : new.pass ≡ record old.pass { stop = Some stop }

-- the answer to a number above its limit, and what it leaves
abbrev pub AnswersAbove : {D : Type 0} → ℕ → ℕ → KeeperState D → Ensured → KeeperState D → Type 0
AnswersAbove sub n old (Yes limit) new = (limit ≡ limit_for n) × Reserves sub limit old new
AnswersAbove sub n old (Stopped stop) new = Stops stop old new

-- what is answered for a number of a subscriber, and what that leaves
pub record Ensures {D : Type 0} (sub n : ℕ) (old : KeeperState D) (result : Ensured) (new : KeeperState D) : Type 0 where
  -- a keeper that has stopped answers that, whatever the limit is
  pub stopped : (stop : Stop) → old.pass.stop ≡ Some stop → (result ≡ Stopped stop) × (new ≡ old)
  -- otherwise a limit that is enough is the answer
  pub enough : old.pass.stop ≡ None → n ≤ reserved_at old.journal sub → (result ≡ Yes (reserved_at old.journal sub)) × (new ≡ old)
  -- and if it isn't, a limit is appended, or the append is refused
  pub above : old.pass.stop ≡ None → reserved_at old.journal sub < n → AnswersAbove sub n old result new
  -- which it is as full, if the file would have more than 2^30 bytes
  pub full : old.pass.stop ≡ None → reserved_at old.journal sub < n → 2 ^ 30 < old.journal.place + 20 → result ≡ Stopped Full

-- a keeper after it looked at a subscriber's number word and found this
abbrev pub looked : {D : Type 0} → ℕ → ℕ → KeeperState D → KeeperState D
looked sub word k = record k { pass = record k.pass { seen = slice_set k.pass.seen sub word } }

-- an answer as its caller uses it: the limit is on the disk and in the pass, or the pass has stopped
abbrev pub Tells : {D : Type 0} → ℕ → ℕ → Ensured → KeeperState D → Type 0
Tells sub n (Yes limit) new = (n ≤ limit) × (slice_index new.pass.limits sub ≡ limit) × (reserved_at new.journal sub ≡ limit)
Tells sub n (Stopped stop) new = new.pass.stop ≡ Some stop

-- limits after those of several subscribers were set
abbrev pub set_all : List ℕ → List (ℕ × ℕ) → List ℕ
set_all limits [] = limits
set_all limits (item ∷ items) = set_all (slice_set limits item.0 item.1) items

-- a subscriber's limit may be raised to this one: it is a greater number, and at most 64 above the number word as the
-- keeper last looked at it; and it rises by 64 at least, unless to the greatest number
pub record MayRise (pass : KeeperValue) (sub limit : ℕ) : Type 0 where
  pub above : slice_index pass.limits sub < limit
  pub number : limit ≤ max_seq
  pub near : limit ≤ slice_index pass.seen sub + 64
  pub step : (limit ≡ max_seq) ⊎ (slice_index pass.limits sub + 64 ≤ limit)

-- the limits of a group were appended to the journal, and after that they were raised in the pass
pub record ReservesAll {D : Type 0} (items : List (ℕ × ℕ)) (old new : KeeperState D) : Type 0 where
  pub limits : AreLimits new.journal.limits (old.journal.limits ++ frames_for old.journal items)
  pub place : new.journal.place ≡ old.journal.place + (4 + 17 * length items)
  pub all : new.journal.all ≡ old.journal.all
  pub imsis : new.journal.imsis ≡ old.journal.imsis
  pub ready : new.journal.failed ≡ false
  pub raised : new.pass ≡ record old.pass { limits = set_all old.pass.limits items }
  -- so each of these subscribers has its limit, on the disk and in the pass
  pub each : All (λ item. (reserved_at new.journal item.0 ≡ item.1) × (slice_index new.pass.limits item.0 ≡ item.1)) items

-- the answer to a group of a keeper that hasn't stopped, and what it leaves
abbrev pub AnswersGroup : {D : Type 0} → List (ℕ × ℕ) → KeeperState D → Prepared → KeeperState D → Type 0
AnswersGroup items old prepared.Done new = ReservesAll items old new
AnswersGroup items old (prepared.Passed len) new = (len ≡ old.journal.place + 1) × (2 ^ 30 < len + (4 + 17 * length items)) × (new ≡ old)
AnswersGroup items old (prepared.Stopped stop) new = (stop ≡ Fault) × Stops stop old new

-- what is answered for a group, and what that leaves
pub record Prepares {D : Type 0} (items : List (ℕ × ℕ)) (old : KeeperState D) (result : Prepared) (new : KeeperState D) : Type 0 where
  -- a keeper that has stopped answers that
  pub stopped : (stop : Stop) → old.pass.stop ≡ Some stop → (result ≡ prepared.Stopped stop) × (new ≡ old)
  -- otherwise the limits are appended, or the append is refused
  pub going : old.pass.stop ≡ None → AnswersGroup items old result new
  -- and the group is passed, if the file would have more than 2^30 bytes
  pub full : old.pass.stop ≡ None → 2 ^ 30 < old.journal.place + 1 + (4 + 17 * length items) → result ≡ prepared.Passed (old.journal.place + 1)

-- a bound is no lower than another one, and at least 64 above the number that was seen of each subscriber with a place
pub record IsAbove (imsis : List Identity) (seen : List ℕ) (most more : Identity → ℕ) : Type 0 where
  pub keeps : (imsi : Identity) → most imsi ≤ more imsi
  pub admits : (i : ℕ) → i < length imsis → slice_index seen i + 64 ≤ more (imsi_at imsis i)

-- what a crash may leave since a round began with this journal, on a disk that had told these bytes: limits between those of
-- the opening and a bound, none of any identity below what the bytes reserve, and a gate that can be closed
pub record IsLeft {D : Type 0} (file : List ℕ) (opening : JournalState D) (most : Identity → ℕ) (image : List ℕ) : Type 0 where
  pub between : IsBetween opening most image
  pub keeps : Keeps file image
  pub closable : IsClosable image

-- what holds of a keeper since its round began with this journal
pub record Since {D : Type 0} (seen : D → Option (List ℕ)) (may_leave : D → List ℕ → Type 0) (faults moment : D → ℕ) (left_since : D → ℕ → List ℕ → Type 0) (opening : JournalState D) (k : KeeperState D) : Type 0 where
  pub subscribers : k.journal.imsis ≡ opening.imsis
  pub all : k.journal.all ≡ opening.all
  -- the limits of the pass are the journal's, and none fell
  pub limits : k.pass.limits ≡ limits_of k.journal
  pub rises : (imsi : Identity) → reserved_in opening.limits imsi ≤ reserved_in k.journal.limits imsi
  -- of an identity without a place it is as it was
  pub others : (imsi : Identity) → All (λ own. own ≢ imsi) opening.imsis → reserved_in k.journal.limits imsi ≡ reserved_in opening.limits imsi
  -- it stopped for a fault exactly if an append failed, and only with a higher count of faults
  pub failed : (k.journal.failed ≡ true) ↔ (k.pass.stop ≡ Some Fault)
  pub fault : k.pass.stop ≡ Some Fault → Rose (faults opening.disk) (faults k.journal.disk)
  pub quiet : k.pass.stop ≢ Some Fault → faults k.journal.disk ≡ faults opening.disk
  -- and as full only if the file would have more than 2^30 bytes with the frame that it needed
  pub full : k.pass.stop ≡ Some Full → (2 ^ 30 < k.journal.place + 20) × NeedsFrame k.journal k.pass.seen
  -- a crash leaves journals with these limits at least, and with none above a bound that is no lower than that of the
  -- opening, and at least 64 above the number that was seen of each subscriber with a place
  pub durable : (from : D) (most more : Identity → ℕ) → IsAbove opening.imsis k.pass.seen most more → IsDurable seen may_leave from most opening
      → IsDurable seen may_leave from more k.journal
  -- and so did a crash at any moment since the round began, also one during an append that failed
  pub always : (from : D) (most more : Identity → ℕ) → IsAbove opening.imsis k.pass.seen most more → IsDurable seen may_leave from most opening → (told : IsTold seen may_leave from)
      → LeavesOnly moment left_since opening.disk k.journal.disk (IsLeft told.0 opening more)
