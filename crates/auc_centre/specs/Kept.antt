-- What a lock keeps in a round.
use Rattle.std.specs.Prelude.{◌≡◌, ℕ, ◌<◌, ◌≤◌, List, length, Option, Some, None}
use Rattle.atomic_table.specs.Seated.{TableId}
use Rattle.auc_journal.specs.Journal.{JournalState}
use Rattle.auc_keeper.specs.Keeper.{Ensures, KeeperState, Since, looked}
use Rattle.auc_keeper.specs.declared.keeper.Ensured.{Ensured}

-- how many subscribers the journal of the opening is for
abbrev pub subs_of : {D : Type 0} → Option (JournalState D) → ℕ
subs_of None = 0
subs_of (Some opening) = length opening.imsis

-- what holds of the keeper since its round began, if a round began
abbrev pub SinceOpening : {D : Type 0} → (D → Option (List ℕ)) → (D → List ℕ → Type 0) → (D → ℕ) → (D → ℕ) → (D → ℕ → List ℕ → Type 0) → Option (JournalState D) → KeeperState D → Type 0
SinceOpening seen may_leave faults moment left_since None k = ⊥
SinceOpening seen may_leave faults moment left_since (Some opening) k = Since seen may_leave faults moment left_since opening k

-- the keeper of a round, whose table this is, which has so many passes and which began with this journal
pub record IsKept {D : Type 0} (seen : D → Option (List ℕ)) (may_leave : D → List ℕ → Type 0) (faults moment : D → ℕ) (left_since : D → ℕ → List ℕ → Type 0) (table : TableId) (passes : ℕ) (opening : Option (JournalState D)) (k : KeeperState D) : Type 0 where
  -- its pass is of the table, and counts the passes
  pub own : k.pass.id ≡ table
  pub all : k.pass.passes ≡ passes
  pub since : SinceOpening seen may_leave faults moment left_since opening k

-- the keeper was asked to reserve a drawn number of a subscriber: it looked at the subscriber's word, and if it found the
-- number or a higher one there, it ensured the number. Of no other subscriber, and for no other number, it did anything
pub record AsksFor {D : Type 0} (sub n : ℕ) (old new : KeeperState D) : Type 0 where
  pub word : ℕ
  pub seen : n ≤ word → (answer : Ensured) × Ensures sub n (looked sub word old) answer new
  pub unseen : word < n → new ≡ looked sub word old
