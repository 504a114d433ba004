-- What a crash may leave since a round began, also one during an append: for the keeper, and for the crates that use it.
use Rattle.std.proofs.Common.{◌≡◌, inl, inr, ⊎_elim, ℕ, ◌+◌, ◌≤◌, List, ◌++◌, Option, Some, None, refl, sym, ap, subst, arith}
use Rattle.std.specs.Prelude.{Result, Ok, true}
use Rattle.std.specs.Option.{is_some}
use Rattle.auc_memory.specs.Identity.{Identity}
use Rattle.auc_journal.specs.Durable.{AdmitsAll, AreBetween, IsDurable, IsReady, IsTold}
use Rattle.auc_journal.specs.Image.{Frame, Keeps, Reading, read_image, reserved_as, reserved_by, reserved_in}
use Rattle.auc_journal.specs.Journal.{JournalState}
use Rattle.auc_journal.specs.Settled.{IsAppendingAll, IsBeforeOrAfter, IsSettled, LeavesOnly}
use Rattle.auc_journal.proofs.Facts.{reserved-append}
use Rattle.auc_keeper.specs.Keeper.{IsLeft}

-- a stretch of calls, and one after it
pub both_leave : {D : Type 0} (moment : D → ℕ) (left_since : D → ℕ → List ℕ → Type 0) (old mid new : D) (P Q R : List ℕ → Type 0) → ((image : List ℕ) → P image → R image) → ((image : List ℕ) → Q image → R image)
    → LeavesOnly moment left_since old mid P → LeavesOnly moment left_since mid new Q → LeavesOnly moment left_since old new R
both_leave moment left_since old mid new P Q R first second before after = record {
  later = omega (arith, before.later, after.later);
  each = λ image left. ⊎_elim (λ was. first image (before.each image was)) (second image) (after.before (moment old) image before.later left);
  before = λ t image le left.
      ⊎_elim (λ was. ⊎_elim inl (λ is. inr (first image is)) (before.before t image le was)) (λ is. inr (second image is))
      (after.before t image (omega (arith, le, before.later)) left);
}

-- what a stretch leaves, said with less
pub leaves_less : {D : Type 0} (moment : D → ℕ) (left_since : D → ℕ → List ℕ → Type 0) (old new : D) (P R : List ℕ → Type 0) → ((image : List ℕ) → P image → R image)
    → LeavesOnly moment left_since old new P → LeavesOnly moment left_since old new R
leaves_less moment left_since old new P R less leaves = record {
  later = leaves.later;
  each = λ image left. less image (leaves.each image left);
  before = λ t image le left. ⊎_elim inl (λ is. inr (less image is)) (leaves.before t image le left);
}

-- a greater bound is one too
pub left_more : {D : Type 0} (file : List ℕ) (opening : JournalState D) (most more : Identity → ℕ) → ((imsi : Identity) → most imsi ≤ more imsi) → (image : List ℕ) → IsLeft file opening most image → IsLeft file opening more image
left_more file opening most more le image is =
    let (reading, read, are) = is.between in
    record {
      between = (reading, read, λ imsi. ((are imsi).0, omega (arith, le imsi, (are imsi).1)));
      keeps = is.keeps;
      closable = is.closable;
    }

-- what is told
told_file : (told : Option (List ℕ)) → is_some told ≡ true → (file : List ℕ) × (told ≡ Some file)
told_file None is = absurd (cc)
told_file (Some file) is = (file, refl)

module _ {D : Type 0} (seen : D → Option (List ℕ)) (may_leave : D → List ℕ → Type 0) (moment : D → ℕ) (left_since : D → ℕ → List ℕ → Type 0) where
  -- as a round begins
  pub begins_left : ((disk : D) (image : List ℕ) → left_since disk (moment disk) image → may_leave disk image) → (from : D) (most : Identity → ℕ) (opening : JournalState D) → IsDurable seen may_leave from most opening
      → (told : IsTold seen may_leave from) → LeavesOnly moment left_since opening.disk opening.disk (IsLeft told.0 opening most)
  begins_left only_now from most opening durable told = record {
    later = omega arith;
    each = λ image left.
        let now = only_now opening.disk image left in
        let kept = durable.keeps told image now in
        record { between = durable.images told image now; keeps = kept.0; closable = kept.1 };
    before = λ t image le left. inl left;
  }

  module _ (file : List ℕ) (most : Identity → ℕ) (opening old : JournalState D) (added : List Frame)
      (rises : (imsi : Identity) → reserved_in opening.limits imsi ≤ reserved_in old.limits imsi) (top : AdmitsAll added most) (ready : IsReady seen may_leave file most old) where
    -- the frames from before are between
    before_is : AreBetween opening most ready.frames
    before_is imsi = (omega (arith, rises imsi, ready.same imsi), omega (arith, ready.below imsi, ready.same imsi))

    -- and so are these with the new ones
    after_is : AreBetween opening most (ready.frames ++ added)
    after_is imsi =
        let all = reserved-append ready.frames added imsi in
        (omega (arith, rises imsi, ready.same imsi, all), omega (arith, ready.below imsi, top imsi, ready.same imsi, all))

    -- an image that is read as frames which keep what the file reserved keeps it
    keeps_read : (image : List ℕ) (frames : List Frame) (place : ℕ) → read_image image ≡ Ok (record { frames = frames; end = place }) → ((imsi : Identity) → reserved_by file imsi ≤ reserved_in frames imsi) → Keeps file image
    keeps_read image frames place read low = λ imsi.
        subst (λ (n : ℕ). reserved_by file imsi ≤ n) (sym (ap (λ (r : Result Reading ℕ). reserved_as r imsi) read)) (low imsi)

    keeps_after : (imsi : Identity) → reserved_by file imsi ≤ reserved_in (ready.frames ++ added) imsi
    keeps_after imsi = omega (arith, ready.keeps imsi, reserved-append ready.frames added imsi)

    -- an image that an append leaves is one since the round began
    appending_left : (size : ℕ) (image : List ℕ) → IsAppendingAll ready.frames old.place added size image → IsLeft file opening most image
    appending_left size image (is, closable) = by is
      where
        by : IsBeforeOrAfter ready.frames old.place added size image → IsLeft file opening most image
        by (inl read) = record {
          between = (record { frames = ready.frames; end = old.place }, read, before_is);
          keeps = keeps_read image ready.frames old.place read ready.keeps;
          closable = closable;
        }
        by (inr read) = record {
          between = (record { frames = ready.frames ++ added; end = old.place + size }, read, after_is);
          keeps = keeps_read image (ready.frames ++ added) (old.place + size) read keeps_after;
          closable = closable;
        }

    -- what an append leaves is such
    pub append_left : (size : ℕ) (new : D)
        → ((frames : List Frame) → IsSettled seen may_leave old.disk frames old.place → (bytes : List ℕ) → seen old.disk ≡ Some bytes → LeavesOnly moment left_since old.disk new (IsAppendingAll frames old.place added size))
        → LeavesOnly moment left_since opening.disk old.disk (IsLeft file opening most) → LeavesOnly moment left_since opening.disk new (IsLeft file opening most)
    append_left size new leaves so_far =
        let now = told_file (seen old.disk) ready.tells in
        both_leave moment left_since opening.disk old.disk new (IsLeft file opening most) (IsAppendingAll ready.frames old.place added size) (IsLeft file opening most)
        (λ image is. is) (appending_left size) so_far (leaves ready.frames ready.settled now.0 now.1)
