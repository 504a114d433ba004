-- How an opening and an append keep what a crash may leave: for the journal.
use Rattle.std.proofs.Common.{◌≡◌, inl, inr, ⊎_elim, ℕ, ◌+◌, ◌≤◌, List, [], ◌∷◌, ◌++◌, Option, Some, None, is_some, refl, sym, ◌∙◌, ap, subst, arith, true≢false}
use Rattle.std.specs.Prelude.{Bool, true, false, max, if◌then◌else◌, Result, Ok, Err, OnOk}
use Rattle.auc_memory.specs.Identity.{Identity}
use Rattle.auc_disk.specs.Disk.{Puts}
use Rattle.auc_journal.specs.Durable.{AdmitsAll, AreBetween, IsBetween, IsDurable, IsReady, IsTold}
use Rattle.auc_journal.specs.Image.{Frame, Keeps, Reading, read_image, reserved_as, reserved_by, reserved_in, same_identity}
use Rattle.auc_journal.specs.Journal.{JournalState}
use Rattle.auc_journal.specs.Limits.{AreLimits}
use Rattle.auc_journal.specs.Opening.{Opens}
use Rattle.auc_journal.specs.declared.append_refusal.AppendRefusal.{AppendRefusal}
use Rattle.auc_journal.specs.declared.append_refusal.AppendRefusal.TheVariants as refusal
use Rattle.auc_journal.specs.Settled.{AtRest, IsAppendingAll, IsBeforeOrAfter, IsClosable, IsSettled, LeavesOnly}
use Rattle.auc_journal.proofs.AppendLemmas.{rest_closable}
use Rattle.auc_journal.proofs.LimitLemmas.{reserved-append, same_is}
use Rattle.auc_journal.proofs.MomentLemmas.{leaves_now}

-- what holds of an append that succeeded
pub ok_part : {P : Type 0} (answer : Result (Unit {0}) AppendRefusal) → answer ≡ Ok tt → OnOk answer P → P
ok_part (Ok value) ok is = is
ok_part (Err why) ok is = absurd (cc)

-- a test that can't hold doesn't
pub no_fault : (fault : Bool) → (fault ≡ true → ⊥) → fault ≡ false
no_fault true none = absurd (none refl)
no_fault false none = refl

-- a write doesn't change whether a disk tells its bytes
pub is_some-Puts : (old new : Option (List ℕ)) (at : ℕ) (bytes : List ℕ) → Puts old at bytes new → is_some new ≡ is_some old
is_some-Puts None new at bytes puts = ap is_some puts
is_some-Puts (Some file) new at bytes puts = ap is_some puts

-- what is told
pub told_file : (told : Option (List ℕ)) → is_some told ≡ true → (file : List ℕ) × (told ≡ Some file)
told_file None is = absurd (cc)
told_file (Some file) is = (file, refl)

-- what bytes reserve that are read as some frames
pub reserved-read : (file : List ℕ) (frames : List Frame) (place : ℕ) (imsi : Identity) → read_image file ≡ Ok (record { frames = frames; end = place }) → reserved_by file imsi ≡ reserved_in frames imsi
reserved-read file frames place imsi read = ap (λ (r : Result Reading ℕ). reserved_as r imsi) read

-- an image that is read as frames that keep what a file reserved keeps it
pub keeps_read : (file image : List ℕ) (frames : List Frame) (place : ℕ) → ((imsi : Identity) → reserved_by file imsi ≤ reserved_in frames imsi)
    → read_image image ≡ Ok (record { frames = frames; end = place }) → Keeps file image
keeps_read file image frames place low read = λ imsi. subst (λ (n : ℕ). reserved_by file imsi ≤ n) (sym (reserved-read image frames place imsi read)) (low imsi)

-- further frames take nothing away
pub keeps_more : (frames added : List Frame) (imsi : Identity) (least : ℕ) → least ≤ reserved_in frames imsi → least ≤ reserved_in (frames ++ added) imsi
keeps_more frames added imsi least low = let both = reserved-append frames added imsi in omega (arith, low, both)

-- nor does an append that is broken off
pub keeps_append : (file image : List ℕ) (frames : List Frame) (place : ℕ) (added : List Frame) (size : ℕ) → ((imsi : Identity) → reserved_by file imsi ≤ reserved_in frames imsi)
    → IsBeforeOrAfter frames place added size image → Keeps file image
keeps_append file image frames place added size low (inl before) = keeps_read file image frames place low before
keeps_append file image frames place added size low (inr after) = keeps_read file image (frames ++ added) (place + size) (λ imsi. keeps_more frames added imsi (reserved_by file imsi) (low imsi)) after

module _ {D : Type 0} (seen : D → Option (List ℕ)) (may_leave : D → List ℕ → Type 0) where
  -- an image of a journal that is ready is at rest with its frames
  ready_rests : (file : List ℕ) (most : Identity → ℕ) (journal : JournalState D) (ready : IsReady seen may_leave file most journal) → (image : List ℕ) → may_leave journal.disk image → AtRest image ready.frames journal.place
  ready_rests file most journal ready image now =
      let told = told_file (seen journal.disk) ready.tells in
      subst (λ (l : List ℕ). AtRest l ready.frames journal.place) (sym (ready.settled.durable told.0 told.1 image now)) (ready.settled.at_rest told.0 told.1)

  -- and keeps what was found
  pub ready_keeps : (file : List ℕ) (most : Identity → ℕ) (journal : JournalState D) → IsReady seen may_leave file most journal → (image : List ℕ) → may_leave journal.disk image → Keeps file image × IsClosable image
  ready_keeps file most journal ready image now =
      let rest = ready_rests file most journal ready image now in
      (keeps_read file image ready.frames journal.place ready.keeps rest.read, rest_closable image ready.frames journal.place rest)

  -- a journal that is ready leaves what is between
  pub ready_images : (file : List ℕ) (most : Identity → ℕ) (journal : JournalState D) → IsReady seen may_leave file most journal → (image : List ℕ) → may_leave journal.disk image → IsBetween journal most image
  ready_images file most journal ready image now = (
    record { frames = ready.frames; end = journal.place },
    (ready_rests file most journal ready image now).read,
    λ imsi. (omega (arith, ready.same imsi), omega (arith, ready.same imsi, ready.below imsi)),
  )

  ready_durable : (from : D) (most : Identity → ℕ) (journal : JournalState D) → ((told : IsTold seen may_leave from) → IsReady seen may_leave told.0 most journal) → IsDurable seen may_leave from most journal
  ready_durable from most journal ready = record {
    images = λ told image now. ready_images told.0 most journal (ready told) image now;
    keeps = λ told image now. ready_keeps told.0 most journal (ready told) image now;
    ready = λ told kept. ready told;
  }

  -- a greater bound is one too
  pub durable_more : (from : D) (most more : Identity → ℕ) (journal : JournalState D) → ((imsi : Identity) → most imsi ≤ more imsi)
      → IsDurable seen may_leave from most journal → IsDurable seen may_leave from more journal
  durable_more from most more journal le is = record {
    images = λ told image now.
        let was = is.images told image now in
        (was.0, was.1, λ imsi. ((was.2 imsi).0, omega (arith, le imsi, (was.2 imsi).1)));
    keeps = is.keeps;
    ready = λ told kept.
        let was = is.ready told kept in
        record { frames = was.frames; settled = was.settled; keeps = was.keeps; same = was.same; below = λ imsi. omega (arith, le imsi, was.below imsi); tells = was.tells };
  }

  -- it doesn't matter which subscribers have places
  pub durable_named : (from : D) (most : Identity → ℕ) (journal : JournalState D) (imsis : List Identity) → IsDurable seen may_leave from most journal
      → IsDurable seen may_leave from most (record journal { imsis = imsis })
  durable_named from most journal imsis is = record {
    images = is.images;
    keeps = is.keeps;
    ready = λ told kept.
        let was = is.ready told kept in
        record { frames = was.frames; settled = was.settled; keeps = was.keeps; same = was.same; below = was.below; tells = was.tells };
  }

  -- a journal that was opened
  pub opened_durable : (from : D) (journal : JournalState D) → Opens seen may_leave from journal.disk journal.limits journal.place → is_some (seen journal.disk) ≡ is_some (seen from)
      → IsDurable seen may_leave from (λ imsi. reserved_in journal.limits imsi) journal
  opened_durable from journal opens tells = ready_durable from (λ imsi. reserved_in journal.limits imsi) journal (λ told. record {
    frames = opens.frames;
    settled = opens.settled;
    keeps = λ imsi. subst (λ (n : ℕ). n ≤ reserved_in opens.frames imsi) (sym (reserved-read told.0 opens.frames journal.place imsi (opens.read told.0 told.1))) (omega arith);
    same = opens.are.same;
    below = λ imsi. omega arith;
    tells = tells ∙ ap is_some told.1;
  })

  module _ (from : D) (most : Identity → ℕ) (old new : JournalState D) (added : List Frame) (going : old.failed ≡ false)
      (top : AdmitsAll added most) (was : IsDurable seen may_leave from most old) where
    below_after : (file : List ℕ) → IsReady seen may_leave file most old → (imsi : Identity) → max (reserved_in old.limits imsi) (reserved_in added imsi) ≤ most imsi
    below_after file ready imsi = omega (arith, ready.below imsi, top imsi)

    -- after an append that succeeded
    pub appended_durable : AreLimits new.limits (old.limits ++ added)
        → ((frames : List Frame) → IsSettled seen may_leave old.disk frames old.place → IsSettled seen may_leave new.disk (frames ++ added) new.place)
        → is_some (seen new.disk) ≡ is_some (seen old.disk) → IsDurable seen may_leave from most new
    appended_durable are settles tells = ready_durable from most new (λ told.
        let ready = was.ready told going in
        record {
          frames = ready.frames ++ added;
          settled = settles ready.frames ready.settled;
          keeps = λ imsi. keeps_more ready.frames added imsi (reserved_by told.0 imsi) (ready.keeps imsi);
          same = λ imsi.
              are.same imsi ∙ reserved-append old.limits added imsi
              ∙ ap (λ (n : ℕ). max n (reserved_in added imsi)) (ready.same imsi)
              ∙ sym (reserved-append ready.frames added imsi);
          below = λ imsi. subst (λ (n : ℕ). n ≤ most imsi) (sym (are.same imsi ∙ reserved-append old.limits added imsi)) (below_after told.0 ready imsi);
          tells = tells ∙ ready.tells;
        })

    abbrev Between : List Frame → List Frame → Type 0
    Between limits frames = (imsi : Identity) → (reserved_in limits imsi ≤ reserved_in frames imsi) × (reserved_in frames imsi ≤ most imsi)

    between_old : (frames : List Frame) → new.limits ≡ old.limits → Between old.limits frames → AreBetween new most frames
    between_old frames limits are = subst (λ (l : List Frame). Between l frames) (sym limits) are

    -- the frames from before are between
    before_is : (file : List ℕ) (ready : IsReady seen may_leave file most old) → Between old.limits ready.frames
    before_is file ready imsi = (omega (arith, ready.same imsi), omega (arith, ready.same imsi, ready.below imsi))

    -- and so are these with the new ones
    after_is : (file : List ℕ) (ready : IsReady seen may_leave file most old) → Between old.limits (ready.frames ++ added)
    after_is file ready imsi =
        let is : max (reserved_in old.limits imsi) (reserved_in added imsi) ≡ reserved_in (ready.frames ++ added) imsi =
        ap (λ (n : ℕ). max n (reserved_in added imsi)) (ready.same imsi) ∙ sym (reserved-append ready.frames added imsi) in
        (omega (arith, is), subst (λ (n : ℕ). n ≤ most imsi) is (below_after file ready imsi))

    -- after one that failed
    pub failed_durable : (size : ℕ) (moment : D → ℕ) (left_since : D → ℕ → List ℕ → Type 0) (counts_now : (disk : D) (t : ℕ) (image : List ℕ) → t ≤ moment disk → may_leave disk image → left_since disk t image)
        → new.failed ≡ true → new.limits ≡ old.limits
        → ((frames : List Frame) → IsSettled seen may_leave old.disk frames old.place → (file : List ℕ) → seen old.disk ≡ Some file → LeavesOnly moment left_since old.disk new.disk (IsAppendingAll frames old.place added size))
        → IsDurable seen may_leave from most new
    failed_durable size moment left_since counts_now failed limits leaves = record { images = images; keeps = keeps; ready = λ told kept. absurd (true≢false (sym failed ∙ kept)) }
      where
        left : (file : List ℕ) (ready : IsReady seen may_leave file most old) (image : List ℕ) → may_leave new.disk image → IsAppendingAll ready.frames old.place added size image
        left file ready image now =
            let told = told_file (seen old.disk) ready.tells in
            leaves_now moment left_since may_leave counts_now old.disk new.disk (IsAppendingAll ready.frames old.place added size) (leaves ready.frames ready.settled told.0 told.1) image now

        images : IsTold seen may_leave from → (image : List ℕ) → may_leave new.disk image → IsBetween new most image
        images told image now =
            let ready = was.ready told going in
            ⊎_elim (λ before. (record { frames = ready.frames; end = old.place }, before, between_old ready.frames limits (before_is told.0 ready)))
            (λ after. (record { frames = ready.frames ++ added; end = old.place + size }, after, between_old (ready.frames ++ added) limits (after_is told.0 ready)))
            (left told.0 ready image now).0

        keeps : (told : IsTold seen may_leave from) → (image : List ℕ) → may_leave new.disk image → Keeps told.0 image × IsClosable image
        keeps told image now =
            let ready = was.ready told going in
            let is = left told.0 ready image now in
            (keeps_append told.0 image ready.frames old.place added size ready.keeps is.0, is.1)

    -- after one that was refused: a call failed, or nothing changed
    pub refused_durable : (size : ℕ) (moment : D → ℕ) (left_since : D → ℕ → List ℕ → Type 0) (counts_now : (disk : D) (t : ℕ) (image : List ℕ) → t ≤ moment disk → may_leave disk image → left_since disk t image)
        → (why : AppendRefusal) → (why ≡ refusal.StoreFault → new.failed ≡ true) → ((len : ℕ) → why ≡ refusal.StoreFull len → new ≡ old) → new.limits ≡ old.limits
        → ((frames : List Frame) → IsSettled seen may_leave old.disk frames old.place → (file : List ℕ) → seen old.disk ≡ Some file → LeavesOnly moment left_since old.disk new.disk (IsAppendingAll frames old.place added size))
        → IsDurable seen may_leave from most new
    refused_durable size moment left_since counts_now refusal.StoreFault failed same limits leaves = failed_durable size moment left_since counts_now (failed refl) limits leaves
    refused_durable size moment left_since counts_now (refusal.StoreFull len) failed same limits leaves = subst (IsDurable seen may_leave from most) (sym (same len refl)) was

-- a bound for an identity's limit is one for its frame
pub admits_frame : (frame : Frame) (most : Identity → ℕ) → frame.limit ≤ most frame.imsi → AdmitsAll (frame ∷ []) most
admits_frame frame most admits imsi = by (same_identity frame.imsi imsi) (λ same. subst (λ (i : Identity). frame.limit ≤ most i) (same_is frame.imsi imsi same) admits)
  where
    by : (b : Bool) → (b ≡ true → frame.limit ≤ most imsi) → (if b then max frame.limit 0 else 0) ≤ most imsi
    by true low = omega (arith, low refl)
    by false low = omega arith
