-- For a crash at any moment of a run: what it leaves of the journal.
use Rattle.std.proofs.Common.{◌≡◌, ◌≢◌, ℕ, ◌<◌, ◌≤◌, List, length, map, Option, Some, inl, inr, refl, sym, ◌∙◌, ap, subst, arith}
use Rattle.std.specs.Prelude.{slice_index}
use Rattle.std.proofs.Math.ListN.{length-map}
use Rattle.auc_memory.specs.Identity.{Identity}
use Rattle.auc_journal.specs.Durable.{IsTold}
use Rattle.auc_journal.specs.Image.{Frame, Keeps, reserved_in}
use Rattle.auc_journal.specs.Journal.{JournalState, imsi_at, limits_of}
use Rattle.auc_journal.specs.Opening.{IsOpening, LeavesOpening}
use Rattle.auc_journal.specs.Settled.{IsClosable, LeavesOnly}
use Rattle.auc_journal.proofs.Facts.{limits_at, opening_keeps}
use Rattle.auc_keeper.specs.Keeper.{IsLeft}
use Rattle.auc_keeper.proofs.Facts.{both_leave, leaves_less}
use Rattle.auc_subs.specs.declared.row.Row.{Row}
use Rattle.auc_world.specs.Transcript.{Course}
use Rattle.auc_input.specs.Opening.{limits_in}
use Rattle.auc_run.specs.Crash.{IsLeftAnyTime, MayHaveLeft, RemembersAlways}
use Rattle.auc_run.specs.Inner.{Covers, IsGrown, IsLeftInRun, IsSince, Reserves, most_at}
use Rattle.auc_refusal.specs.declared.status.Status.{Status}
use Rattle.auc_refusal.specs.declared.status.Status.TheVariants.{NoMemory}
use Rattle.auc_input.proofs.Facts.{opening_none}

-- there are as many identities as rows
pub count_of : {D : Type 0} (rows : List Row) (journal : JournalState D) → journal.imsis ≡ map (λ row. row.imsi) rows → length journal.imsis ≡ length rows
count_of rows journal is = ap length is ∙ length-map rows (λ (row : Row). row.imsi)

-- the limit of a subscriber by other frames
pub limit_in : {D : Type 0} (rows : List Row) (journal : JournalState D) (frames : List Frame) (sub : ℕ) → journal.imsis ≡ map (λ row. row.imsi) rows → sub < length rows
    → slice_index (limits_in rows frames) sub ≡ reserved_in frames (imsi_at journal.imsis sub)
limit_in {D} rows journal frames sub is inside =
    let other : JournalState D = record journal { limits = frames } in
    let count = count_of rows journal is in
    ap (λ imsis. slice_index (map (λ imsi. reserved_in frames imsi) imsis) sub) (sym is) ∙ limits_at other sub (omega (arith, count, inside))

-- a disk that is left so
leaves_at : {D : Type 0} (moment : D → ℕ) (left_since : D → ℕ → List ℕ → Type 0) (old new disk : D) (P : List ℕ → Type 0) → disk ≡ new → LeavesOnly moment left_since old new P → LeavesOnly moment left_since old disk P
leaves_at {D} moment left_since old new disk P same leaves = subst (λ (d : D). LeavesOnly moment left_since old d P) (sym same) leaves

-- ---- from part to part

-- what a round leaves, by what was reserved at first
grown_of : {D : Type 0} (file : List ℕ) (rows : List Row) (reserved : List ℕ) (most : Identity → ℕ) (more : ℕ → ℕ) (journal : JournalState D) → journal.imsis ≡ map (λ row. row.imsi) rows
    → ((sub : ℕ) → sub < length rows → slice_index reserved sub ≤ slice_index (limits_of journal) sub) → ((sub : ℕ) → sub < length rows → most (imsi_at journal.imsis sub) ≤ more sub)
    → (image : List ℕ) → IsLeft file journal most image → IsGrown file rows reserved more image
grown_of file rows reserved most more journal subscribers above near image is =
    let count = count_of rows journal subscribers in
    record {
      reading = is.between.0;
      is_read = is.between.1;
      least = λ sub inside.
          let within : sub < length journal.imsis = omega (arith, count, inside) in
          let at = limit_in rows journal is.between.0.frames sub subscribers inside in
          let here = limits_at journal sub within in
          let first = above sub inside in
          let low = (is.between.2 (imsi_at journal.imsis sub)).0 in
          omega (arith, at, here, first, low);
      greatest = λ sub inside.
          let at = limit_in rows journal is.between.0.frames sub subscribers inside in
          let high = (is.between.2 (imsi_at journal.imsis sub)).1 in
          let bound = near sub inside in
          omega (arith, at, high, bound);
      keeps = is.keeps;
      closable = is.closable;
    }

-- with a greater bound
since_more : (file : List ℕ) (rows : List Row) (reserved : List ℕ) (most more : ℕ → ℕ) → ((sub : ℕ) → sub < length rows → most sub ≤ more sub) → (image : List ℕ)
    → IsSince file rows reserved most image → IsSince file rows reserved more image
since_more file rows reserved most more up image (inl opening) = inl opening
since_more file rows reserved most more up image (inr grown) = inr (record {
  reading = grown.reading;
  is_read = grown.is_read;
  least = grown.least;
  greatest = λ sub inside. let high = grown.greatest sub inside in let step = up sub inside in omega (arith, high, step);
  keeps = grown.keeps;
  closable = grown.closable;
})

-- since the opening
pub since_opening : {D : Type 0} (seen : D → Option (List ℕ)) (may_leave : D → List ℕ → Type 0) (moment : D → ℕ) (left_since : D → ℕ → List ℕ → Type 0) (rows : List Row) (from disk : D) (reserved : List ℕ) (most : ℕ → ℕ)
    → LeavesOpening seen may_leave moment left_since from disk → (told : IsTold seen may_leave from) → LeavesOnly moment left_since from disk (IsSince told.0 rows reserved most)
since_opening seen may_leave moment left_since rows from disk reserved most opening told =
    leaves_less moment left_since from disk (IsOpening told.0) (IsSince told.0 rows reserved most) (λ image is. inl is) (opening told.0 told.1 told.2)

-- and in a round more
pub since_round : {D : Type 0} (moment : D → ℕ) (left_since : D → ℕ → List ℕ → Type 0) (file : List ℕ) (rows : List Row) (from : D) (reserved : List ℕ) (most more : ℕ → ℕ) (bound : Identity → ℕ) (journal after : JournalState D)
    → journal.imsis ≡ map (λ row. row.imsi) rows → ((sub : ℕ) → sub < length rows → slice_index reserved sub ≤ slice_index (limits_of journal) sub)
    → ((sub : ℕ) → sub < length rows → (most sub ≤ more sub) × (bound (imsi_at journal.imsis sub) ≤ more sub))
    → LeavesOnly moment left_since from journal.disk (IsSince file rows reserved most) → LeavesOnly moment left_since journal.disk after.disk (IsLeft file journal bound)
    → LeavesOnly moment left_since from after.disk (IsSince file rows reserved more)
since_round moment left_since file rows from reserved most more bound journal after subscribers above up so_far round =
    both_leave moment left_since from journal.disk after.disk (IsSince file rows reserved most) (IsLeft file journal bound) (IsSince file rows reserved more)
    (since_more file rows reserved most more (λ sub inside. (up sub inside).0))
    (λ image is. inr (grown_of file rows reserved bound more journal subscribers above (λ sub inside. (up sub inside).1) image is))
    so_far round

-- ---- at the end

in_run : (file : List ℕ) (status : Status) (rows : List Row) (reserved : List ℕ) (end : Course) (most : ℕ → ℕ)
    → (status ≢ NoMemory → (sub : ℕ) → sub < length rows → most sub ≤ most_at reserved end sub) → (image : List ℕ) → IsSince file rows reserved most image → IsLeftInRun file status rows reserved end image
in_run file status rows reserved end most near image (inl opening) = (inl opening, λ closable. opening_keeps file image closable opening)
in_run file status rows reserved end most near image (inr grown) = (
  inr (record {
    reading = grown.reading;
    is_read = grown.is_read;
    least = grown.least;
    near = λ whole sub inside. let high = grown.greatest sub inside in let bound = near whole sub inside in omega (arith, high, bound);
  }),
  λ closable. (grown.keeps, grown.closable),
)

-- after rounds whose limits are such as a restart may have
pub always_reserves : {D : Type 0} (seen : D → Option (List ℕ)) (may_leave : D → List ℕ → Type 0) (moment : D → ℕ) (left_since : D → ℕ → List ℕ → Type 0) (status : Status) (rows : List Row) (from disk : D) (reserved : List ℕ) (end : Course) (journal : JournalState D)
    → Reserves seen may_leave moment left_since rows from reserved end journal → disk ≡ journal.disk
    → (told : IsTold seen may_leave from) → LeavesOnly moment left_since from disk (IsLeftInRun told.0 status rows reserved end)
always_reserves seen may_leave moment left_since status rows from disk reserved end journal reserves same told =
    leaves_at moment left_since from journal.disk disk (IsLeftInRun told.0 status rows reserved end) same
    (leaves_less moment left_since from journal.disk (IsSince told.0 rows reserved (most_at reserved end)) (IsLeftInRun told.0 status rows reserved end)
    (in_run told.0 status rows reserved end (most_at reserved end) (λ whole sub inside. omega arith)) (reserves.always told))

-- if memory ran out
pub always_covers : {D : Type 0} (seen : D → Option (List ℕ)) (may_leave : D → List ℕ → Type 0) (moment : D → ℕ) (left_since : D → ℕ → List ℕ → Type 0) (rows : List Row) (from disk : D) (reserved : List ℕ) (end : Course) (journal : JournalState D)
    → Covers seen may_leave moment left_since rows from reserved end.early journal → disk ≡ journal.disk
    → (told : IsTold seen may_leave from) → LeavesOnly moment left_since from disk (IsLeftInRun told.0 NoMemory rows reserved end)
always_covers seen may_leave moment left_since rows from disk reserved end journal covers same told =
    let always = covers.always told in
    leaves_at moment left_since from journal.disk disk (IsLeftInRun told.0 NoMemory rows reserved end) same
    (leaves_less moment left_since from journal.disk (IsSince told.0 rows reserved always.0) (IsLeftInRun told.0 NoMemory rows reserved end)
    (in_run told.0 NoMemory rows reserved end always.0 (λ whole sub inside. absurd (whole refl))) always.1)

-- ---- what the top calls say of it

-- by the file that was found
pub any_time : {D : Type 0} (seen : D → Option (List ℕ)) (may_leave : D → List ℕ → Type 0) (moment : D → ℕ) (left_since : D → ℕ → List ℕ → Type 0) (status : Status) (rows : List Row) (from disk : D) (reserved : List ℕ) (end : Course)
    → ((told : IsTold seen may_leave from) → LeavesOnly moment left_since from disk (IsLeftInRun told.0 status rows reserved end))
    → (image : List ℕ) → MayHaveLeft seen may_leave moment left_since from disk image → IsLeftAnyTime (seen from) status rows reserved end image
any_time seen may_leave moment left_since status rows from disk reserved end always image (told, left) file is =
    let same : told.0 ≡ file = one_file told.0 file (sym told.1 ∙ is) in
    (subst (λ (f : List ℕ). IsLeftInRun f status rows reserved end image) same ((always told).each image left)).0
  where
    one_file : (a b : List ℕ) → (let some : Option (List ℕ) = Some a in some) ≡ Some b → a ≡ b
    one_file a b same = cc

-- nothing was forgotten in a run
pub always_remembers : {D : Type 0} (seen : D → Option (List ℕ)) (may_leave : D → List ℕ → Type 0) (moment : D → ℕ) (left_since : D → ℕ → List ℕ → Type 0) (status : Status) (rows : List Row) (from disk : D) (reserved : List ℕ) (end : Course)
    → ((told : IsTold seen may_leave from) → LeavesOnly moment left_since from disk (IsLeftInRun told.0 status rows reserved end)) → RemembersAlways seen may_leave moment left_since from disk
always_remembers seen may_leave moment left_since status rows from disk reserved end always told closable =
    leaves_less moment left_since from disk (IsLeftInRun told.0 status rows reserved end) (λ image. Keeps told.0 image × IsClosable image) (λ image is. is.1 closable) (always told)

-- nor in an opening, whatever came of it
pub always_opening : {D : Type 0} (seen : D → Option (List ℕ)) (may_leave : D → List ℕ → Type 0) (moment : D → ℕ) (left_since : D → ℕ → List ℕ → Type 0) (from mid disk : D)
    → LeavesOpening seen may_leave moment left_since from mid → disk ≡ mid → RemembersAlways seen may_leave moment left_since from disk
always_opening seen may_leave moment left_since from mid disk opening same told closable =
    leaves_at moment left_since from mid disk (λ image. Keeps told.0 image × IsClosable image) same
    (leaves_less moment left_since from mid (IsOpening told.0) (λ image. Keeps told.0 image × IsClosable image) (λ image is. opening_keeps told.0 image closable is) (opening told.0 told.1 told.2))

-- no call of the disk was made
pub always_same : {D : Type 0} (seen : D → Option (List ℕ)) (may_leave : D → List ℕ → Type 0) (moment : D → ℕ) (left_since : D → ℕ → List ℕ → Type 0)
    → ((disk : D) (image : List ℕ) → left_since disk (moment disk) image → may_leave disk image) → (old new : D) → new ≡ old → RemembersAlways seen may_leave moment left_since old new
always_same {D} seen may_leave moment left_since only_now old new same =
    always_opening seen may_leave moment left_since old old new (opening_none seen may_leave moment left_since only_now old) same
