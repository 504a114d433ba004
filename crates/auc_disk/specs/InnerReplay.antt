-- Inner facts on replayed calls. The `impl` of a trait reaches no proofs of its own crate, so those of its laws stand here.
use Rattle.std.proofs.Common.{◌≡◌, inl, inr, ℕ, ◌+◌, ◌^◌, ◌≤◌, List, [], ◌∷◌, length, Some, refl, sym, subst, arith}
use Rattle.std.specs.Prelude.{true, false}
use Rattle.auc_disk.specs.InnerTorn.{Torn-put_over, Torn-same}
use Rattle.auc_disk.specs.Replay.{Image, ImageSince, seen_after}
use Rattle.auc_disk.specs.declared.call.Call.{Call}
use Rattle.auc_disk.specs.declared.call.Call.TheVariants.{Wrote, Synced}

-- each write ends at most at 2 ^ 30
abbrev pub AreInRange : List Call → Type 0
AreInRange [] = Unit {0}
AreInRange (Wrote at bytes done ∷ calls) = (at + length bytes ≤ 2 ^ 30) × AreInRange calls
AreInRange (Synced ∷ calls) = AreInRange calls

-- what a read gives is one of the images
pub seen_is_image : (first : List ℕ) (calls : List Call) → Image first calls (seen_after first calls)
seen_is_image first [] = refl
seen_is_image first (Wrote at bytes true ∷ calls) = (seen_after first calls, seen_is_image first calls, Torn-put_over 0 (seen_after first calls) at (length bytes) bytes refl)
seen_is_image first (Wrote at bytes false ∷ calls) = (seen_after first calls, seen_is_image first calls, Torn-same at (length bytes) (seen_after first calls))
seen_is_image first (Synced ∷ calls) = refl

-- the same of a file that is known to be what a read gives
pub as_it_reads : (first : List ℕ) (calls : List Call) (file : List ℕ) → seen_after first calls ≡ file → Image first calls file
as_it_reads first calls file is = subst (Image first calls) is (seen_is_image first calls)

-- this moment is one of those since an earlier one
pub counts_now : (first : List ℕ) (calls : List Call) (t : ℕ) (image : List ℕ) → t ≤ length calls → Image first calls image → ImageSince first calls t image
counts_now first [] t image early here = (early, here)
counts_now first (call ∷ calls) t image early here = inl (early, here)

-- a moment since which an image was left isn't later than this one
since_is_early : (first : List ℕ) (calls : List Call) (t : ℕ) (image : List ℕ) → ImageSince first calls t image → t ≤ length calls
since_is_early first [] t image since = since.0
since_is_early first (call ∷ calls) t image (inl here) = here.0
since_is_early first (call ∷ calls) t image (inr before) = omega (arith, since_is_early first calls t image before)

-- since this moment there is no other one
pub only_now : (first : List ℕ) (calls : List Call) (image : List ℕ) → ImageSince first calls (length calls) image → Image first calls image
only_now first [] image since = since.1
only_now first (call ∷ calls) image (inl here) = here.1
only_now first (call ∷ calls) image (inr before) = absurd (omega (arith, since_is_early first calls (length (call ∷ calls)) image before))

-- after a sync there are no more images than before it
pub sync_images : (first : List ℕ) (calls : List Call) (image : List ℕ) → Image first (Synced ∷ calls) image → Image first calls image
sync_images first calls image is = subst (Image first calls) (sym is) (seen_is_image first calls)

-- two revealed files that are the same
pub some_is : {a b : List ℕ} → Some a ≡ Some b → a ≡ b
some_is same = cc
