-- The image of a crash by a choice, call by call from the first on: for `crash` and its law.
use Rattle.std.proofs.Common.{◌≡◌, ℕ, List, [], ◌∷◌, ◌++◌, length, refl, sym, ap, subst}
use Rattle.std.specs.Prelude.{Result, Ok, Err, IfOk, Bool, true, false, if◌then◌else◌, ◌%◌, ◌==◌, replicate}
use Rattle.std.proofs.lemmas.List.{length-replicate}
use Rattle.auc_disk.specs.Disk.{Torn, put, put_over}
use Rattle.auc_disk.specs.InnerReplay.{AreInRange, sync_images}
use Rattle.auc_disk.specs.InnerTorn.{Torn-put_over, Torn-same}
use Rattle.auc_disk.specs.MemDisk.{DiskState, Made}
use Rattle.auc_disk.specs.Replay.{EachChoiceLeavesAnImage, Image, image_by, left_by, seen_after}
use Rattle.auc_disk.specs.declared.call.Call.{Call}
use Rattle.auc_disk.specs.declared.call.Call.TheVariants.{Wrote, Synced}

-- what each choice leaves of a write may be left
left-torn : (choice : ℕ) (old : List ℕ) (at : ℕ) (bytes : List ℕ) → Torn at (length bytes) old (left_by choice old at bytes)
left-torn choice old at bytes = pick (choice == 0) (choice == 1)
  where
    pick : (none all : Bool) → Torn at (length bytes) old (if none then old else if all then put old at bytes else put_over (choice % 256) old at (replicate (length bytes) (choice % 256)))
    pick true all = Torn-same at (length bytes) old
    pick false true = Torn-put_over 0 old at (length bytes) bytes refl
    pick false false = Torn-put_over (choice % 256) old at (length bytes) (replicate (length bytes) (choice % 256)) (length-replicate (length bytes) (choice % 256))

-- the image by a choice is one of the images
pub chosen_is_image : EachChoiceLeavesAnImage
chosen_is_image choice first [] = refl
chosen_is_image choice first (Wrote at bytes done ∷ calls) =
    (image_by choice first first calls, chosen_is_image choice first calls, left-torn choice (image_by choice first first calls) at bytes)
chosen_is_image choice first (Synced ∷ calls) = refl

-- the same of an answer that is the image by a choice
pub chosen_leaves : {E : Type 0} (result : Result (List ℕ) E) (choice : ℕ) (first : List ℕ) (calls : List Call) → IfOk result (λ image. image ≡ image_by choice first first calls)
    → IfOk result (Image first calls)
chosen_leaves (Ok image) choice first calls chosen = subst (Image first calls) (sym chosen) (chosen_is_image choice first calls)
chosen_leaves (Err refusal) choice first calls chosen = tt

-- what a read gives, with the first call replayed first
pub seen-first : (seen : List ℕ) (calls : List Call) (call : Call) → seen_after seen (calls ++ call ∷ []) ≡ seen_after (seen_after seen (call ∷ [])) calls
seen-first seen [] call = refl
seen-first seen (Wrote at bytes true ∷ calls) call = ap (λ (l : List ℕ). put l at bytes) (seen-first seen calls call)
seen-first seen (Wrote at bytes false ∷ calls) call = seen-first seen calls call
seen-first seen (Synced ∷ calls) call = seen-first seen calls call

-- the image by a choice, with the first call replayed first
pub image-first : (choice : ℕ) (seen image : List ℕ) (calls : List Call) (call : Call)
    → image_by choice seen image (calls ++ call ∷ []) ≡ image_by choice (seen_after seen (call ∷ [])) (image_by choice seen image (call ∷ [])) calls
image-first choice seen image [] call = refl
image-first choice seen image (Wrote at bytes done ∷ calls) call = ap (λ (l : List ℕ). left_by choice l at bytes) (image-first choice seen image calls call)
image-first choice seen image (Synced ∷ calls) call = seen-first seen calls call

-- if all calls are in range, so are the first call and the others
pub range-first : (calls : List Call) (call : Call) → AreInRange (calls ++ call ∷ []) → AreInRange calls × AreInRange (call ∷ [])
range-first [] call are = (tt, are)
range-first (Wrote at bytes done ∷ calls) call are = let rest = range-first calls call are.1 in ((are.0, rest.0), rest.1)
range-first (Synced ∷ calls) call are = range-first calls call are

-- after a sync that was counted and recorded there are no more images than before it
pub sync_leaves : (old counted new : DiskState) (made : Made) → counted ≡ record old { made = made } → new ≡ record counted { calls = Synced ∷ counted.calls } → (image : List ℕ) → Image new.first new.calls image → Image old.first old.calls image
sync_leaves old counted new made is recorded image here =
    let after : Image counted.first (Synced ∷ counted.calls) image = subst (λ (s : DiskState). Image s.first s.calls image) recorded here in
    subst (λ (s : DiskState). Image s.first s.calls image) is (sync_images counted.first counted.calls image after)
