-- A record of calls, replayed: what a read gives after them, and what a crash may leave. The last call stands first.
use Rattle.std.specs.Prelude.{◌≡◌, ◌⊎◌, ℕ, ◌%◌, ◌≤◌, ◌==◌, List, [], ◌∷◌, length, replicate, if◌then◌else◌}
use Rattle.auc_disk.specs.Disk.{Torn, put, put_over}
use Rattle.auc_disk.specs.declared.call.Call.{Call}
use Rattle.auc_disk.specs.declared.call.Call.TheVariants.{Wrote, Synced}

-- what a read gives after the calls, over the file that was there first
abbrev pub seen_after : List ℕ → List Call → List ℕ
seen_after first [] = first
seen_after first (Wrote at bytes done ∷ calls) = if done then put (seen_after first calls) at bytes else seen_after first calls
seen_after first (Synced ∷ calls) = seen_after first calls

-- the images that a crash after the calls may leave
abbrev pub Image : List ℕ → List Call → List ℕ → Type 0
Image first [] image = image ≡ first
Image first (Wrote at bytes done ∷ calls) image = (earlier : List ℕ) × Image first calls earlier × Torn at (length bytes) earlier image
Image first (Synced ∷ calls) image = image ≡ seen_after first calls

-- the images that a crash after the first t calls, or after some later one, may have left
abbrev pub ImageSince : List ℕ → List Call → ℕ → List ℕ → Type 0
ImageSince first [] t image = (t ≤ 0) × Image first [] image
ImageSince first (call ∷ calls) t image = ((t ≤ length (call ∷ calls)) × Image first (call ∷ calls) image) ⊎ ImageSince first calls t image

-- what a crash leaves of a write by a choice: for 0 the old bytes, for 1 the new ones, for any other number its low byte in the whole range
abbrev pub left_by : ℕ → List ℕ → ℕ → List ℕ → List ℕ
left_by choice old at bytes =
    if choice == 0 then old else if choice == 1 then put old at bytes else put_over (choice % 256) old at (replicate (length bytes) (choice % 256))

-- the image that a crash leaves by a choice, over what a read gave and what a crash left before the calls
abbrev pub image_by : ℕ → List ℕ → List ℕ → List Call → List ℕ
image_by choice seen image [] = image
image_by choice seen image (Wrote at bytes done ∷ calls) = left_by choice (image_by choice seen image calls) at bytes
image_by choice seen image (Synced ∷ calls) = seen_after seen calls

-- whatever the calls and the choice are, a crash may leave the image by that choice
abbrev pub EachChoiceLeavesAnImage : Type 0
EachChoiceLeavesAnImage = (choice : ℕ) (first : List ℕ) (calls : List Call) → Image first calls (image_by choice first first calls)
