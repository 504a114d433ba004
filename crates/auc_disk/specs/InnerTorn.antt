-- Inner facts on torn writes: what a write puts into a file is one of the images that a crash may leave of it.
use Rattle.std.proofs.Common.{◌≡◌, ℕ, ◌+◌, ◌-◌, ◌≤◌, List, ◌++◌, length, take, drop, refl, ◌∙◌, ap, arith, append_assoc, length-append, length-drop}
use Rattle.std.specs.Prelude.{min, max, replicate}
use Rattle.std.proofs.lemmas.List.{drop_at, take-take, take-append-le, length-take, length-replicate}
use Rattle.auc_disk.specs.Disk.{Torn, front, put_over}

-- the length of a file's front
pub length-front : (filler n : ℕ) (file : List ℕ) → length (front filler n file) ≡ n
length-front filler n file = omega (arith, length-append (take n file) (replicate (n - length file) filler), length-take n file, length-replicate (n - length file) filler)

-- the length of a file after a write
pub length-put_over : (filler : ℕ) (file : List ℕ) (at : ℕ) (bytes : List ℕ) → length (put_over filler file at bytes) ≡ max (length file) (at + length bytes)
length-put_over filler file at bytes =
    omega (arith, length-append (front filler at file ++ bytes) (drop (at + length bytes) file), length-append (front filler at file) bytes, length-front filler at file, length-drop (at + length bytes) file)

-- a crash may leave the old file
pub Torn-same : (at n : ℕ) (file : List ℕ) → Torn at n file file
Torn-same at n file = record { before = refl; after = refl; no_shorter = omega arith; no_longer = omega arith }

-- a crash may leave the file with any bytes of this number in the range
pub Torn-put_over : (filler : ℕ) (file : List ℕ) (at n : ℕ) (bytes : List ℕ) → length bytes ≡ n → Torn at n file (put_over filler file at bytes)
Torn-put_over filler file at n bytes size =
    let head = front filler at file in
    let tail = drop (at + length bytes) file in
    let m = min at (length file) in
    let head_long : m ≤ length (take at file) = omega (arith, length-take at file) in
    record {
      before =
          ap (λ (l : List ℕ). take m l) (append_assoc head bytes tail ∙ append_assoc (take at file) (replicate (at - length file) filler) (bytes ++ tail))
          ∙ take-append-le m (take at file) (replicate (at - length file) filler ++ (bytes ++ tail)) head_long
          ∙ take-take m at file (omega arith);
      after =
          drop_at (head ++ bytes) tail (at + n) (omega (arith, length-append head bytes, length-front filler at file, size))
          ∙ ap (λ (k : ℕ). drop (at + k) file) size;
      no_shorter = omega (arith, length-put_over filler file at bytes);
      no_longer = omega (arith, length-put_over filler file at bytes, size);
    }
