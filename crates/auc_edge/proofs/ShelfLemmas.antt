-- For `read_all`: a file that is read in chunks.
use Rattle.std.proofs.Common.{◌≡◌, ℕ, ◌+◌, List, [], ◌++◌, length, take, drop, Option, Some, None, sym, ◌∙◌, ap, arith, length-append}
use Rattle.std.proofs.Math.Seq.{take-add}
use Rattle.std.proofs.lemmas.List.{length-take}
use Rattle.auc_edge.specs.Shelf.{File, file_of, FileGives, ReadsFrom}

-- the text is a front of a file, or empty if the file is missing
abbrev pub IsFront : Option (List ℕ) → List ℕ → Type 0
IsFront None text = text ≡ []
IsFront (Some bytes) text = take (length text) bytes ≡ text

-- the same of the file with this name, if the shelf reveals its files
abbrev pub IsReadSoFar : Option (List File) → List ℕ → List ℕ → Type 0
IsReadSoFar None name text = Unit {0}
IsReadSoFar (Some files) name text = IsFront (file_of files name) text

-- a front of a file and the next piece are a front of it
front_more : (file : Option (List ℕ)) (text buffer : List ℕ) (count : ℕ) → IsFront file text → FileGives file (length text) count buffer → IsFront file (text ++ take count buffer)
front_more None text buffer count front gives = absurd gives
front_more (Some bytes) text buffer count front gives =
    let size : length (take count buffer) ≡ count = ap length gives.same ∙ omega (arith, length-take count (drop (length text) bytes), gives.within) in
    let total : length (text ++ take count buffer) ≡ length text + count = omega (arith, length-append text (take count buffer)) in
    ap (λ (n : ℕ). take n bytes) total ∙ take-add (length text) count bytes ∙ (λ i. front i ++ sym gives.same i)

-- what was read and the next piece are what was read so far
read_more : (told : Option (List File)) (name text buffer : List ℕ) (count : ℕ) → IsReadSoFar told name text → ReadsFrom told name (length text) count buffer → IsReadSoFar told name (text ++ take count buffer)
read_more None name text buffer count front gives = tt
read_more (Some files) name text buffer count front gives = front_more (file_of files name) text buffer count front gives

-- the same if the files stayed as they were and the text grew by the piece
pub IsReadSoFar-more : (told here : Option (List File)) (name text next buffer : List ℕ) (from count : ℕ) → here ≡ told → from ≡ length text → next ≡ text ++ take count buffer → IsReadSoFar told name text → ReadsFrom here name from count buffer → IsReadSoFar told name next
IsReadSoFar-more told here name text next buffer from count same place grown front gives =
    let told_gives : ReadsFrom told name (length text) count buffer = rw (← same, ← place) gives in
    rw grown (read_more told name text buffer count front told_gives)
