-- The form `compact`: a journal anew, in which each identity stands once, in a frame of kind 1.
use Rattle.std.specs.Prelude.{◌≡◌, ℕ, ◌+◌, ◌*◌, Bool, false, List, [], ◌∷◌, ◌++◌, codes, flat_map, length}
use Rattle.std.specs.Str.{bytes_eq}
use Rattle.auc_memory.specs.Identity.{Identity}
use Rattle.auc_journal.specs.Image.{Frame, body_of, header, reserved_by}
use Rattle.auc_journal.specs.Settled.{AtRest}

-- whether the words are `compact` alone
abbrev pub asks_compact : List (List ℕ) → Bool
asks_compact (word ∷ []) = bytes_eq word (codes "compact")
asks_compact _ = false

-- an open gate, and the body of a frame behind it
abbrev pub open_frame : Frame → List ℕ
open_frame frame = 1 ∷ body_of frame

-- the header, the frames, and a closed gate
abbrev pub compact_image : List Frame → List ℕ
compact_image frames = header ++ flat_map open_frame frames ++ 0 ∷ []

-- the place of that gate
abbrev pub compact_end : List Frame → ℕ
compact_end frames = 16 + 19 * length frames

-- bytes are a journal at rest with exactly these limits, and reserve for every identity what a file does
pub record IsAnew (file : List ℕ) (limits : List Frame) (bytes : List ℕ) : Type 0 where
  pub at_rest : AtRest bytes limits (compact_end limits)
  pub same : (imsi : Identity) → reserved_by bytes imsi ≡ reserved_by file imsi
