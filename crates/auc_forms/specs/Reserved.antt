-- The form `reserved`: the limits of a journal, a line for each identity.
use Rattle.std.specs.Prelude.{◌≡◌, ℕ, ◌<◌, ◌≤◌, ◌⊎◌, Bool, false, AllPairs, All, List, [], ◌∷◌, ◌++◌, codes, decimal, flat_map}
use Rattle.std.specs.Str.{bytes_eq}
use Rattle.auc_memory.specs.Identity.{Identity, digits_of}
use Rattle.auc_journal.specs.Image.{Frame, reserved_in}

-- whether the words are `reserved` alone
abbrev pub asks_reserved : List (List ℕ) → Bool
asks_reserved (word ∷ []) = bytes_eq word (codes "reserved")
asks_reserved _ = false

-- an identity comes before another: its number is less, or their numbers are the same and it has fewer digits
abbrev pub ComesBefore : Identity → Identity → Type 0
ComesBefore a b = (a.number < b.number) ⊎ ((a.number ≡ b.number) × (a.digits < b.digits))

-- the limits of some frames: each identity once, in this order, with the greatest limit of its frames
pub record AreListed (frames limits : List Frame) : Type 0 where
  pub ordered : AllPairs (λ a b. ComesBefore a.imsi b.imsi) limits
  pub each : All (λ limit. 1 ≤ limit.limit) limits
  pub same : (imsi : Identity) → reserved_in limits imsi ≡ reserved_in frames imsi

-- the line of an identity
abbrev pub limit_line : Frame → List ℕ
limit_line frame = codes "reserved " ++ digits_of frame.imsi ++ codes " " ++ decimal frame.limit ++ codes "\n"

-- a text has a line for each limit of some frames
pub record IsReservedText (frames : List Frame) (text : List ℕ) : Type 0 where
  pub limits : List Frame
  pub listed : AreListed frames limits
  pub is_text : text ≡ flat_map limit_line limits
