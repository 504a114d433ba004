-- What a journal's bytes say: a header, frames of one limit or several behind an open gate, and a gate that ends the reading.
use Rattle.std.specs.Prelude.{◌≤◌, ℕ, zero, suc, ◌+◌, ◌*◌, ◌^◌, max, ◌==◌, ◌&&◌, ◌||◌, nat_le, nat_lt, Bool, true, if◌then◌else◌, List, [], ◌∷◌, ◌++◌, flat_map, length, take, drop, slice_index, Result, Ok, Err}
use Rattle.std.specs.Int.{to_be_bytes, from_be_bytes, w16, w64}
use Rattle.std.specs.Str.{bytes_eq}
use Rattle.auc_memory.specs.Identity.{Identity, is_imsi}
use Rattle.auc_sqn.specs.Number.{max_seq}

-- how many bytes a journal has at most
abbrev pub most : ℕ
most = 2 ^ 30

-- the text AUC-SQN-JOURNAL1
abbrev pub header : List ℕ
header = 65 ∷ 85 ∷ 67 ∷ 45 ∷ 83 ∷ 81 ∷ 78 ∷ 45 ∷ 74 ∷ 79 ∷ 85 ∷ 82 ∷ 78 ∷ 65 ∷ 76 ∷ 49 ∷ []

-- what a frame says of an identity: the limit up to which its numbers are reserved
pub record Frame : Type 0 where
  pub imsi : Identity
  pub limit : ℕ

-- its 17 bytes: the number of digits, the identity's number in 8 bytes, the limit in 8 bytes
abbrev pub entry_of : Frame → List ℕ
entry_of frame = frame.imsi.digits ∷ to_be_bytes w64 frame.imsi.number ++ to_be_bytes w64 frame.limit

-- the body of a frame of kind 1: the kind, and one entry
abbrev pub body_of : Frame → List ℕ
body_of frame = 1 ∷ entry_of frame

-- the body of a frame of kind 2: the kind, how many entries there are in 2 bytes, and the entries
abbrev pub group_of : List Frame → List ℕ
group_of frames = 2 ∷ to_be_bytes w16 (length frames) ++ flat_map entry_of frames

-- what 17 bytes say
abbrev pub entry_in : List ℕ → Frame
entry_in bytes = record { imsi = record { digits = slice_index bytes 0; number = from_be_bytes w64 (take 8 (drop 1 bytes)) }; limit = from_be_bytes w64 (drop 9 bytes) }

-- whether that is a frame's: an identity, and a limit from 1 to the greatest number
abbrev pub is_frame : Frame → Bool
is_frame frame = is_imsi frame.imsi.digits frame.imsi.number && nat_le 1 frame.limit && nat_le frame.limit max_seq

-- so many entries, one after the other
abbrev pub entries_in : ℕ → List ℕ → List Frame
entries_in zero bytes = []
entries_in (suc count) bytes = entry_in (take 17 bytes) ∷ entries_in count (drop 17 bytes)

abbrev pub are_entries : ℕ → List ℕ → Bool
are_entries zero bytes = true
are_entries (suc count) bytes = is_frame (entry_in (take 17 bytes)) && are_entries count (drop 17 bytes)

-- of bytes that begin with a body: its kind, where its entries begin, how many there are, and how many bytes it has
abbrev pub kind_in : List ℕ → ℕ
kind_in rest = slice_index rest 0

abbrev pub first_in : List ℕ → ℕ
first_in rest = if kind_in rest == 2 then 3 else 1

abbrev pub count_in : List ℕ → ℕ
count_in rest = if kind_in rest == 2 then from_be_bytes w16 (take 2 (drop 1 rest)) else 1

abbrev pub size_in : List ℕ → ℕ
size_in rest = first_in rest + 17 * count_in rest

-- what it says
abbrev pub frames_in : List ℕ → List Frame
frames_in rest = entries_in (count_in rest) (drop (first_in rest) rest)

-- whether a kind is one that there is, with so many entries: one in kind 1, and 2 to 256 in kind 2
abbrev pub is_kind : ℕ → ℕ → Bool
is_kind kind count = (kind == 1) || ((kind == 2) && (nat_le 2 count && nat_le count 256))

-- whether bytes begin with a body: it is whole, of a kind that there is, and its entries are frames'
abbrev pub is_body : List ℕ → Bool
is_body rest = nat_le (size_in rest) (length rest) && (is_kind (kind_in rest) (count_in rest) && are_entries (count_in rest) (drop (first_in rest) rest))

-- the frames in their order, and the place at which their reading ended
pub record Reading : Type 0 where
  pub frames : List Frame
  pub end : ℕ

-- a frame that stands before what is read behind it
abbrev pub before : Frame → Result Reading ℕ → Result Reading ℕ
before frame (Ok reading) = Ok (record { frames = frame ∷ reading.frames; end = reading.end })
before frame (Err place) = Err place

-- frames that stand before it, in their order
abbrev pub behind : List Frame → Result Reading ℕ → Result Reading ℕ
behind [] result = result
behind (frame ∷ frames) result = before frame (behind frames result)

-- the frames from a place on, after so many bytes that belong to the frame before; if an open gate has no body behind it, its place
abbrev pub read_frames : ℕ → ℕ → List ℕ → Result Reading ℕ
read_frames inside at [] = Ok (record { frames = []; end = at })
read_frames (suc inside) at (byte ∷ rest) = read_frames inside at rest
read_frames zero at (gate ∷ rest) =
    if gate == 1
    then (if is_body rest then behind (frames_in rest) (read_frames (size_in rest) (at + 1 + size_in rest) rest) else Err at)
    else Ok (record { frames = []; end = at })

-- a file of the greatest length whose reading ended at its end has no room for a gate
abbrev pub with_gate : ℕ → Result Reading ℕ → Result Reading ℕ
with_gate len (Err place) = Err place
with_gate len (Ok reading) = if (len == most) && (reading.end == most) then Err most else Ok reading

-- what a journal's bytes are read as, or the place at which they are no journal; no bytes are a journal without frames
abbrev pub read_image : List ℕ → Result Reading ℕ
read_image [] = Ok (record { frames = []; end = 16 })
read_image (byte ∷ bytes) =
    let file = byte ∷ bytes in
    if bytes_eq (take 16 file) header
    then (if nat_lt most (length file) then Err most
    else if nat_le (length file) 17 then Ok (record { frames = []; end = 16 })
    else with_gate (length file) (read_frames 0 16 (drop 16 file)))
    else Err 0

-- whether two identities are one
abbrev pub same_identity : Identity → Identity → Bool
same_identity a b = (a.digits == b.digits) && (a.number == b.number)

-- the greatest limit of an identity among some frames, or 0 if it has none
abbrev pub reserved_in : List Frame → Identity → ℕ
reserved_in [] imsi = 0
reserved_in (frame ∷ frames) imsi = if same_identity frame.imsi imsi then max frame.limit (reserved_in frames imsi) else reserved_in frames imsi

-- what a reading reserves for an identity; bytes that are no journal reserve nothing
abbrev pub reserved_as : Result Reading ℕ → Identity → ℕ
reserved_as (Ok reading) imsi = reserved_in reading.frames imsi
reserved_as (Err place) imsi = 0

-- what the bytes of a file reserve for an identity
abbrev pub reserved_by : List ℕ → Identity → ℕ
reserved_by file imsi = reserved_as (read_image file) imsi

-- an image forgets no reservation of a file, whosever it is
abbrev pub Keeps : List ℕ → List ℕ → Type 0
Keeps file image = (imsi : Identity) → reserved_by file imsi ≤ reserved_by image imsi
