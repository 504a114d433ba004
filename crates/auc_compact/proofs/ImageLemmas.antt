-- A journal anew is read as its limits.
use Rattle.std.proofs.Common.{◌≡◌, ℕ, suc, ◌+◌, ◌*◌, ◌≤◌, ◌<◌, Bool, true, false, List, [], ◌∷◌, ◌++◌, length, take, drop, Result, Ok, Err, refl, sym, ◌∙◌, ap, arith, append_assoc, length-append, append-nil, Some}
use Rattle.std.specs.Prelude.{◌^◌, ◌==◌, ◌&&◌, nat_le, nat_lt, if◌then◌else◌, flat_map, slice_get}
use Rattle.std.proofs.Math.Nat.{pow-le-pow_right}
use Rattle.std.proofs.lemmas.Bool.{and_from, and_parts, le-leb}
use Rattle.std.proofs.lemmas.Bool.Decides.{nat_tests}
use Rattle.std.proofs.lemmas.List.{drop_at, take_more}
use Rattle.std.proofs.lemmas.Grind.{flat_map-append}
use Rattle.std.proofs.lemmas.Option.{get_or_from_slice_get}
use Rattle.std.proofs.lemmas.Nat.{from_be_bytes-to_be_bytes_8}
use Rattle.auc_memory.specs.Identity.{Identity, is_imsi}
use Rattle.auc_journal.specs.Image.{Frame, Reading, before, behind, body_of, entry_in, entry_of, frames_in, header, is_body, is_frame, is_kind, most, read_frames, read_image, reserved_as, with_gate}
use Rattle.auc_journal.specs.Limits.{AreLimits}
use Rattle.auc_compact.specs.Compact.{IsAnew, compact_end, compact_image, open_frame}
use Rattle.auc_compact.proofs.FoundLemmas.{AreRight, limits_right, parts_of}

-- ---- a frame

le_from : (n m : ℕ) → nat_le n m ≡ true → n ≤ m
le_from n m test = grind (arith, nat_tests)

lt_from : (n m : ℕ) → nat_lt n m ≡ true → n < m
lt_from n m test = grind (arith, nat_tests)

number_fits : (imsi : Identity) → is_imsi imsi.digits imsi.number ≡ true → imsi.number < 2 ^ 64
number_fits imsi is =
    let both = and_parts (nat_le 6 imsi.digits && nat_le imsi.digits 15) (nat_lt imsi.number (10 ^ imsi.digits)) is in
    let digits = le_from imsi.digits 15 (and_parts (nat_le 6 imsi.digits) (nat_le imsi.digits 15) both.0).1 in
    let below = lt_from imsi.number (10 ^ imsi.digits) both.1 in
    let p : 10 ^ imsi.digits ≤ 10 ^ 15 = pow-le-pow_right (omega arith) digits in
    omega (arith, p, below)

-- an entry is read as its frame
entry_same : (frame : Frame) → frame.imsi.number < 2 ^ 64 → frame.limit < 2 ^ 64 → entry_in (entry_of frame) ≡ frame
entry_same frame number limit =
    λ i. record { imsi = record { digits = frame.imsi.digits; number = from_be_bytes-to_be_bytes_8 frame.imsi.number number i }; limit = from_be_bytes-to_be_bytes_8 frame.limit limit i }

entry_right : (frame : Frame) → is_frame frame ≡ true → entry_in (entry_of frame) ≡ frame
entry_right frame right =
    let parts = parts_of frame right in
    entry_same frame (number_fits frame.imsi parts.identity) (let top = parts.most in omega (arith, top))

-- a body is one, whatever stands behind it
body_is : (frame : Frame) (tail : List ℕ) → is_frame frame ≡ true → is_body (body_of frame ++ tail) ≡ true
body_is frame tail right =
    and_from (nat_le 18 (length (body_of frame ++ tail))) (is_kind 1 1 && (is_frame (entry_in (entry_of frame)) && true)) (le-leb 18 (length (body_of frame ++ tail)) (omega (arith, length-append (body_of frame) tail)))
    (and_from (is_frame (entry_in (entry_of frame))) true (ap is_frame (entry_right frame right) ∙ right) refl)

-- what is read of a body at a place
abbrev read_body : ℕ → List ℕ → Result Reading ℕ
read_body at rest = behind (frames_in rest) (read_frames 18 (at + 1 + 18) rest)

-- a frame in front
one_frame : (frame : Frame) (at : ℕ) (tail : List ℕ) → is_frame frame ≡ true → read_frames 0 at (1 ∷ body_of frame ++ tail) ≡ before frame (read_frames 0 (at + 19) tail)
one_frame frame at tail right =
    ap (λ (b : Bool). if b then read_body at (body_of frame ++ tail) else Err at) (body_is frame tail right)
    ∙ ap (λ (f : Frame). before f (read_frames 0 (at + 1 + 18) tail)) (entry_right frame right)
    ∙ ap (λ (n : ℕ). before frame (read_frames 0 n tail)) (next at)
  where
    next : (n : ℕ) → n + 1 + 18 ≡ n + 19
    next n = omega arith

-- ---- all frames

all_frames : (frames : List Frame) (at : ℕ) (tail : List ℕ) → AreRight frames → read_frames 0 at (flat_map open_frame frames ++ tail) ≡ behind frames (read_frames 0 (at + 19 * length frames) tail)
all_frames [] at tail right = ap (λ (n : ℕ). read_frames 0 n tail) (none at)
  where
    none : (n : ℕ) → n ≡ n + 19 * 0
    none n = omega arith
all_frames (frame ∷ frames) at tail right =
    ap (read_frames 0 at) (append_assoc (open_frame frame) (flat_map open_frame frames) tail)
    ∙ one_frame frame at (flat_map open_frame frames ++ tail) right.0
    ∙ ap (before frame) (all_frames frames (at + 19) tail right.1)
    ∙ ap (λ (n : ℕ). before frame (behind frames (read_frames 0 n tail))) (more at (length frames))
  where
    more : (n m : ℕ) → n + 19 + 19 * m ≡ n + 19 * suc m
    more n m = omega arith

behind_end : (frames : List Frame) (end : ℕ) → behind frames (Ok (record { frames = []; end = end })) ≡ Ok (record { frames = frames; end = end })
behind_end [] end = refl
behind_end (frame ∷ frames) end = ap (before frame) (behind_end frames end)

to_gate : (frames : List Frame) → AreRight frames → read_frames 0 16 (flat_map open_frame frames ++ 0 ∷ []) ≡ Ok (record { frames = frames; end = compact_end frames })
to_gate frames right = all_frames frames 16 (0 ∷ []) right ∙ behind_end frames (compact_end frames)

frames_length : (frames : List Frame) → length (flat_map open_frame frames) ≡ 19 * length frames
frames_length [] = refl
frames_length (frame ∷ frames) = let rest = frames_length frames in let cut = length-append (open_frame frame) (flat_map open_frame frames) in omega (arith, rest, cut)

pub image_length : (frames : List Frame) → length (compact_image frames) ≡ 17 + 19 * length frames
image_length frames =
    let all = length-append header (flat_map open_frame frames ++ 0 ∷ []) in
    let cut = length-append (flat_map open_frame frames) (0 ∷ []) in
    let size = frames_length frames in
    omega (arith, all, cut, size)

-- ---- the whole

is_small : (len : ℕ) → len ≤ most → nat_lt most len ≡ false
is_small len fits = grind (arith, nat_tests)

is_long : (len : ℕ) → 18 ≤ len → nat_le len 17 ≡ false
is_long len long = grind (arith, nat_tests)

has_gate : (len place : ℕ) → place < len → len ≤ most → ((len == most) && (place == most)) ≡ false
has_gate len place below fits = grind (arith, nat_tests)

image_read : (frames : List Frame) → AreRight frames → 17 + 19 * length frames ≤ most → read_image (compact_image frames) ≡ Ok (record { frames = frames; end = compact_end frames })
image_read [] right fits = refl
image_read (frame ∷ frames) right fits =
    let file = compact_image (frame ∷ frames) in
    let tail = flat_map open_frame (frame ∷ frames) ++ 0 ∷ [] in
    let len = image_length (frame ∷ frames) in
    (λ i. if is_small (length file) (omega (arith, len, fits)) i then Err most else if is_long (length file) (omega (arith, len)) i then Ok (record { frames = []; end = 16 }) else with_gate (length file) (to_gate (frame ∷ frames) right i))
    ∙ ap (λ (b : Bool). if b then Err most else Ok (record { frames = frame ∷ frames; end = compact_end (frame ∷ frames) })) (has_gate (length file) (compact_end (frame ∷ frames)) (omega (arith, len)) (omega (arith, len, fits)))

gate_closed : (frames : List Frame) → take 1 (drop (compact_end frames) (compact_image frames)) ≡ 0 ∷ []
gate_closed frames =
    ap (take 1) (ap (drop (compact_end frames)) (sym (append_assoc header (flat_map open_frame frames) (0 ∷ [])))
    ∙ drop_at (header ++ flat_map open_frame frames) (0 ∷ []) (compact_end frames) (let all = length-append header (flat_map open_frame frames) in let size = frames_length frames in omega (arith, all, size)))

pub is_anew : (file : List ℕ) (reading : Reading) (limits : List Frame) → 17 + 19 * length limits ≤ most → read_image file ≡ Ok reading → AreLimits limits reading.frames → IsAnew file limits (compact_image limits)
is_anew file reading limits fits read are =
    let again = image_read limits (limits_right file reading limits read are) fits in
    record {
      at_rest = record { read = again; gate = gate_closed limits };
      same = λ imsi. ap (λ (r : Result Reading ℕ). reserved_as r imsi) again ∙ are.same imsi ∙ ap (λ (r : Result Reading ℕ). reserved_as r imsi) (sym read);
    }

-- ---- the loop

-- one more frame
pub frames_more : (limits : List Frame) (bytes : List ℕ) (place : ℕ) (limit : Frame) → bytes ≡ header ++ flat_map open_frame (take place limits) → slice_get limits place ≡ Some limit → place < length limits
    → bytes ++ open_frame limit ≡ header ++ flat_map open_frame (take (place + 1) limits)
frames_more limits bytes place limit is here inside =
    ap (λ (l : List ℕ). l ++ open_frame limit) is
    ∙ append_assoc header (flat_map open_frame (take place limits)) (open_frame limit)
    ∙ ap (λ (l : List ℕ). header ++ (flat_map open_frame (take place limits) ++ l)) (sym (append-nil (open_frame limit)))
    ∙ ap (λ (l : List ℕ). header ++ l) (sym (flat_map-append open_frame (take place limits) (limit ∷ [])))
    ∙ ap (λ (l : List Frame). header ++ flat_map open_frame l) (sym (take_more limits place limit inside ∙ ap (λ (x : Frame). take place limits ++ x ∷ []) (get_or_from_slice_get limits place limit limit here)))
