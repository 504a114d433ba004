-- What is read of a journal is right: each frame is an identity's, with a limit from 1 to the greatest number. So are limits
-- that reserve the same.
use Rattle.std.proofs.Common.{◌≡◌, ℕ, zero, suc, ◌+◌, ◌≤◌, max, Bool, true, false, List, [], ◌∷◌, ◌++◌, length, take, drop, Result, Ok, Err, refl, sym, ◌∙◌, ap, subst, arith}
use Rattle.std.specs.Prelude.{◌==◌, ◌&&◌, nat_le, nat_lt, if◌then◌else◌}
use Rattle.std.specs.Str.{bytes_eq}
use Rattle.std.proofs.lemmas.Bool.{and_from, and_parts, le-leb}
use Rattle.std.proofs.lemmas.Bool.Decides.{nat_tests}
use Rattle.auc_memory.specs.Identity.{Identity, is_imsi}
use Rattle.auc_sqn.specs.Number.{max_seq}
use Rattle.auc_journal.specs.Image.{Frame, Reading, are_entries, before, behind, count_in, entries_in, first_in, frames_in, header, is_body, is_frame, is_kind, kind_in, most, read_frames, read_image, reserved_in, same_identity, size_in, with_gate}
use Rattle.auc_journal.specs.Limits.{AreLimits, AreSingle}
use Rattle.auc_journal.proofs.Facts.{same-same, same_is}

-- each frame is right
abbrev pub AreRight : List Frame → Type 0
AreRight [] = Unit {0}
AreRight (frame ∷ frames) = (is_frame frame ≡ true) × AreRight frames

abbrev read_as : Reading → Result Reading ℕ
read_as reading = Ok reading

ok_is : (a b : Reading) → read_as a ≡ read_as b → a ≡ b
ok_is a b same = cc

not_ok : (place : ℕ) (reading : Reading) (result : Result Reading ℕ) → result ≡ Err place → result ≡ Ok reading → ⊥
not_ok place reading result wrong is = cc

-- ---- what is read

right_both : (xs ys : List Frame) → AreRight xs → AreRight ys → AreRight (xs ++ ys)
right_both [] ys one other = other
right_both (x ∷ xs) ys one other = (one.0, right_both xs ys one.1 other)

entries_right : (count : ℕ) (bytes : List ℕ) → are_entries count bytes ≡ true → AreRight (entries_in count bytes)
entries_right zero bytes are = tt
entries_right (suc count) bytes are =
    let parts = and_parts _ _ are in
    (parts.0, entries_right count (drop 17 bytes) parts.1)

body_right : (rest : List ℕ) → is_body rest ≡ true → AreRight (frames_in rest)
body_right rest is =
    let parts = and_parts (nat_le (size_in rest) (length rest)) (is_kind (kind_in rest) (count_in rest) && are_entries (count_in rest) (drop (first_in rest) rest)) is in
    entries_right (count_in rest) (drop (first_in rest) rest) (and_parts (is_kind (kind_in rest) (count_in rest)) (are_entries (count_in rest) (drop (first_in rest) rest)) parts.1).1

behind_ok : (frames : List Frame) (r : Reading) → behind frames (Ok r) ≡ Ok (record { frames = frames ++ r.frames; end = r.end })
behind_ok [] r = refl
behind_ok (frame ∷ frames) r = ap (before frame) (behind_ok frames r)

behind_wrong : (frames : List Frame) (place : ℕ) → behind frames (Err place) ≡ Err place
behind_wrong [] place = refl
behind_wrong (frame ∷ frames) place = ap (before frame) (behind_wrong frames place)

behind_right : (frames : List Frame) (inner : Result Reading ℕ) (reading : Reading) → AreRight frames → ((r : Reading) → inner ≡ Ok r → AreRight r.frames) → behind frames inner ≡ Ok reading → AreRight reading.frames
behind_right frames (Ok r) reading right deeper is =
    subst (λ (x : Reading). AreRight x.frames) (ok_is (record { frames = frames ++ r.frames; end = r.end }) reading (sym (behind_ok frames r) ∙ is))
    (right_both frames r.frames right (deeper r refl))
behind_right frames (Err place) reading right deeper is = absurd (not_ok place reading (behind frames (Err place)) (behind_wrong frames place) is)

-- what is read of a body
abbrev read_body : ℕ → List ℕ → Result Reading ℕ
read_body at rest = behind (frames_in rest) (read_frames (size_in rest) (at + 1 + size_in rest) rest)

gate_right : (at : ℕ) (rest : List ℕ) (reading : Reading) → ((r : Reading) → read_frames (size_in rest) (at + 1 + size_in rest) rest ≡ Ok r → AreRight r.frames) → (test body : Bool) → is_body rest ≡ body
    → (if test then (if body then read_body at rest else Err at) else Ok (record { frames = []; end = at })) ≡ Ok reading → AreRight reading.frames
gate_right at rest reading deeper false body b is = subst (λ (x : Reading). AreRight x.frames) (ok_is (record { frames = []; end = at }) reading is) tt
gate_right at rest reading deeper true false b is = absurd (cc)
gate_right at rest reading deeper true true b is = behind_right (frames_in rest) (read_frames (size_in rest) (at + 1 + size_in rest) rest) reading (body_right rest b) deeper is

frames_right : (inside at : ℕ) (bytes : List ℕ) (reading : Reading) → read_frames inside at bytes ≡ Ok reading → AreRight reading.frames
frames_right zero at [] reading is = subst (λ (x : Reading). AreRight x.frames) (ok_is (record { frames = []; end = at }) reading is) tt
frames_right (suc inside) at [] reading is = subst (λ (x : Reading). AreRight x.frames) (ok_is (record { frames = []; end = at }) reading is) tt
frames_right (suc inside) at (byte ∷ rest) reading is = frames_right inside at rest reading is
frames_right zero at (gate ∷ rest) reading is =
    gate_right at rest reading (λ r more. frames_right (size_in rest) (at + 1 + size_in rest) rest r more) (gate == 1) (is_body rest) refl is

last_right : (test : Bool) (inner reading : Reading) → AreRight inner.frames → (if test then Err most else Ok inner) ≡ Ok reading → AreRight reading.frames
last_right true inner reading right is = absurd (cc)
last_right false inner reading right is = subst (λ (x : Reading). AreRight x.frames) (ok_is inner reading is) right

with_right : (len : ℕ) (inner : Result Reading ℕ) (reading : Reading) → ((r : Reading) → inner ≡ Ok r → AreRight r.frames) → with_gate len inner ≡ Ok reading → AreRight reading.frames
with_right len (Err place) reading deeper is = absurd (cc)
with_right len (Ok inner) reading deeper is = last_right ((len == most) && (inner.end == most)) inner reading (deeper inner refl) is

rest_right : (file : List ℕ) (reading : Reading) (large short : Bool)
    → (if large then Err most else if short then Ok (record { frames = []; end = 16 }) else with_gate (length file) (read_frames 0 16 (drop 16 file))) ≡ Ok reading → AreRight reading.frames
rest_right file reading true short is = absurd (cc)
rest_right file reading false true is = subst (λ (x : Reading). AreRight x.frames) (ok_is (record { frames = []; end = 16 }) reading is) tt
rest_right file reading false false is = with_right (length file) (read_frames 0 16 (drop 16 file)) reading (λ r more. frames_right 0 16 (drop 16 file) r more) is

headed : (file : List ℕ) (reading : Reading) (test : Bool)
    → (if test then (if nat_lt most (length file) then Err most else if nat_le (length file) 17 then Ok (record { frames = []; end = 16 }) else with_gate (length file) (read_frames 0 16 (drop 16 file))) else Err 0) ≡ Ok reading
    → AreRight reading.frames
headed file reading false is = absurd (cc)
headed file reading true is = rest_right file reading (nat_lt most (length file)) (nat_le (length file) 17) is

pub found_right : (file : List ℕ) (reading : Reading) → read_image file ≡ Ok reading → AreRight reading.frames
found_right [] reading is = subst (λ (x : Reading). AreRight x.frames) (ok_is (record { frames = []; end = 16 }) reading is) tt
found_right (byte ∷ bytes) reading is = headed (byte ∷ bytes) reading (bytes_eq (take 16 (byte ∷ bytes)) header) is

-- ---- what they reserve

le_from : (n m : ℕ) → nat_le n m ≡ true → n ≤ m
le_from n m test = grind (arith, nat_tests)

-- the parts of a frame that is right
pub record Parts (frame : Frame) : Type 0 where
  pub identity : is_imsi frame.imsi.digits frame.imsi.number ≡ true
  pub least : 1 ≤ frame.limit
  pub most : frame.limit ≤ max_seq

pub parts_of : (frame : Frame) → is_frame frame ≡ true → Parts frame
parts_of frame is =
    let both = and_parts (is_imsi frame.imsi.digits frame.imsi.number && nat_le 1 frame.limit) (nat_le frame.limit max_seq) is in
    let one = and_parts (is_imsi frame.imsi.digits frame.imsi.number) (nat_le 1 frame.limit) both.0 in
    record { identity = one.0; least = le_from 1 frame.limit one.1; most = le_from frame.limit max_seq both.1 }

right_from : (frame : Frame) → Parts frame → is_frame frame ≡ true
right_from frame parts = and_from _ _ (and_from _ _ parts.identity (le-leb 1 frame.limit parts.least)) (le-leb frame.limit max_seq parts.most)

reserved_most : (frames : List Frame) (imsi : Identity) → AreRight frames → reserved_in frames imsi ≤ max_seq
reserved_most [] imsi right = omega arith
reserved_most (frame ∷ frames) imsi right =
    cases (same_identity frame.imsi imsi) (parts_of frame right.0).most (reserved_most frames imsi right.1)
  where
    cases : (same : Bool) → frame.limit ≤ max_seq → reserved_in frames imsi ≤ max_seq → (if same then max frame.limit (reserved_in frames imsi) else reserved_in frames imsi) ≤ max_seq
    cases true one rest = omega (arith, one, rest)
    cases false one rest = rest

-- an identity of which they reserve a number is one
reserved_identity : (frames : List Frame) (imsi : Identity) → AreRight frames → 1 ≤ reserved_in frames imsi → is_imsi imsi.digits imsi.number ≡ true
reserved_identity [] imsi right some = absurd (omega (arith, some))
reserved_identity (frame ∷ frames) imsi right some =
    cases (same_identity frame.imsi imsi) refl (λ rest. reserved_identity frames imsi right.1 rest) some
  where
    cases : (same : Bool) → same_identity frame.imsi imsi ≡ same → (1 ≤ reserved_in frames imsi → is_imsi imsi.digits imsi.number ≡ true)
        → 1 ≤ (if same then max frame.limit (reserved_in frames imsi) else reserved_in frames imsi) → is_imsi imsi.digits imsi.number ≡ true
    cases true is others some = subst (λ (i : Identity). is_imsi i.digits i.number ≡ true) (same_is frame.imsi imsi is) (parts_of frame right.0).identity
    cases false is others some = others some

-- limits that reserve no more
limits_below : (limits frames : List Frame) → AreSingle limits → ((imsi : Identity) → reserved_in limits imsi ≤ reserved_in frames imsi) → AreRight frames → AreRight limits
limits_below [] frames single below right = tt
limits_below (limit ∷ limits) frames single below right = (
  right_from limit (record { identity = reserved_identity frames limit.imsi right (omega (arith, single.0, own)); least = single.0; most = let top = reserved_most frames limit.imsi right in omega (arith, own, top) }),
  limits_below limits frames single.2 (λ imsi. let all = below imsi in let one = later imsi in omega (arith, all, one)) right,
)
  where
    first : limit.limit ≤ reserved_in (limit ∷ limits) limit.imsi
    first =
        let whole : reserved_in (limit ∷ limits) limit.imsi ≡ max limit.limit (reserved_in limits limit.imsi) = ap (λ (b : Bool). if b then max limit.limit (reserved_in limits limit.imsi) else reserved_in limits limit.imsi) (same-same limit.imsi) in
        omega (arith, whole)

    own : limit.limit ≤ reserved_in frames limit.imsi
    own = let all = below limit.imsi in let one = first in omega (arith, all, one)

    later : (imsi : Identity) → reserved_in limits imsi ≤ reserved_in (limit ∷ limits) imsi
    later imsi = cases (same_identity limit.imsi imsi)
      where
        cases : (same : Bool) → reserved_in limits imsi ≤ (if same then max limit.limit (reserved_in limits imsi) else reserved_in limits imsi)
        cases true = omega arith
        cases false = omega arith

-- and those of frames that were read
pub limits_right : (file : List ℕ) (reading : Reading) (limits : List Frame) → read_image file ≡ Ok reading → AreLimits limits reading.frames → AreRight limits
limits_right file reading limits read are =
    limits_below limits reading.frames are.single (λ imsi. let same = are.same imsi in omega (arith, same)) (found_right file reading read)
