-- For CK | IK, which is written in two pieces.
use Rattle.std.proofs.Common.{ℕ, ◌≡◌, List, [], ◌++◌, length, take, drop, refl}
use Rattle.std.proofs.lemmas.List.{append-nil}
use Rattle.std.proofs.Math.Seq.{take-append_seam, drop-append_seam, drop-length}
use borrow.Rule.Slice.PartMut.{put_mid}

-- IK is written after CK
pub joined_is : (ck ik filler : List ℕ) → length ck ≡ 16 → length filler ≡ 16 → put_mid 16 16 (ck ++ filler) ik ≡ ck ++ ik
joined_is ck ik filler ck_size filler_size =
    let first : take 16 (ck ++ filler) ≡ ck = rw ck_size at (take-append_seam ck filler) in
    let second : drop 16 (ck ++ filler) ≡ filler = rw ck_size at (drop-append_seam ck filler) in
    let past : drop 16 filler ≡ [] = rw filler_size at (drop-length filler) in
    rw (first, second, past, append-nil) refl
