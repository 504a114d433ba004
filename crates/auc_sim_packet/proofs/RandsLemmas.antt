-- Pieces of triplets, one after another: one more piece behind those at the front.
use Rattle.std.proofs.Common.{◌≡◌, ℕ, ◌+◌, ◌-◌, ◌*◌, ◌<◌, ◌≤◌, List, [], ◌∷◌, ◌++◌, length, take, get_or, flat_map, arith, refl, ap, ◌∙◌}
use Rattle.std.proofs.lemmas.Slice.{take-put_mid}
use Rattle.std.proofs.lemmas.List.{take_more, append-nil}
use Rattle.std.proofs.lemmas.List.Concat.{flat_map-cons}
use Rattle.std.proofs.lemmas.Grind.{flat_map-append}
use Rattle.auc_sim_packet.specs.declared.parts.Triplet.{Triplet}
use borrow.Rule.Slice.PartMut.{put_mid}

-- a piece of a size is written behind those of the triplets before
pub pieces_more : (piece_in : Triplet → List ℕ) (size : ℕ) (out : List ℕ) (ts : List Triplet) (i : ℕ) (d : Triplet) → i < length ts → size * i ≤ length out
    → length (piece_in (get_or ts i d)) ≡ size → take (size * i) out ≡ flat_map piece_in (take i ts)
    → take (size * i + size) (put_mid (size * i) (size * i + size - size * i) out (piece_in (get_or ts i d))) ≡ flat_map piece_in (take (i + 1) ts)
pieces_more piece_in size out ts i d within fits whole before =
    let word : List ℕ = piece_in (get_or ts i d) in
    let last : flat_map piece_in (get_or ts i d ∷ []) ≡ word = flat_map-cons piece_in (get_or ts i d) [] ∙ append-nil word in
    let split : flat_map piece_in (take (i + 1) ts) ≡ flat_map piece_in (take i ts) ++ word =
    ap (flat_map piece_in) (take_more ts i d within) ∙ flat_map-append piece_in (take i ts) (get_or ts i d ∷ []) ∙ ap (λ (t : List ℕ). flat_map piece_in (take i ts) ++ t) last in
    rw (take-put_mid (size * i) (size * i + size - size * i) out word (size * i + size) (omega (arith, whole)) fits, split, before) refl
