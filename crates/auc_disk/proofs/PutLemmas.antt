-- Writes into a file: for `put`, and for the crates above.
use Rattle.std.proofs.Common.{◌≡◌, ℕ, zero, suc, ◌+◌, ◌-◌, ◌≤◌, max, List, [], ◌∷◌, ◌++◌, length, take, drop, sym, ◌∙◌, ap, arith, append_assoc, length-append}
use Rattle.std.specs.Prelude.{replicate}
use Rattle.std.proofs.lemmas.List.{append-nil, drop_all, length-replicate, take_all, take-replicate}
use Rattle.auc_disk.specs.Disk.{front, put_over}
use Rattle.auc_disk.specs.InnerTorn.{length-put_over}
use borrow.Rule.Slice.PartMut.{Post-is, put_mid}

-- a write that begins inside the file or at its end leaves no gap
pub put-within : (filler : ℕ) (file : List ℕ) (at : ℕ) (bytes : List ℕ) → at ≤ length file → put_over filler file at bytes ≡ take at file ++ bytes ++ drop (at + length bytes) file
put-within filler file at bytes within =
    let none : at - length file ≡ 0 = omega arith in
    ap (λ (n : ℕ). (take at file ++ replicate n filler) ++ bytes ++ drop (at + length bytes) file) none
    ∙ ap (λ (l : List ℕ). l ++ bytes ++ drop (at + length bytes) file) (append-nil (take at file))

-- a file that is filled up to an end, if it is shorter
abbrev filled : ℕ → List ℕ → ℕ → List ℕ
filled filler file end = file ++ replicate (end - length file) filler

-- the front of a filled file
take-filled : (filler : ℕ) (file : List ℕ) (at end : ℕ) → at ≤ end → take at (filled filler file end) ≡ front filler at file
take-filled filler [] at end within =
    let all : end - length {A = ℕ} [] ≡ end = omega arith in
    let up : at - length {A = ℕ} [] ≡ at = omega arith in
    ap (λ (n : ℕ). take at (replicate n filler)) all ∙ take-replicate at end filler within
    ∙ sym (ap (λ (l : List ℕ). l ++ replicate (at - length {A = ℕ} []) filler) (take_all at [] (omega arith)) ∙ ap (λ (n : ℕ). replicate n filler) up)
take-filled filler (byte ∷ file) zero end within = let none : zero - length (byte ∷ file) ≡ 0 = omega arith in ap (λ (n : ℕ). replicate n filler) (sym none)
take-filled filler (byte ∷ file) (suc at) zero within = absurd (omega (arith, within))
take-filled filler (byte ∷ file) (suc at) (suc end) within =
    let all : suc end - length (byte ∷ file) ≡ end - length file = omega arith in
    let up : suc at - length (byte ∷ file) ≡ at - length file = omega arith in
    ap (λ (n : ℕ). byte ∷ take at (file ++ replicate n filler)) all
    ∙ ap (λ (l : List ℕ). byte ∷ l) (take-filled filler file at end (omega (arith, within)))
    ∙ ap (λ (n : ℕ). byte ∷ (take at file ++ replicate n filler)) (sym up)

-- what lies past the end
drop-filled : (filler : ℕ) (file : List ℕ) (end : ℕ) → drop end (filled filler file end) ≡ drop end file
drop-filled filler [] end =
    drop_all end (replicate (end - length {A = ℕ} []) filler) (omega (arith, length-replicate (end - length {A = ℕ} []) filler))
    ∙ sym (drop_all end [] (omega arith))
drop-filled filler (byte ∷ file) zero =
    let none : zero - length (byte ∷ file) ≡ 0 = omega arith in ap (λ (n : ℕ). (byte ∷ file) ++ replicate n filler) none ∙ append-nil (byte ∷ file)
drop-filled filler (byte ∷ file) (suc end) =
    let all : suc end - length (byte ∷ file) ≡ end - length file = omega arith in
    ap (λ (n : ℕ). drop end (file ++ replicate n filler)) all ∙ drop-filled filler file end

-- a file that is filled up to a write's end, and then has the bytes in their place
filled-put_over : (filler : ℕ) (file : List ℕ) (at : ℕ) (bytes : List ℕ) → put_mid at (at + length bytes - at) (filled filler file (at + length bytes)) bytes ≡ put_over filler file at bytes
filled-put_over filler file at bytes =
    let end = at + length bytes in
    let wide = filled filler file end in
    ap (λ (l : List ℕ). take at wide ++ (bytes ++ l)) (Post-is at end wide (omega arith))
    ∙ ap (λ (l : List ℕ). l ++ (bytes ++ drop end wide)) (take-filled filler file at end (omega arith))
    ∙ ap (λ (l : List ℕ). front filler at file ++ (bytes ++ l)) (drop-filled filler file end)
    ∙ sym (append_assoc (front filler at file) bytes (drop end file))

-- the same of a vector: `grown` is what it holds once it is filled up, and `slice` what its bytes are then
pub put_in : (filler : ℕ) (file : List ℕ) (at : ℕ) (bytes grown slice : List ℕ) (len : ℕ)
    → grown ≡ take (max (length file) (at + length bytes)) file ++ replicate (max (length file) (at + length bytes) - length file) filler
    → slice ≡ grown → len ≡ max (length file) (at + length bytes)
    → take len (put_mid at (at + length bytes - at) slice bytes ++ drop (length (put_mid at (at + length bytes - at) slice bytes)) grown) ≡ put_over filler file at bytes
put_in filler file at bytes grown slice len is value long =
    let end = at + length bytes in
    let most = max (length file) end in
    let missing : most - length file ≡ end - length file = omega arith in
    let grown_is : grown ≡ filled filler file end =
    is ∙ ap (λ (l : List ℕ). l ++ replicate (most - length file) filler) (take_all most file (omega arith)) ∙ ap (λ (n : ℕ). file ++ replicate n filler) missing in
    let new_is : put_mid at (end - at) slice bytes ≡ put_over filler file at bytes =
    ap (λ (l : List ℕ). put_mid at (end - at) l bytes) (value ∙ grown_is) ∙ filled-put_over filler file at bytes in
    let new = put_over filler file at bytes in
    let size : length new ≡ most = length-put_over filler file at bytes in
    let grown_size : length grown ≡ most =
    ap (λ (l : List ℕ). length l) grown_is ∙ omega (arith, length-append file (replicate (end - length file) filler), length-replicate (end - length file) filler) in
    ap (λ (l : List ℕ). take len (l ++ drop (length l) grown)) new_is
    ∙ ap (λ (l : List ℕ). take len (new ++ l)) (drop_all (length new) grown (omega (arith, size, grown_size)))
    ∙ ap (λ (l : List ℕ). take len l) (append-nil new)
    ∙ take_all len new (omega (arith, size, long))
