-- What the tables' entries are, by computation over all of them.
use Rattle.std.proofs.Common.{◌≡◌, ℕ, zero, suc, ◌*◌, ◌/◌, ◌%◌, ◌<◌, Bool, true, ◌&&◌, ◌==◌, List, [], ◌∷◌, get_or, bit_xor, bit_and, refl, sym, ap, ◌∙◌, arith}
use Rattle.std.specs.Int.{w32, to_be_bytes}
use Rattle.std.proofs.lemmas.Bool.{and_parts, eqb-true, cases_lt}
use mathlib.Core.Logic.{⊎_elim}
use Rattle.auc_aes.specs.Bytes.{xor}
use Rattle.auc_aes.specs.Field.{xtimes, product_by, product, inverse_among, inverse, turned, affine, inverse_affine, sub_byte, inv_sub_byte}
use Rattle.auc_aes.specs.Cipher.{mixed, inv_mixed}
use Rattle.auc_aes.specs.Inner.{mixed_column}
use Rattle.auc_aes.specs.declared.tables.TheConstants.{S_BOX, INVERSE_S_BOX, COLUMN_0, COLUMN_1, COLUMN_2, COLUMN_3, TIMES_9, TIMES_11, TIMES_13, TIMES_14}
use Rattle.auc_aes.proofs.BytesLemmas.{to_be_bytes-xor, xor_turn}

-- whether f and g agree at each number below n
abbrev pub agree : (ℕ → ℕ) → (ℕ → ℕ) → ℕ → Bool
agree f g zero = true
agree f g (suc n) = (f n == g n) && agree f g n

-- where they do, they are equal at each number below n
pub agree_at : (f g : ℕ → ℕ) (n b : ℕ) → agree f g n ≡ true → b < n → f b ≡ g b
agree_at f g zero b e l = absurd (omega arith)
agree_at f g (suc n) b e l =
    ⊎_elim (λ under. agree_at f g n b (and_parts _ _ e).1 under)
    (λ reached. let same : b ≡ n = omega arith in ap f same ∙ eqb-true _ _ (and_parts _ _ e).0 ∙ ap g (sym same)) (cases_lt b n)

-- the S-box
S_BOX_agrees : agree (λ b. get_or S_BOX b 0) sub_byte 256 ≡ true
unfolding sub_byte affine turned inverse inverse_among product product_by xtimes
S_BOX_agrees = refl

-- an entry of the S-box
pub S_BOX_is : (b : ℕ) → b < 256 → get_or S_BOX b 0 ≡ sub_byte b
S_BOX_is b = agree_at (λ x. get_or S_BOX x 0) sub_byte 256 b S_BOX_agrees

-- the inverse S-box
INVERSE_S_BOX_agrees : agree (λ b. get_or INVERSE_S_BOX b 0) inv_sub_byte 256 ≡ true
unfolding inv_sub_byte inverse_affine turned inverse inverse_among product product_by xtimes
INVERSE_S_BOX_agrees = refl

-- an entry of the inverse S-box
pub INVERSE_S_BOX_is : (b : ℕ) → b < 256 → get_or INVERSE_S_BOX b 0 ≡ inv_sub_byte b
INVERSE_S_BOX_is b = agree_at (λ x. get_or INVERSE_S_BOX x 0) inv_sub_byte 256 b INVERSE_S_BOX_agrees

-- a byte times x, as the code computes it
double_agrees : agree (λ b. bit_xor (bit_and b 127 * 2) (b / 128 * 27)) xtimes 256 ≡ true
unfolding xtimes
double_agrees = refl

-- a byte times x by the code is so by the definition
pub double_is : (b : ℕ) → b < 256 → bit_xor (bit_and b 127 * 2) (b / 128 * 27) ≡ xtimes b
double_is b = agree_at (λ x. bit_xor (bit_and x 127 * 2) (x / 128 * 27)) xtimes 256 b double_agrees

-- the most significant byte of each word of row 0
column_0_0_agrees : agree (λ x. get_or COLUMN_0 x 0 / 16777216 % 256) (λ x. product 2 (get_or S_BOX x 0)) 256 ≡ true
unfolding product product_by xtimes
column_0_0_agrees = refl

-- the second byte of each word of row 0
column_0_1_agrees : agree (λ x. get_or COLUMN_0 x 0 / 65536 % 256) (λ x. get_or S_BOX x 0) 256 ≡ true
unfolding product product_by xtimes
column_0_1_agrees = refl

-- the third byte of each word of row 0
column_0_2_agrees : agree (λ x. get_or COLUMN_0 x 0 / 256 % 256) (λ x. get_or S_BOX x 0) 256 ≡ true
unfolding product product_by xtimes
column_0_2_agrees = refl

-- the least significant byte of each word of row 0
column_0_3_agrees : agree (λ x. get_or COLUMN_0 x 0 % 256) (λ x. product 3 (get_or S_BOX x 0)) 256 ≡ true
unfolding product product_by xtimes
column_0_3_agrees = refl

-- the word of a byte in row 0
column_0_is : (b : ℕ) → b < 256
    → to_be_bytes w32 (get_or COLUMN_0 b 0) ≡ product 2 (sub_byte b) ∷ sub_byte b ∷ sub_byte b ∷ product 3 (sub_byte b) ∷ []
column_0_is b l =
    let e0 : get_or COLUMN_0 b 0 / 16777216 % 256 ≡ product 2 (sub_byte b) =
    agree_at (λ x. get_or COLUMN_0 x 0 / 16777216 % 256) (λ x. product 2 (get_or S_BOX x 0)) 256 b column_0_0_agrees l ∙ ap (product 2) (S_BOX_is b l) in
    let e1 : get_or COLUMN_0 b 0 / 65536 % 256 ≡ sub_byte b =
    agree_at (λ x. get_or COLUMN_0 x 0 / 65536 % 256) (λ x. get_or S_BOX x 0) 256 b column_0_1_agrees l ∙ S_BOX_is b l in
    let e2 : get_or COLUMN_0 b 0 / 256 % 256 ≡ sub_byte b =
    agree_at (λ x. get_or COLUMN_0 x 0 / 256 % 256) (λ x. get_or S_BOX x 0) 256 b column_0_2_agrees l ∙ S_BOX_is b l in
    let e3 : get_or COLUMN_0 b 0 % 256 ≡ product 3 (sub_byte b) =
    agree_at (λ x. get_or COLUMN_0 x 0 % 256) (λ x. product 3 (get_or S_BOX x 0)) 256 b column_0_3_agrees l ∙ ap (product 3) (S_BOX_is b l) in
    rw (e0, e1, e2, e3) refl

-- the most significant byte of each word of row 1
column_1_0_agrees : agree (λ x. get_or COLUMN_1 x 0 / 16777216 % 256) (λ x. product 3 (get_or S_BOX x 0)) 256 ≡ true
unfolding product product_by xtimes
column_1_0_agrees = refl

-- the second byte of each word of row 1
column_1_1_agrees : agree (λ x. get_or COLUMN_1 x 0 / 65536 % 256) (λ x. product 2 (get_or S_BOX x 0)) 256 ≡ true
unfolding product product_by xtimes
column_1_1_agrees = refl

-- the third byte of each word of row 1
column_1_2_agrees : agree (λ x. get_or COLUMN_1 x 0 / 256 % 256) (λ x. get_or S_BOX x 0) 256 ≡ true
unfolding product product_by xtimes
column_1_2_agrees = refl

-- the least significant byte of each word of row 1
column_1_3_agrees : agree (λ x. get_or COLUMN_1 x 0 % 256) (λ x. get_or S_BOX x 0) 256 ≡ true
unfolding product product_by xtimes
column_1_3_agrees = refl

-- the word of a byte in row 1
column_1_is : (b : ℕ) → b < 256
    → to_be_bytes w32 (get_or COLUMN_1 b 0) ≡ product 3 (sub_byte b) ∷ product 2 (sub_byte b) ∷ sub_byte b ∷ sub_byte b ∷ []
column_1_is b l =
    let e0 : get_or COLUMN_1 b 0 / 16777216 % 256 ≡ product 3 (sub_byte b) =
    agree_at (λ x. get_or COLUMN_1 x 0 / 16777216 % 256) (λ x. product 3 (get_or S_BOX x 0)) 256 b column_1_0_agrees l ∙ ap (product 3) (S_BOX_is b l) in
    let e1 : get_or COLUMN_1 b 0 / 65536 % 256 ≡ product 2 (sub_byte b) =
    agree_at (λ x. get_or COLUMN_1 x 0 / 65536 % 256) (λ x. product 2 (get_or S_BOX x 0)) 256 b column_1_1_agrees l ∙ ap (product 2) (S_BOX_is b l) in
    let e2 : get_or COLUMN_1 b 0 / 256 % 256 ≡ sub_byte b =
    agree_at (λ x. get_or COLUMN_1 x 0 / 256 % 256) (λ x. get_or S_BOX x 0) 256 b column_1_2_agrees l ∙ S_BOX_is b l in
    let e3 : get_or COLUMN_1 b 0 % 256 ≡ sub_byte b =
    agree_at (λ x. get_or COLUMN_1 x 0 % 256) (λ x. get_or S_BOX x 0) 256 b column_1_3_agrees l ∙ S_BOX_is b l in
    rw (e0, e1, e2, e3) refl

-- the most significant byte of each word of row 2
column_2_0_agrees : agree (λ x. get_or COLUMN_2 x 0 / 16777216 % 256) (λ x. get_or S_BOX x 0) 256 ≡ true
unfolding product product_by xtimes
column_2_0_agrees = refl

-- the second byte of each word of row 2
column_2_1_agrees : agree (λ x. get_or COLUMN_2 x 0 / 65536 % 256) (λ x. product 3 (get_or S_BOX x 0)) 256 ≡ true
unfolding product product_by xtimes
column_2_1_agrees = refl

-- the third byte of each word of row 2
column_2_2_agrees : agree (λ x. get_or COLUMN_2 x 0 / 256 % 256) (λ x. product 2 (get_or S_BOX x 0)) 256 ≡ true
unfolding product product_by xtimes
column_2_2_agrees = refl

-- the least significant byte of each word of row 2
column_2_3_agrees : agree (λ x. get_or COLUMN_2 x 0 % 256) (λ x. get_or S_BOX x 0) 256 ≡ true
unfolding product product_by xtimes
column_2_3_agrees = refl

-- the word of a byte in row 2
column_2_is : (b : ℕ) → b < 256
    → to_be_bytes w32 (get_or COLUMN_2 b 0) ≡ sub_byte b ∷ product 3 (sub_byte b) ∷ product 2 (sub_byte b) ∷ sub_byte b ∷ []
column_2_is b l =
    let e0 : get_or COLUMN_2 b 0 / 16777216 % 256 ≡ sub_byte b =
    agree_at (λ x. get_or COLUMN_2 x 0 / 16777216 % 256) (λ x. get_or S_BOX x 0) 256 b column_2_0_agrees l ∙ S_BOX_is b l in
    let e1 : get_or COLUMN_2 b 0 / 65536 % 256 ≡ product 3 (sub_byte b) =
    agree_at (λ x. get_or COLUMN_2 x 0 / 65536 % 256) (λ x. product 3 (get_or S_BOX x 0)) 256 b column_2_1_agrees l ∙ ap (product 3) (S_BOX_is b l) in
    let e2 : get_or COLUMN_2 b 0 / 256 % 256 ≡ product 2 (sub_byte b) =
    agree_at (λ x. get_or COLUMN_2 x 0 / 256 % 256) (λ x. product 2 (get_or S_BOX x 0)) 256 b column_2_2_agrees l ∙ ap (product 2) (S_BOX_is b l) in
    let e3 : get_or COLUMN_2 b 0 % 256 ≡ sub_byte b =
    agree_at (λ x. get_or COLUMN_2 x 0 % 256) (λ x. get_or S_BOX x 0) 256 b column_2_3_agrees l ∙ S_BOX_is b l in
    rw (e0, e1, e2, e3) refl

-- the most significant byte of each word of row 3
column_3_0_agrees : agree (λ x. get_or COLUMN_3 x 0 / 16777216 % 256) (λ x. get_or S_BOX x 0) 256 ≡ true
unfolding product product_by xtimes
column_3_0_agrees = refl

-- the second byte of each word of row 3
column_3_1_agrees : agree (λ x. get_or COLUMN_3 x 0 / 65536 % 256) (λ x. get_or S_BOX x 0) 256 ≡ true
unfolding product product_by xtimes
column_3_1_agrees = refl

-- the third byte of each word of row 3
column_3_2_agrees : agree (λ x. get_or COLUMN_3 x 0 / 256 % 256) (λ x. product 3 (get_or S_BOX x 0)) 256 ≡ true
unfolding product product_by xtimes
column_3_2_agrees = refl

-- the least significant byte of each word of row 3
column_3_3_agrees : agree (λ x. get_or COLUMN_3 x 0 % 256) (λ x. product 2 (get_or S_BOX x 0)) 256 ≡ true
unfolding product product_by xtimes
column_3_3_agrees = refl

-- the word of a byte in row 3
column_3_is : (b : ℕ) → b < 256
    → to_be_bytes w32 (get_or COLUMN_3 b 0) ≡ sub_byte b ∷ sub_byte b ∷ product 3 (sub_byte b) ∷ product 2 (sub_byte b) ∷ []
column_3_is b l =
    let e0 : get_or COLUMN_3 b 0 / 16777216 % 256 ≡ sub_byte b =
    agree_at (λ x. get_or COLUMN_3 x 0 / 16777216 % 256) (λ x. get_or S_BOX x 0) 256 b column_3_0_agrees l ∙ S_BOX_is b l in
    let e1 : get_or COLUMN_3 b 0 / 65536 % 256 ≡ sub_byte b =
    agree_at (λ x. get_or COLUMN_3 x 0 / 65536 % 256) (λ x. get_or S_BOX x 0) 256 b column_3_1_agrees l ∙ S_BOX_is b l in
    let e2 : get_or COLUMN_3 b 0 / 256 % 256 ≡ product 3 (sub_byte b) =
    agree_at (λ x. get_or COLUMN_3 x 0 / 256 % 256) (λ x. product 3 (get_or S_BOX x 0)) 256 b column_3_2_agrees l ∙ ap (product 3) (S_BOX_is b l) in
    let e3 : get_or COLUMN_3 b 0 % 256 ≡ product 2 (sub_byte b) =
    agree_at (λ x. get_or COLUMN_3 x 0 % 256) (λ x. product 2 (get_or S_BOX x 0)) 256 b column_3_3_agrees l ∙ ap (product 2) (S_BOX_is b l) in
    rw (e0, e1, e2, e3) refl

-- four columns of a byte's multiples, added, are the mixed column
columns_added : (x y z w : ℕ) (s t u v : List ℕ) → s ≡ product 2 x ∷ x ∷ x ∷ product 3 x ∷ []
    → t ≡ product 3 y ∷ product 2 y ∷ y ∷ y ∷ [] → u ≡ z ∷ product 3 z ∷ product 2 z ∷ z ∷ []
    → v ≡ w ∷ w ∷ product 3 w ∷ product 2 w ∷ [] → xor (xor (xor s t) u) v ≡ mixed_column x y z w
unfolding mixed_column mixed
columns_added x y z w s t u v es et eu ev =
    let row1 : bit_xor (bit_xor (bit_xor x (product 2 y)) (product 3 z)) w ≡ mixed y z w x =
    xor_turn x (product 2 y) (product 3 z) w in
    let row2 : bit_xor (bit_xor (bit_xor x y) (product 2 z)) (product 3 w) ≡ mixed z w x y =
    xor_turn x y (product 2 z) (product 3 w) ∙ xor_turn y (product 2 z) (product 3 w) x in
    let row3 : bit_xor (bit_xor (bit_xor (product 3 x) y) z) (product 2 w) ≡ mixed w x y z =
    xor_turn (product 3 x) y z (product 2 w) ∙ xor_turn y z (product 2 w) (product 3 x)
    ∙ xor_turn z (product 2 w) (product 3 x) y in
    rw (es, et, eu, ev, row1, row2, row3) refl

-- the four words that a column's bytes give, added, are the mixed column of their substitutes
pub column_is : (a b c d : ℕ) → a < 256 → b < 256 → c < 256 → d < 256
    → to_be_bytes w32 (bit_xor (bit_xor (bit_xor (get_or COLUMN_0 a 0) (get_or COLUMN_1 b 0)) (get_or COLUMN_2 c 0)) (get_or COLUMN_3 d 0))
    ≡ mixed_column (sub_byte a) (sub_byte b) (sub_byte c) (sub_byte d)
column_is a b c d la lb lc ld =
    to_be_bytes-xor (bit_xor (bit_xor (get_or COLUMN_0 a 0) (get_or COLUMN_1 b 0)) (get_or COLUMN_2 c 0)) (get_or COLUMN_3 d 0)
    ∙ ap (λ w. xor w (to_be_bytes w32 (get_or COLUMN_3 d 0)))
    (to_be_bytes-xor (bit_xor (get_or COLUMN_0 a 0) (get_or COLUMN_1 b 0)) (get_or COLUMN_2 c 0)
    ∙ ap (λ w. xor w (to_be_bytes w32 (get_or COLUMN_2 c 0))) (to_be_bytes-xor (get_or COLUMN_0 a 0) (get_or COLUMN_1 b 0)))
    ∙ columns_added (sub_byte a) (sub_byte b) (sub_byte c) (sub_byte d) (to_be_bytes w32 (get_or COLUMN_0 a 0))
    (to_be_bytes w32 (get_or COLUMN_1 b 0)) (to_be_bytes w32 (get_or COLUMN_2 c 0)) (to_be_bytes w32 (get_or COLUMN_3 d 0))
    (column_0_is a la) (column_1_is b lb) (column_2_is c lc) (column_3_is d ld)

-- the multiples of a byte that undo the mixing
TIMES_9_agrees : agree (λ b. get_or TIMES_9 b 0) (product 9) 256 ≡ true
unfolding product product_by xtimes
TIMES_9_agrees = refl

-- an entry of the table of products by 9
pub TIMES_9_is : (b : ℕ) → b < 256 → get_or TIMES_9 b 0 ≡ product 9 b
TIMES_9_is b = agree_at (λ x. get_or TIMES_9 x 0) (product 9) 256 b TIMES_9_agrees

-- the table of products by 11
TIMES_11_agrees : agree (λ b. get_or TIMES_11 b 0) (product 11) 256 ≡ true
unfolding product product_by xtimes
TIMES_11_agrees = refl

-- an entry of it
pub TIMES_11_is : (b : ℕ) → b < 256 → get_or TIMES_11 b 0 ≡ product 11 b
TIMES_11_is b = agree_at (λ x. get_or TIMES_11 x 0) (product 11) 256 b TIMES_11_agrees

-- the table of products by 13
TIMES_13_agrees : agree (λ b. get_or TIMES_13 b 0) (product 13) 256 ≡ true
unfolding product product_by xtimes
TIMES_13_agrees = refl

-- an entry of it
pub TIMES_13_is : (b : ℕ) → b < 256 → get_or TIMES_13 b 0 ≡ product 13 b
TIMES_13_is b = agree_at (λ x. get_or TIMES_13 x 0) (product 13) 256 b TIMES_13_agrees

-- the table of products by 14
TIMES_14_agrees : agree (λ b. get_or TIMES_14 b 0) (product 14) 256 ≡ true
unfolding product product_by xtimes
TIMES_14_agrees = refl

-- an entry of it
pub TIMES_14_is : (b : ℕ) → b < 256 → get_or TIMES_14 b 0 ≡ product 14 b
TIMES_14_is b = agree_at (λ x. get_or TIMES_14 x 0) (product 14) 256 b TIMES_14_agrees

-- the multiples of a column's bytes by 14, 11, 13 and 9, added, are a byte of the column before it was mixed
pub unmixed_is : (a b c d : ℕ) → a < 256 → b < 256 → c < 256 → d < 256
    → bit_xor (bit_xor (bit_xor (get_or TIMES_14 a 0) (get_or TIMES_11 b 0)) (get_or TIMES_13 c 0)) (get_or TIMES_9 d 0)
    ≡ inv_mixed a b c d
unfolding inv_mixed
unmixed_is a b c d la lb lc ld =
    let ea : get_or TIMES_14 a 0 ≡ product 14 a = TIMES_14_is a la in
    let eb : get_or TIMES_11 b 0 ≡ product 11 b = TIMES_11_is b lb in
    let ec : get_or TIMES_13 c 0 ≡ product 13 c = TIMES_13_is c lc in
    let ed : get_or TIMES_9 d 0 ≡ product 9 d = TIMES_9_is d ld in
    rw (ea, eb, ec, ed) refl
