-- Four words of a stream as sixteen bytes, for `RandStream::rand_of`.
use Rattle.std.proofs.Common.{◌≡◌, ℕ, ◌+◌, ◌*◌, ◌%◌, ◌^◌, ◌<◌, List, [], ◌∷◌, ◌++◌, get_or, ap, refl, ◌∙◌, arith}
use Rattle.std.specs.Int.{w32, to_le_bytes}
use Rattle.rand_chacha.specs.ChaCha.{ChaCha, word_at, key_of}
use Rattle.auc_random.specs.Random.{word_bytes, sixteen_at, rand_of}

-- the bytes of four words, the first of which stands at a place and each other at its place modulo 2 ^ 68, are the
-- sixteen bytes there
sixteen_is : (key words : List ℕ) (stream place : ℕ) → place + 4 < 2 ^ 68
    → words ≡ word_at 10 (key_of key) stream place ∷ word_at 10 (key_of key) stream ((place + 1) % 2 ^ 68)
    ∷ word_at 10 (key_of key) stream ((place + 2) % 2 ^ 68) ∷ word_at 10 (key_of key) stream ((place + 3) % 2 ^ 68) ∷ []
    → to_le_bytes w32 (get_or words 0 0) ++ to_le_bytes w32 (get_or words 1 0) ++ to_le_bytes w32 (get_or words 2 0)
    ++ to_le_bytes w32 (get_or words 3 0) ≡ sixteen_at key stream place
unfolding sixteen_at
sixteen_is key words stream place l e =
    let at : ℕ → ℕ = word_at 10 (key_of key) stream in
    let p1 : (place + 1) % 2 ^ 68 ≡ place + 1 = omega arith in
    let p2 : (place + 2) % 2 ^ 68 ≡ place + 2 = omega arith in
    let p3 : (place + 3) % 2 ^ 68 ≡ place + 3 = omega arith in
    let e0 : get_or words 0 0 ≡ at place = ap (λ w. get_or w 0 0) e in
    let e1 : get_or words 1 0 ≡ at (place + 1) = ap (λ w. get_or w 1 0) e ∙ ap at p1 in
    let e2 : get_or words 2 0 ≡ at (place + 2) = ap (λ w. get_or w 2 0) e ∙ ap at p2 in
    let e3 : get_or words 3 0 ≡ at (place + 3) = ap (λ w. get_or w 3 0) e ∙ ap at p3 in
    ap (λ w. to_le_bytes w32 w ++ to_le_bytes w32 (get_or words 1 0) ++ to_le_bytes w32 (get_or words 2 0) ++ to_le_bytes w32 (get_or words 3 0)) e0
    ∙ ap (λ w. word_bytes key stream place ++ to_le_bytes w32 w ++ to_le_bytes w32 (get_or words 2 0) ++ to_le_bytes w32 (get_or words 3 0)) e1
    ∙ ap (λ w. word_bytes key stream place ++ word_bytes key stream (place + 1) ++ to_le_bytes w32 w ++ to_le_bytes w32 (get_or words 3 0)) e2
    ∙ ap (λ w. word_bytes key stream place ++ word_bytes key stream (place + 1) ++ word_bytes key stream (place + 2) ++ to_le_bytes w32 w) e3

-- a generator under a key that has gone to a place gives the sixteen bytes there in the next four words
pub sixteen_there : (key words : List ℕ) (before there : ChaCha) (stream place : ℕ) → place + 4 < 2 ^ 68 → before.key ≡ key_of key → before.stream ≡ stream
    → there ≡ record before { word_pos = place }
    → words ≡ word_at 10 there.key there.stream there.word_pos ∷ word_at 10 there.key there.stream ((there.word_pos + 1) % 2 ^ 68)
    ∷ word_at 10 there.key there.stream ((there.word_pos + 2) % 2 ^ 68) ∷ word_at 10 there.key there.stream ((there.word_pos + 3) % 2 ^ 68) ∷ []
    → to_le_bytes w32 (get_or words 0 0) ++ to_le_bytes w32 (get_or words 1 0) ++ to_le_bytes w32 (get_or words 2 0)
    ++ to_le_bytes w32 (get_or words 3 0) ≡ sixteen_at key stream place
sixteen_there key words before there stream place l of_key of_stream went e =
    let k : there.key ≡ key_of key = ap (λ (g : ChaCha). g.key) went ∙ of_key in
    let s : there.stream ≡ stream = ap (λ (g : ChaCha). g.stream) went ∙ of_stream in
    let p : there.word_pos ≡ place = ap (λ (g : ChaCha). g.word_pos) went in
    sixteen_is key words stream place l (rw (← k, ← s, ← p) e)

-- if the place is that of a number, they are its RAND
pub rand_is : (key words : List ℕ) (before there : ChaCha) (n : ℕ) → n < 2 ^ 64 → before.key ≡ key_of key
    → there ≡ record before { word_pos = 4 * n }
    → words ≡ word_at 10 there.key there.stream there.word_pos ∷ word_at 10 there.key there.stream ((there.word_pos + 1) % 2 ^ 68)
    ∷ word_at 10 there.key there.stream ((there.word_pos + 2) % 2 ^ 68) ∷ word_at 10 there.key there.stream ((there.word_pos + 3) % 2 ^ 68) ∷ []
    → to_le_bytes w32 (get_or words 0 0) ++ to_le_bytes w32 (get_or words 1 0) ++ to_le_bytes w32 (get_or words 2 0)
    ++ to_le_bytes w32 (get_or words 3 0) ≡ rand_of key before.stream n
unfolding rand_of
rand_is key words before there n l of_key went e = sixteen_there key words before there before.stream (4 * n) (omega arith) of_key refl went e
