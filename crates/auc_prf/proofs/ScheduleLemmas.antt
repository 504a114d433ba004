-- For the loops that write the words of a block.
use Rattle.std.proofs.Common.{ℕ, suc, ◌≡◌, ◌<◌, ◌≤◌, ◌+◌, ◌-◌, ◌*◌, List, [], ◌∷◌, ◌++◌, length, slice_set, take, arith, refl}
use Rattle.std.proofs.lemmas.List.{take_more_set, get_or-take}
use Rattle.sha1.specs.Sha1.{first_words, next_word, schedule, word_at}

-- the words of a block one by one
first_words_next : (block : List ℕ) (n : ℕ) → first_words block (suc n) ≡ first_words block n ++ word_at block (4 * n) ∷ []
unfolding first_words
first_words_next block n = refl

-- one more of the block's own words
pub own_next : (block words : List ℕ) (t word : ℕ) → t < length words → take t words ≡ first_words block t → word ≡ word_at block (4 * t)
    → take (t + 1) (slice_set words t word) ≡ first_words block (t + 1)
own_next block words t word within before is =
    let count : t + 1 ≡ suc t = omega arith in
    rw (take_more_set words t word within, before, count, first_words_next block t, is) refl

-- a word follows from the words before it alone
next_word-take : (words : List ℕ) (t : ℕ) → 16 ≤ t → next_word (take t words) t ≡ next_word words t
next_word-take words t low =
    rw (get_or-take t words (t - 3) 0 (omega arith), get_or-take t words (t - 8) 0 (omega arith), get_or-take t words (t - 14) 0 (omega arith), get_or-take t words (t - 16) 0 (omega arith)) refl

-- one more word by the rule
schedule_next : (block : List ℕ) (n : ℕ) → schedule block (suc n) ≡ schedule block n ++ next_word (schedule block n) (n + 16) ∷ []
unfolding schedule
schedule_next block n = refl

-- one more of the words that follow
pub further_next : (block words : List ℕ) (t word : ℕ) → 16 ≤ t → t < length words → take t words ≡ schedule block (t - 16) → word ≡ next_word words t
    → take (t + 1) (slice_set words t word) ≡ schedule block (t + 1 - 16)
further_next block words t word low within before is =
    let count : t + 1 - 16 ≡ suc (t - 16) = omega arith in
    let place : t - 16 + 16 ≡ t = omega arith in
    rw (take_more_set words t word within, count, schedule_next block (t - 16), place, ← before, next_word-take words t low, is) refl
