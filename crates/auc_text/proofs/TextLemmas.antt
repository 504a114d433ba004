-- The lines of a text and the words of a line, for what takes the first of them off.
use Rattle.std.proofs.Common.{ℕ, ◌≡◌, ◌<◌, ◌≤◌, ◌+◌, ◌-◌, ◌∙◌, nat_eq, not, zero, suc, true, false, Bool, List, ◌∷◌, ◌++◌, [], length, take, drop, get_or, Some, None, arith, ap, sym, refl, take-append-drop, get_or-take, get_or-drop, add-zero, append-nil, append_assoc}
use Rattle.std.specs.List.{All, filter, join_with_byte, slice_split, position, position_or_len}
use Rattle.std.proofs.lemmas.Bool.Decides.{nat_tests}
use Rattle.std.proofs.lemmas.List.{take_all, drop_more, length-drop, length-take}
use Rattle.std.proofs.lemmas.List.Elements.{All-head, All-tail}
use Rattle.std.proofs.lemmas.List.Quantifiers.{position-Some}
use Rattle.std.proofs.lemmas.List.Sums.{fails_before_first}
use Rattle.std.proofs.lemmas.List.Splits.{slice_split-cons_yes, slice_split_none, slice_split_at, slice_split_first, length-slice_split}
use Rattle.auc_text.specs.Text.{ended, is_blank, lines_of, without_cr, words_of}

-- blanks have no word
blanks : (text : List ℕ) → All (λ byte. is_blank byte ≡ true) text → words_of text ≡ []
blanks [] all = refl
blanks (x ∷ xs) all =
    rw (slice_split-cons_yes is_blank x xs (All-head (λ byte. is_blank byte ≡ true) x xs all)) (blanks xs (All-tail (λ byte. is_blank byte ≡ true) x xs all))

-- a test that fails passes its contrary
pub contrary : (b : Bool) → not b ≡ false → b ≡ true
contrary true e = refl
contrary false e = absurd cc

-- a test whose contrary passes fails
pub fails : (b : Bool) → not b ≡ true → b ≡ false
fails true e = absurd cc
fails false e = refl

-- a text in which no byte is found that isn't blank has no word
pub no_word : (text : List ℕ) → position (λ byte. not (is_blank byte)) text ≡ None → words_of text ≡ []
no_word text none = blanks text (λ k d within. contrary (is_blank (get_or text k d)) (fails_before_first (λ byte. not (is_blank byte)) text k d (grind (arith, nat_tests))))

-- blanks in front don't matter
skips : (k : ℕ) (text : List ℕ) → k ≤ length text → ((i d : ℕ) → i < k → is_blank (get_or text i d) ≡ true) → words_of text ≡ words_of (drop k text)
skips zero text within all = refl
skips (suc k) [] within all = absurd (omega arith)
skips (suc k) (x ∷ xs) within all =
    let first : is_blank x ≡ true = all 0 0 (omega arith) in
    rw (slice_split-cons_yes is_blank x xs first) (skips k xs (omega arith) (λ i d less. all (suc i) d (omega arith)))

-- a part that has bytes is a word
is_word : (part : List ℕ) (parts : List (List ℕ)) → 0 < length part
    → filter (λ part. not (nat_eq (length part) 0)) (part ∷ parts) ≡ part ∷ filter (λ part. not (nat_eq (length part) 0)) parts
is_word part parts some =
    let bytes : nat_eq (length part) 0 ≡ false = grind (arith, nat_tests) in
    rw bytes refl

-- a word with nothing behind it
pub word_alone : (word : List ℕ) → All (λ byte. is_blank byte ≡ false) word → 0 < length word → words_of word ≡ word ∷ words_of []
word_alone word all some = rw (slice_split_none is_blank word all) (is_word word [] some)

-- a word with a blank behind it
pub word_before : (word : List ℕ) (blank : ℕ) (behind : List ℕ) → All (λ byte. is_blank byte ≡ false) word → 0 < length word → is_blank blank ≡ true
    → words_of (word ++ blank ∷ behind) ≡ word ∷ words_of (blank ∷ behind)
word_before word blank behind all some is =
    rw (slice_split_at is_blank word blank behind all is, slice_split-cons_yes is_blank blank behind is) (is_word word (slice_split is_blank behind) some)

-- a text behind its blanks
pub behind_blanks : (text : List ℕ) (start : ℕ) → position (λ byte. not (is_blank byte)) text ≡ Some start
    → (words_of text ≡ words_of (drop start text)) × (start < length text) × (is_blank (get_or text start 0) ≡ false)
behind_blanks text start found =
    let at = λ (d : ℕ). position-Some (λ byte. not (is_blank byte)) text start d found in
    (skips start text (omega (arith, (at 0).0)) (λ i d less. contrary (is_blank (get_or text i d)) ((at d).2 i less)), (at 0).0, fails (is_blank (get_or text start 0)) (at 0).1)

-- the bytes in front of the first blank
in_front : (t : List ℕ) (e : ℕ) → position is_blank t ≡ Some e → All (λ byte. is_blank byte ≡ false) (take e t)
in_front t e found k d within =
    let at = position-Some is_blank t e d found in
    let short : k < e = omega (arith, length-take e t) in
    rw (get_or-take e t k d short) (at.2 k short)

-- a text from its first blank on
from_blank : (t : List ℕ) (e : ℕ) → e < length t → drop e t ≡ get_or t e 0 ∷ drop (e + 1) t
from_blank t e within = drop_more t e 0 within

-- a word that begins a text and ends at a blank
word_to_blank : (t : List ℕ) (e : ℕ) → position is_blank t ≡ Some e → is_blank (get_or t 0 0) ≡ false → words_of t ≡ take e t ∷ words_of (drop e t)
word_to_blank t e found first =
    let at = position-Some is_blank t e 0 found in
    let some : 0 < e = begins e at.1 in
    let split : take e t ++ get_or t e 0 ∷ drop (e + 1) t ≡ t = rw (← from_blank t e at.0) (take-append-drop e t) in
    rw (from_blank t e at.0) (ap words_of (sym split) ∙ word_before (take e t) (get_or t e 0) (drop (e + 1) t) (in_front t e found) (omega (arith, length-take e t)) at.1)
  where
    begins : (e : ℕ) → is_blank (get_or t e 0) ≡ true → 0 < e
    begins zero is = absurd (cc first)
    begins (suc e) is = omega arith

-- the first word of a text that goes on with a blank
pub word_first : (text t : List ℕ) (start e : ℕ) → t ≡ drop start text → position (λ byte. not (is_blank byte)) text ≡ Some start → position is_blank t ≡ Some e
    → words_of text ≡ take e t ∷ words_of (take (length t - e) (drop e t))
word_first text t start e is found blank =
    let behind = behind_blanks text start found in
    let first : is_blank (get_or t 0 0) ≡ false = rw (is, get_or-drop start text 0 0, add-zero start) behind.2 in
    rw (take_all (length t - e) (drop e t) (omega (arith, length-drop e t)), behind.0, ← is) (word_to_blank t e blank first)

-- the one word of a text
pub word_last : (text t : List ℕ) (start : ℕ) → t ≡ drop start text → position (λ byte. not (is_blank byte)) text ≡ Some start → position is_blank t ≡ None
    → words_of text ≡ t ∷ []
word_last text t start is found none =
    let behind = behind_blanks text start found in
    rw (behind.0, ← is) (word_alone t (λ k d within. fails_before_first is_blank t k d (grind (arith, nat_tests))) (rw is (omega (arith, length-drop start text, behind.1))))

-- a text without the byte is one part
pub cut_none : (p : ℕ → Bool) (text : List ℕ) → position p text ≡ None → slice_split p text ≡ text ∷ []
cut_none p text none = slice_split_none p text (λ k d within. fails_before_first p text k d (grind (arith, nat_tests)))

-- the place that is found is that of the first byte of the kind
place_is : (p : ℕ → Bool) (text : List ℕ) (place : ℕ) → position p text ≡ Some place → place < length text → position_or_len p text ≡ place
place_is p text place found within = grind (arith, nat_tests)

-- a text with the byte is what stands before it, and the parts of what stands behind it
pub cut_at : (p : ℕ → Bool) (text : List ℕ) (place : ℕ) → position p text ≡ Some place → place < length text
    → slice_split p text ≡ take place text ∷ slice_split p (take (length text - (place + 1)) (drop (place + 1) text))
cut_at p text place found within =
    let first : position_or_len p text ≡ place = place_is p text place found within in
    let split = slice_split_first p text 0 (omega arith) in
    let whole : take (length text - (place + 1)) (drop (place + 1) text) ≡ drop (place + 1) text
    = take_all _ _ (omega (arith, length-drop (place + 1) text)) in
    rw whole (rw first at split)

-- there is always a part
pub has_part : (p : ℕ → Bool) (text : List ℕ) → 0 < length (slice_split p text)
has_part p text = omega (arith, length-slice_split p text)

-- a part with something behind it is a line that an LF ended
ended_first : (line : List ℕ) (parts : List (List ℕ)) → 0 < length parts → ended (line ∷ parts) ≡ without_cr line ∷ ended parts
ended_first line [] some = absurd (omega arith)
ended_first line (next ∷ more) some = refl

-- the first line of a text with an LF
pub line_first : (text line behind : List ℕ) → slice_split (λ byte. nat_eq byte 10) text ≡ line ∷ slice_split (λ byte. nat_eq byte 10) behind
    → lines_of text ≡ without_cr line ∷ lines_of behind
line_first text line behind split =
    rw split (ended_first line (slice_split (λ byte. nat_eq byte 10) behind) (has_part (λ byte. nat_eq byte 10) behind))

-- the one line of a text without one
pub line_last : (text : List ℕ) → slice_split (λ byte. nat_eq byte 10) text ≡ text ∷ [] → lines_of text ≡ text ∷ []
line_last text split = rw split refl

-- words, each behind a space
abbrev pub spaced : List (List ℕ) → List ℕ
spaced [] = []
spaced (word ∷ words) = 32 ∷ (word ++ spaced words)

-- words with one space between each two are the first and the others, each behind a space
pub joined_is : (word : List ℕ) (words : List (List ℕ)) → join_with_byte 32 (word ∷ words) ≡ word ++ spaced words
joined_is word [] = sym (append-nil word)
joined_is word (next ∷ words) = ap (λ rest. word ++ (32 ∷ rest)) (joined_is next words)

-- one more word
pub spaced_more : (line word rest : List ℕ) → line ++ 32 ∷ (word ++ rest) ≡ ((line ++ 32 ∷ []) ++ word) ++ rest
spaced_more line word rest = simp append_assoc
