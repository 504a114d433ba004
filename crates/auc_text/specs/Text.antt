-- The lines of a text and the words of a line, as lists of bytes.
use Rattle.std.specs.Prelude.{ℕ, ◌==◌, ◌-◌, ◌||◌, nat_eq, not, Bool, List, [], ◌∷◌, length, take, slice_index_or, if◌then◌else◌}
use Rattle.std.specs.Cmp.Lexicographic.{pointwise}
use Rattle.std.specs.List.{filter, slice_split}

-- whether two texts are the same
abbrev pub is_text : List ℕ → List ℕ → Bool
is_text a b = pointwise nat_eq a b

-- a line that ended with LF, without the CR (13) right before the LF, if there is one
abbrev pub without_cr : List ℕ → List ℕ
without_cr line = if slice_index_or line (length line - 1) 0 == 13 then take (length line - 1) line else line

-- the parts of a text between its LFs as lines: each but the last ended with LF
abbrev pub ended : List (List ℕ) → List (List ℕ)
ended [] = []
ended (last ∷ []) = last ∷ []
ended (line ∷ next ∷ more) = without_cr line ∷ ended (next ∷ more)

-- the lines of a text: LF (10), CRLF or the end of the text ends a line
abbrev pub lines_of : List ℕ → List (List ℕ)
lines_of text = ended (slice_split (λ byte. byte == 10) text)

-- a space or a tab
abbrev pub is_blank : ℕ → Bool
is_blank byte = (byte == 32) || (byte == 9)

-- the words of a line: the parts between its blanks that aren't empty
abbrev pub words_of : List ℕ → List (List ℕ)
words_of line = filter (λ part. not (length part == 0)) (slice_split is_blank line)
