-- For the set of released numbers: room for lines' numbers, and the lines whose numbers it has.
use Rattle.std.proofs.Common.{◌≡◌, ℕ, ◌+◌, Bool, ◌||◌, List, [], ◌∷◌, ◌++◌, take, sym, ap, ◌∙◌, subst, append_assoc, append-nil}
use Rattle.std.specs.Prelude.{◌==◌, All, Option, Some, None}
use Rattle.auc_released.specs.declared.numbers.Number.{Number}
use Rattle.std.proofs.lemmas.List.Concat.{flat_map-append}
use Rattle.std.proofs.lemmas.List.Elements.{All-push, All-weaker}
use Rattle.std.proofs.lemmas.List.Folds.{list_any-append}
use Rattle.auc_released.specs.Room.{KeepsRoom}
use Rattle.auc_record.specs.Lines.{is_in, number_of, numbers_of, released_by, all_lines}
use Rattle.auc_record.specs.InnerRoom.{HasRoomFor, HasRoomForLine, HasRoomForLines}
use Rattle.auc_record.specs.Released.{Released, has, AreReleased}
use Rattle.auc_record.specs.declared.record.LineRecord.{LineRecord}

-- ---- room

-- room for a line's number stays
pub line_room_stays : (old new : Released) → KeepsRoom old new → (line : LineRecord) → HasRoomForLine old line → HasRoomForLine new line
line_room_stays old new kept line there = by (number_of line) there
  where
    by : (number : Option Number) → HasRoomFor old number → HasRoomFor new number
    by None there = tt
    by (Some number) there = kept number there

-- room for those of some lines
pub lines_room_stays : (old new : Released) → KeepsRoom old new → (lines : List LineRecord) → HasRoomForLines old lines → HasRoomForLines new lines
lines_room_stays old new kept lines there = All-weaker (HasRoomForLine old) (HasRoomForLine new) (line_room_stays old new kept) lines there

-- room for those of the first of some lines, and of one more
pub lines_room_take : (old new : Released) (lines : List LineRecord) (i : ℕ) (line : LineRecord) → KeepsRoom old new → take (i + 1) lines ≡ take i lines ++ line ∷ []
    → HasRoomForLines old (take i lines) → HasRoomForLine new line → HasRoomForLines new (take (i + 1) lines)
lines_room_take old new lines i line kept cut there here =
    subst (HasRoomForLines new) (sym cut) (All-push (HasRoomForLine new) (take i lines) line (lines_room_stays old new kept (take i lines) there) here)

-- room for those of the lines of some jobs
jobs_room_stays : (old new : Released) → KeepsRoom old new → (jobs : List (List LineRecord)) → All (HasRoomForLines old) jobs → All (HasRoomForLines new) jobs
jobs_room_stays old new kept jobs there = All-weaker (HasRoomForLines old) (HasRoomForLines new) (lines_room_stays old new kept) jobs there

-- and of the first of some jobs, and of one more
pub jobs_room_take : (old new : Released) (jobs : List (List LineRecord)) (i : ℕ) (job lines : List LineRecord) → KeepsRoom old new → take (i + 1) jobs ≡ take i jobs ++ job ∷ []
    → lines ≡ job → All (HasRoomForLines old) (take i jobs) → HasRoomForLines new lines → All (HasRoomForLines new) (take (i + 1) jobs)
jobs_room_take old new jobs i job lines kept cut is there here =
    subst (All (HasRoomForLines new)) (sym cut) (All-push (HasRoomForLines new) (take i jobs) job (jobs_room_stays old new kept (take i jobs) there) (subst (HasRoomForLines new) is here))

-- ---- the numbers of lines

-- a set that has the same numbers has those of the same lines
pub released_same : (old new : Released) → ((s m : ℕ) → has new s m ≡ has old s m) → (lines : List LineRecord) → AreReleased old lines → AreReleased new lines
released_same old new same lines are sub n = same sub n ∙ are sub n

-- the numbers of a further line were added
released_more : (old new : Released) (lines : List LineRecord) (line : LineRecord) → AreReleased old lines
    → ((s m : ℕ) → has new s m ≡ (has old s m || is_in m (released_by s line))) → AreReleased new (lines ++ line ∷ [])
released_more old new lines line are added sub n =
    let e : numbers_of sub (lines ++ line ∷ []) ≡ numbers_of sub lines ++ released_by sub line =
    flat_map-append (released_by sub) lines (line ∷ []) ∙ ap (λ (xs : List ℕ). numbers_of sub lines ++ xs) (append-nil (released_by sub line)) in
    added sub n ∙ ap (λ (b : Bool). b || is_in n (released_by sub line)) (are sub n)
    ∙ sym (ap (is_in n) e ∙ list_any-append (λ (m : ℕ). m == n) (numbers_of sub lines) (released_by sub line))

-- with the first of some lines and one more
pub released_take : (old new : Released) (before lines : List LineRecord) (i : ℕ) (line : LineRecord) → take (i + 1) lines ≡ take i lines ++ line ∷ []
    → AreReleased old (before ++ take i lines) → ((s m : ℕ) → has new s m ≡ (has old s m || is_in m (released_by s line)))
    → AreReleased new (before ++ take (i + 1) lines)
released_take old new before lines i line cut are added =
    subst (AreReleased new) (append_assoc before (take i lines) (line ∷ []) ∙ ap (λ (ls : List LineRecord). before ++ ls) (sym cut))
    (released_more old new (before ++ take i lines) line are added)

-- with the lines of the first of some jobs and of one more
pub released_job : (new : Released) (before : List LineRecord) (jobs : List (List LineRecord)) (i : ℕ) (job lines : List LineRecord)
    → take (i + 1) jobs ≡ take i jobs ++ job ∷ [] → lines ≡ job → AreReleased new ((before ++ all_lines (take i jobs)) ++ lines)
    → AreReleased new (before ++ all_lines (take (i + 1) jobs))
released_job new before jobs i job lines cut is are =
    let whole : all_lines (take (i + 1) jobs) ≡ all_lines (take i jobs) ++ lines =
    ap all_lines cut ∙ flat_map-append (λ (j : List LineRecord). j) (take i jobs) (job ∷ []) ∙ ap (λ (ls : List LineRecord). all_lines (take i jobs) ++ ls) (append-nil job ∙ sym is) in
    subst (AreReleased new) (append_assoc before (all_lines (take i jobs)) lines ∙ ap (λ (ls : List LineRecord). before ++ ls) (sym whole)) are
