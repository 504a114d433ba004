-- The text of a round in pieces, for the functions that print it.
use Rattle.std.proofs.Common.{ℕ, zero, suc, ◌+◌, ◌<◌, Bool, true, false, List, [], ◌∷◌, ◌++◌, length, map, take, drop, flat_map, codes, ◌≡◌, refl, ap, sym, subst, ◌∙◌, append_assoc, All, if◌then◌else◌, slice_get, slice_index_or, get_or, Option, Some, None, arith}
use Rattle.std.specs.Option.{option_to_list}
use Rattle.std.proofs.lemmas.List.{append-nil, drop_more, get_or-map, take_more}
use Rattle.std.proofs.lemmas.List.Concat.{flat_map-append}
use Rattle.std.proofs.lemmas.List.Elements.{All-append, All-cons, All-head, All-nil, All-tail}
use Rattle.auc_subs.specs.declared.row.Row.{Row}
use Rattle.auc_random.specs.Random.{rand_of}
use Rattle.auc_vector.specs.declared.parts.Vector.{Vector as AuthVector}
use Rattle.auc_record.specs.Event.{event_vector}
use Rattle.auc_record.specs.Record.{IsBelow, subscriber_of}
use Rattle.auc_subs.specs.Setting.{Setting}
use Rattle.auc_record.specs.Vectors.{vector_with, vector_at, vector_in, vectors_in}
use Rattle.auc_record.specs.declared.record.LineRecord.{LineRecord}
use Rattle.auc_record.specs.declared.record.LineRecord.TheVariants.{Number, Sync, Give, Further, Event}
use Rattle.auc_vector.specs.declared.notes.NumberNote.TheVariants as number
use Rattle.auc_record.specs.declared.record.Closing.{Closing}
use Rattle.auc_record.specs.declared.record.Premise.{Premise}
use Rattle.auc_record.specs.declared.record.Premise.TheVariants as premise
use Rattle.auc_record.specs.declared.record.RoundRecord.{RoundRecord}
use Rattle.auc_record.specs.declared.record.SessionVerdict.{SessionVerdict}
use Rattle.auc_print.specs.AutsText.{auts_after}
use Rattle.auc_print.specs.Inner.{IsFrontOf, answer_text, answers_text, bytes_text, job_text, left_after, left_for, lines_text, premise_text, shown_after, shown_for}
use Rattle.auc_print.specs.Numeral.{numeral}
use Rattle.auc_print.specs.Text.{Line, RoundLine, JobLine, RecordLine, ClosedLine, SessionLine, BrokenLine, broken_words, bytes_words, closing_words, end_lines, identities_of, job_lines, jobs_lines, line_text, premise_lines, record_words, round_text, session_words, shown_lines, spaced}

-- a place in a list has an item
item_at : (rows : List Row) (sub : ℕ) → sub < length rows → (row : Row) × (slice_get rows sub ≡ Some row)
item_at [] sub known = absurd (omega arith)
item_at (row ∷ rows) zero known = (row, refl)
item_at (row ∷ rows) (suc sub) known = item_at rows sub (omega arith)

-- a subscriber with a row has one vector of each number
one_vector : (set : Setting) (sub n : ℕ) → sub < length set.rows → (vector : AuthVector) × (vector_at set sub n ≡ vector ∷ [])
one_vector set sub n known = let found = item_at set.rows sub known in (_, ap (λ row. vector_with row n (rand_of set.key sub n)) found.1)

-- ---- the vectors that are shown

-- no vector is shown of none
none_shown : (vector : Option AuthVector) → shown_for vector [] ≡ []
none_shown None = refl
none_shown (Some vector) = refl

none_left : (vector : Option AuthVector) → left_for vector [] ≡ []
none_left None = refl
none_left (Some vector) = refl

brief_shown : (answer : LineRecord) → shown_after answer [] ≡ []
brief_shown (Number sub (number.Drew n)) = refl
brief_shown (Number sub (number.Withheld n stop)) = refl
brief_shown (Number sub (number.Exhausted word)) = refl
brief_shown (Sync sub note) = refl
brief_shown (Give sub n verdict) = refl
brief_shown (Further said) = refl
brief_shown (Event r) = none_shown (event_vector r.result)

brief_left : (answer : LineRecord) → left_after answer [] ≡ []
brief_left (Number sub (number.Drew n)) = refl
brief_left (Number sub (number.Withheld n stop)) = refl
brief_left (Number sub (number.Exhausted word)) = refl
brief_left (Sync sub note) = refl
brief_left (Give sub n verdict) = refl
brief_left (Further said) = refl
brief_left (Event r) = none_left (event_vector r.result)

-- of the vectors of some lines, a line that releases a vector shows its own, and leaves those of the lines after it
number_shown : (set : Setting) (sub n : ℕ) (more : List AuthVector) → sub < length set.rows → take 1 (vector_at set sub n ++ more) ≡ vector_at set sub n
number_shown set sub n more known = let one = one_vector set sub n known in ap (λ vectors. take 1 (vectors ++ more)) one.1 ∙ sym one.1

number_left : (set : Setting) (sub n : ℕ) (more : List AuthVector) → sub < length set.rows → drop 1 (vector_at set sub n ++ more) ≡ more
number_left set sub n more known = let one = one_vector set sub n known in ap (λ vectors. drop 1 (vectors ++ more)) one.1

vector_shown : (vector : Option AuthVector) (more : List AuthVector) → shown_for vector (option_to_list vector ++ more) ≡ option_to_list vector
vector_shown None more = refl
vector_shown (Some vector) more = refl

vector_left : (vector : Option AuthVector) (more : List AuthVector) → left_for vector (option_to_list vector ++ more) ≡ more
vector_left None more = refl
vector_left (Some vector) more = refl

full_shown : (set : Setting) (answer : LineRecord) (more : List AuthVector) → IsBelow (length set.rows) (subscriber_of answer)
    → shown_after answer (vector_in set answer ++ more) ≡ vector_in set answer
full_shown set (Number sub (number.Drew n)) more named = number_shown set sub n more named
full_shown set (Number sub (number.Withheld n stop)) more named = refl
full_shown set (Number sub (number.Exhausted word)) more named = refl
full_shown set (Sync sub note) more named = refl
full_shown set (Give sub n verdict) more named = refl
full_shown set (Further said) more named = refl
full_shown set (Event r) more named = vector_shown (event_vector r.result) more

full_left : (set : Setting) (answer : LineRecord) (more : List AuthVector) → IsBelow (length set.rows) (subscriber_of answer)
    → left_after answer (vector_in set answer ++ more) ≡ more
full_left set (Number sub (number.Drew n)) more named = number_left set sub n more named
full_left set (Number sub (number.Withheld n stop)) more named = refl
full_left set (Number sub (number.Exhausted word)) more named = refl
full_left set (Sync sub note) more named = refl
full_left set (Give sub n verdict) more named = refl
full_left set (Further said) more named = refl
full_left set (Event r) more named = vector_left (event_vector r.result) more

-- ---- a job

-- each subscriber that a job's records name has a row
abbrev AreNamed : Setting → List LineRecord → Type 0
AreNamed set job = All (λ answer. IsBelow (length set.rows) (subscriber_of answer)) job

-- in a brief print nothing follows a record's line
brief_answers : (set : Setting) (job answers : List LineRecord)
    → answers_text set false job answers [] ≡ flat_map (line_text set false) (map (RecordLine job) answers)
brief_answers set job [] = refl
brief_answers set job (answer ∷ answers) =
    let own : List ℕ = spaced (record_words (identities_of set.rows) answer) in
    ap (λ vectors. (own ++ (bytes_text vectors ++ [])) ++ answers_text set false job answers (left_after answer [])) (brief_shown answer)
    ∙ ap (λ vectors. line_text set false (RecordLine job answer) ++ answers_text set false job answers vectors) (brief_left answer)
    ∙ ap (λ rest. line_text set false (RecordLine job answer) ++ rest) (brief_answers set job answers)

-- in a full print the bytes of the vector that a record releases follow its line, then AUTS, and then what else is shown of it
full_answers : (set : Setting) (job answers : List LineRecord) → AreNamed set answers
    → answers_text set true job answers (vectors_in set answers) ≡ flat_map (line_text set true) (map (RecordLine job) answers)
full_answers set job [] named = refl
full_answers set job (answer ∷ answers) named =
    let here = All-head (λ line. IsBelow (length set.rows) (subscriber_of line)) answer answers named in
    let there : AreNamed set answers = All-tail (λ line. IsBelow (length set.rows) (subscriber_of line)) answer answers named in
    let own : List ℕ = spaced (record_words (identities_of set.rows) answer) in
    let more : List AuthVector = vectors_in set answers in
    let failed : List (List (List ℕ)) = auts_after set job answer in
    let last : List (List (List ℕ)) = shown_lines answer in
    ap (λ vectors. (own ++ (bytes_text vectors ++ (lines_text failed ++ lines_text last)))
    ++ answers_text set true job answers (left_after answer (vector_in set answer ++ more))) (full_shown set answer more here)
    ∙ ap (λ vectors. (own ++ (bytes_text (vector_in set answer) ++ (lines_text failed ++ lines_text last))) ++ answers_text set true job answers vectors)
    (full_left set answer more here)
    ∙ ap (λ t. (own ++ (bytes_text (vector_in set answer) ++ t)) ++ answers_text set true job answers more) (sym (flat_map-append spaced failed last))
    ∙ ap (λ t. (own ++ t) ++ answers_text set true job answers more)
    (sym (flat_map-append spaced (map bytes_words (vector_in set answer)) (failed ++ last)))
    ∙ ap (λ rest. line_text set true (RecordLine job answer) ++ rest) (full_answers set job answers there)

-- a job's text with the vectors that a print shows is that of its lines
pub job_text_is : (set : Setting) (full : Bool) (number : ℕ) (job : List LineRecord) → AreNamed set job
    → job_text set full number job (if full then vectors_in set job else []) ≡ flat_map (line_text set full) (job_lines number job)
job_text_is set full number job named =
    ap (λ own. own ++ answers_text set full job job (if full then vectors_in set job else []))
    (sym (append-nil (spaced (codes "job" ∷ numeral number ∷ []))))
    ∙ ap (λ rest. line_text set full (JobLine number) ++ rest) (answers_are full)
  where
    answers_are : (print : Bool) → answers_text set print job job (if print then vectors_in set job else [])
        ≡ flat_map (line_text set print) (map (RecordLine job) job)
    answers_are true = full_answers set job job named
    answers_are false = brief_answers set job job

-- the pieces that are appended for a job are its text
pub job_printed : (set : Setting) (full : Bool) (number : ℕ) (job : List LineRecord) (vectors : List AuthVector) (out a b : List ℕ)
    → a ≡ out ++ spaced (codes "job" ∷ numeral number ∷ []) → b ≡ a ++ answers_text set full job job vectors
    → b ≡ out ++ job_text set full number job vectors
job_printed set full number job vectors out a b e f =
    f ∙ ap (λ x. x ++ answers_text set full job job vectors) e
    ∙ append_assoc out (spaced (codes "job" ∷ numeral number ∷ [])) (answers_text set full job job vectors)

-- the text so far with that of the job at a place goes on with the lines of the jobs after it
pub jobs_step : (set : Setting) (full : Bool) (jobs : List (List LineRecord)) (vectors : List (List AuthVector)) (place : ℕ)
    (item job : List LineRecord) (own : List AuthVector) (out next : List ℕ)
    → All (AreNamed set) jobs
    → vectors ≡ (if full then map (vectors_in set) jobs else []) → place < length jobs → item ≡ get_or jobs place item → job ≡ item
    → own ≡ (if full then slice_index_or vectors place [] else [])
    → next ≡ out ++ job_text set full (place + 1) job own
    → next ++ flat_map (line_text set full) (jobs_lines (place + 1 + 1) (drop (place + 1) jobs))
    ≡ out ++ flat_map (line_text set full) (jobs_lines (place + 1) (drop place jobs))
jobs_step set full jobs vectors place item job own out next named vectors_are within item_is job_is own_is printed =
    let text : List Line → List ℕ = λ lines. flat_map (line_text set full) lines in
    let after : List Line = jobs_lines (place + 1 + 1) (drop (place + 1) jobs) in
    let here : List LineRecord = get_or jobs place item in
    let shown : own ≡ (if full then vectors_in set here else []) = shown_is full vectors_are own_is in
    let job_printed : next ≡ out ++ text (job_lines (place + 1) here)
    = printed
    ∙ ap (λ j. out ++ job_text set full (place + 1) j own) (job_is ∙ item_is)
    ∙ ap (λ vs. out ++ job_text set full (place + 1) here vs) shown
    ∙ ap (λ t. out ++ t) (job_text_is set full (place + 1) here (named place item within)) in
    ap (λ t. t ++ text after) job_printed ∙ append_assoc out (text (job_lines (place + 1) here)) (text after)
    ∙ ap (λ t. out ++ t) (sym (flat_map-append (line_text set full) (job_lines (place + 1) here) after))
    ∙ ap (λ left. out ++ text (jobs_lines (place + 1) left)) (sym (drop_more jobs place item within))
  where
    shown_is : (print : Bool) → vectors ≡ (if print then map (vectors_in set) jobs else [])
        → own ≡ (if print then slice_index_or vectors place [] else []) → own ≡ (if print then vectors_in set (get_or jobs place item) else [])
    shown_is true e f = f ∙ ap (λ vs. slice_index_or vs place []) e ∙ get_or-map (vectors_in set) jobs place item [] within
    shown_is false e f = f

-- what begins with a text that begins with a front begins with the front
pub front_more : (a b c : List ℕ) → IsFrontOf a b → IsFrontOf b c → IsFrontOf a c
front_more a b c p q = record {
  rest = p.rest ++ q.rest;
  is = q.is ∙ ap (λ t. t ++ q.rest) p.is ∙ append_assoc a p.rest q.rest;
}

-- the closings' text is that of their lines
closings_text : (set : Setting) (full : Bool) (closings : List Closing)
    → flat_map (λ closing. spaced (closing_words (identities_of set.rows) closing)) closings ≡ flat_map (line_text set full) (map ClosedLine closings)
closings_text set full [] = refl
closings_text set full (closing ∷ closings) =
    ap (λ own. own ++ flat_map (λ c. spaced (closing_words (identities_of set.rows) c)) closings)
    (sym (append-nil (spaced (closing_words (identities_of set.rows) closing))))
    ∙ ap (λ rest. line_text set full (ClosedLine closing) ++ rest) (closings_text set full closings)

-- so is the sessions'
sessions_text : (set : Setting) (full : Bool) (sessions : List SessionVerdict)
    → flat_map (λ verdict. spaced (session_words verdict)) sessions ≡ flat_map (line_text set full) (map SessionLine sessions)
sessions_text set full [] = refl
sessions_text set full (verdict ∷ sessions) =
    ap (λ own. own ++ flat_map (λ v. spaced (session_words v)) sessions) (sym (append-nil (spaced (session_words verdict))))
    ∙ ap (λ rest. line_text set full (SessionLine verdict) ++ rest) (sessions_text set full sessions)

-- and the premise's
premise_text_is : (set : Setting) (full : Bool) (p : Premise) → premise_text p ≡ flat_map (line_text set full) (premise_lines p)
premise_text_is set full premise.NoSession = refl
premise_text_is set full premise.Held = refl
premise_text_is set full (premise.Broken job breach) =
    sym (append-nil (spaced (broken_words job breach))) ∙ sym (append-nil (line_text set full (BrokenLine job breach)))

-- the pieces that are appended after the jobs are the text of the lines that end a round
pub end_printed : (set : Setting) (full : Bool) (rows : List Row) (round : RoundRecord) (closings : List Closing) (sessions : List SessionVerdict)
    (old first second third : List ℕ) → rows ≡ set.rows → closings ≡ round.closings → sessions ≡ round.sessions
    → first ≡ old ++ flat_map (λ closing. spaced (closing_words (identities_of rows) closing)) closings
    → second ≡ first ++ flat_map (λ verdict. spaced (session_words verdict)) sessions
    → third ≡ second ++ premise_text round.premise
    → third ≡ old ++ flat_map (line_text set full) (end_lines round)
end_printed set full rows round closings sessions old first second third same k s e f g =
    let text : List Line → List ℕ = λ lines. flat_map (line_text set full) lines in
    let closed : List Line = map ClosedLine round.closings in
    let judged : List Line = map SessionLine round.sessions in
    let last : List Line = premise_lines round.premise in
    let first_is : first ≡ old ++ text closed
    = e ∙ ap (λ r. old ++ flat_map (λ closing. spaced (closing_words (identities_of r) closing)) closings) same
    ∙ ap (λ cs. old ++ flat_map (λ closing. spaced (closing_words (identities_of set.rows) closing)) cs) k
    ∙ ap (λ t. old ++ t) (closings_text set full round.closings) in
    let second_is : second ≡ first ++ text judged
    = f ∙ ap (λ vs. first ++ flat_map (λ verdict. spaced (session_words verdict)) vs) s ∙ ap (λ t. first ++ t) (sessions_text set full round.sessions) in
    let third_is : third ≡ second ++ text last = g ∙ ap (λ t. second ++ t) (premise_text_is set full round.premise) in
    third_is ∙ ap (λ x. x ++ text last) (second_is ∙ ap (λ x. x ++ text judged) first_is)
    ∙ append_assoc (old ++ text closed) (text judged) (text last) ∙ append_assoc old (text closed) (text judged ++ text last)
    ∙ ap (λ t. old ++ (text closed ++ t)) (sym (flat_map-append (line_text set full) judged last))
    ∙ ap (λ t. old ++ t) (sym (flat_map-append (line_text set full) closed (judged ++ last)))

-- a round's text is its own line, then the jobs' text, then that of the lines that end it
round_text_is : (set : Setting) (full : Bool) (round : RoundRecord)
    → spaced (codes "round" ∷ numeral round.number ∷ []) ++ (flat_map (line_text set full) (jobs_lines 1 round.jobs)
    ++ flat_map (line_text set full) (end_lines round))
    ≡ round_text set full round
round_text_is set full round =
    ap (λ own. own ++ (flat_map (line_text set full) (jobs_lines 1 round.jobs) ++ flat_map (line_text set full) (end_lines round)))
    (sym (append-nil (spaced (codes "round" ∷ numeral round.number ∷ []))))
    ∙ ap (λ rest. line_text set full (RoundLine round.number) ++ rest)
    (sym (flat_map-append (line_text set full) (jobs_lines 1 round.jobs) (end_lines round)))

-- the pieces that are appended for a round are the round's text
pub round_printed : (set : Setting) (full : Bool) (round : RoundRecord) (jobs : List (List LineRecord))
    (old first second third : List ℕ) → jobs ≡ round.jobs
    → first ≡ old ++ spaced (codes "round" ∷ numeral round.number ∷ [])
    → second ≡ first ++ flat_map (line_text set full) (jobs_lines 1 jobs)
    → third ≡ second ++ flat_map (line_text set full) (end_lines round)
    → third ≡ old ++ round_text set full round
round_printed set full round jobs old first second third j e f g =
    let heading : List ℕ = spaced (codes "round" ∷ numeral round.number ∷ []) in
    let job_texts : List (List LineRecord) → List ℕ = λ js. flat_map (line_text set full) (jobs_lines 1 js) in
    let ending : List ℕ = flat_map (line_text set full) (end_lines round) in
    g ∙ ap (λ x. x ++ ending) (f ∙ ap (λ x. x ++ job_texts jobs) e)
    ∙ append_assoc (old ++ heading) (job_texts jobs) ending
    ∙ append_assoc old heading (job_texts jobs ++ ending)
    ∙ ap (λ js. old ++ (heading ++ (job_texts js ++ ending))) j
    ∙ ap (λ x. old ++ x) (round_text_is set full round)

-- what holds of the items before a place and of the one there holds of those before the next place
pub all_more : {X : Type 0} (P : X → Type 0) (xs : List X) (i : ℕ) (x : X) → i < length xs → x ≡ get_or xs i x → All P (take i xs) → P x → All P (take (i + 1) xs)
all_more P xs i x within is before here =
    subst (All P) (sym (take_more xs i x within)) (All-append P (take i xs) (get_or xs i x ∷ []) before (All-cons P (get_or xs i x) [] (subst P is here) (All-nil P)))

-- the text so far with that of a record goes on with the records after it
pub answers_step : (set : Setting) (full : Bool) (job : List LineRecord) (place : ℕ) (answer : LineRecord) (left after : List AuthVector)
    (out next : List ℕ) → place < length job → answer ≡ get_or job place answer → next ≡ out ++ answer_text set full job answer left
    → after ≡ left_after answer left
    → next ++ answers_text set full job (drop (place + 1) job) after ≡ out ++ answers_text set full job (drop place job) left
answers_step set full job place answer left after out next within is printed after_is =
    let more : List LineRecord = drop (place + 1) job in
    ap (λ x. x ++ answers_text set full job more after) printed
    ∙ append_assoc out (answer_text set full job answer left) (answers_text set full job more after)
    ∙ ap (λ vectors. out ++ (answer_text set full job answer left ++ answers_text set full job more vectors)) after_is
    ∙ ap (λ first. out ++ answers_text set full job (first ∷ more) left) is
    ∙ ap (λ lines. out ++ answers_text set full job lines left) (sym (drop_more job place answer within))
