-- For a worker: each number that its jobs' lines release or withhold was released or withheld by its pass.
use Rattle.std.proofs.Common.{◌≡◌, ℕ, ◌+◌, ◌<◌, ◌≤◌, ◌==◌, Bool, true, false, cond, List, [], ◌∷◌, ◌++◌, length, get_or, All, Contains, flat_map, arith, refl, sym, ap, ◌∙◌, subst, inl, inr}
use Rattle.std.specs.Prelude.{Option, Some, None, if◌then◌else◌}
use Rattle.std.proofs.lemmas.Bool.{eqb-true, ne_eqb}
use Rattle.std.proofs.lemmas.Grind.{flat_map-append}
use Rattle.std.proofs.lemmas.List.Elements.{All-append, All-cons, All-contains_itself, All-head, All-nil, All-tail, Contains-append_left, Contains-append_right}
use Rattle.auc_centre.specs.Adds.{IsTold}
use Rattle.auc_draw.specs.declared.rule.Deed.{Deed}
use Rattle.auc_memory.specs.declared.stop.Stop.{Stop}
use Rattle.auc_history.specs.declared.entry.Entry.{Entry}
use Rattle.auc_history.specs.declared.entry.Entry.TheVariants.{Drawn, Moved as moved, Look}
use Rattle.auc_history.specs.History.{IsBefore, IsInOrder, drawn, drawn_by}
use Rattle.auc_history.specs.Split.{times}
use Rattle.auc_history.proofs.Facts.{AllPairs-head, AllPairs-tail, times-append, times-cons, times_at}
use Rattle.auc_lines.specs.declared.part.Line.{Line}
use Rattle.auc_lines.specs.declared.part.Line.TheVariants as asked
use Rattle.auc_subs.specs.Subscriber.{top_at}
use Rattle.auc_subs.specs.declared.row.Row.{Row}
use Rattle.auc_record.specs.declared.record.LineRecord.{LineRecord}
use Rattle.auc_record.specs.declared.record.LineRecord.TheVariants.{Number, Sync, Give, Further, Event as Happening}
use Rattle.auc_lines.specs.Part.{is_that}
use Rattle.auc_vector.specs.Notes.{withheld_noted}
use Rattle.auc_vector.specs.declared.notes.NumberNote.{NumberNote}
use Rattle.auc_vector.specs.declared.notes.NumberNote.TheVariants as number
use Rattle.auc_record.specs.declared.event.Event.TheVariants as event
use Rattle.auc_record.specs.Event.{asked_in, number_released, number_withheld}
use Rattle.auc_world.specs.Net.{Net}
use Rattle.auc_record.specs.Entries.{entries_of_line, entries_of_lines, entries_of_number, entries_of_resync}
use Rattle.auc_world.specs.Given.{Before, LineGives, JobGives, behind}
use Rattle.auc_record.specs.Lines.{number_by, number_said, released_by, resync_by, numbers_of, withheld_by, withheld_of, held_by, held_of}
use Rattle.auc_record.specs.Vectors.{IsReleasableLine}
use Rattle.auc_subs.specs.Setting.{Setting}
use Rattle.auc_record.proofs.Facts.{withheld_of-held_of}
use Rattle.auc_jobs.specs.declared.claiming.ClaimedJob.{ClaimedJob}
use Rattle.auc_jobs.specs.Serving.{IsKnownLine, AreKnown}
use Rattle.auc_jobs.proofs.EventLemmas.{IsOwnAnswer, IsOwnNumber, event_lines, plain_lines}
use Rattle.auc_jobs.proofs.RequestLemmas.{AreSo, draw_lines, eps_lines, fiveg_lines, give_lines, sim_lines, sites_lines, sync_lines}

-- ---- what a pass did stays

-- what deeds hold, longer ones hold
grown : {X : Type 0} (f : Deed → List X) (old rest new : List Deed) → new ≡ old ++ rest → (x : X) → Contains (flat_map f old) x → Contains (flat_map f new) x
grown f old rest new is x has =
    subst (λ xs. Contains xs x) (sym (ap (flat_map f) is ∙ flat_map-append f old rest)) (Contains-append_left (flat_map f old) (flat_map f rest) x has)

-- of all jobs
pub jobs_grown : {X : Type 0} (f : Deed → List X) (g : ClaimedJob → List X) (old rest new : List Deed) (done : List ClaimedJob) → new ≡ old ++ rest
    → All (λ c. All (Contains (flat_map f old)) (g c)) done → All (λ c. All (Contains (flat_map f new)) (g c)) done
jobs_grown f g old rest new done is each = λ k c within i x inside. grown f old rest new is _ (each k c within i x inside)

-- what comes after what a list had, the longer list has
pub all_last : {X : Type 0} (front back whole : List X) → whole ≡ front ++ back → All (Contains whole) back
all_last front back whole is = λ k d within.
    subst (λ xs. Contains xs (get_or back k d)) (sym is) (Contains-append_right front back (get_or back k d) (All-contains_itself back k d within))

-- ---- what the lines of a job name

-- the subscriber for whom a line asked the centre for a number, if it did
abbrev pub asked_by : LineRecord → Option ℕ
asked_by (Number s note) = Some s
asked_by (Sync s note) = None
asked_by (Give s n answer) = None
asked_by (Further said) = None
asked_by (Happening r) = asked_in r.result

-- what the centre answered for a subscriber is what it answered, if it was asked for that one
pub number_by_is : (sub : ℕ) (line : LineRecord) → number_by sub line ≡ (if is_that sub (asked_by line) then number_said line else None)
number_by_is sub (Number s note) = refl
number_by_is sub (Sync s note) = refl
number_by_is sub (Give s n answer) = refl
number_by_is sub (Further said) = refl
number_by_is sub (Happening r) = refl

-- a line that asked for a number names the subscriber of a row, and a number that was released is one of the subscriber's
abbrev pub IsOwn : List Row → LineRecord → Type 0
IsOwn rows line = IsOwnAnswer rows (asked_by line) (number_said line)

-- the lines of a subscriber's requests
requests_own : (set : Setting) (sub : ℕ) → sub < length set.rows → AreSo set sub (IsOwn set.rows)
requests_own set sub known = record {
  number = λ note is. (known, of_number note is);
  sync = λ note. refl;
  give = λ n answer. refl;
  further = λ said. refl;
}
  where
    of_number : (note : NumberNote) → IsReleasableLine set (Number sub note) → IsOwnNumber (top_at set.rows sub) (Some note)
    of_number (number.Drew n) is = (is.first, is.last)
    of_number (number.Exhausted word) is = tt
    of_number (number.Withheld n stop) is = tt

-- those of a line
line_own : (set : Setting) (before : Before) (net next : Net) (line : Line) (lines : List LineRecord) → IsKnownLine set.rows line → LineGives set before net line lines next → All (IsOwn set.rows) lines
line_own set before net next (asked.Draw sub count) lines known (gives, is) = draw_lines set sub (IsOwn set.rows) (requests_own set sub known) count lines gives
line_own set before net next (asked.Sync sub report count) lines known (gives, is) = sync_lines set sub (IsOwn set.rows) (requests_own set sub known.0) report count lines gives
line_own set before net next (asked.Give sub n) lines known (gives, is) = give_lines set sub (IsOwn set.rows) (requests_own set sub known.0) before n lines gives
line_own set before net next (asked.Eps sub snid) lines known (gives, is) = eps_lines set sub (IsOwn set.rows) (requests_own set sub known) snid lines gives
line_own set before net next (asked.Fiveg fiveg) lines known (gives, is) = fiveg_lines set fiveg (IsOwn set.rows) (requests_own set fiveg.sub known.sub) before lines gives
line_own set before net next (asked.Sites sites) lines known (gives, is) = sites_lines set sites (IsOwn set.rows) (requests_own set sites.sub known.0) lines gives
line_own set before net next (asked.Sim sim) lines known (gives, is) = sim_lines set sim (IsOwn set.rows) (requests_own set sim.sub known.0) lines gives
line_own set before net next (asked.Session opened) lines known gives = event_lines set (IsOwn set.rows) (λ e c own. own) before net next (event.Open opened) lines gives
line_own set before net next (asked.Start session) lines known gives = event_lines set (IsOwn set.rows) (λ e c own. own) before net next (event.Start session) lines gives
line_own set before net next (asked.Deliver session at' packet) lines known gives = event_lines set (IsOwn set.rows) (λ e c own. own) before net next (event.Deliver session at' packet) lines gives
line_own set before net next (asked.Repeat session) lines known gives = event_lines set (IsOwn set.rows) (λ e c own. own) before net next (event.Repeat session) lines gives
line_own set before net next (asked.GiveUp session at') lines known gives = event_lines set (IsOwn set.rows) (λ e c own. own) before net next (event.GiveUp session at') lines gives
line_own set before net next (asked.Plain session) lines known gives = plain_lines set (IsOwn set.rows) (λ e c own. own) before net next session lines gives
line_own set before net next (asked.Tamper packet place byte) lines known gives = event_lines set (IsOwn set.rows) (λ e c own. own) before net next (event.Tamper packet place byte) lines gives
line_own set before net next (asked.Cut packet count) lines known gives = event_lines set (IsOwn set.rows) (λ e c own. own) before net next (event.Cut packet count) lines gives

-- and those of a job
pub job_own : (set : Setting) (before : Before) (net last : Net) (job : List Line) (lines : List LineRecord) → AreKnown set.rows job → JobGives set before net job lines last → All (IsOwn set.rows) lines
job_own set before net last [] lines known (gives, is) = subst (All (IsOwn set.rows)) (sym gives) (All-nil (IsOwn set.rows))
job_own set before net last (line ∷ job) lines known (front, rest, next, is, here, more) =
    subst (All (IsOwn set.rows)) (sym is)
    (All-append (IsOwn set.rows) front rest (line_own set before net next line front (All-head (IsKnownLine set.rows) line job known) here)
    (job_own set (behind before front) next last job rest (All-tail (IsKnownLine set.rows) line job known) more))

-- a number is one of a subscriber's
abbrev IsWithin : List Row → ℕ → ℕ → Type 0
IsWithin rows sub n = n ≤ top_at rows sub

-- the released numbers are such
pub numbers_within : (rows : List Row) (sub : ℕ) (lines : List LineRecord) → All (IsOwn rows) lines → All (λ n. n ≤ top_at rows sub) (numbers_of sub lines)
numbers_within rows sub [] own = All-nil (λ n. n ≤ top_at rows sub)
numbers_within rows sub (line ∷ lines) own =
    All-append (IsWithin rows sub) (released_by sub line) (numbers_of sub lines) (here line (All-head (IsOwn rows) line lines own)) (numbers_within rows sub lines (All-tail (IsOwn rows) line lines own))
  where
    -- of a subscriber by which the numbers are tested
    moved : (s n : ℕ) → (s == sub) ≡ true → n ≤ top_at rows s → n ≤ top_at rows sub
    moved s n same low = subst (λ (k : ℕ). n ≤ top_at rows k) (eqb-true s sub same) low

    of_number : (b : Bool) (s : ℕ) (o : Option NumberNote) → (s == sub) ≡ b → IsOwnNumber (top_at rows s) o → All (IsWithin rows sub) (number_released (if b then o else None))
    of_number false s o same is = All-nil (IsWithin rows sub)
    of_number true s None same is = All-nil (IsWithin rows sub)
    of_number true s (Some (number.Drew n)) same is = All-cons (IsWithin rows sub) n [] (moved s n same is.1) (All-nil (IsWithin rows sub))
    of_number true s (Some (number.Exhausted word)) same is = All-nil (IsWithin rows sub)
    of_number true s (Some (number.Withheld n stop)) same is = All-nil (IsWithin rows sub)

    of_answer : (a : Option ℕ) (o : Option NumberNote) → IsOwnAnswer rows a o → All (IsWithin rows sub) (number_released (if is_that sub a then o else None))
    of_answer None o is = All-nil (IsWithin rows sub)
    of_answer (Some s) o is = of_number (s == sub) s o refl is.1

    here : (line : LineRecord) → IsOwn rows line → All (IsWithin rows sub) (released_by sub line)
    here line is = subst (λ (o : Option NumberNote). All (IsWithin rows sub) (number_released o)) (sym (number_by_is sub line)) (of_answer (asked_by line) (number_said line) is)

-- nothing is withheld from a subscriber beyond them
pub held_beyond : (rows : List Row) (sub : ℕ) (lines : List LineRecord) → length rows ≤ sub → All (IsOwn rows) lines → held_of sub lines ≡ []
held_beyond rows sub [] high own = refl
held_beyond rows sub (line ∷ lines) high own =
    ap (λ (hs : List (ℕ × Stop)). hs ++ held_of sub lines) (here line (All-head (IsOwn rows) line lines own)) ∙ held_beyond rows sub lines high (All-tail (IsOwn rows) line lines own)
  where
    of_answer : (a : Option ℕ) (o : Option NumberNote) → IsOwnAnswer rows a o → withheld_noted (if is_that sub a then o else None) ≡ []
    of_answer None o is = refl
    of_answer (Some s) o is = rw (ne_eqb s sub (λ e. omega (arith, e, is.0, high))) refl

    here : (line : LineRecord) → IsOwn rows line → held_by sub line ≡ []
    here line is = ap withheld_noted (number_by_is sub line) ∙ of_answer (asked_by line) (number_said line) is

-- ---- no number is drawn twice

-- numbers above one aren't it
none_at_most : (m n : ℕ) (entries : List Entry) → n ≤ m → All (IsBefore (Drawn m)) entries → times n (drawn entries) ≡ 0
none_at_most m n [] low after = refl
none_at_most m n (Drawn k ∷ entries) low after =
    let above = All-head (IsBefore (Drawn m)) (Drawn k) entries after in
    let rest = none_at_most m n entries low (All-tail (IsBefore (Drawn m)) (Drawn k) entries after) in
    let cut = times-cons n k (drawn entries) in
    let other : ◌≡◌ {A = ℕ} (cond (k == n) 1 0) 0 = rw (ne_eqb k n (λ e. omega (arith, e, above, low))) refl in
    omega (arith, rest, cut, other)
none_at_most m n (moved from to ∷ entries) low after = none_at_most m n entries low (All-tail (IsBefore (Drawn m)) (moved from to) entries after)
none_at_most m n (Look seen ∷ entries) low after = none_at_most m n entries low (All-tail (IsBefore (Drawn m)) (Look seen) entries after)

-- in order, each number is drawn once at most
drawn_once : (n : ℕ) (entries : List Entry) → IsInOrder entries → times n (drawn entries) ≤ 1
drawn_once n [] ordered = omega arith
drawn_once n (Drawn k ∷ entries) ordered = by (k == n) refl (drawn_once n entries (AllPairs-tail IsBefore (Drawn k) entries ordered))
  where
    cut : times n (k ∷ drawn entries) ≡ cond (k == n) 1 0 + times n (drawn entries)
    cut = times-cons n k (drawn entries)

    by : (b : Bool) → (k == n) ≡ b → times n (drawn entries) ≤ 1 → times n (k ∷ drawn entries) ≤ 1
    by true e more =
        let same = eqb-true k n e in
        let one : ◌≡◌ {A = ℕ} (cond (k == n) 1 0) 1 = rw e refl in
        let rest = none_at_most k n entries (omega (arith, same)) (AllPairs-head IsBefore (Drawn k) entries ordered) in
        omega (arith, cut, one, rest)
    by false e more = let none : ◌≡◌ {A = ℕ} (cond (k == n) 1 0) 0 = rw e refl in omega (arith, cut, none, more)
drawn_once n (moved from to ∷ entries) ordered = drawn_once n entries (AllPairs-tail IsBefore (moved from to) entries ordered)
drawn_once n (Look seen ∷ entries) ordered = drawn_once n entries (AllPairs-tail IsBefore (Look seen) entries ordered)

-- what a line releases or withholds, it drew
told_line : (n sub : ℕ) (before : List LineRecord) (line : LineRecord)
    → times n (released_by sub line) + times n (withheld_by sub line) ≤ times n (drawn (entries_of_line sub before line))
told_line n sub before line =
    let front = entries_of_resync sub before (resync_by sub line) in
    let back = entries_of_number sub before (number_by sub line) in
    let cut = ap (times n) (flat_map-append drawn_by front back) ∙ times-append n (drawn front) (drawn back) in
    let here = by (number_by sub line) in omega (arith, cut, here)
  where
    by : (o : Option NumberNote) → times n (number_released o) + times n (number_withheld o) ≤ times n (drawn (entries_of_number sub before o))
    by None = omega arith
    by (Some (number.Drew m)) = omega arith
    by (Some (number.Exhausted word)) = omega arith
    by (Some (number.Withheld m stop)) = omega arith

told_lines : (n sub : ℕ) (before lines : List LineRecord)
    → times n (numbers_of sub lines) + times n (withheld_of sub lines) ≤ times n (drawn (entries_of_lines sub before lines))
told_lines n sub before [] = omega arith
told_lines n sub before (line ∷ lines) =
    let here = told_line n sub before line in
    let rest = told_lines n sub (before ++ line ∷ []) lines in
    let a = times-append n (released_by sub line) (numbers_of sub lines) in
    let b = times-append n (withheld_by sub line) (withheld_of sub lines) in
    let c = ap (times n) (flat_map-append drawn_by (entries_of_line sub before line) (entries_of_lines sub (before ++ line ∷ []) lines))
    ∙ times-append n (drawn (entries_of_line sub before line)) (drawn (entries_of_lines sub (before ++ line ∷ []) lines)) in
    omega (arith, here, rest, a, b, c)

-- each released number was drawn
drew_line : (sub : ℕ) (before : List LineRecord) (line : LineRecord) → All (Contains (drawn (entries_of_line sub before line))) (released_by sub line)
drew_line sub before line = by (entries_of_resync sub before (resync_by sub line)) (number_by sub line)
  where
    by : (front : List Entry) (o : Option NumberNote) → All (Contains (drawn (front ++ entries_of_number sub before o))) (number_released o)
    by front None = All-nil (Contains (drawn (front ++ [])))
    by front (Some (number.Drew m)) =
        subst (λ (ns : List ℕ). All (Contains ns) (m ∷ [])) (sym (flat_map-append drawn_by front (Drawn m ∷ [])))
        (λ k d within. Contains-append_right (drawn front) (m ∷ []) (get_or (m ∷ []) k d) (All-contains_itself (m ∷ []) k d within))
    by front (Some (number.Exhausted word)) = All-nil (Contains (drawn (front ++ entries_of_number sub before (Some (number.Exhausted word)))))
    by front (Some (number.Withheld m stop)) = All-nil (Contains (drawn (front ++ entries_of_number sub before (Some (number.Withheld m stop)))))

drew_lines : (sub : ℕ) (before lines : List LineRecord) → All (Contains (drawn (entries_of_lines sub before lines))) (numbers_of sub lines)
drew_lines sub before [] = All-nil (Contains [])
drew_lines sub before (line ∷ lines) =
    let whole = drawn (entries_of_lines sub before (line ∷ lines)) in
    let front = drawn (entries_of_line sub before line) in
    let back = drawn (entries_of_lines sub (before ++ line ∷ []) lines) in
    let cut : whole ≡ front ++ back = flat_map-append drawn_by (entries_of_line sub before line) (entries_of_lines sub (before ++ line ∷ []) lines) in
    subst (λ (ns : List ℕ). All (Contains ns) (released_by sub line ++ numbers_of sub lines)) (sym cut)
    (All-append (Contains (front ++ back)) (released_by sub line) (numbers_of sub lines)
    (λ k d within. Contains-append_left front back (get_or (released_by sub line) k d) (drew_line sub before line k d within))
    (λ k d within. Contains-append_right front back (get_or (numbers_of sub lines) k d) (drew_lines sub (before ++ line ∷ []) lines k d within)))

-- a number that stands in a list, counts in it
counts_in : (n : ℕ) (numbers : List ℕ) → Contains numbers n → 1 ≤ times n numbers
counts_in n numbers (k, within, at) = subst (λ (m : ℕ). 1 ≤ times m numbers) at (times_at numbers k n within)

-- ---- a job

-- if each drawn number is told, each number that the lines of a job release was released
pub job_released : (rows : List Row) (sub : ℕ) (before lines : List LineRecord) (released : List ℕ) → All (IsOwn rows) lines → IsInOrder (entries_of_lines sub before lines)
    → All (IsTold (top_at rows sub) (held_of sub lines) released) (drawn (entries_of_lines sub before lines)) → All (Contains released) (numbers_of sub lines)
job_released rows sub before lines released own ordered told = λ k d within.
    let n = get_or (numbers_of sub lines) k d in
    by n (numbers_within rows sub lines own k d within) (All-contains_itself (numbers_of sub lines) k d within) (told_at n (drew_lines sub before lines k d within))
  where
    told_at : (n : ℕ) → Contains (drawn (entries_of_lines sub before lines)) n → IsTold (top_at rows sub) (held_of sub lines) released n
    told_at n (j, inside, at) = subst (IsTold (top_at rows sub) (held_of sub lines) released) at (told j n inside)

    by : (n : ℕ) → n ≤ top_at rows sub → Contains (numbers_of sub lines) n → IsTold (top_at rows sub) (held_of sub lines) released n → Contains released n
    by n low here (inl high) = absurd (omega (arith, low, high))
    by n low here (inr (inr there)) = there
    by n low here (inr (inl held)) =
        let withheld : Contains (withheld_of sub lines) n = subst (λ (ns : List ℕ). Contains ns n) (sym (withheld_of-held_of sub lines)) held in
        let a = counts_in n (numbers_of sub lines) here in
        let b = counts_in n (withheld_of sub lines) withheld in
        let c = told_lines n sub before lines in
        let once = drawn_once n (entries_of_lines sub before lines) ordered in
        absurd (omega (arith, a, b, c, once))
