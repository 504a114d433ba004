-- For counting: a subscriber's counts with a further line.
use Rattle.std.proofs.Common.{◌≡◌, ◌≢◌, ℕ, zero, suc, ◌+◌, ◌<◌, ◌≤◌, ◌⊎◌, true, false, eqb, List, [], ◌∷◌, ◌++◌, length, get_or, refl, sym, ◌∙◌, ap, subst, arith, inl, inr, append_assoc, append-nil, take, replicate}
use Rattle.std.specs.Prelude.{Option, Some, None, slice_get, slice_set}
use Rattle.std.proofs.lemmas.Bool.Decides.{eqb_tells}
use Rattle.std.proofs.lemmas.Grind.{flat_map-append}
use Rattle.std.proofs.lemmas.List.{length-append, length-replicate, length-set}
use Rattle.std.proofs.lemmas.List.Sums.{sum_by-append, sum_by-cons}
use Rattle.std.proofs.lemmas.Option.{get_or_from_slice_get}
use Rattle.auc_lines.specs.Part.{is_that}
use Rattle.auc_vector.specs.declared.notes.NumberNote.{NumberNote}
use Rattle.auc_record.specs.Event.{asked_in, number_passed, number_released, number_withheld}
use Rattle.auc_record.specs.Record.{subscriber_of}
use Rattle.auc_record.specs.declared.record.LineRecord.{LineRecord}
use Rattle.auc_record.specs.declared.record.LineRecord.TheVariants.{Number, Sync, Give, Further, Event}
use Rattle.auc_record.specs.Lines.{all_lines, number_by, number_said, numbers_of, released_by, resync_by, resync_said, withheld_of, withheld_by}
use Rattle.auc_record.specs.declared.counting.Count.{Count}
use Rattle.auc_record.specs.Counts.{passed_by, passed_in, capped, count_with, counted_in, AreCounted}

-- the withheld and the released numbers of some lines and of further ones
withheld_of-append : (sub : ℕ) (xs ys : List LineRecord) → withheld_of sub (xs ++ ys) ≡ withheld_of sub xs ++ withheld_of sub ys
withheld_of-append sub xs ys = flat_map-append (withheld_by sub) xs ys

numbers_of-append : (sub : ℕ) (xs ys : List LineRecord) → numbers_of sub (xs ++ ys) ≡ numbers_of sub xs ++ numbers_of sub ys
numbers_of-append sub xs ys = flat_map-append (released_by sub) xs ys

-- the lines of jobs and of one more
all_lines-push : (jobs : List (List LineRecord)) (job : List LineRecord) → all_lines (jobs ++ job ∷ []) ≡ all_lines jobs ++ job
all_lines-push jobs job = flat_map-append (λ job. job) jobs (job ∷ []) ∙ rw append-nil refl

-- a test of a number with itself
pub same_eqb : (n : ℕ) → eqb n n ≡ true
same_eqb n = from (eqb_tells n n)
  where
    from : ((eqb n n ≡ true) × (n ≡ n)) ⊎ ((eqb n n ≡ false) × (n ≢ n)) → eqb n n ≡ true
    from (inl (e, is)) = e
    from (inr (e, not)) = absurd (not refl)

pub other_eqb : (m n : ℕ) → m ≢ n → eqb m n ≡ false
other_eqb m n other = from (eqb_tells m n)
  where
    from : ((eqb m n ≡ true) × (m ≡ n)) ⊎ ((eqb m n ≡ false) × (m ≢ n)) → eqb m n ≡ false
    from (inl (e, is)) = absurd (other is)
    from (inr (e, not)) = e

-- the parts of a count
count_is : (a b c d e f : ℕ) → a ≡ d → b ≡ e → c ≡ f
    → (let x : Count = record { released = a; withheld = b; skipped = c } in x) ≡ (let x : Count = record { released = d; withheld = e; skipped = f } in x)
count_is a b c d e f p q r = rw (p, q, r) refl

-- how a line adds to each part
more_numbers : (sub : ℕ) (before : List LineRecord) (line : LineRecord)
    → length (numbers_of sub (before ++ line ∷ [])) ≡ length (numbers_of sub before) + length (released_by sub line)
more_numbers sub before line =
    ap (λ (xs : List ℕ). length xs) (numbers_of-append sub before (line ∷ [])) ∙ length-append (numbers_of sub before) (released_by sub line ++ [])
    ∙ ap (λ (xs : List ℕ). length (numbers_of sub before) + length xs) (append-nil (released_by sub line))

more_withheld : (sub : ℕ) (before : List LineRecord) (line : LineRecord)
    → length (withheld_of sub (before ++ line ∷ [])) ≡ length (withheld_of sub before) + length (withheld_by sub line)
more_withheld sub before line =
    ap (λ (xs : List ℕ). length xs) (withheld_of-append sub before (line ∷ [])) ∙ length-append (withheld_of sub before) (withheld_by sub line ++ [])
    ∙ ap (λ (xs : List ℕ). length (withheld_of sub before) + length xs) (append-nil (withheld_by sub line))

more_passed : (sub : ℕ) (before : List LineRecord) (line : LineRecord) → passed_in sub (before ++ line ∷ []) ≡ passed_in sub before + passed_by sub line
more_passed sub before line =
    let e = sum_by-append (passed_by sub) before (line ∷ []) in let f = sum_by-cons (passed_by sub) line [] in omega (arith, e, f)

-- by numbers
count_more : (sub : ℕ) (before : List LineRecord) (line : LineRecord) (a b c : ℕ)
    → a ≡ capped (length (numbers_of sub before) + length (released_by sub line)) → b ≡ capped (length (withheld_of sub before) + length (withheld_by sub line))
    → c ≡ capped (passed_in sub before + passed_by sub line)
    → (let x : Count = record { released = a; withheld = b; skipped = c } in x) ≡ counted_in sub (before ++ line ∷ [])
count_more sub before line a b c p q r =
    count_is a b c (capped (length (numbers_of sub (before ++ line ∷ [])))) (capped (length (withheld_of sub (before ++ line ∷ [])))) (capped (passed_in sub (before ++ line ∷ [])))
    (p ∙ ap capped (sym (more_numbers sub before line))) (q ∙ ap capped (sym (more_withheld sub before line))) (r ∙ ap capped (sym (more_passed sub before line)))

-- a capped number and a further one
cap_more : (n m k : ℕ) → k ≡ m → capped (capped n + m) ≡ capped (n + k)
cap_more n m k same = omega arith

cap_none : (n k : ℕ) → k ≡ 0 → capped n ≡ capped (n + k)
cap_none n k none = omega arith

-- a subscriber that is another one's
some_is : (s sub : ℕ) → ◌≡◌ {A = Option ℕ} (Some s) (Some sub) → s ≡ sub
some_is s sub is = ap (λ (o : Option ℕ). get_some s o) is
  where
    get_some : ℕ → Option ℕ → ℕ
    get_some n None = n
    get_some n (Some m) = m

that_is : (sub : ℕ) (o : Option ℕ) → o ≡ Some sub → is_that sub o ≡ true
that_is sub o is = ap (is_that sub) is ∙ same_eqb sub

that_other : (sub : ℕ) (o : Option ℕ) → o ≢ Some sub → is_that sub o ≡ false
that_other sub None other = refl
that_other sub (Some s) other = other_eqb s sub (λ same. other (ap Some same))

-- what the centre answered a line of the subscriber
number_same : (sub : ℕ) (line : LineRecord) → subscriber_of line ≡ Some sub → number_by sub line ≡ number_said line
number_same sub (Number s note) is = let e : eqb s sub ≡ true = that_is sub (Some s) is in rw e refl
number_same sub (Sync s note) is = refl
number_same sub (Give s n verdict) is = refl
number_same sub (Further said) is = refl
number_same sub (Event r) is = let e = that_is sub (asked_in r.result) is in rw e refl

resync_same : (sub : ℕ) (line : LineRecord) → subscriber_of line ≡ Some sub → resync_by sub line ≡ resync_said line
resync_same sub (Number s note) is = refl
resync_same sub (Sync s note) is = let e : eqb s sub ≡ true = that_is sub (Some s) is in rw e refl
resync_same sub (Give s n verdict) is = refl
resync_same sub (Further said) is = refl
resync_same sub (Event r) is = let e = that_is sub (asked_in r.result) is in rw e refl

-- and a line of another one
number_other : (sub : ℕ) (line : LineRecord) → subscriber_of line ≢ Some sub → number_by sub line ≡ None
number_other sub (Number s note) other = let e : eqb s sub ≡ false = that_other sub (Some s) other in rw e refl
number_other sub (Sync s note) other = refl
number_other sub (Give s n verdict) other = refl
number_other sub (Further said) other = refl
number_other sub (Event r) other = let e = that_other sub (asked_in r.result) other in rw e refl

resync_other : (sub : ℕ) (line : LineRecord) → subscriber_of line ≢ Some sub → resync_by sub line ≡ None
resync_other sub (Number s note) other = refl
resync_other sub (Sync s note) other = let e : eqb s sub ≡ false = that_other sub (Some s) other in rw e refl
resync_other sub (Give s n verdict) other = refl
resync_other sub (Further said) other = refl
resync_other sub (Event r) other = let e = that_other sub (asked_in r.result) other in rw e refl

-- the count with a line of the subscriber is that of the lines with it
pub count_same : (sub : ℕ) (before : List LineRecord) (line : LineRecord) → subscriber_of line ≡ Some sub → count_with (counted_in sub before) line ≡ counted_in sub (before ++ line ∷ [])
count_same sub before line is =
    let drew = number_same sub line is in
    count_more sub before line _ _ _
    (cap_more (length (numbers_of sub before)) (length (number_released (number_said line))) (length (released_by sub line)) (ap (λ (o : Option NumberNote). length (number_released o)) drew))
    (cap_more (length (withheld_of sub before)) (length (number_withheld (number_said line))) (length (withheld_by sub line)) (ap (λ (o : Option NumberNote). length (number_withheld o)) drew))
    (cap_more (passed_in sub before) (number_passed (resync_said line)) (passed_by sub line) (ap number_passed (resync_same sub line is)))

-- a line of another subscriber adds nothing
pub count_other : (sub : ℕ) (before : List LineRecord) (line : LineRecord) → subscriber_of line ≢ Some sub → counted_in sub before ≡ counted_in sub (before ++ line ∷ [])
count_other sub before line other =
    let drew = number_other sub line other in
    count_more sub before line (capped (length (numbers_of sub before))) (capped (length (withheld_of sub before))) (capped (passed_in sub before))
    (cap_none (length (numbers_of sub before)) (length (released_by sub line)) (ap (λ (o : Option NumberNote). length (number_released o)) drew))
    (cap_none (length (withheld_of sub before)) (length (withheld_by sub line)) (ap (λ (o : Option NumberNote). length (number_withheld o)) drew))
    (cap_none (passed_in sub before) (passed_by sub line) (ap number_passed (resync_other sub line other)))

-- an element that was set, and the others
pub get-set_same : {X : Type 0} (xs : List X) (i : ℕ) (x : X) → i < length xs → slice_get (slice_set xs i x) i ≡ Some x
get-set_same [] i x lt = absurd (omega arith)
get-set_same (y ∷ xs) zero x lt = refl
get-set_same (y ∷ xs) (suc i) x lt = get-set_same xs i x (omega arith)

pub get-set_other : {X : Type 0} (xs : List X) (i k : ℕ) (x : X) → i ≢ k → slice_get (slice_set xs i x) k ≡ slice_get xs k
get-set_other [] i k x other = refl
get-set_other (y ∷ xs) zero zero x other = absurd (other refl)
get-set_other (y ∷ xs) zero (suc k) x other = refl
get-set_other (y ∷ xs) (suc i) zero x other = refl
get-set_other (y ∷ xs) (suc i) (suc k) x other = get-set_other xs i k x (λ e. other (omega arith))

-- the counts with the line's one set
pub counted_set : (before : List LineRecord) (line : LineRecord) (counts : List Count) (d : Count) (sub : ℕ) → subscriber_of line ≡ Some sub → sub < length counts
    → AreCounted before counts → AreCounted (before ++ line ∷ []) (slice_set counts sub (count_with (get_or counts sub d) line))
counted_set before line counts d sub is inside are = record { each = λ i lt. each i (omega (arith, length-set counts sub now)) (eqb_tells sub i) }
  where
    now : Count
    now = count_with (get_or counts sub d) line

    here : now ≡ counted_in sub (before ++ line ∷ [])
    here = ap (λ (c : Count). count_with c line) (get_or_from_slice_get counts sub (counted_in sub before) d (are.each sub inside)) ∙ count_same sub before line is

    each : (i : ℕ) → i < length counts → ((eqb sub i ≡ true) × (sub ≡ i)) ⊎ ((eqb sub i ≡ false) × (sub ≢ i))
        → slice_get (slice_set counts sub now) i ≡ Some (counted_in i (before ++ line ∷ []))
    each i lt (inl (e, same)) =
        subst (λ (k : ℕ). slice_get (slice_set counts sub now) k ≡ Some (counted_in k (before ++ line ∷ []))) same
        (get-set_same counts sub now inside ∙ ap Some here)
    each i lt (inr (e, other)) =
        get-set_other counts sub i now other ∙ are.each i lt ∙ ap Some (count_other i before line (λ same. other (some_is sub i (sym is ∙ same))))

-- a line for which the centre wasn't asked counts nothing
pub counted_nobody : (before : List LineRecord) (line : LineRecord) (counts : List Count) → subscriber_of line ≡ None → AreCounted before counts → AreCounted (before ++ line ∷ []) counts
counted_nobody before line counts none are = record { each = λ i lt. are.each i lt ∙ ap Some (count_other i before line (λ same. no_some i (sym none ∙ same))) }
  where
    no_some : (i : ℕ) → ◌≡◌ {A = Option ℕ} None (Some i) → ⊥
    no_some i e = cc

-- a line of a subscriber that isn't counted
pub counted_outside : (before : List LineRecord) (line : LineRecord) (counts : List Count) (sub : ℕ) → subscriber_of line ≡ Some sub → length counts ≤ sub
    → AreCounted before counts → AreCounted (before ++ line ∷ []) counts
counted_outside before line counts sub is outside are =
    record { each = λ i lt. are.each i lt ∙ ap Some (count_other i before line (λ same. let here = some_is sub i (sym is ∙ same) in absurd (omega (arith, outside, lt, here)))) }

-- with the first of some lines and one more
pub counted_take : (new : List Count) (before lines : List LineRecord) (i : ℕ) (line : LineRecord) → take (i + 1) lines ≡ take i lines ++ line ∷ []
    → AreCounted ((before ++ take i lines) ++ line ∷ []) new → AreCounted (before ++ take (i + 1) lines) new
counted_take new before lines i line cut are =
    subst (λ (ls : List LineRecord). AreCounted ls new) (append_assoc before (take i lines) (line ∷ []) ∙ ap (λ (ls : List LineRecord). before ++ ls) (sym cut)) are

-- with the lines of the first of some jobs and of one more
pub counted_job : (new : List Count) (jobs : List (List LineRecord)) (i : ℕ) (job lines : List LineRecord) → take (i + 1) jobs ≡ take i jobs ++ job ∷ []
    → lines ≡ job → AreCounted (all_lines (take i jobs) ++ lines) new → AreCounted (all_lines (take (i + 1) jobs)) new
counted_job new jobs i job lines cut is are =
    subst (λ (ls : List LineRecord). AreCounted ls new)
    (ap (λ (ls : List LineRecord). all_lines (take i jobs) ++ ls) is ∙ sym (ap all_lines cut ∙ all_lines-push (take i jobs) job)) are

-- an element of a list of equal ones
get-replicate : {X : Type 0} (n i : ℕ) (x : X) → i < n → slice_get (replicate n x) i ≡ Some x
get-replicate zero i x lt = absurd (omega arith)
get-replicate (suc n) zero x lt = refl
get-replicate (suc n) (suc i) x lt = get-replicate n i x (omega arith)

-- no lines count nothing
pub counted_none : (counts : List Count) (n : ℕ) → counts ≡ replicate n (record { released = 0; withheld = 0; skipped = 0 }) → AreCounted [] counts
counted_none counts n is = record { each = λ sub lt. ap (λ (cs : List Count). slice_get cs sub) is ∙ get-replicate n sub (counted_in sub []) (size sub lt) }
  where
    size : (sub : ℕ) → sub < length counts → sub < n
    size sub lt =
        let e : length counts ≡ n = ap (λ (cs : List Count). length cs) is ∙ length-replicate n (counted_in sub []) in
        omega (arith, e, lt)
