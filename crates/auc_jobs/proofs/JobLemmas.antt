-- For jobs: what their lines have given so far, and what stands after them.
use Rattle.std.proofs.Common.{◌≡◌, ℕ, ◌<◌, ◌≤◌, Bool, true, false, List, [], ◌∷◌, ◌++◌, All, arith, refl, sym, ◌∙◌, ap, subst, append_assoc, append-nil, inl, inr, ◌⊎◌, ◌≢◌, eqb}
use Rattle.std.specs.Prelude.{Option, Some, slice_get, ◌||◌}
use Rattle.std.proofs.lemmas.Bool.{ne_eqb}
use Rattle.std.proofs.lemmas.Bool.Decides.{eqb_tells}
use Rattle.std.proofs.lemmas.List.Elements.{All-append, All-head, All-nil, All-tail}
use Rattle.auc_memory.specs.declared.stop.Stop.{Stop}
use Rattle.auc_history.specs.declared.entry.Entry.{Entry}
use Rattle.auc_lines.specs.declared.part.Line.{Line}
use Rattle.auc_sqn.specs.Past.{Remembers}
use Rattle.auc_subs.specs.Subscriber.{top_at}
use Rattle.auc_subs.specs.declared.row.Row.{Row}
use Rattle.auc_record.specs.Entries.{entries_of_lines}
use Rattle.auc_world.specs.Given.{Before, is_released, past_of, LineGives, JobGives}
use Rattle.auc_record.specs.Lines.{is_in, numbers_of, held_of, accepted_by, accepted, released_by}
use Rattle.auc_world.specs.Net.{Net}
use Rattle.auc_subs.specs.Setting.{Setting}
use Rattle.auc_usim.specs.Usim.{Memory}
use Rattle.auc_record.specs.declared.record.GiveVerdict.{GiveVerdict}
use Rattle.auc_record.specs.declared.record.GiveVerdict.TheVariants as given
use Rattle.auc_record.specs.declared.record.LineRecord.{LineRecord}
use Rattle.auc_record.specs.declared.record.LineRecord.TheVariants.{Give}
use Rattle.auc_record.specs.Released.{Released, has, AreReleased}
use Rattle.auc_jobs.specs.InnerUsims.{Presents}
use Rattle.auc_jobs.specs.Numbers.{AreNumbers}
use Rattle.auc_jobs.specs.Usims.{AreBehind}
use Rattle.auc_jobs.specs.InnerServing.{AreTold, IsTold, JobStands, AddsLines, ServesLine, ServesLines, IsAnswered, AddsGive, GivesVerdict, before_at}
use Rattle.auc_jobs.proofs.LineLemmas.{held_of-append, entries_of_lines-append, numbers_of-append}
use Rattle.auc_world.proofs.Facts.{accepted-append}
use Rattle.auc_jobs.proofs.SayingLemmas.{told_quiet}

-- ---- the USIMs

-- lines that tell no acceptance leave the USIMs as they are
pub behind_quiet : (rows : List Row) (before lines : List LineRecord) (usims : ℕ → Option Memory) → ((bits i : ℕ) → accepted bits i lines ≡ [])
    → AreBehind rows before usims → AreBehind rows (before ++ lines) usims
behind_quiet rows before lines usims quiet behind sub row usim at there =
    let e : accepted row.bits sub (before ++ lines) ≡ accepted row.bits sub before =
    accepted-append row.bits sub before lines ∙ rw (quiet row.bits sub) (append-nil (accepted row.bits sub before)) in
    subst (λ (sqns : List (List ℕ)). Remembers usim.array (past_of row.bits row.usim sqns)) (sym e) (behind sub row usim at there)

-- ---- a presented vector

-- no acceptance is told where the vector is absent
absent_quiet : (bits i sub n : ℕ) → accepted_by bits i (Give sub n given.Absent) ≡ []
absent_quiet bits i sub n = step (eqb_tells sub i)
  where
    step : ((eqb sub i ≡ true) × (sub ≡ i)) ⊎ ((eqb sub i ≡ false) × (sub ≢ i)) → accepted_by bits i (Give sub n given.Absent) ≡ []
    step (inl (e, same)) = rw e refl
    step (inr (e, not)) = rw e refl

-- what the test of the released numbers says
released_is : (released : Released) (early beside own : List LineRecord) (sub n : ℕ) → AreReleased released early
    → (has released sub n || is_in n (numbers_of sub own)) ≡ is_released (before_at early beside own) sub n
released_is released early beside own sub n are = ap (λ (b : Bool). b || is_in n (numbers_of sub own)) (are sub n)

pub answered_present : (rows : List Row) (released : Released) (early beside own : List LineRecord) (sub n : ℕ) (answer : GiveVerdict) (usims : ℕ → Option Memory)
    → AreReleased released early → (has released sub n || is_in n (numbers_of sub own)) ≡ true → Presents rows (early ++ beside ++ own) sub n answer usims
    → IsAnswered rows (before_at early beside own) sub n answer usims
answered_present rows released early beside own sub n answer usims are found presents = record {
  given = λ row at. rw (sym (released_is released early beside own sub n are) ∙ found) (presents.answered row at);
  behind = presents.behind;
}

pub answered_absent : (rows : List Row) (released : Released) (early beside own : List LineRecord) (sub n : ℕ) (usims : ℕ → Option Memory)
    → AreReleased released early → (has released sub n || is_in n (numbers_of sub own)) ≡ false → AreBehind rows (early ++ beside ++ own) usims
    → IsAnswered rows (before_at early beside own) sub n given.Absent usims
answered_absent rows released early beside own sub n usims are found behind = record {
  given = λ row at. rw (sym (released_is released early beside own sub n are) ∙ found) refl;
  behind = behind_quiet rows (early ++ beside ++ own) (Give sub n given.Absent ∷ []) usims (λ bits i. rw (absent_quiet bits i sub n) refl) behind;
}

-- a number that is above the subscriber's greatest one is in no list of its numbers
not_among : (top n : ℕ) (numbers : List ℕ) → top < n → All (λ m. m ≤ top) numbers → is_in n numbers ≡ false
not_among top n [] high within = refl
not_among top n (m ∷ numbers) high within =
    let low = All-head (λ m. m ≤ top) m numbers within in
    rw (ne_eqb m n (λ e. omega (arith, e, low, high)), not_among top n numbers high (All-tail (λ m. m ≤ top) m numbers within)) refl

-- so it wasn't released
pub answered_above : (rows : List Row) (early beside own : List LineRecord) (sub n : ℕ) (usims : ℕ → Option Memory)
    → top_at rows sub < n → AreNumbers rows early → AreNumbers rows own → AreBehind rows (early ++ beside ++ own) usims
    → IsAnswered rows (before_at early beside own) sub n given.Absent usims
answered_above rows early beside own sub n usims high before here behind = record {
  given = λ row at. rw (not_among (top_at rows sub) n (numbers_of sub early) high (before sub), not_among (top_at rows sub) n (numbers_of sub own) high (here sub)) refl;
  behind = behind_quiet rows (early ++ beside ++ own) (Give sub n given.Absent ∷ []) usims (λ bits i. rw (absent_quiet bits i sub n) refl) behind;
}

-- the line of the answer
pub give_added : (set : Setting) (early beside own new : List LineRecord) (sub n : ℕ) (answer : GiveVerdict) (usims : ℕ → Option Memory) (row : Row)
    → slice_get set.rows sub ≡ Some row → new ≡ own ++ Give sub n answer ∷ [] → IsAnswered set.rows (before_at early beside own) sub n answer usims
    → AddsGive set (before_at early beside own) sub n answer usims new
give_added set early beside own new sub n answer usims row at added is = record {
  added = added;
  given = record { gives = record { row = row; there = at; answer = answer; lines_are = refl; given = is.given row at }; is = refl };
  behind = subst (λ (lines : List LineRecord). AreBehind set.rows lines usims)
      (append_assoc (early ++ beside) own (Give sub n answer ∷ []) ∙ ap (λ (lines : List LineRecord). early ++ beside ++ lines) (sym added)) is.behind;
}

-- ---- a line of a job

-- no further line releases a number that is above its subscriber's greatest one
pub numbers_added : (rows : List Row) (own lines new : List LineRecord) → new ≡ own ++ lines → AreNumbers rows own → AreNumbers rows lines → AreNumbers rows new
numbers_added rows own lines new is before here sub =
    subst (All (λ n. n ≤ top_at rows sub)) (sym (ap (numbers_of sub) is ∙ numbers_of-append sub own lines))
    (All-append (λ n. n ≤ top_at rows sub) (numbers_of sub own) (numbers_of sub lines) (before sub) (here sub))

-- a line that releases no number
pub no_numbers : (rows : List Row) (line : LineRecord) → ((sub : ℕ) → released_by sub line ≡ []) → AreNumbers rows (line ∷ [])
no_numbers rows line none sub =
    subst (λ (ns : List ℕ). All (λ n. n ≤ top_at rows sub) (ns ++ [])) (sym (none sub)) (All-nil (λ n. n ≤ top_at rows sub))

-- lines that were drawn, after a resynchronisation too
pub serves_adds : (goes : ℕ → List Entry → List (ℕ × Stop) → Type 0) (rows : List Row) (early beside own new : List LineRecord) (old kept : ℕ → Option ℕ)
    (released : Released) (usims : ℕ → Option Memory) (Gives : List LineRecord → Type 0)
    → JobStands rows (before_at early beside own) old released usims → AddsLines goes rows kept beside own new Gives
    → ServesLine goes rows (before_at early beside own) kept released usims Gives new
serves_adds goes rows early beside own new old kept released usims Gives s a = record {
  lines = a.lines;
  added = a.added;
  given = a.given;
  made = a.said.made;
  stands = record {
    told = subst (AreTold kept) (append_assoc beside own a.lines ∙ ap (λ (lines : List LineRecord). beside ++ lines) (sym a.added)) a.said.told;
    earlier = s.earlier;
    numbers = (s.numbers.0, numbers_added rows own a.lines new a.added s.numbers.1 a.numbers);
    pasts = subst (λ (lines : List LineRecord). AreBehind rows lines usims)
        (append_assoc (early ++ beside) own a.lines ∙ ap (λ (lines : List LineRecord). early ++ beside ++ lines) (sym a.added))
        (behind_quiet rows (early ++ beside ++ own) a.lines usims a.quiet s.pasts);
  };
}

-- lines of one request and of another that comes after it
pub serves_more : (goes more whole : ℕ → List Entry → List (ℕ × Stop) → Type 0) (rows : List Row) (early beside own between new : List LineRecord) (mid kept : ℕ → Option ℕ)
    (released : Released) (first_usims usims : ℕ → Option Memory) (First Second Whole : List LineRecord → Type 0)
    → ((i : ℕ) (es fs : List Entry) (ws vs : List (ℕ × Stop)) → goes i es ws → more i fs vs → whole i (es ++ fs) (ws ++ vs))
    → ServesLine goes rows (before_at early beside own) mid released first_usims First between
    → (JobStands rows (before_at early beside between) mid released first_usims → ServesLine more rows (before_at early beside between) kept released usims Second new)
    → ((front rest : List LineRecord) → First front → Second rest → Whole (front ++ rest))
    → ServesLine whole rows (before_at early beside own) kept released usims Whole new
serves_more goes more whole rows early beside own between new mid kept released first_usims usims First Second Whole joins first then_more both = record {
  lines = first.lines ++ second.lines;
  added = second.added ∙ ap (λ (lines : List LineRecord). lines ++ second.lines) first.added ∙ append_assoc own first.lines second.lines;
  given = both first.lines second.lines first.given second.given;
  made = λ i. rw (entries_of_lines-append i (beside ++ own) first.lines second.lines, held_of-append i first.lines second.lines)
      (joins i (entries_of_lines i (beside ++ own) first.lines) (entries_of_lines i ((beside ++ own) ++ first.lines) second.lines) (held_of i first.lines) (held_of i second.lines)
      (first.made i) (subst (λ (lines : List LineRecord). more i (entries_of_lines i lines second.lines) (held_of i second.lines)) here (second.made i)));
  stands = second.stands;
}
  where
    second : ServesLine more rows (before_at early beside between) kept released usims Second new
    second = then_more first.stands

    here : beside ++ between ≡ (beside ++ own) ++ first.lines
    here = ap (λ (lines : List LineRecord). beside ++ lines) first.added ∙ sym (append_assoc beside own first.lines)

-- a presented vector
pub serves_give : (goes : ℕ → List Entry → List (ℕ × Stop) → Type 0) (set : Setting) (early beside own new : List LineRecord) (kept : ℕ → Option ℕ)
    (released : Released) (old usims : ℕ → Option Memory) (sub n : ℕ) (answer : GiveVerdict) → ((i : ℕ) → goes i [] [])
    → JobStands set.rows (before_at early beside own) kept released old → AddsGive set (before_at early beside own) sub n answer usims new
    → ServesLine goes set.rows (before_at early beside own) kept released usims (GivesVerdict set (before_at early beside own) sub n answer) new
serves_give goes set early beside own new kept released old usims sub n answer stays s a = record {
  lines = Give sub n answer ∷ [];
  added = a.added;
  given = a.given;
  made = stays;
  stands = record {
    told = λ i. subst (λ (lines : List LineRecord). IsTold i (kept i) lines)
        (append_assoc beside own (Give sub n answer ∷ []) ∙ ap (λ (lines : List LineRecord). beside ++ lines) (sym a.added))
        (told_quiet i (kept i) (beside ++ own) (Give sub n answer) (λ word. refl) (s.told i));
    earlier = s.earlier;
    numbers = (s.numbers.0, numbers_added set.rows own (Give sub n answer ∷ []) new a.added s.numbers.1 (no_numbers set.rows (Give sub n answer) (λ i. refl)));
    pasts = a.behind;
  };
}

-- ---- a job

-- with some lines of a job left, the records so far and what the rest gives are what the job gives
abbrev pub JobGoesOn : Setting → List LineRecord → List LineRecord → Net → List Line → List Line → List LineRecord → Net → Type 0
JobGoesOn set early beside start left job front net =
    (rest : List LineRecord) (last : Net) → JobGives set (before_at early beside front) net left rest last → JobGives set (before_at early beside []) start job (front ++ rest) last

-- what a job has given so far
pub record ServingLines (goes : ℕ → List Entry → List (ℕ × Stop) → Type 0) (set : Setting) (early beside : List LineRecord) (kept : ℕ → Option ℕ) (released : Released) (usims : ℕ → Option Memory)
    (start : Net) (left job : List Line) (lines : List LineRecord) (net : Net) : Type 0 where
  pub goes_on : JobGoesOn set early beside start left job lines net
  pub made : (sub : ℕ) → goes sub (entries_of_lines sub beside lines) (held_of sub lines)
  pub stands : JobStands set.rows (before_at early beside lines) kept released usims

pub job_none : (goes : ℕ → List Entry → List (ℕ × Stop) → Type 0) (set : Setting) (early beside : List LineRecord) (kept : ℕ → Option ℕ) (released : Released) (usims : ℕ → Option Memory)
    (net : Net) (left job : List Line) → left ≡ job → ((i : ℕ) → goes i [] []) → JobStands set.rows (before_at early beside []) kept released usims
    → ServingLines goes set early beside kept released usims net left job [] net
job_none goes set early beside kept released usims net left job is stays s = record {
  goes_on = λ rest last given. subst (λ (lines : List Line). JobGives set (before_at early beside []) net lines rest last) is given;
  made = stays;
  stands = s;
}

pub job_line : (goes more whole : ℕ → List Entry → List (ℕ × Stop) → Type 0) (set : Setting) (early beside : List LineRecord) (mid kept : ℕ → Option ℕ) (released : Released) (old usims : ℕ → Option Memory)
    (start net moved : Net) (line : Line) (left next job : List Line) (front after : List LineRecord)
    → ((i : ℕ) (es fs : List Entry) (ws vs : List (ℕ × Stop)) → goes i es ws → more i fs vs → whole i (es ++ fs) (ws ++ vs))
    → left ≡ line ∷ next → ServingLines goes set early beside mid released old start left job front net
    → (JobStands set.rows (before_at early beside front) mid released old
    → ServesLine more set.rows (before_at early beside front) kept released usims (λ lines. LineGives set (before_at early beside front) net line lines moved) after)
    → ServingLines whole set early beside kept released usims start next job after moved
job_line goes more whole set early beside mid kept released old usims start net moved line left next job front after joins cut serving serves = record {
  goes_on = λ rest last given.
      let behind : JobGives set (before_at early beside (front ++ line_is.lines)) moved next rest last =
      subst (λ (lines : List LineRecord). JobGives set (before_at early beside lines) moved next rest last) line_is.added given in
      let both : JobGives set (before_at early beside front) net (line ∷ next) (line_is.lines ++ rest) last = (line_is.lines, rest, moved, refl, line_is.given, behind) in
      let joined : JobGives set (before_at early beside []) start job (front ++ (line_is.lines ++ rest)) last =
      serving.goes_on (line_is.lines ++ rest) last (subst (λ (lines : List Line). JobGives set (before_at early beside front) net lines (line_is.lines ++ rest) last) (sym cut) both) in
      rw line_is.added (rw append_assoc joined);
  made = λ i. rw line_is.added (rw (entries_of_lines-append i beside front line_is.lines, held_of-append i front line_is.lines)
      (joins i (entries_of_lines i beside front) (entries_of_lines i (beside ++ front) line_is.lines) (held_of i front) (held_of i line_is.lines) (serving.made i) (line_is.made i)));
  stands = line_is.stands;
}
  where
    line_is : ServesLine more set.rows (before_at early beside front) kept released usims (λ lines. LineGives set (before_at early beside front) net line lines moved) after
    line_is = serves serving.stands

pub job_all : (goes : ℕ → List Entry → List (ℕ × Stop) → Type 0) (set : Setting) (early beside : List LineRecord) (kept : ℕ → Option ℕ) (released : Released) (usims : ℕ → Option Memory)
    (start : Net) (left job : List Line) (lines : List LineRecord) (net : Net) → left ≡ [] → ServingLines goes set early beside kept released usims start left job lines net
    → ServesLines goes set early beside kept released usims start job lines net
job_all goes set early beside kept released usims start left job lines net none serving = record {
  given =
      let nothing : JobGives set (before_at early beside lines) net [] [] net = (refl, refl) in
      subst (λ (records : List LineRecord). JobGives set (before_at early beside []) start job records net) (append-nil lines)
      (serving.goes_on [] net (subst (λ (l : List Line). JobGives set (before_at early beside lines) net l [] net) (sym none) nothing));
  made = serving.made;
  stands = serving.stands;
}

-- ---- the jobs

-- ---- lines of which another thing is known

pub serves_as : (goes : ℕ → List Entry → List (ℕ × Stop) → Type 0) (rows : List Row) (before : Before) (kept : ℕ → Option ℕ) (released : Released) (usims : ℕ → Option Memory)
    (Gives Also : List LineRecord → Type 0) (new : List LineRecord) → ((lines : List LineRecord) → Gives lines → Also lines) → ServesLine goes rows before kept released usims Gives new
    → ServesLine goes rows before kept released usims Also new
serves_as goes rows before kept released usims Gives Also new also s = record { lines = s.lines; added = s.added; given = also s.lines s.given; made = s.made; stands = s.stands }

-- that they are the added ones
pub serves_marked : (goes : ℕ → List Entry → List (ℕ × Stop) → Type 0) (rows : List Row) (before : Before) (kept : ℕ → Option ℕ) (released : Released) (usims : ℕ → Option Memory)
    (Gives : List LineRecord → Type 0) (new : List LineRecord) → ServesLine goes rows before kept released usims Gives new
    → ServesLine goes rows before kept released usims (λ lines. (new ≡ before.own ++ lines) × Gives lines) new
serves_marked goes rows before kept released usims Gives new s = record { lines = s.lines; added = s.added; given = (s.added, s.given); made = s.made; stands = s.stands }
