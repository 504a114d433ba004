-- The law of the USIM: it accepts no SQN twice.
use Rattle.std.proofs.Common.{◌≡◌, ◌≢◌, ◌⊎◌, ℕ, zero, suc, ◌≤◌, ◌==◌, ◌&&◌, nat_le, Bool, true, false, List, [], ◌∷◌, ◌++◌, length, Option, Some, None, All, AllPairs, Contains, refl, sym, ap, subst, ◌∙◌, arith, inl, inr, append_assoc, append-nil}
use Rattle.std.specs.Prelude.{if◌then◌else◌, slice_get}
use Rattle.std.proofs.lemmas.Bool.{and_from, cases_lt, eq-eqb, eqb-true, le-leb, or_left, or_right}
use Rattle.std.proofs.lemmas.List.{get_or_append_left, get_or_push, length_push}
use Rattle.auc_sqn.specs.Number.{ind_of, seq_of, sqn_bytes, top_of}
use Rattle.auc_sqn.specs.Past.{Past, entry_of, is_old, verdict_of}
use Rattle.auc_sqn.specs.declared.verdict.Verdict.{Verdict}
use Rattle.auc_sqn.specs.declared.verdict.Verdict.TheVariants.{Fresh, Old, Far, Aged}
use Rattle.auc_sqn.proofs.Facts.{ind_of-sqn_bytes, seq_of-sqn_bytes}
use Rattle.auc_subs.specs.Subscriber.{IsRow}
use Rattle.auc_subs.specs.declared.row.Row.{Row}
use Rattle.auc_vector.specs.declared.notes.UsimNote.{UsimNote}
use Rattle.auc_vector.specs.declared.notes.UsimNote.TheVariants as usim
use Rattle.auc_record.specs.Event.{sqn_accepted, usim_for}
use Rattle.auc_world.specs.Given.{UsimAnswers, past_by, past_of, verdict_by}
use Rattle.auc_record.specs.Lines.{accepted, accepted_by, numbers_of, taken}
use Rattle.auc_subs.specs.Setting.{Setting}
use Rattle.auc_world.specs.Transcript.{lines_of}
use Rattle.auc_record.specs.declared.event.EventRecord.{EventRecord}
use Rattle.auc_record.specs.declared.record.GiveVerdict.{GiveVerdict}
use Rattle.auc_record.specs.declared.record.GiveVerdict.TheVariants as given
use Rattle.auc_record.specs.declared.record.LineRecord.{LineRecord}
use Rattle.auc_record.specs.declared.record.LineRecord.TheVariants.{Number, Sync, Give, Further, Event}
use Rattle.auc_world.proofs.Facts.{accepted-append, each_accepted_in_past}
use Rattle.auc_transcript.specs.Headline.{EachUsimAcceptsNoneTwice}
use Rattle.auc_transcript.proofs.EventLemmas.{IsEventServed, IsFreshFor}
use Rattle.auc_transcript.proofs.FailureLemmas.{answered_by}
use Rattle.auc_transcript.proofs.LineLemmas.{All-times}
use Rattle.auc_transcript.proofs.ServedLemmas.{AreServed, AreServed-append, IsAnswered, IsServed}
use Rattle.auc_transcript.proofs.VectorLemmas.{numbers_within, row_is, row_within, transcript_served}

-- ---- what is fresh wasn't accepted

-- a SEQ that was accepted with an IND is old
pub old_from_past : (past : Past) (seq ind : ℕ) → Contains past (seq, ind) → is_old past seq ind ≡ true
old_from_past [] seq ind (k, inside, at) = absurd (omega arith)
old_from_past (pair ∷ past) seq ind (zero, inside, at) =
    or_left ((pair.1 == ind) && nat_le seq pair.0) (is_old past seq ind)
    (subst (λ (p : ℕ × ℕ). ((p.1 == ind) && nat_le seq p.0) ≡ true) (sym at) (and_from (ind == ind) (nat_le seq seq) (eq-eqb ind ind refl) (le-leb seq seq (omega arith))))
old_from_past (pair ∷ past) seq ind (suc k, inside, at) =
    or_right ((pair.1 == ind) && nat_le seq pair.0) (is_old past seq ind) (old_from_past past seq ind (k, omega arith, at))

not_fresh : (old : Bool) (entry : ℕ) (other : Verdict) → (if old then Old entry else other) ≡ Fresh → old ≡ true → ⊥
not_fresh true entry other is old = cc
not_fresh false entry other is old = cc

pub fresh_not_old : (age : Option ℕ) (past : Past) (seq ind : ℕ) → verdict_of age past seq ind ≡ Fresh → is_old past seq ind ≡ true → ⊥
fresh_not_old age past seq ind fresh old = not_fresh (is_old past seq ind) (entry_of ind past) _ fresh old

-- a fresh SQN is none of those that were accepted
fresh_is_new : (bits : ℕ) (age : Option ℕ) (opening : ℕ) (sqns : List (List ℕ)) (sqn : List ℕ)
    → verdict_of age (past_of bits opening sqns) (seq_of bits sqn) (ind_of bits sqn) ≡ Fresh → All (λ x. x ≢ sqn) sqns
fresh_is_new bits age opening sqns sqn fresh k d inside = λ same.
    let past = past_of bits opening sqns in
    let there = subst (λ (x : List ℕ). Contains past (seq_of bits x, ind_of bits x)) same (each_accepted_in_past bits opening sqns k d inside) in
    fresh_not_old age past (seq_of bits sqn) (ind_of bits sqn) fresh (old_from_past past (seq_of bits sqn) (ind_of bits sqn) there)

-- a further element that differs from each of a list's
differ-push : {X : Type 0} (xs : List X) (y : X) → AllPairs ◌≢◌ xs → All (λ x. x ≢ y) xs → AllPairs ◌≢◌ (xs ++ y ∷ [])
differ-push xs y differ others i j d before inside =
    let long = length_push xs y in
    elim (cases_lt j (length xs)) [
      | inl early ↦ (λ same. differ i j d before early
          (sym (get_or_append_left xs (y ∷ []) d i (omega (arith, before, early))) ∙ same ∙ get_or_append_left xs (y ∷ []) d j early))
      | inr late ↦ (λ same. let last : j ≡ length xs = omega (arith, long, inside, late) in
          others i d (omega (arith, before, last))
          (sym (get_or_append_left xs (y ∷ []) d i (omega (arith, before, last))) ∙ same ∙ get_or_push xs y d j (sym last)))
    ]

-- ---- what a line accepts

-- a line says that no SQN was accepted, or a fresh one
abbrev AcceptsFresh : Setting → ℕ → ℕ → List LineRecord → LineRecord → Type 0
AcceptsFresh set bits sub before line = (accepted_by bits sub line ≡ []) ⊎ ((sqn : List ℕ) × (accepted_by bits sub line ≡ sqn ∷ []) × IsFreshFor set before sub sqn)

fresh_answer : (bits : ℕ) (v : Verdict) (past : Past) → UsimAnswers bits v past given.Accepted → v ≡ Fresh
fresh_answer bits Fresh past is = refl
fresh_answer bits (Old entry) past (sqn_ms, highest, same) = absurd (let no : ⊥ = cc in no)
fresh_answer bits (Far greatest) past (sqn_ms, highest, same) = absurd (let no : ⊥ = cc in no)
fresh_answer bits (Aged greatest) past (sqn_ms, highest, same) = absurd (let no : ⊥ = cc in no)

same_row : (rows : List Row) (sub : ℕ) (a b : Row) → slice_get rows sub ≡ Some a → slice_get rows sub ≡ Some b → a ≡ b
same_row rows sub a b e f = cc

module _ (set : Setting) (sub : ℕ) (row : Row) (there : slice_get set.rows sub ≡ Some row) (is_row : IsRow row) where
  abbrev bits : ℕ
  bits = row.bits

  -- numbers of the subscriber's vectors, as far as they were released
  abbrev AreWithin : List LineRecord → Type 0
  AreWithin lines = All (λ m. m ≤ top_of bits) (numbers_of sub lines)

  -- a presented number that was accepted
  given_fresh : (before : List LineRecord) (n : ℕ) → AreWithin before → IsAnswered set before sub n given.Accepted → IsFreshFor set before sub (sqn_bytes bits n)
  given_fresh before n within is =
      let past = past_by row sub before in
      let answers = answered_by set before sub n given.Accepted row there is in
      let fits = All-times (λ m. m ≤ top_of bits) n (numbers_of sub before) within is.released in record {
        row = row;
        there = there;
        fresh = ap (λ (seq : ℕ). verdict_of row.age past seq (ind_of bits (sqn_bytes bits n))) (seq_of-sqn_bytes bits n is_row.few fits)
            ∙ ap (λ (ind : ℕ). verdict_of row.age past n ind) (ind_of-sqn_bytes bits n is_row.few fits) ∙ fresh_answer bits (verdict_by row past n) past answers;
      }

  given_accepts : (s n : ℕ) (answer : GiveVerdict) (b : Bool) (before : List LineRecord) → (s == sub) ≡ b → AreWithin before
      → (answer ≢ given.Absent → IsAnswered set before s n answer)
      → ((if b then taken bits n answer else []) ≡ []) ⊎ ((sqn : List ℕ) × ((if b then taken bits n answer else []) ≡ sqn ∷ []) × IsFreshFor set before sub sqn)
  given_accepts s n answer false before mine within is = inl refl
  given_accepts s n (given.Sync sqn_ms) true before mine within is = inl refl
  given_accepts s n given.Absent true before mine within is = inl refl
  given_accepts s n given.Accepted true before mine within is =
      inr (sqn_bytes bits n, refl, given_fresh before n within (subst (λ (k : ℕ). IsAnswered set before k n given.Accepted) (eqb-true s sub mine) (is (λ same. let no : ⊥ = cc in no))))

  event_accepts : (before : List LineRecord) (r : EventRecord) (o : Option UsimNote) → usim_for sub r ≡ o → IsEventServed set before r.result → AcceptsFresh set bits sub before (Event r)
  event_accepts before r None e is = inl (ap sqn_accepted e)
  event_accepts before r (Some (usim.Accepted sqn)) e is = inr (sqn, ap sqn_accepted e, is.fresh sub sqn e)
  event_accepts before r (Some (usim.Sync sqn)) e is = inl (ap sqn_accepted e)
  event_accepts before r (Some usim.WrongMac) e is = inl (ap sqn_accepted e)

  line_accepts : (before : List LineRecord) (line : LineRecord) → AreWithin before → IsServed set before line → AcceptsFresh set bits sub before line
  line_accepts before (Number s note) within is = inl refl
  line_accepts before (Sync s answer) within is = inl refl
  line_accepts before (Give s n answer) within is = given_accepts s n answer (s == sub) before refl within is
  line_accepts before (Further said) within is = inl refl
  line_accepts before (Event r) within is = event_accepts before r (usim_for sub r) refl is

  -- ---- what lines accept

  abbrev taken_by : List LineRecord → List (List ℕ)
  taken_by lines = accepted bits sub lines

  accepted_one : (before : List LineRecord) (line : LineRecord) → taken_by (before ++ line ∷ []) ≡ taken_by before ++ accepted_by bits sub line
  accepted_one before line = accepted-append bits sub before (line ∷ []) ∙ ap (λ (xs : List (List ℕ)). taken_by before ++ xs) (append-nil (accepted_by bits sub line))

  -- a further line
  differ_line : (before : List LineRecord) (line : LineRecord) → AcceptsFresh set bits sub before line → AllPairs ◌≢◌ (taken_by before) → AllPairs ◌≢◌ (taken_by (before ++ line ∷ []))
  differ_line before line (inl none) differ =
      subst (λ (xs : List (List ℕ)). AllPairs ◌≢◌ xs) (sym (accepted_one before line ∙ ap (λ (xs : List (List ℕ)). taken_by before ++ xs) none ∙ append-nil (taken_by before))) differ
  differ_line before line (inr (sqn, one, is)) differ =
      let same = same_row set.rows sub is.row row is.there there in
      let fresh = subst (λ (r : Row). verdict_of r.age (past_by r sub before) (seq_of r.bits sqn) (ind_of r.bits sqn) ≡ Fresh) same is.fresh in
      subst (λ (xs : List (List ℕ)). AllPairs ◌≢◌ xs) (sym (accepted_one before line ∙ ap (λ (xs : List (List ℕ)). taken_by before ++ xs) one))
      (differ-push (taken_by before) sqn differ (fresh_is_new bits row.age row.usim (taken_by before) sqn fresh))

  -- lines after others
  pub differ_lines : (before lines : List LineRecord) → AreServed set [] before → AreServed set before lines → AllPairs ◌≢◌ (taken_by before) → AllPairs ◌≢◌ (taken_by (before ++ lines))
  differ_lines before [] earlier served differ = subst (λ (ls : List LineRecord). AllPairs ◌≢◌ (taken_by ls)) (sym (append-nil before)) differ
  differ_lines before (line ∷ lines) earlier (first, more) differ =
      let within = row_within set.rows sub row (numbers_of sub before) there (numbers_within set sub [] before earlier) in
      subst (λ (ls : List LineRecord). AllPairs ◌≢◌ (taken_by ls)) (append_assoc before (line ∷ []) lines)
      (differ_lines (before ++ line ∷ []) lines (AreServed-append set [] before (line ∷ []) earlier (first, tt)) more (differ_line before line (line_accepts before line within first) differ))

-- no USIM accepts an SQN twice
pub accepts_none_twice : EachUsimAcceptsNoneTwice
accepts_none_twice set reserved stop parts records subscribers lawful sub row there =
    differ_lines set sub row there (row_is set.rows sub row subscribers there) [] (lines_of records) tt (transcript_served set reserved stop parts records lawful)
    (λ i j d before within. absurd (omega arith))
