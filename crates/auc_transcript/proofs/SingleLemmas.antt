-- The law of failures without a restart: the rounds are one stretch, and its periods are those between moves.
use Rattle.std.proofs.Common.{◌≡◌, ℕ, ◌≤◌, ◌&&◌, ◌||◌, ◌↔◌, nat_le, not, Bool, true, false, cond, Option, Some, List, [], ◌∷◌, length, filter, map, All, Contains, refl, sym, ◌∙◌, ap, subst, append-nil}
use Rattle.std.specs.Prelude.{slice_get}
use Rattle.std.proofs.lemmas.Bool.{cond-true, leb-true}
use Rattle.std.proofs.lemmas.List.Elements.{All-weaker}
use Rattle.auc_memory.specs.declared.stop.Stop.{Stop}
use Rattle.auc_history.specs.declared.entry.Entry.{Entry}
use Rattle.auc_history.specs.History.{drawn}
use Rattle.auc_history.specs.Split.{all_entries, times}
use Rattle.auc_lines.specs.declared.part.Part.{Part}
use Rattle.auc_sqn.specs.Number.{seq_of, sqn_bytes, top_of}
use Rattle.auc_subs.specs.Subscriber.{AreSubscribers}
use Rattle.auc_subs.specs.declared.row.Row.{Row}
use Rattle.auc_record.specs.declared.record.GiveVerdict.{GiveVerdict}
use Rattle.auc_record.specs.declared.record.LineRecord.{LineRecord}
use Rattle.auc_record.specs.declared.record.PartRecord.TheVariants as record_of
use Rattle.auc_record.specs.declared.record.RoundRecord.{RoundRecord}
use Rattle.auc_world.specs.Given.{UsimAnswers, past_by, verdict_by}
use Rattle.auc_record.specs.Lines.{is_in, accepted, numbers_of}
use Rattle.auc_subs.specs.Setting.{Setting}
use Rattle.auc_world.specs.Transcript.{IsLawful, entries_of, before_first, lines_of, stretches_of}
use Rattle.auc_transcript.specs.Headline.{is_moved, is_later, is_one_period, place_in, place_of, FailsByPlace, IsFailure, IsGenuine, IsInReach, IsStaleBy}
use Rattle.auc_transcript.specs.Rounds.{entries_of_rounds, is_of_later_period, is_of_one_period, place_in_period, FailsByPlaceInRounds, IsInReachInRounds, EachFailureInRoundsIsByPlace}
use Rattle.auc_transcript.proofs.FailureLemmas.{AreDrawn, IsDrawnIn, answered_by, drawn_within, fails_in_stretches, genuine_numbers, presented_answered, presented_released, released_drawn}
use Rattle.auc_transcript.proofs.LineLemmas.{All-times, is_in-from_times, times-from_sqns}
use Rattle.auc_transcript.proofs.PlaceLemmas.{not_moved_down}

-- the stretches of rounds alone
pub one_stretch : (sub : ℕ) (rounds : List RoundRecord) → stretches_of sub (map record_of.Round rounds) ≡ entries_of_rounds sub rounds ∷ []
one_stretch sub [] = refl
one_stretch sub (round ∷ rounds) = ap (before_first (entries_of sub round)) (one_stretch sub rounds)

-- ---- periods

-- two numbers that a stretch drew are of different periods if and only if a move is between them
test_of_both : (first second moved : Bool) → first ≡ true → second ≡ true → ((first && (false || (second && moved))) || false) ≡ moved
test_of_both true true true one other = refl
test_of_both true true false one other = refl
test_of_both true false moved one other = absurd (let no : ⊥ = cc in no)
test_of_both false second moved one other = absurd (let no : ⊥ = cc in no)

later_in_one : (entries : List Entry) (m n : ℕ) → is_in m (drawn entries) ≡ true → is_in n (drawn entries) ≡ true → is_later (entries ∷ []) m n ≡ is_moved entries m n
later_in_one entries m n first second = test_of_both (is_in m (drawn entries)) (is_in n (drawn entries)) (is_moved entries m n) first second

-- with no move between, the second is of no later period, drawn or not
test_of_none : (first second moved : Bool) → moved ≡ false → ((first && (false || (second && moved))) || false) ≡ false
test_of_none true true true none = none
test_of_none true true false none = refl
test_of_none true false moved none = refl
test_of_none false second moved none = refl

not_later_in_one : (entries : List Entry) (m n : ℕ) → is_moved entries m n ≡ false → is_later (entries ∷ []) m n ≡ false
not_later_in_one entries m n none = test_of_none (is_in m (drawn entries)) (is_in n (drawn entries)) (is_moved entries m n) none

-- two drawn numbers are of one period
one_period_in_one : (entries : List Entry) (m n : ℕ) → is_in m (drawn entries) ≡ true → is_in n (drawn entries) ≡ true
    → is_one_period (entries ∷ []) m n ≡ is_of_one_period entries m n
one_period_in_one entries m n first second =
    ap (λ (up : Bool). not up && not (is_later (entries ∷ []) n m)) (later_in_one entries m n first second)
    ∙ ap (λ (down : Bool). not (is_moved entries m n) && not down) (later_in_one entries n m second first)

-- ---- places

-- two tests of which each element passes both or neither
filter_same : (p q : ℕ → Bool) (xs : List ℕ) → ((x : ℕ) → p x ≡ q x) → filter p xs ≡ filter q xs
filter_same p q [] same = refl
filter_same p q (x ∷ xs) same =
    ap (λ (b : Bool). cond b (x ∷ filter p xs) (filter p xs)) (same x) ∙ ap (λ (ys : List ℕ). cond (q x) (x ∷ ys) ys) (filter_same p q xs same)

-- no move begins at a number or above it and below one that isn't above it
counted_same : (low up down : Bool) → (low ≡ true → down ≡ false) → (low && not up) ≡ (low && (not up && not down))
counted_same false up down none = refl
counted_same true false true none = absurd (let is = none refl in let no : ⊥ = cc in no)
counted_same true false false none = refl
counted_same true true down none = refl

-- the place of a number that the stretch drew
place_in_one : (entries : List Entry) (n : ℕ) → is_in n (drawn entries) ≡ true → place_of (entries ∷ []) n ≡ place_in_period entries n
place_in_one entries n there =
    cond-true (is_in n (drawn entries)) (place_in entries n) 0 there
    ∙ ap length (filter_same (λ m. nat_le m n && not (is_moved entries m n)) (λ m. nat_le m n && is_of_one_period entries m n) (drawn entries)
    (λ m. counted_same (nat_le m n) (is_moved entries m n) (is_moved entries n m) (λ low. not_moved_down entries n m (leb-true m n low))))

-- ---- failures

module _ (bits : ℕ) (age : Option ℕ) (entries : List Entry) (numbers : List ℕ) (n : ℕ) (are : AreDrawn bits (entries ∷ []) numbers n) where
  abbrev sqns : List (List ℕ)
  sqns = map (sqn_bytes bits) numbers

  -- the presented number and those that were accepted are found among the drawn ones
  found : (m : ℕ) → IsDrawnIn bits (entries ∷ []) m → is_in m (drawn entries) ≡ true
  found m is = is_in-from_times m (drawn entries) (subst (λ (es : List Entry). 1 ≤ times m (drawn es)) (append-nil entries) is.1)

  found_accepted : (m : ℕ) → m ≤ top_of bits → Contains sqns (sqn_bytes bits m) → is_in m (drawn entries) ≡ true
  found_accepted m within was =
      found m (All-times (IsDrawnIn bits (entries ∷ [])) m numbers are.each (times-from_sqns bits m numbers are.few within (drawn_within bits (entries ∷ []) numbers n are) was))

  -- failures by place
  to_rounds : FailsByPlace bits age (entries ∷ []) sqns n → FailsByPlaceInRounds bits age entries sqns n
  to_rounds fails =
      let m = fails.other in
      let first = found_accepted m fails.within fails.was_accepted in
      let second = found n are.own in
      record {
        other = m;
        within = fails.within;
        was_accepted = fails.was_accepted;
        one_period = sym (one_period_in_one entries m n first second) ∙ fails.one_period;
        stale = subst (λ (p : ℕ). IsStaleBy bits age p (place_in_period entries m)) (place_in_one entries n second)
            (subst (IsStaleBy bits age (place_of (entries ∷ []) n)) (place_in_one entries m first) fails.stale);
      }

  from_rounds : FailsByPlaceInRounds bits age entries sqns n → FailsByPlace bits age (entries ∷ []) sqns n
  from_rounds fails =
      let m = fails.other in
      let first = found_accepted m fails.within fails.was_accepted in
      let second = found n are.own in
      record {
        other = m;
        within = fails.within;
        was_accepted = fails.was_accepted;
        one_period = one_period_in_one entries m n first second ∙ fails.one_period;
        stale = subst (λ (p : ℕ). IsStaleBy bits age p (place_of (entries ∷ []) m)) (sym (place_in_one entries n second))
            (subst (IsStaleBy bits age (place_in_period entries n)) (sym (place_in_one entries m first)) fails.stale);
      }

  -- a number in reach
  reach_from_rounds : (opening : ℕ) → IsInReachInRounds bits entries opening sqns n → IsInReach bits (entries ∷ []) opening sqns n
  reach_from_rounds opening reach = record {
    genuine = subst (λ (es : List Entry). All (IsGenuine bits es) sqns) (sym (append-nil entries)) reach.genuine;
    earlier = All-weaker (λ sqn. is_of_later_period entries n (seq_of bits sqn) ≡ false) (λ sqn. is_later (entries ∷ []) n (seq_of bits sqn) ≡ false)
        (λ sqn none. not_later_in_one entries n (seq_of bits sqn) none) sqns reach.earlier;
    near = reach.near;
    above = reach.above;
  }

  -- the law of one stretch
  pub fails_in_one : (opening : ℕ) (answer : GiveVerdict) → (IsInReach bits (entries ∷ []) opening sqns n → IsFailure answer ↔ FailsByPlace bits age (entries ∷ []) sqns n)
      → IsInReachInRounds bits entries opening sqns n → IsFailure answer ↔ FailsByPlaceInRounds bits age entries sqns n
  fails_in_one opening answer law reach =
      let (to, from) = law (reach_from_rounds opening reach) in (λ failure. to_rounds (to failure), λ fails. from (from_rounds fails))

-- each released vector in reach of a transcript without a restart that the USIM answers by its past fails exactly by its place
pub fails_in_rounds : (set : Setting) (reserved : List ℕ) (stop : Option Stop) (parts : List Part) (rounds : List RoundRecord) (before : List LineRecord) (sub n : ℕ) (row : Row)
    (answer : GiveVerdict) → AreSubscribers set.rows → IsLawful set reserved stop parts (map record_of.Round rounds) → slice_get set.rows sub ≡ Some row
    → 1 ≤ times n (numbers_of sub (lines_of (map record_of.Round rounds)))
    → UsimAnswers row.bits (verdict_by row (past_by row sub before) n) (past_by row sub before) answer
    → IsInReachInRounds row.bits (entries_of_rounds sub rounds) row.usim (accepted row.bits sub before) n
    → IsFailure answer ↔ FailsByPlaceInRounds row.bits row.age (entries_of_rounds sub rounds) (accepted row.bits sub before) n
fails_in_rounds set reserved stop parts rounds before sub n row answer subscribers lawful there released is reach =
    let bits = row.bits in
    let records = map record_of.Round rounds in
    let entries = entries_of_rounds sub rounds in
    let stretches = one_stretch sub rounds in
    let of_drawn = genuine_numbers bits entries (accepted bits sub before) reach.genuine in
    let numbers = of_drawn.numbers in
    let sqns = of_drawn.same in
    let whole : entries ≡ all_entries (stretches_of sub records) = sym (append-nil entries) ∙ ap all_entries (sym stretches) in
    let each = subst (λ (es : List Entry). All (λ m. (m ≤ top_of bits) × (1 ≤ times m (drawn es))) numbers) whole of_drawn.each in
    let drawn_ones = released_drawn set reserved stop parts records sub n row numbers subscribers lawful there released each in
    let law = fails_in_stretches set reserved stop parts records before sub n row answer subscribers lawful there released is in
    let are = subst (λ (ss : List (List Entry)). AreDrawn bits ss numbers n) stretches drawn_ones in
    let of_numbers = subst (λ (xs : List (List ℕ)). IsInReach bits (stretches_of sub records) row.usim xs n → IsFailure answer ↔ FailsByPlace bits row.age (stretches_of sub records) xs n) sqns law in
    let of_one = subst (λ (ss : List (List Entry)). IsInReach bits ss row.usim (map (sqn_bytes bits) numbers) n → IsFailure answer ↔ FailsByPlace bits row.age ss (map (sqn_bytes bits) numbers) n) stretches of_numbers in
    subst (λ (xs : List (List ℕ)). IsInReachInRounds bits entries row.usim xs n → IsFailure answer ↔ FailsByPlaceInRounds bits row.age entries xs n) (sym sqns)
    (fails_in_one bits row.age entries numbers n are row.usim answer of_one) reach

-- each released vector in reach of a transcript without a restart fails exactly by its place
pub each_failure_in_rounds_is_by_place : EachFailureInRoundsIsByPlace
each_failure_in_rounds_is_by_place set reserved stop parts rounds subscribers lawful before sub n answer row presented there reach =
    let records = map record_of.Round rounds in
    let answered = presented_answered set reserved stop parts records before sub n answer lawful presented in
    fails_in_rounds set reserved stop parts rounds before sub n row answer subscribers lawful there (presented_released set records before sub n answer presented answered)
    (answered_by set before sub n answer row there answered) reach
