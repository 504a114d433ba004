-- The law of failures: a released vector in reach fails exactly by its place.
use Rattle.std.proofs.Common.{◌≡◌, ℕ, ◌+◌, ◌-◌, ◌*◌, ◌%◌, ◌/◌, ◌<◌, ◌≤◌, ◌⊎◌, ◌&&◌, ◌↔◌, Bool, true, false, Option, Some, None, List, [], ◌∷◌, get_or, map, All, refl, sym, ◌∙◌, ap, subst, arith, inl, inr, not}
use Rattle.std.specs.Prelude.{fold, max, slice_get}
use Rattle.std.proofs.lemmas.Bool.{cases_lt, le-leb, leb-true}
use Rattle.std.proofs.lemmas.List.Elements.{All-cons, All-contains, All-head, All-nil, All-tail}
use Rattle.std.proofs.lemmas.Option.{slice_get_within}
use Rattle.auc_memory.specs.declared.stop.Stop.{Stop}
use Rattle.auc_history.specs.declared.entry.Entry.{Entry}
use Rattle.auc_history.specs.Split.{all_entries, times}
use Rattle.auc_history.specs.History.{drawn}
use Rattle.auc_sqn.specs.Past.{Past, greatest_of, is_aged, is_old, opening_past, verdict_of}
use Rattle.auc_sqn.specs.Number.{indices, most_bits, seq_of, sqn_bytes, top_of}
use Rattle.auc_sqn.proofs.Facts.{by_bits, seq_of-sqn_bytes}
use Rattle.auc_lines.specs.declared.part.Part.{Part}
use Rattle.auc_subs.specs.Subscriber.{AreSubscribers, top_at}
use Rattle.auc_subs.specs.declared.row.Row.{Row}
use Rattle.auc_subs.proofs.Facts.{top_at-row}
use Rattle.auc_record.specs.declared.record.GiveVerdict.{GiveVerdict}
use Rattle.auc_record.specs.declared.record.LineRecord.{LineRecord}
use Rattle.auc_record.specs.declared.record.LineRecord.TheVariants.{Give}
use Rattle.auc_record.specs.declared.record.PartRecord.{PartRecord}
use Rattle.auc_record.specs.Lines.{accepted, numbers_of}
use Rattle.auc_world.specs.Given.{UsimAnswers, past_by, past_of, verdict_by}
use Rattle.auc_subs.specs.Setting.{Setting}
use Rattle.auc_world.specs.Transcript.{IsLawful, beginning, lines_of, stretches_of}
use Rattle.auc_world.proofs.Facts.{length-opened}
use Rattle.auc_transcript.specs.Headline.{is_later, place_of, FailsByPlace, IsAgedBy, IsGenuine, IsInReach, IsFailure, IsPresented, IsStaleBy, EachFailureIsByPlace}
use Rattle.auc_transcript.proofs.LineLemmas.{All-times, Contains-sqns, times-from_contains, times-from_sqns, times-numbers-append}
use Rattle.auc_transcript.proofs.ServedLemmas.{AreServed, IsAnswered, served_at}
use Rattle.auc_transcript.proofs.StretchLemmas.{AreStretches, go_on_stretches, parts_go_on, records_drawn}
use Rattle.auc_transcript.proofs.UsimLemmas.{IsCovered, fails_where, fold-above, fold-reached, greatest-past_of_numbers, greatest-sqns, old_above, old_if, past_of-sqns, past_of_numbers}
use Rattle.auc_transcript.proofs.PlaceLemmas.{not_later_down, places_apart}
use Rattle.auc_transcript.proofs.VectorLemmas.{numbers_within, row_is, row_within, transcript_served}

-- two numbers are of one period if neither is of a later one than the other
one_period_from : (up down : Bool) → up ≡ false → down ≡ false → (not up && not down) ≡ true
one_period_from up down = grind (arith)

-- only if neither is, two numbers are of one period
one_period_parts : (up down : Bool) → (not up && not down) ≡ true → (up ≡ false) × (down ≡ false)
one_period_parts false false is = (refl, refl)
one_period_parts false true is = absurd (let no : ⊥ = cc in no)
one_period_parts true down is = absurd (let no : ⊥ = cc in no)

-- two numbers with one remainder are whole turns of the index apart
turns_apart : (bits m n : ℕ) → bits ≤ most_bits → n ≤ m → m % indices bits ≡ n % indices bits → m ≡ n + indices bits * ((m - n) / indices bits)
turns_apart bits m n few = by_bits (λ b. n ≤ m → m % indices b ≡ n % indices b → m ≡ n + indices b * ((m - n) / indices b))
    (λ up same. omega arith) (λ up same. omega arith) (λ up same. omega arith) (λ up same. omega arith) (λ up same. omega arith) (λ up same. omega arith) (λ up same. omega arith) bits few

-- and numbers that are whole turns apart have one remainder
turns_same : (bits m n turns : ℕ) → bits ≤ most_bits → m ≡ n + indices bits * turns → m % indices bits ≡ n % indices bits
turns_same bits m n turns few = by_bits (λ b. m ≡ n + indices b * turns → m % indices b ≡ n % indices b)
    (λ is. omega arith) (λ is. omega arith) (λ is. omega arith) (λ is. omega arith) (λ is. omega arith) (λ is. omega arith) (λ is. omega arith) bits few

-- ---- numbers that some stretches drew

-- a number is one that the stretches drew, and that a vector may have
abbrev pub IsDrawnIn : ℕ → List (List Entry) → ℕ → Type 0
IsDrawnIn bits stretches m = (m ≤ top_of bits) × (1 ≤ times m (drawn (all_entries stretches)))

-- the presented number and those that were accepted are such numbers
pub record AreDrawn (bits : ℕ) (stretches : List (List Entry)) (numbers : List ℕ) (n : ℕ) : Type 0 where
  pub few : bits ≤ most_bits
  pub are : AreStretches (top_of bits) stretches
  pub own : IsDrawnIn bits stretches n
  pub each : All (IsDrawnIn bits stretches) numbers

-- each accepted number is one that vectors may have
pub drawn_within : (bits : ℕ) (stretches : List (List Entry)) (numbers : List ℕ) (n : ℕ) → AreDrawn bits stretches numbers n → All (λ m. m ≤ top_of bits) numbers
drawn_within bits stretches numbers n drawn k d inside = (drawn.each k d inside).0

-- ---- failures by place

module _ (bits : ℕ) (age : Option ℕ) (stretches : List (List Entry)) (numbers : List ℕ) (n : ℕ) (all : AreDrawn bits stretches numbers n) where
  abbrev sqns : List (List ℕ)
  sqns = map (sqn_bytes bits) numbers

  -- places are as far apart as numbers
  as_far_apart : (low high : ℕ) → IsDrawnIn bits stretches low → IsDrawnIn bits stretches high → low ≤ high → is_later stretches low high ≡ false
      → place_of stretches high ≡ place_of stretches low + (high - low)
  as_far_apart low high (low_within, low_drawn) (high_within, high_drawn) up none = places_apart (top_of bits) stretches low high all.are up high_within low_drawn high_drawn none

  accepted_drawn : (m : ℕ) → 1 ≤ times m numbers → IsDrawnIn bits stretches m
  accepted_drawn m there = All-times (IsDrawnIn bits stretches) m numbers all.each there

  -- no accepted number is of a later period than the presented one
  abbrev NoneLater : Type 0
  NoneLater = All (λ sqn. is_later stretches n (seq_of bits sqn) ≡ false) sqns

  not_later : NoneLater → (m : ℕ) → 1 ≤ times m numbers → is_later stretches n m ≡ false
  not_later earlier m there =
      ap (is_later stretches n) (sym (seq_of-sqn_bytes bits m all.few (accepted_drawn m there).0))
      ∙ All-contains (λ sqn. is_later stretches n (seq_of bits sqn) ≡ false) sqns (sqn_bytes bits m) earlier (Contains-sqns bits m numbers there)

  fails_by : NoneLater → (m : ℕ) → 1 ≤ times m numbers → n ≤ m → IsStaleBy bits age (place_of stretches n) (place_of stretches m) → FailsByPlace bits age stretches sqns n
  fails_by earlier m there up stale =
      let drawn_m = accepted_drawn m there in record {
        other = m;
        within = drawn_m.0;
        was_accepted = Contains-sqns bits m numbers there;
        one_period = one_period_from (is_later stretches m n) (is_later stretches n m) (not_later_down (top_of bits) stretches m n all.are drawn_m.0 up) (not_later earlier m there);
        stale = stale;
      }

  -- if a number at least as great with the same remainder was accepted, a number fails by its place
  place_from_covered : NoneLater → IsCovered bits numbers n (n % indices bits) → FailsByPlace bits age stretches sqns n
  place_from_covered earlier is =
      let m = is.other in
      let places = as_far_apart n m all.own (accepted_drawn m is.there) is.low (not_later earlier m is.there) in
      let turns = turns_apart bits m n all.few is.low is.same in
      fails_by earlier m is.there is.low (inl ((m - n) / indices bits, omega (arith, places, turns)))

  -- and if the greatest is above it by the age limit or more
  place_from_aged : (opening : ℕ) → opening < n → NoneLater → (limit : Option ℕ) → age ≡ limit → is_aged limit (fold max opening numbers) n ≡ true → FailsByPlace bits age stretches sqns n
  place_from_aged opening above earlier None is aged = absurd (let no : ⊥ = cc in no)
  place_from_aged opening above earlier (Some limit) is aged =
      let high = leb-true (n + limit) (fold max opening numbers) aged in
      let reached = fold-reached opening (n + limit) numbers (omega (arith, above)) high in
      let m = reached.other in
      let up : n ≤ m = omega (arith, reached.high) in
      let places = as_far_apart n m all.own (accepted_drawn m reached.there) up (not_later earlier m reached.there) in
      let later : place_of stretches n + limit ≤ place_of stretches m = omega (arith, places, reached.high) in
      fails_by earlier m reached.there up (inr (subst (λ (a : Option ℕ). IsAgedBy a (place_of stretches n) (place_of stretches m)) (sym is) later))

  -- an accepted number of the period with no lesser place isn't below
  up_by_place : (fails : FailsByPlace bits age stretches sqns n) → 1 ≤ times fails.other numbers → place_of stretches n ≤ place_of stretches fails.other
      → (n ≤ fails.other) × (place_of stretches fails.other ≡ place_of stretches n + (fails.other - n))
  up_by_place fails there rises =
      let m = fails.other in
      let (up, down) = one_period_parts (is_later stretches m n) (is_later stretches n m) fails.one_period in
      elim (cases_lt m n) [
        | inl lower ↦ absurd (let places = as_far_apart m n (accepted_drawn m there) all.own (omega arith) up in let no : ⊥ = omega (arith, places, rises, lower) in no)
        | inr higher ↦ (higher, as_far_apart n m all.own (accepted_drawn m there) higher down)
      ]

  -- a number fails by its place only if it is old or aged
  why_from_place : (opening : ℕ) (limit : Option ℕ) → age ≡ limit → (fails : FailsByPlace bits age stretches sqns n) → 1 ≤ times fails.other numbers
      → IsStaleBy bits limit (place_of stretches n) (place_of stretches fails.other)
      → (is_old (past_of_numbers bits opening numbers) n (n % indices bits) ≡ true) ⊎ (is_aged limit (fold max opening numbers) n ≡ true)
  why_from_place opening limit is fails there (inl (turns, later)) =
      let (low, places) = up_by_place fails there (omega (arith, later)) in
      let apart : fails.other ≡ n + indices bits * turns = omega (arith, low, places, later) in
      inl (old_if bits (opening_past bits opening) numbers n (n % indices bits) fails.other there (turns_same bits fails.other n turns all.few apart) low)
  why_from_place opening None is fails there (inr later) = absurd later
  why_from_place opening (Some limit) is fails there (inr later) =
      let (low, places) = up_by_place fails there (omega (arith, later)) in
      let most = fold-above opening fails.other numbers there in
      inr (le-leb (n + limit) (fold max opening numbers) (omega (arith, low, places, later, most)))

  -- a presented number in reach fails exactly by its place
  pub fails_exactly : (opening : ℕ) (answer : GiveVerdict) → IsInReach bits stretches opening sqns n
      → UsimAnswers bits (verdict_of age (past_of_numbers bits opening numbers) n (n % indices bits)) (past_of_numbers bits opening numbers) answer
      → IsFailure answer ↔ FailsByPlace bits age stretches sqns n
  fails_exactly opening answer reach answers =
      let past = past_of_numbers bits opening numbers in
      let greatest = greatest-past_of_numbers bits opening numbers in
      let same = greatest-sqns bits all.few opening numbers (drawn_within bits stretches numbers n all) in
      let near = reach.near in
      let (to, from) = fails_where bits age past n (n % indices bits) answer (omega (arith, greatest, near, same)) answers in (
        λ failure. by (to failure),
        λ fails.
            let there = times-from_sqns bits fails.other numbers all.few fails.within (drawn_within bits stretches numbers n all) fails.was_accepted in
            from (subst (λ (g : ℕ). (is_old past n (n % indices bits) ≡ true) ⊎ (is_aged age g n ≡ true)) (sym greatest) (why_from_place opening age refl fails there fails.stale)),
      )
    where
      by : (is_old (past_of_numbers bits opening numbers) n (n % indices bits) ≡ true) ⊎ (is_aged age (greatest_of (past_of_numbers bits opening numbers)) n ≡ true)
          → FailsByPlace bits age stretches sqns n
      by (inl old) = place_from_covered reach.earlier (old_above bits opening numbers n (n % indices bits) reach.above old)
      by (inr aged) =
          place_from_aged opening reach.above reach.earlier age refl (subst (λ (g : ℕ). is_aged age g n ≡ true) (greatest-past_of_numbers bits opening numbers) aged)

-- ---- SQNs of drawn numbers

-- SQNs are those of drawn numbers
pub record AreOfDrawn (bits : ℕ) (entries : List Entry) (sqns : List (List ℕ)) : Type 0 where
  pub numbers : List ℕ
  pub same : sqns ≡ map (sqn_bytes bits) numbers
  pub each : All (λ m. (m ≤ top_of bits) × (1 ≤ times m (drawn entries))) numbers

pub genuine_numbers : (bits : ℕ) (entries : List Entry) (sqns : List (List ℕ)) → All (IsGenuine bits entries) sqns → AreOfDrawn bits entries sqns
genuine_numbers bits entries [] genuine = record { numbers = []; same = refl; each = All-nil (λ m. (m ≤ top_of bits) × (1 ≤ times m (drawn entries))) }
genuine_numbers bits entries (sqn ∷ sqns) genuine =
    let (m, within, there, is) = All-head (IsGenuine bits entries) sqn sqns genuine in
    let rest = genuine_numbers bits entries sqns (All-tail (IsGenuine bits entries) sqn sqns genuine) in record {
      numbers = m ∷ rest.numbers;
      same = ap (λ (x : List ℕ). x ∷ sqns) is ∙ ap (λ (xs : List (List ℕ)). sqn_bytes bits m ∷ xs) rest.same;
      each = All-cons (λ k. (k ≤ top_of bits) × (1 ≤ times k (drawn entries))) m rest.numbers (within, times-from_contains m (drawn entries) there) rest.each;
    }

-- ---- transcripts

-- the number of a vector was drawn
pub vector_is_drawn : (top sub : ℕ) (records : List PartRecord) (m : ℕ) → All (λ k. k ≤ top) (numbers_of sub (lines_of records)) → 1 ≤ times m (numbers_of sub (lines_of records))
    → (m ≤ top) × (1 ≤ times m (drawn (all_entries (stretches_of sub records))))
vector_is_drawn top sub records m within there =
    let more = records_drawn m sub records in (All-times (λ k. k ≤ top) m (numbers_of sub (lines_of records)) within there, omega (arith, more, there))

-- a released number, and numbers of which each was drawn
pub released_drawn : (set : Setting) (reserved : List ℕ) (stop : Option Stop) (parts : List Part) (records : List PartRecord) (sub n : ℕ) (row : Row) (numbers : List ℕ)
    → AreSubscribers set.rows → IsLawful set reserved stop parts records → slice_get set.rows sub ≡ Some row → 1 ≤ times n (numbers_of sub (lines_of records))
    → All (IsDrawnIn row.bits (stretches_of sub records)) numbers → AreDrawn row.bits (stretches_of sub records) numbers n
released_drawn set reserved stop parts records sub n row numbers subscribers lawful there released all =
    let first = beginning set.rows reserved in
    let go = parts_go_on set stop sub first parts records lawful.0 (slice_get_within set.rows sub row there) (length-opened set.rows reserved) lawful.1 in
    let within = row_within set.rows sub row (numbers_of sub (lines_of records)) there
    (numbers_within set sub [] (lines_of records) (transcript_served set reserved stop parts records lawful)) in
    record {
      few = (row_is set.rows sub row subscribers there).few;
      are = subst (λ (top : ℕ). AreStretches top (stretches_of sub records)) (top_at-row set.rows sub row there)
          (go_on_stretches (top_at set.rows sub) (get_or first.openings sub 0) (numbers_of sub first.early) (stretches_of sub records) go);
      own = vector_is_drawn (top_of row.bits) sub records n within released;
      each = all;
    }

-- each released vector in reach that the USIM answers by its past fails exactly by its place
pub fails_in_stretches : (set : Setting) (reserved : List ℕ) (stop : Option Stop) (parts : List Part) (records : List PartRecord) (before : List LineRecord) (sub n : ℕ) (row : Row)
    (answer : GiveVerdict) → AreSubscribers set.rows → IsLawful set reserved stop parts records → slice_get set.rows sub ≡ Some row → 1 ≤ times n (numbers_of sub (lines_of records))
    → UsimAnswers row.bits (verdict_by row (past_by row sub before) n) (past_by row sub before) answer
    → IsInReach row.bits (stretches_of sub records) row.usim (accepted row.bits sub before) n
    → IsFailure answer ↔ FailsByPlace row.bits row.age (stretches_of sub records) (accepted row.bits sub before) n
fails_in_stretches set reserved stop parts records before sub n row answer subscribers lawful there released is reach =
    let bits = row.bits in
    let stretches = stretches_of sub records in
    let of_drawn = genuine_numbers bits (all_entries stretches) (accepted bits sub before) reach.genuine in
    let numbers = of_drawn.numbers in
    let sqns = of_drawn.same in
    let are = released_drawn set reserved stop parts records sub n row numbers subscribers lawful there released of_drawn.each in
    let past_is = ap (past_of bits row.usim) sqns ∙ past_of-sqns bits are.few row.usim numbers (drawn_within bits stretches numbers n are) in
    let answers = subst (λ (past : Past). UsimAnswers bits (verdict_by row past n) past answer) past_is is in
    subst (λ (accepted_sqns : List (List ℕ)). IsFailure answer ↔ FailsByPlace bits row.age stretches accepted_sqns n) (sym sqns)
    (fails_exactly bits row.age stretches numbers n are row.usim answer
    (subst (λ (accepted_sqns : List (List ℕ)). IsInReach bits stretches row.usim accepted_sqns n) sqns reach) answers)

-- a presented vector was answered by its USIM
pub presented_answered : (set : Setting) (reserved : List ℕ) (stop : Option Stop) (parts : List Part) (records : List PartRecord) (before : List LineRecord) (sub n : ℕ)
    (answer : GiveVerdict) → IsLawful set reserved stop parts records → IsPresented records before sub n answer → IsAnswered set before sub n answer
presented_answered set reserved stop parts records before sub n answer lawful presented =
    let served = subst (λ (ls : List LineRecord). AreServed set [] ls) presented.lines_are (transcript_served set reserved stop parts records lawful) in
    served_at set [] before presented.after (Give sub n answer) served presented.released

-- it was released
pub presented_released : (set : Setting) (records : List PartRecord) (before : List LineRecord) (sub n : ℕ) (answer : GiveVerdict) → IsPresented records before sub n answer
    → IsAnswered set before sub n answer → 1 ≤ times n (numbers_of sub (lines_of records))
presented_released set records before sub n answer presented answered =
    let released = answered.released in
    let cut = ap (λ (ls : List LineRecord). times n (numbers_of sub ls)) presented.lines_are ∙ times-numbers-append n sub before (Give sub n answer ∷ presented.after) in
    omega (arith, cut, released)

-- the answer is that of the subscriber's row
pub answered_by : (set : Setting) (before : List LineRecord) (sub n : ℕ) (answer : GiveVerdict) (row : Row) → slice_get set.rows sub ≡ Some row → IsAnswered set before sub n answer
    → UsimAnswers row.bits (verdict_by row (past_by row sub before) n) (past_by row sub before) answer
answered_by set before sub n answer row there answered =
    let same : answered.row ≡ row = let one = answered.there in cc in
    subst (λ (r : Row). UsimAnswers r.bits (verdict_by r (past_by r sub before) n) (past_by r sub before) answer) same answered.answers

-- each released vector in reach gets a synchronisation failure if and only if it fails by its place
pub each_failure_is_by_place : EachFailureIsByPlace
each_failure_is_by_place set reserved stop parts records subscribers lawful before sub n answer row presented there reach =
    let answered = presented_answered set reserved stop parts records before sub n answer lawful presented in
    fails_in_stretches set reserved stop parts records before sub n row answer subscribers lawful there (presented_released set records before sub n answer presented answered)
    (answered_by set before sub n answer row there answered) reach
