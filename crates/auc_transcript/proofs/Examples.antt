-- Transcripts of one subscriber, by hand: their stretches, where periods end, which places numbers have, and what the
-- USIM answers by what it accepted. The USIM is opened at 0, and nothing was reserved. Where nothing else is said, its index has 5
-- bits, and it has no age limit.
use Rattle.std.proofs.Common.{◌≡◌, ℕ, zero, suc, ◌+◌, ◌-◌, ◌%◌, ◌<◌, ◌≤◌, ◌⊎◌, true, false, Some, None, List, [], ◌∷◌, ◌++◌, map, get_or, max, All, refl, arith, inl, inr}
use Rattle.std.proofs.lemmas.List.Elements.{All-nil}
use Rattle.auc_history.specs.declared.entry.Entry.{Entry}
use Rattle.auc_history.specs.declared.entry.Entry.TheVariants.{Drawn, Moved, Look}
use Rattle.auc_history.specs.History.{numbers_after}
use Rattle.auc_sqn.specs.Number.{max_seq, sqn_bytes}
use Rattle.auc_sqn.specs.Past.{numbers_to, opening_past, verdict_of, zeros}
use Rattle.auc_sqn.specs.declared.verdict.Verdict.{Verdict}
use Rattle.auc_sqn.specs.declared.verdict.Verdict.TheVariants.{Fresh, Old, Aged}
use Rattle.auc_subs.specs.declared.row.Row.{Row}
use Rattle.auc_record.specs.declared.record.GiveVerdict.TheVariants as given
use Rattle.auc_record.specs.declared.record.LineRecord.{LineRecord}
use Rattle.auc_record.specs.declared.record.LineRecord.TheVariants.{Number, Sync, Give}
use Rattle.auc_vector.specs.declared.notes.NumberNote.TheVariants as number
use Rattle.auc_record.specs.declared.record.PartRecord.{PartRecord}
use Rattle.auc_record.specs.declared.record.PartRecord.TheVariants.{Round, Restart}
use Rattle.auc_record.specs.declared.record.Premise.TheVariants as premise
use Rattle.auc_vector.specs.declared.notes.ResyncNote.TheVariants as resync
use Rattle.auc_world.specs.Given.{past_of}
use Rattle.auc_world.specs.Limits.{Raises}
use Rattle.auc_record.specs.Lines.{accepted, numbers_of}
use Rattle.auc_world.specs.Transcript.{stretches_of}
use Rattle.auc_transcript.specs.Headline.{FailsByPlace, is_later, is_one_period, place_of}

-- ---- how transcripts and verdicts are written here

-- so many numbers, rising from the one after a number, as entries and as vectors
abbrev draws : ℕ → ℕ → List Entry
draws from count = map Drawn (numbers_after from count)

abbrev vectors : ℕ → ℕ → List LineRecord
vectors from count = map (λ n. Number 0 (number.Drew n)) (numbers_after from count)

-- a move of the subscriber's number
abbrev moved : ℕ → ℕ → List LineRecord
moved from to = Sync 0 (resync.Moved from to) ∷ []

-- a round of one job without sessions, and without its closings
abbrev round_of : ℕ → List LineRecord → PartRecord
round_of number lines = Round (record { number = number; jobs = lines ∷ []; closings = []; sessions = []; premise = premise.NoSession })

-- the USIM accepts the SQN of a number
abbrev accepts : ℕ → List LineRecord
accepts n = Give 0 n given.Accepted ∷ []

-- the USIM's verdict on the SQN of a number, after some lines
abbrev answer_after : List LineRecord → ℕ → Verdict
answer_after before n = verdict_of None (past_of 5 0 (accepted 5 0 before)) n (n % 32)

-- ---- five numbers, a restart that opens at 64, five numbers

abbrev drawn_twice : List PartRecord
drawn_twice = round_of 1 (vectors 0 5) ∷ Restart ∷ round_of 2 (vectors 64 5) ∷ []

drawn_twice_stretches : stretches_of 0 drawn_twice ≡ draws 0 5 ∷ draws 64 5 ∷ []
drawn_twice_stretches = refl

-- 69 has the IND of 5
drawn_twice_first : answer_after [] 69 ≡ Fresh
unfolding opening_past numbers_to zeros
drawn_twice_first = refl

drawn_twice_second : answer_after (accepts 69) 5 ≡ Old 69
unfolding opening_past numbers_to zeros
drawn_twice_second = refl

-- 69 is of a later period, so 5 isn't in reach
drawn_twice_ends : is_later (stretches_of 0 drawn_twice) 5 69 ≡ true
drawn_twice_ends = refl

drawn_twice_back : is_later (stretches_of 0 drawn_twice) 69 5 ≡ false
drawn_twice_back = refl

-- the fifth numbers of the two periods have one place
drawn_twice_places : place_of (stretches_of 0 drawn_twice) 5 ≡ place_of (stretches_of 0 drawn_twice) 69
drawn_twice_places = refl

-- ---- one number, moves to 80 and to 500, a restart that opens at 64, forty numbers

abbrev moved_past : List PartRecord
moved_past = round_of 1 (vectors 0 1 ++ moved 1 80 ++ moved 80 500) ∷ Restart ∷ round_of 2 (vectors 64 40) ∷ []

moved_past_stretches : stretches_of 0 moved_past ≡ (Drawn 1 ∷ Moved 1 80 ∷ Moved 80 500 ∷ []) ∷ draws 64 40 ∷ []
moved_past_stretches = refl

-- the move that began at 80 ends no period of the numbers 65 to 104: 98 is 32 places after 66
moved_past_first : answer_after [] 98 ≡ Fresh
unfolding opening_past numbers_to zeros
moved_past_first = refl

moved_past_second : answer_after (accepts 98) 66 ≡ Old 98
unfolding opening_past numbers_to zeros
moved_past_second = refl

moved_past_fails : FailsByPlace 5 None (stretches_of 0 moved_past) (accepted 5 0 (accepts 98)) 66
moved_past_fails = record { other = 98; within = omega arith; was_accepted = (0, omega arith, refl); one_period = refl; stale = inl (1, refl) }

moved_past_place : place_of (stretches_of 0 moved_past) 98 ≡ 34
moved_past_place = refl

moved_past_ends : is_later (stretches_of 0 moved_past) 1 66 ≡ true
moved_past_ends = refl

-- ---- a move to 500 and no number, a restart that opens at 0, three numbers

abbrev moved_only : List PartRecord
moved_only = round_of 1 (moved 0 500) ∷ Restart ∷ round_of 2 (vectors 0 3) ∷ []

moved_only_stretches : stretches_of 0 moved_only ≡ (Moved 0 500 ∷ []) ∷ draws 0 3 ∷ []
moved_only_stretches = refl

-- 3 is two places after 1, and so 1 doesn't fail
moved_only_first : answer_after [] 3 ≡ Fresh
unfolding opening_past numbers_to zeros
moved_only_first = refl

moved_only_second : answer_after (accepts 3) 1 ≡ Fresh
unfolding opening_past numbers_to zeros
moved_only_second = refl

moved_only_one : is_one_period (stretches_of 0 moved_only) 1 3 ≡ true
moved_only_one = refl

moved_only_place : place_of (stretches_of 0 moved_only) 3 ≡ place_of (stretches_of 0 moved_only) 1 + 2
moved_only_place = refl

-- ---- moves to 500 and to 600, a restart that opens at 0, 600 numbers

abbrev moved_twice : List PartRecord
moved_twice = round_of 1 (moved 0 500 ++ moved 500 600) ∷ Restart ∷ round_of 2 (vectors 0 600) ∷ []

-- the move that began at 500 ends no period of the numbers 1 to 600: 522 is 32 places after 490
moved_twice_first : answer_after [] 522 ≡ Fresh
unfolding opening_past numbers_to zeros
moved_twice_first = refl

moved_twice_second : answer_after (accepts 522) 490 ≡ Old 522
unfolding opening_past numbers_to zeros
moved_twice_second = refl

moved_twice_fails : FailsByPlace 5 None (stretches_of 0 moved_twice) (accepted 5 0 (accepts 522)) 490
moved_twice_fails = record { other = 522; within = omega arith; was_accepted = (0, omega arith, refl); one_period = refl; stale = inl (1, refl) }

-- ---- two restarts: forty numbers, a restart that opens at 64, two numbers, a restart that opens at 128, forty numbers

abbrev restarted_twice : List PartRecord
restarted_twice = round_of 1 (vectors 0 40) ∷ Restart ∷ round_of 2 (vectors 64 2) ∷ Restart ∷ round_of 3 (vectors 128 40) ∷ []

restarted_twice_stretches : stretches_of 0 restarted_twice ≡ draws 0 40 ∷ draws 64 2 ∷ draws 128 40 ∷ []
restarted_twice_stretches = refl

-- within the first stretch 33 is 32 places after 1
restarted_twice_first : answer_after (accepts 33) 1 ≡ Old 33
unfolding opening_past numbers_to zeros
restarted_twice_first = refl

restarted_twice_fails : FailsByPlace 5 None (stretches_of 0 restarted_twice) (accepted 5 0 (accepts 33)) 1
restarted_twice_fails = record { other = 33; within = omega arith; was_accepted = (0, omega arith, refl); one_period = refl; stale = inl (1, refl) }

-- 65 has their IND; it is of the second period, and its place there is 1
restarted_twice_second : answer_after (accepts 33) 65 ≡ Fresh
unfolding opening_past numbers_to zeros
restarted_twice_second = refl

restarted_twice_place : place_of (stretches_of 0 restarted_twice) 65 ≡ 1
restarted_twice_place = refl

restarted_twice_ends : is_later (stretches_of 0 restarted_twice) 33 65 ≡ true
restarted_twice_ends = refl

-- 161 is 32 places after 129, both of the third period
restarted_twice_third : answer_after (accepts 33 ++ accepts 65) 161 ≡ Fresh
unfolding opening_past numbers_to zeros
restarted_twice_third = refl

restarted_twice_last : answer_after (accepts 33 ++ accepts 65 ++ accepts 161) 129 ≡ Old 161
unfolding opening_past numbers_to zeros
restarted_twice_last = refl

restarted_twice_fails_again : FailsByPlace 5 None (stretches_of 0 restarted_twice) (accepted 5 0 (accepts 33 ++ accepts 65 ++ accepts 161)) 129
restarted_twice_fails_again = record { other = 161; within = omega arith; was_accepted = (2, omega arith, refl); one_period = refl; stale = inl (1, refl) }

-- 161 is of a later period than 65, so 65 isn't in reach any more
restarted_twice_ends_again : is_later (stretches_of 0 restarted_twice) 65 161 ≡ true
restarted_twice_ends_again = refl

restarted_twice_back : is_later (stretches_of 0 restarted_twice) 161 65 ≡ false
restarted_twice_back = refl

-- ---- two restarts and moves: moves to 180 and to 500, a restart that opens at 0, two numbers, a move from 2 to 100, two
-- numbers, a restart that opens at 166, forty numbers

abbrev moved_and_restarted : List PartRecord
moved_and_restarted =
    round_of 1 (moved 0 180 ++ moved 180 500) ∷ Restart ∷ round_of 2 (vectors 0 2) ∷ round_of 3 (moved 2 100 ++ vectors 100 2) ∷ Restart ∷ round_of 4 (vectors 166 40) ∷ []

moved_and_restarted_stretches : stretches_of 0 moved_and_restarted ≡ (Moved 0 180 ∷ Moved 180 500 ∷ []) ∷ (draws 0 2 ++ Moved 2 100 ∷ draws 100 2) ∷ draws 166 40 ∷ []
moved_and_restarted_stretches = refl

-- 101 is the first number after a move of its stretch
moved_and_restarted_ends : is_later (stretches_of 0 moved_and_restarted) 2 101 ≡ true
moved_and_restarted_ends = refl

moved_and_restarted_place : place_of (stretches_of 0 moved_and_restarted) 101 ≡ 1
moved_and_restarted_place = refl

-- 167 is the first number after a restart
moved_and_restarted_ends_again : is_later (stretches_of 0 moved_and_restarted) 102 167 ≡ true
moved_and_restarted_ends_again = refl

moved_and_restarted_place_again : place_of (stretches_of 0 moved_and_restarted) 167 ≡ 1
moved_and_restarted_place_again = refl

-- the move that began at 180 ends no period of the numbers 167 to 206: 199 is 32 places after 167
moved_and_restarted_first : answer_after (accepts 2 ++ accepts 101) 199 ≡ Fresh
unfolding opening_past numbers_to zeros
moved_and_restarted_first = refl

moved_and_restarted_second : answer_after (accepts 2 ++ accepts 101 ++ accepts 199) 167 ≡ Old 199
unfolding opening_past numbers_to zeros
moved_and_restarted_second = refl

moved_and_restarted_fails : FailsByPlace 5 None (stretches_of 0 moved_and_restarted) (accepted 5 0 (accepts 2 ++ accepts 101 ++ accepts 199)) 167
moved_and_restarted_fails = record { other = 199; within = omega arith; was_accepted = (2, omega arith, refl); one_period = refl; stale = inl (1, refl) }

-- 198 is 31 places after 167, and so it doesn't make 167 fail
moved_and_restarted_other : answer_after (accepts 198) 167 ≡ Fresh
unfolding opening_past numbers_to zeros
moved_and_restarted_other = refl

-- ---- four numbers, and an age limit of 3

abbrev drawn_once : List PartRecord
drawn_once = round_of 1 (vectors 0 4) ∷ []

-- the verdict with this age limit
abbrev answer_of_age : List LineRecord → ℕ → Verdict
answer_of_age before n = verdict_of (Some 3) (past_of 5 0 (accepted 5 0 before)) n (n % 32)

-- 4 is three places after 1
aged_first : answer_of_age (accepts 4) 1 ≡ Aged 4
unfolding opening_past numbers_to zeros
aged_first = refl

aged_fails : FailsByPlace 5 (Some 3) (stretches_of 0 drawn_once) (accepted 5 0 (accepts 4)) 1
aged_fails = record { other = 4; within = omega arith; was_accepted = (0, omega arith, refl); one_period = refl; stale = inr (omega arith) }

-- and two places after 2
aged_other : answer_of_age (accepts 4) 2 ≡ Fresh
unfolding opening_past numbers_to zeros
aged_other = refl

-- ---- two numbers, and an index of no bits

abbrev answer_of_none : List LineRecord → ℕ → Verdict
answer_of_none before n = verdict_of None (past_of 0 0 (accepted 0 0 before)) n (n % 1)

-- each number has the one IND, so 1 is old after 2
none_first : answer_of_none (accepts 2) 1 ≡ Old 2
unfolding opening_past numbers_to zeros
none_first = refl

none_fails : FailsByPlace 0 None (stretches_of 0 drawn_once) (accepted 0 0 (accepts 2)) 1
none_fails = record { other = 2; within = omega arith; was_accepted = (0, omega arith, refl); one_period = refl; stale = inl (1, refl) }

-- ---- marks

-- the second number above the greatest has the SQN of 1, if an index has 5 bits: the number that fails another by its place is no mark
mark_has_a_lesser_sqn : sqn_bytes 5 (max_seq + 2) ≡ sqn_bytes 5 1
mark_has_a_lesser_sqn = refl

-- ---- stretches of rounds with several jobs, and of a restart at the end

abbrev some_records : List PartRecord
some_records =
    round_of 1 (moved 0 500) ∷ Restart ∷ Round (record { number = 2; jobs = (Sync 0 (resync.InRange 0 0) ∷ []) ∷ moved 0 7 ∷ []; closings = []; sessions = []; premise = premise.NoSession })
    ∷ round_of 3 (vectors 7 1) ∷ Restart ∷ []

some_stretches : stretches_of 0 some_records ≡ (Moved 0 500 ∷ []) ∷ (Look 0 ∷ Moved 0 7 ∷ Drawn 8 ∷ []) ∷ [] ∷ []
some_stretches = refl

-- ---- limits of one subscriber

-- a limit of one subscriber is one that a restart may have if it meets the four facts for it
restart_may : (row : Row) (early : List LineRecord) (limit high next : ℕ) → (next ≡ limit) ⊎ ((next ≡ max_seq) ⊎ (limit + 64 ≤ next)) → All (λ n. n ≤ next) (numbers_of 0 early)
    → next ≤ max limit (high + 64) → next ≤ max_seq → Raises (row ∷ []) early (limit ∷ []) (high ∷ []) (next ∷ [])
restart_may row early limit high next step covers near within = record {
  step = λ sub inside. first (λ (s : ℕ). (get_or (next ∷ []) s 0 ≡ get_or (limit ∷ []) s 0) ⊎ ((get_or (next ∷ []) s 0 ≡ max_seq) ⊎ (get_or (limit ∷ []) s 0 + 64 ≤ get_or (next ∷ []) s 0))) step sub inside;
  released = λ sub inside. first (λ (s : ℕ). All (λ n. n ≤ get_or (next ∷ []) s 0) (numbers_of s early)) covers sub inside;
  near = λ sub inside. first (λ (s : ℕ). get_or (next ∷ []) s 0 ≤ max (get_or (limit ∷ []) s 0) (get_or (high ∷ []) s 0 + 64)) near sub inside;
  within = λ sub inside. first (λ (s : ℕ). get_or (next ∷ []) s 0 ≤ max_seq) within sub inside;
}
  where
    first : (P : ℕ → Type 0) → P 0 → (sub : ℕ) → sub < 1 → P sub
    first P there zero inside = there
    first P there (suc sub) inside = absurd (omega arith)

-- after a move to 500 and no number the limit may stay at 0, or be 64 to 564
stays : (row : Row) → Raises (row ∷ []) [] (0 ∷ []) (500 ∷ []) (0 ∷ [])
stays row = restart_may row [] 0 500 0 (inl refl) (All-nil (λ n. n ≤ 0)) (omega arith) (omega arith)

rises : (row : Row) → Raises (row ∷ []) [] (0 ∷ []) (500 ∷ []) (64 ∷ [])
rises row = restart_may row [] 0 500 64 (inr (inr (omega arith))) (All-nil (λ n. n ≤ 64)) (omega arith) (omega arith)

rises_furthest : (row : Row) → Raises (row ∷ []) [] (0 ∷ []) (500 ∷ []) (564 ∷ [])
rises_furthest row = restart_may row [] 0 500 564 (inr (inr (omega arith))) (All-nil (λ n. n ≤ 564)) (omega arith) (omega arith)

-- it may not be 63 or 565
no_small_step : (row : Row) → Raises (row ∷ []) [] (0 ∷ []) (500 ∷ []) (63 ∷ []) → ⊥
no_small_step row raises = elim (raises.step 0 (omega arith)) [
  | inl same ↦ omega (arith, same)
  | inr other ↦ elim other [
    | inl greatest ↦ omega (arith, greatest)
    | inr far ↦ omega (arith, far)
  ]
]

no_further : (row : Row) → Raises (row ∷ []) [] (0 ∷ []) (500 ∷ []) (565 ∷ []) → ⊥
no_further row raises = let near = raises.near 0 (omega arith) in omega (arith, near)

not_to_the_greatest : (row : Row) → Raises (row ∷ []) [] (0 ∷ []) (500 ∷ []) (max_seq ∷ []) → ⊥
not_to_the_greatest row raises = let near = raises.near 0 (omega arith) in omega (arith, near)

-- a restart whose limit doesn't show can't lead from 428 to 491: its limit is 428, or at least 492
no_two_steps : (row : Row) (mid : ℕ) → Raises (row ∷ []) [] (428 ∷ []) (428 ∷ []) (mid ∷ []) → Raises (row ∷ []) [] (mid ∷ []) (428 ∷ []) (491 ∷ []) → ⊥
no_two_steps row mid raises again = elim (raises.step 0 (omega arith)) [
  | inl same ↦ last (inl same)
  | inr other ↦ elim other [
    | inl greatest ↦ last (inr (omega (arith, greatest)))
    | inr far ↦ last (inr (omega (arith, far)))
  ]
]
  where
    last : (mid ≡ 428) ⊎ (492 ≤ mid) → ⊥
    last (inl low) = elim (again.step 0 (omega arith)) [
      | inl same ↦ omega (arith, same, low)
      | inr other ↦ elim other [
        | inl greatest ↦ omega (arith, greatest)
        | inr far ↦ omega (arith, far, low)
      ]
    ]
    last (inr high) = elim (again.step 0 (omega arith)) [
      | inl same ↦ omega (arith, same, high)
      | inr other ↦ elim other [
        | inl greatest ↦ omega (arith, greatest)
        | inr far ↦ omega (arith, far, high)
      ]
    ]

-- a released number is covered: the limit can't stay at 0 after a vector
not_after_a_vector : (row : Row) (n : ℕ) → 1 ≤ n → Raises (row ∷ []) (Number 0 (number.Drew n) ∷ []) (0 ∷ []) (5 ∷ []) (0 ∷ []) → ⊥
not_after_a_vector row n first raises = let low = raises.released 0 (omega arith) 0 0 (omega arith) in omega (arith, first, low)

-- near the top the limit may be the greatest number, also by a lesser step
up_to_the_top : (row : Row) → Raises (row ∷ []) [] ((max_seq - 10) ∷ []) (max_seq ∷ []) (max_seq ∷ [])
up_to_the_top row = restart_may row [] (max_seq - 10) max_seq max_seq (inr (inl refl)) (All-nil (λ n. n ≤ max_seq)) (omega arith) (omega arith)
