-- For the witnesses of age limits: an accepted number that is three places later makes a vector fail, and one that is two later doesn't.
use Rattle.std.proofs.Common.{◌≡◌, ◌≢◌, ℕ, zero, suc, ◌≤◌, false, [], ◌∷◌, Contains, Some, None, refl, sym, subst, arith, inl, inr}
use Rattle.std.proofs.lemmas.List.Elements.{All-cons, All-nil}
use Rattle.auc_history.specs.Split.{all_entries}
use Rattle.auc_sqn.specs.Number.{seq_of, sqn_bytes, top_of}
use Rattle.auc_sqn.proofs.Facts.{each_number_has_its_own_sqn}
use Rattle.auc_world.specs.Transcript.{stretches_of}
use Rattle.auc_record.specs.declared.record.GiveVerdict.{GiveVerdict}
use Rattle.auc_record.specs.declared.record.GiveVerdict.TheVariants as given
use Rattle.auc_transcript.specs.Headline.{FailsByPlace, FailsExactlyByPlace, IsFailure, IsGenuine, IsInReach, IsStaleBy, is_later, place_of}
use Rattle.auc_transcript.specs.Witnesses.{AgesDecide, accepted_fourth, ageing, given_aged, subscriber}

-- a number in reach after 4 was accepted
in_reach : (n : ℕ) (answer : GiveVerdict) → 1 ≤ n → n ≤ 4 → is_later (stretches_of 0 (given_aged n answer)) n 4 ≡ false
    → IsInReach 5 (stretches_of 0 (given_aged n answer)) 0 (sqn_bytes 5 4 ∷ []) n
in_reach n answer first last none =
    let stretches = stretches_of 0 (given_aged n answer) in record {
      genuine = All-cons (IsGenuine 5 (all_entries stretches)) (sqn_bytes 5 4) [] (4, omega arith, (3, omega arith, refl), refl) (All-nil (IsGenuine 5 (all_entries stretches)));
      earlier = All-cons (λ sqn. is_later stretches n (seq_of 5 sqn) ≡ false) (sqn_bytes 5 4) [] none (All-nil (λ sqn. is_later stretches n (seq_of 5 sqn) ≡ false));
      near = omega (arith, last);
      above = omega (arith, first);
    }

-- the accepted number is 4
is_fourth : (m : ℕ) → m ≤ top_of 5 → Contains (sqn_bytes 5 4 ∷ []) (sqn_bytes 5 m) → m ≡ 4
is_fourth m within (zero, inside, at) = each_number_has_its_own_sqn 5 m 4 (omega arith) within (omega arith) (sym at)
is_fourth m within (suc k, inside, at) = absurd (omega (arith, inside))

-- 2 is neither a turn of the index nor the age limit before 4, and 1 isn't if there is no age limit
second_stays : (answer : GiveVerdict) → FailsByPlace 5 (Some 3) (stretches_of 0 (given_aged 2 answer)) (sqn_bytes 5 4 ∷ []) 2 → ⊥
second_stays answer fails =
    let stretches = stretches_of 0 (given_aged 2 answer) in
    no (subst (λ (m : ℕ). IsStaleBy 5 (Some 3) (place_of stretches 2) (place_of stretches m)) (is_fourth fails.other fails.within fails.was_accepted) fails.stale)
  where
    no : IsStaleBy 5 (Some 3) 2 4 → ⊥
    no (inl (turns, later)) = omega (arith, later)
    no (inr later) = omega (arith, later)

first_of_none : (answer : GiveVerdict) → FailsByPlace 5 None (stretches_of 0 (given_aged 1 answer)) (sqn_bytes 5 4 ∷ []) 1 → ⊥
first_of_none answer fails =
    let stretches = stretches_of 0 (given_aged 1 answer) in
    no (subst (λ (m : ℕ). IsStaleBy 5 None (place_of stretches 1) (place_of stretches m)) (is_fourth fails.other fails.within fails.was_accepted) fails.stale)
  where
    no : IsStaleBy 5 None 1 4 → ⊥
    no (inl (turns, later)) = omega (arith, later)
    no (inr later) = later

first_is_aged : (answer : GiveVerdict) → answer ≢ given.Absent → FailsExactlyByPlace (ageing ∷ []) (given_aged 1 answer) → IsFailure answer
first_is_aged answer released promise =
    (promise accepted_fourth 0 1 answer ageing (record { after = []; lines_are = refl; released = released }) refl (in_reach 1 answer (omega arith) (omega arith) refl)).1
    (record { other = 4; within = omega arith; was_accepted = (0, omega arith, refl); one_period = refl; stale = inr (omega arith) })

second_is_young : (answer : GiveVerdict) → answer ≢ given.Absent → FailsExactlyByPlace (ageing ∷ []) (given_aged 2 answer) → IsFailure answer → ⊥
second_is_young answer released promise failure =
    second_stays answer
    ((promise accepted_fourth 0 2 answer ageing (record { after = []; lines_are = refl; released = released }) refl (in_reach 2 answer (omega arith) (omega arith) refl)).0 failure)

first_is_young : (answer : GiveVerdict) → answer ≢ given.Absent → FailsExactlyByPlace (subscriber ∷ []) (given_aged 1 answer) → IsFailure answer → ⊥
first_is_young answer released promise failure =
    first_of_none answer
    ((promise accepted_fourth 0 1 answer subscriber (record { after = []; lines_are = refl; released = released }) refl (in_reach 1 answer (omega arith) (omega arith) refl)).0 failure)

pub ages_decide : AgesDecide
ages_decide answer released = (first_is_aged answer released, second_is_young answer released, first_is_young answer released)
