-- For the journal: the bound of each identity after a round.
use Rattle.std.proofs.Common.{◌≡◌, ◌≢◌, ℕ, zero, suc, ◌+◌, ◌<◌, ◌≤◌, max, List, [], ◌∷◌, length, All, AllPairs, refl, sym, arith}
use Rattle.std.specs.Prelude.{Bool, true, false, slice_index, if◌then◌else◌}
use Rattle.std.proofs.lemmas.List.Elements.{All-head, All-tail}
use Rattle.auc_memory.specs.Identity.{Identity}
use Rattle.auc_history.proofs.Facts.{AllPairs-head, AllPairs-tail}
use Rattle.auc_journal.specs.Image.{Frame, reserved_in, same_identity}
use Rattle.auc_journal.specs.Journal.{imsi_at}
use Rattle.auc_journal.proofs.Facts.{same-same, same_is}
use Rattle.auc_keeper.specs.Keeper.{IsAbove}
use Rattle.auc_world.specs.Limits.{least_step}

-- a frame for each identity, a step above its word
abbrev pub near_frames : List Identity → List ℕ → List Frame
near_frames [] words = []
near_frames (imsi ∷ imsis) [] = record { imsi = imsi; limit = least_step } ∷ near_frames imsis []
near_frames (imsi ∷ imsis) (word ∷ words) = record { imsi = imsi; limit = word + least_step } ∷ near_frames imsis words

-- the bound after a round that ended at some words
abbrev pub raised_by : List Identity → List ℕ → (Identity → ℕ) → Identity → ℕ
raised_by imsis words most imsi = max (most imsi) (reserved_in (near_frames imsis words) imsi)

-- more frames reserve no less
more_frames : (frame : Frame) (frames : List Frame) (imsi : Identity) → reserved_in frames imsi ≤ reserved_in (frame ∷ frames) imsi
more_frames frame frames imsi = by (same_identity frame.imsi imsi)
  where
    by : (b : Bool) → reserved_in frames imsi ≤ (if b then max frame.limit (reserved_in frames imsi) else reserved_in frames imsi)
    by true = omega arith
    by false = omega arith

own_frame : (frame : Frame) (frames : List Frame) → frame.limit ≤ reserved_in (frame ∷ frames) frame.imsi
own_frame frame frames = by (same_identity frame.imsi frame.imsi) (same-same frame.imsi)
  where
    by : (b : Bool) → b ≡ true → frame.limit ≤ (if b then max frame.limit (reserved_in frames frame.imsi) else reserved_in frames frame.imsi)
    by true is = omega arith
    by false is = cc is

-- it admits each word and a step
near_admits : (imsis : List Identity) (words : List ℕ) (i : ℕ) → i < length imsis → slice_index words i + least_step ≤ reserved_in (near_frames imsis words) (imsi_at imsis i)
near_admits [] words i inside = absurd (omega (arith, inside))
near_admits (imsi ∷ imsis) [] zero inside = own_frame (record { imsi = imsi; limit = least_step }) (near_frames imsis [])
near_admits (imsi ∷ imsis) [] (suc i) inside =
    let rest = near_admits imsis [] i (omega (arith, inside)) in
    let more = more_frames (record { imsi = imsi; limit = least_step }) (near_frames imsis []) (imsi_at imsis i) in
    omega (arith, rest, more)
near_admits (imsi ∷ imsis) (word ∷ words) zero inside = own_frame (record { imsi = imsi; limit = word + least_step }) (near_frames imsis words)
near_admits (imsi ∷ imsis) (word ∷ words) (suc i) inside =
    let rest = near_admits imsis words i (omega (arith, inside)) in
    let more = more_frames (record { imsi = imsi; limit = word + least_step }) (near_frames imsis words) (imsi_at imsis i) in
    omega (arith, rest, more)

pub raised_admits : (imsis : List Identity) (words : List ℕ) (most : Identity → ℕ) → IsAbove imsis words most (raised_by imsis words most)
raised_admits imsis words most = record {
  keeps = λ imsi. omega arith;
  admits = λ i inside. let low = near_admits imsis words i inside in omega (arith, low);
}

-- a frame of another identity counts for nothing
passed_by : (frame : Frame) (frames : List Frame) (imsi : Identity) → imsi ≢ frame.imsi → reserved_in frames imsi ≡ 0 → reserved_in (frame ∷ frames) imsi ≡ 0
passed_by frame frames imsi differ none = by (same_identity frame.imsi imsi) (λ is. differ (sym (same_is frame.imsi imsi is)))
  where
    by : (b : Bool) → (b ≡ true → ⊥) → (if b then max frame.limit (reserved_in frames imsi) else reserved_in frames imsi) ≡ 0
    by true never = absurd (never refl)
    by false never = none

-- and no more, as the identities differ
none_near : (imsis : List Identity) (words : List ℕ) (imsi : Identity) → All (λ own. imsi ≢ own) imsis → reserved_in (near_frames imsis words) imsi ≡ 0
none_near [] words imsi other = refl
none_near (own ∷ imsis) [] imsi other =
    passed_by (record { imsi = own; limit = least_step }) (near_frames imsis []) imsi (All-head (λ o. imsi ≢ o) own imsis other) (none_near imsis [] imsi (All-tail (λ o. imsi ≢ o) own imsis other))
none_near (own ∷ imsis) (word ∷ words) imsi other =
    passed_by (record { imsi = own; limit = word + least_step }) (near_frames imsis words) imsi (All-head (λ o. imsi ≢ o) own imsis other) (none_near imsis words imsi (All-tail (λ o. imsi ≢ o) own imsis other))

-- the first of some identities that differ
near_first : (frame : Frame) (frames : List Frame) → reserved_in frames frame.imsi ≡ 0 → reserved_in (frame ∷ frames) frame.imsi ≤ frame.limit
near_first frame frames none = by (same_identity frame.imsi frame.imsi)
  where
    by : (b : Bool) → (if b then max frame.limit (reserved_in frames frame.imsi) else reserved_in frames frame.imsi) ≤ frame.limit
    by true = omega (arith, none)
    by false = omega (arith, none)

-- a later one
near_later : (frame : Frame) (frames : List Frame) (imsi : Identity) → frame.imsi ≢ imsi → reserved_in (frame ∷ frames) imsi ≤ reserved_in frames imsi
near_later frame frames imsi differ = by (same_identity frame.imsi imsi) (λ is. differ (same_is frame.imsi imsi is))
  where
    by : (b : Bool) → (b ≡ true → ⊥) → (if b then max frame.limit (reserved_in frames imsi) else reserved_in frames imsi) ≤ reserved_in frames imsi
    by true never = absurd (never refl)
    by false never = omega arith

-- the identity at a place is among them
at_place : (P : Identity → Type 0) (imsis : List Identity) (i : ℕ) → i < length imsis → All P imsis → P (imsi_at imsis i)
at_place P [] i inside all = absurd (omega (arith, inside))
at_place P (imsi ∷ imsis) zero inside all = All-head P imsi imsis all
at_place P (imsi ∷ imsis) (suc i) inside all = at_place P imsis i (omega (arith, inside)) (All-tail P imsi imsis all)

pub near_is : (imsis : List Identity) (words : List ℕ) (i : ℕ) → AllPairs (λ a b. a ≢ b) imsis → i < length imsis → reserved_in (near_frames imsis words) (imsi_at imsis i) ≤ slice_index words i + least_step
near_is [] words i differ inside = absurd (omega (arith, inside))
near_is (imsi ∷ imsis) [] zero differ inside =
    near_first (record { imsi = imsi; limit = least_step }) (near_frames imsis []) (none_near imsis [] imsi (AllPairs-head (λ a b. a ≢ b) imsi imsis differ))
near_is (imsi ∷ imsis) (word ∷ words) zero differ inside =
    near_first (record { imsi = imsi; limit = word + least_step }) (near_frames imsis words) (none_near imsis words imsi (AllPairs-head (λ a b. a ≢ b) imsi imsis differ))
near_is (imsi ∷ imsis) [] (suc i) differ inside =
    let rest = near_is imsis [] i (AllPairs-tail (λ a b. a ≢ b) imsi imsis differ) (omega (arith, inside)) in
    let apart = at_place (λ o. imsi ≢ o) imsis i (omega (arith, inside)) (AllPairs-head (λ a b. a ≢ b) imsi imsis differ) in
    let later = near_later (record { imsi = imsi; limit = least_step }) (near_frames imsis []) (imsi_at imsis i) apart in
    omega (arith, rest, later)
near_is (imsi ∷ imsis) (word ∷ words) (suc i) differ inside =
    let rest = near_is imsis words i (AllPairs-tail (λ a b. a ≢ b) imsi imsis differ) (omega (arith, inside)) in
    let apart = at_place (λ o. imsi ≢ o) imsis i (omega (arith, inside)) (AllPairs-head (λ a b. a ≢ b) imsi imsis differ) in
    let later = near_later (record { imsi = imsi; limit = word + least_step }) (near_frames imsis words) (imsi_at imsis i) apart in
    omega (arith, rest, later)
