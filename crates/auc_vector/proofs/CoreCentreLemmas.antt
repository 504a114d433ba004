-- The steps of the pure core as the calls of a centre, for `CoreCentre`.
use Rattle.std.proofs.Common.{◌≡◌, ℕ, ◌+◌, ◌^◌, ◌<◌, ◌≤◌, nat_le, Bool, true, false, if◌then◌else◌, List, [], ◌∷◌, length, slice_index, Option, Some, None, Result, Ok, Err, arith, refl, sym, ap, ◌∙◌, subst}
use Rattle.std.proofs.lemmas.Bool.{leb-false}
use Rattle.std.proofs.lemmas.Bool.Decides.{nat_tests}
use Rattle.auc_history.specs.declared.entry.Entry.{Entry}
use Rattle.auc_history.specs.declared.entry.Entry.TheVariants.{Drawn, Look}
use Rattle.auc_history.specs.History.{IsLegal}
use Rattle.auc_core.specs.declared.event.Event.{Event}
use Rattle.auc_core.specs.declared.event.Event.TheVariants.{Draw, Resync}
use Rattle.auc_core.specs.declared.event.Reply.{Reply}
use Rattle.auc_core.specs.declared.event.Reply.TheVariants.{Number, Exhausted as exhausted, Moved as moved, InRange as in_range, Beyond as beyond}
use Rattle.auc_core.specs.Step.{CoreState, IsCore, Knows, Steps, event_subscriber, standing, entries_made}
use Rattle.auc_core.proofs.Facts.{answer_is_legal, steps_keep_tops, word_of_step}
use Rattle.auc_vector.specs.declared.centre.Resynced.{Resynced}
use Rattle.auc_vector.specs.declared.centre.Resynced.TheVariants.{Moved, InRange}
use Rattle.auc_vector.specs.declared.centre.CentreRefusal.{CentreRefusal}
use Rattle.auc_vector.specs.declared.centre.CentreRefusal.TheVariants.{Exhausted, Beyond}
use Rattle.auc_vector.specs.Centre.{unless_spent, entries_of_next, withheld_of_next, entries_of_resync, IsWordKept, AnswersResync}
use Rattle.auc_history.specs.Resynchronise.{resynchronise_of, Moved as moved_to, InRange as found_in_range, Beyond as found_beyond}
use Rattle.auc_vector.specs.Stretch.{kept_at, IsStretch}

-- the word that is kept of a subscriber
abbrev kept_of : CoreState → ℕ → Option ℕ
kept_of state sub = kept_at (slice_index state.tops sub) (slice_index state.words sub)

-- a step is a stretch of its subscriber, with the step's entries
pub step_stretches : (old : CoreState) (event : Event) (reply : Reply) (new : CoreState) → IsCore old
    → Knows old event → Steps old event reply new
    → IsStretch old (event_subscriber event) (entries_made (slice_index old.words (event_subscriber event)) reply) [] new
step_stretches old event reply new core knows steps =
    let sub = event_subscriber event in
    let word = slice_index old.words sub in
    let legal = answer_is_legal old event reply knows steps.0 (core.marked sub) in
    let P : ℕ → Type 0 = λ w. IsLegal (slice_index old.tops sub) word w (entries_made word reply) in
    record {
      legal = subst P (sym (word_of_step old new event reply knows steps)) legal;
      nothing = refl;
      tops = steps_keep_tops old new event reply steps;
    }

-- what is left out after a refused draw, by the word and by the number that stands
left_out : (b : Bool) (top : ℕ) (entries : List Entry) → unless_spent (if b then None else Some top) entries ≡ (if b then entries else [])
left_out true top entries = refl
left_out false top entries = refl

-- no word is kept at a number
kept_at_number : (top word : ℕ) → word ≤ top → kept_at top word ≡ None
kept_at_number top word = grind (arith, nat_tests)

-- the word is no higher than what stands where it is no mark
stands : (top word seen : ℕ) → seen ≡ standing top word → nat_le word seen ≡ nat_le word top
stands top word seen = grind (arith, nat_tests)

-- the entries that a call makes for a subscriber that isn't spent are those of the core's step
entries_are : (top word seen : ℕ) (entries : List Entry) → seen ≡ standing top word
    → (if nat_le word seen then entries else []) ≡ unless_spent (kept_at top word) entries
entries_are top word seen entries is =
    ap (λ b. if b then entries else []) (stands top word seen is) ∙ sym (left_out (nat_le word top) top entries)

-- a draw of a number, of a core that the centre is seen as
pub number_goes : (core old new : CoreState) (sub n : ℕ) (answer : Result ℕ CentreRefusal) → core ≡ old
    → IsCore core → sub < length old.words → Steps core (Draw sub) (Number n) new → answer ≡ Ok n
    → IsStretch old sub (entries_of_next (kept_of old sub) answer) (withheld_of_next answer) new
number_goes core old new sub n answer seen holds known steps is =
    rw is (step_stretches old (Draw sub) (Number n) new (subst IsCore seen holds) known
    (subst (λ (state : CoreState). Steps state (Draw sub) (Number n) new) seen steps))

-- a draw that is refused
pub exhausted_goes : (core old new : CoreState) (sub w : ℕ) (answer : Result ℕ CentreRefusal) → core ≡ old
    → IsCore core → sub < length old.words → Steps core (Draw sub) (exhausted w) new → answer ≡ Err (Exhausted w)
    → IsStretch old sub (entries_of_next (kept_of old sub) answer) (withheld_of_next answer) new
exhausted_goes core old new sub w answer seen holds known steps is =
    let top = slice_index old.tops sub in
    let word = slice_index old.words sub in
    let there : Steps old (Draw sub) (exhausted w) new = subst (λ (state : CoreState). Steps state (Draw sub) (exhausted w) new) seen steps in
    let ((last, same), set) = there in
    let stands_there : nat_le word w ≡ nat_le word top = ap (nat_le word) same in
    let entries = ap (λ b. if b then Drawn (w + 1) ∷ [] else []) stands_there ∙ sym (left_out (nat_le word top) top (Drawn (w + 1) ∷ [])) in
    let goes = step_stretches old (Draw sub) (exhausted w) new (subst IsCore seen holds) known there in
    rw is (subst (λ (es : List Entry). IsStretch old sub es [] new) entries goes)

-- what is known of a resynchronisation by a core that the centre is seen as
pub record Resyncs (core old new : CoreState) (sub seq_ms : ℕ) (reply : Reply) : Type 0 where
  pub seen_as : core ≡ old
  pub holds : IsCore core
  pub known : sub < length old.words
  pub number : seq_ms ≤ slice_index old.tops sub
  pub steps : Steps core (Resync sub seq_ms) reply new

-- the step, of the centre
resync_steps : (core old new : CoreState) (sub seq_ms : ℕ) (reply : Reply) → Resyncs core old new sub seq_ms reply
    → Steps old (Resync sub seq_ms) reply new
resync_steps core old new sub seq_ms reply r = subst (λ (state : CoreState). Steps state (Resync sub seq_ms) reply new) r.seen_as r.steps

-- it is a stretch, with the step's entries
resync_stretches : (core old new : CoreState) (sub seq_ms : ℕ) (reply : Reply) → Resyncs core old new sub seq_ms reply
    → IsStretch old sub (entries_made (slice_index old.words sub) reply) [] new
resync_stretches core old new sub seq_ms reply r =
    step_stretches old (Resync sub seq_ms) reply new (subst IsCore r.seen_as r.holds) (r.known, r.number)
    (resync_steps core old new sub seq_ms reply r)

-- a resynchronisation that moves the number
pub moved_goes : (core old new : CoreState) (sub seq_ms from to : ℕ) (answer : Result Resynced CentreRefusal)
    → Resyncs core old new sub seq_ms (moved from to) → answer ≡ Ok (Moved from to)
    → IsStretch old sub (entries_of_resync (kept_of old sub) answer) [] new
moved_goes core old new sub seq_ms from to answer r is = rw is (resync_stretches core old new sub seq_ms (moved from to) r)

-- one that finds it in range
pub in_range_goes : (core old new : CoreState) (sub seq_ms at seq : ℕ) (answer : Result Resynced CentreRefusal)
    → Resyncs core old new sub seq_ms (in_range at seq) → answer ≡ Ok (InRange at seq)
    → IsStretch old sub (entries_of_resync (kept_of old sub) answer) [] new
in_range_goes core old new sub seq_ms at seq answer r is =
    let word = slice_index old.words sub in
    let there = resync_steps core old new sub seq_ms (in_range at seq) r in
    rw is (subst (λ (es : List Entry). IsStretch old sub es [] new) (entries_are (slice_index old.tops sub) word at (Look at ∷ []) there.0.0.0)
    (resync_stretches core old new sub seq_ms (in_range at seq) r))

-- and one that finds it beyond
pub beyond_goes : (core old new : CoreState) (sub seq_ms at seq : ℕ) (answer : Result Resynced CentreRefusal)
    → Resyncs core old new sub seq_ms (beyond at seq) → answer ≡ Err (Beyond at seq)
    → IsStretch old sub (entries_of_resync (kept_of old sub) answer) [] new
beyond_goes core old new sub seq_ms at seq answer r is =
    let word = slice_index old.words sub in
    let there = resync_steps core old new sub seq_ms (beyond at seq) r in
    rw is (subst (λ (es : List Entry). IsStretch old sub es [] new) (entries_are (slice_index old.tops sub) word at (Look at ∷ []) there.0.0.0)
    (resync_stretches core old new sub seq_ms (beyond at seq) r))

-- the number that stands is the word that is kept, if one is
stands_kept : (b : Bool) (top word seen : ℕ) → seen ≡ standing top word → nat_le word top ≡ b → IsWordKept (if b then None else Some top) seen
stands_kept true top word seen is below = tt
stands_kept false top word seen is above = let high = leb-false word top above in grind arith

-- the verdicts by their conditions
verdict_moves : (seen seq_ms : ℕ) → seen < seq_ms → resynchronise_of seen seq_ms ≡ moved_to seen seq_ms
verdict_moves seen seq_ms = grind (arith, nat_tests)

verdict_in_range : (seen seq_ms : ℕ) → seq_ms ≤ seen → seen + 1 ≤ seq_ms + 2 ^ 28 → resynchronise_of seen seq_ms ≡ found_in_range seen seq_ms
verdict_in_range seen seq_ms = grind (arith, nat_tests)

verdict_beyond : (seen seq_ms : ℕ) → seq_ms + 2 ^ 28 < seen + 1 → resynchronise_of seen seq_ms ≡ found_beyond seen seq_ms
verdict_beyond seen seq_ms = grind (arith, nat_tests)

-- its answer if the number moves
pub moved_answers : (core old new : CoreState) (sub seq_ms from to : ℕ) (answer : Result Resynced CentreRefusal)
    → Resyncs core old new sub seq_ms (moved from to) → answer ≡ Ok (Moved from to)
    → AnswersResync (kept_of old sub) seq_ms answer
moved_answers core old new sub seq_ms from to answer r is =
    let top = slice_index old.tops sub in
    let word = slice_index old.words sub in
    let ((names, same), up) = (resync_steps core old new sub seq_ms (moved from to) r).0 in
    let number = r.number in
    let low : word ≤ top = grind arith in
    let verdict = verdict_moves from seq_ms (omega arith) in
    rw is (kept_at_number top word low, verdict ∙ ap (moved_to from) (sym same))

-- if it is in range
pub in_range_answers : (core old new : CoreState) (sub seq_ms at seq : ℕ) (answer : Result Resynced CentreRefusal)
    → Resyncs core old new sub seq_ms (in_range at seq) → answer ≡ Ok (InRange at seq)
    → AnswersResync (kept_of old sub) seq_ms answer
in_range_answers core old new sub seq_ms at seq answer r is =
    let top = slice_index old.tops sub in
    let word = slice_index old.words sub in
    let ((names, same), low, near) = (resync_steps core old new sub seq_ms (in_range at seq) r).0 in
    let verdict = verdict_in_range at seq_ms (omega arith) (omega arith) in
    rw is (stands_kept (nat_le word top) top word at names refl, verdict ∙ ap (found_in_range at) (sym same))

-- and if it is beyond the range
pub beyond_answers : (core old new : CoreState) (sub seq_ms at seq : ℕ) (answer : Result Resynced CentreRefusal)
    → Resyncs core old new sub seq_ms (beyond at seq) → answer ≡ Err (Beyond at seq)
    → AnswersResync (kept_of old sub) seq_ms answer
beyond_answers core old new sub seq_ms at seq answer r is =
    let top = slice_index old.tops sub in
    let word = slice_index old.words sub in
    let ((names, same), far) = (resync_steps core old new sub seq_ms (beyond at seq) r).0 in
    let verdict = verdict_beyond at seq_ms (omega arith) in
    rw is (stands_kept (nat_le word top) top word at names refl, verdict ∙ ap (found_beyond at) (sym same))
