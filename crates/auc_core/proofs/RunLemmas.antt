-- What a run of the core leaves of each subscriber, by induction on the run.
use Rattle.std.proofs.Common.{◌≡◌, ◌≢◌, ℕ, ◌+◌, ◌<◌, ◌≤◌, ◌==◌, nat_le, Bool, true, false, if◌then◌else◌, List, [], ◌∷◌, ◌++◌, length, slice_index, arith, ap, sym, ◌∙◌, subst, refl, eq-eqb}
use Rattle.std.proofs.lemmas.Bool.{eqb-true, leb-true, leb-false}
use Rattle.std.proofs.lemmas.List.{length-set, get_or-set_same, get_or-set_other}
use Rattle.std.proofs.lemmas.List.Concat.{flat_map-append}
use Rattle.auc_history.specs.declared.entry.Entry.{Entry}
use Rattle.auc_history.specs.declared.entry.Entry.TheVariants.{Drawn, Look}
use Rattle.auc_history.specs.History.{IsLegal, drawn, drawn_by}
use Rattle.auc_history.specs.Split.{times}
use Rattle.auc_history.proofs.Facts.{times-append, differ_from_times, legal_draws_once, Goes, IsLegal-from_goes, IsLegal-append, IsLegal-nil}
use Rattle.auc_core.specs.declared.event.Event.{Event}
use Rattle.auc_core.specs.declared.event.Event.TheVariants.{Draw, Resync}
use Rattle.auc_core.specs.declared.event.Reply.{Reply}
use Rattle.auc_core.specs.declared.event.Reply.TheVariants.{Number, Exhausted, Moved, InRange, Beyond}
use Rattle.auc_core.specs.Step.{CoreState, Knows, Replies, standing, word_after, Steps, entries_made, Run, event_subscriber, history_made, number_drawn, numbers_drawn, EachHistoryIsLegal, NoNumberComesTwice}

-- the first refused draw makes the mark, and a later one nothing
refused_goes : (b : Bool) (top word w : ℕ) → top ≤ word → w ≡ top → word ≤ top + 1 → nat_le word w ≡ b
    → Goes top word (if b then Drawn (w + 1) ∷ [] else []) (w + 1)
refused_goes true top word w last same most is = (let low = leb-true word w is in omega arith, refl)
refused_goes false top word w last same most is = let high = leb-false word w is in omega arith

-- a look at the number that stands is one at the word, and after a refused draw nothing
look_goes : (b : Bool) (top word seen : ℕ) → seen ≡ standing top word → nat_le word seen ≡ b
    → Goes top word (if b then Look seen ∷ [] else []) word
look_goes true top word seen names is = (let low = leb-true word seen is in grind arith, refl)
look_goes false top word seen names is = refl

-- the SEQ of an event, if it has one, is at most a top
abbrev IsWithin : ℕ → Event → Type 0
IsWithin top (Draw sub) = Unit {0}
IsWithin top (Resync sub seq_ms) = seq_ms ≤ top

-- the entries of an answer are a walk from the word before it to the word after it
answer_goes : (top word : ℕ) (event : Event) (reply : Reply) → IsWithin top event → Replies top word event reply
    → word ≤ top + 1 → Goes top word (entries_made word reply) (word_after word reply)
answer_goes top word (Draw sub) (Number n) within (below, next) most = (next, refl)
answer_goes top word (Draw sub) (Exhausted w) within (last, same) most = refused_goes (nat_le word w) top word w last same most refl
answer_goes top word (Draw sub) (Moved from to) within answers most = absurd answers
answer_goes top word (Draw sub) (InRange seen seq) within answers most = absurd answers
answer_goes top word (Draw sub) (Beyond seen seq) within answers most = absurd answers
answer_goes top word (Resync sub seq_ms) (Number n) within answers most = absurd answers
answer_goes top word (Resync sub seq_ms) (Exhausted w) within answers most = absurd answers
answer_goes top word (Resync sub seq_ms) (Moved from to) within ((begins, ends), up) most = (grind arith, omega arith, omega arith, refl)
answer_goes top word (Resync sub seq_ms) (InRange seen seq) within ((names, same), low, near) most = look_goes (nat_le word seen) top word seen names refl
answer_goes top word (Resync sub seq_ms) (Beyond seen seq) within ((names, same), far) most = look_goes (nat_le word seen) top word seen names refl

-- the SEQ of an event that the core knows is at most its subscriber's top
known_within : (state : CoreState) (event : Event) → Knows state event → IsWithin (slice_index state.tops (event_subscriber event)) event
known_within state (Draw sub) known = tt
known_within state (Resync sub seq_ms) (known, number) = number

-- the entries of an answer are a legal history from the word before it to the word after it
pub answer_is_legal : (state : CoreState) (event : Event) (reply : Reply) → Knows state event
    → Replies (slice_index state.tops (event_subscriber event)) (slice_index state.words (event_subscriber event)) event reply
    → slice_index state.words (event_subscriber event) ≤ slice_index state.tops (event_subscriber event) + 1
    → IsLegal (slice_index state.tops (event_subscriber event)) (slice_index state.words (event_subscriber event))
    (word_after (slice_index state.words (event_subscriber event)) reply) (entries_made (slice_index state.words (event_subscriber event)) reply)
answer_is_legal state event reply knows answers most =
    let top = slice_index state.tops (event_subscriber event) in
    let word = slice_index state.words (event_subscriber event) in
    IsLegal-from_goes top word (word_after word reply) (entries_made word reply)
    (answer_goes top word event reply (known_within state event knows) answers most)

-- no answer leaves a word above the mark
answer_keeps_bound : (top word : ℕ) (event : Event) (reply : Reply) → IsWithin top event → Replies top word event reply
    → word ≤ top + 1 → word_after word reply ≤ top + 1
answer_keeps_bound top word (Draw sub) (Number n) within (below, next) most = omega arith
answer_keeps_bound top word (Draw sub) (Exhausted w) within (last, same) most = omega arith
answer_keeps_bound top word (Draw sub) (Moved from to) within answers most = absurd answers
answer_keeps_bound top word (Draw sub) (InRange seen seq) within answers most = absurd answers
answer_keeps_bound top word (Draw sub) (Beyond seen seq) within answers most = absurd answers
answer_keeps_bound top word (Resync sub seq_ms) (Number n) within answers most = absurd answers
answer_keeps_bound top word (Resync sub seq_ms) (Exhausted w) within answers most = absurd answers
answer_keeps_bound top word (Resync sub seq_ms) (Moved from to) within ((begins, ends), up) most = omega arith
answer_keeps_bound top word (Resync sub seq_ms) (InRange seen seq) within answers most = most
answer_keeps_bound top word (Resync sub seq_ms) (Beyond seen seq) within answers most = most

-- an event of the core's is of one of its subscribers
pub known_subscriber : (state : CoreState) (event : Event) → Knows state event → event_subscriber event < length state.words
known_subscriber state (Draw sub) known = known
known_subscriber state (Resync sub seq_ms) (known, number) = known

-- a step keeps the tops
pub steps_keep_tops : (old new : CoreState) (event : Event) (reply : Reply) → Steps old event reply new → new.tops ≡ old.tops
steps_keep_tops old new event reply (answers, is) = ap (λ (state : CoreState). state.tops) is

-- each list of words is as long as the one before
pub steps_keep_length : (old new : CoreState) (event : Event) (reply : Reply) → Steps old event reply new → length new.words ≡ length old.words
steps_keep_length old new event reply (answers, is) =
    let sub = event_subscriber event in
    ap (λ (state : CoreState). length state.words) is ∙ length-set old.words sub (word_after (slice_index old.words sub) reply)

-- the word of the event's subscriber after a step
pub word_of_step : (old new : CoreState) (event : Event) (reply : Reply) → Knows old event → Steps old event reply new
    → slice_index new.words (event_subscriber event) ≡ word_after (slice_index old.words (event_subscriber event)) reply
word_of_step old new event reply knows (answers, is) =
    let sub = event_subscriber event in
    ap (λ (state : CoreState). slice_index state.words sub) is
    ∙ get_or-set_same old.words sub (word_after (slice_index old.words sub) reply) 0 (known_subscriber old event knows)

-- the word of another subscriber after it
other_of_step : (old new : CoreState) (event : Event) (reply : Reply) (sub : ℕ) → Steps old event reply new → sub ≢ event_subscriber event
    → slice_index new.words sub ≡ slice_index old.words sub
other_of_step old new event reply sub (answers, is) apart =
    let s = event_subscriber event in
    ap (λ (state : CoreState). slice_index state.words sub) is
    ∙ get_or-set_other old.words s sub (word_after (slice_index old.words s) reply) 0 apart

-- a subscriber's top after a step
top_of_step : (old new : CoreState) (event : Event) (reply : Reply) (sub : ℕ) → Steps old event reply new
    → slice_index new.tops sub ≡ slice_index old.tops sub
top_of_step old new event reply sub steps = ap (λ (tops : List ℕ). slice_index tops sub) (steps_keep_tops old new event reply steps)

-- subscribers that aren't told to be one differ
apart_of : (s sub : ℕ) → (s == sub) ≡ false → sub ≢ s
apart_of s sub other same = let yes = eq-eqb s sub (sym same) in let no : ⊥ = cc in no

-- a subscriber's word after a step is no higher than its mark
bound_of_step : (b : Bool) (old new : CoreState) (event : Event) (reply : Reply) (sub : ℕ) → Knows old event → Steps old event reply new
    → (event_subscriber event == sub) ≡ b → slice_index old.words sub ≤ slice_index old.tops sub + 1
    → slice_index new.words sub ≤ slice_index new.tops sub + 1
bound_of_step true old new event reply sub knows steps same most =
    let one = eqb-true (event_subscriber event) sub same in
    let there : slice_index old.words (event_subscriber event) ≤ slice_index old.tops (event_subscriber event) + 1 =
    let P : ℕ → Type 0 = λ s. slice_index old.words s ≤ slice_index old.tops s + 1 in subst P (sym one) most in
    let kept = answer_keeps_bound (slice_index old.tops (event_subscriber event)) (slice_index old.words (event_subscriber event)) event reply
    (known_within old event knows) steps.0 there in
    let word : slice_index new.words (event_subscriber event) ≤ slice_index new.tops (event_subscriber event) + 1 =
    let here = word_of_step old new event reply knows steps in
    let top = top_of_step old new event reply (event_subscriber event) steps in omega arith in
    let Q : ℕ → Type 0 = λ s. slice_index new.words s ≤ slice_index new.tops s + 1 in subst Q one word
bound_of_step false old new event reply sub knows steps other most =
    let here = other_of_step old new event reply sub steps (apart_of (event_subscriber event) sub other) in
    let top = top_of_step old new event reply sub steps in omega arith

-- a step of the subscriber and the steps after it, or of another and the steps after it
run_is_legal : (b : Bool) (old next : CoreState) (event : Event) (reply : Reply) (sub closing : ℕ) (entries : ℕ → List Entry)
    → slice_index old.words sub ≤ slice_index old.tops sub + 1 → Knows old event → Steps old event reply next → (event_subscriber event == sub) ≡ b
    → IsLegal (slice_index next.tops sub) (slice_index next.words sub) closing (entries (slice_index next.words sub))
    → IsLegal (slice_index old.tops sub) (slice_index old.words sub) closing
    (if b then entries_made (slice_index old.words sub) reply ++ entries (word_after (slice_index old.words sub) reply) else entries (slice_index old.words sub))
run_is_legal true old next event reply sub closing entries most knows steps same rest =
    let one = eqb-true (event_subscriber event) sub same in
    let P : ℕ → Type 0 = λ s. IsLegal (slice_index old.tops s) (slice_index old.words s) closing
    (entries_made (slice_index old.words s) reply ++ entries (word_after (slice_index old.words s) reply)) in
    let most_there : slice_index old.words (event_subscriber event) ≤ slice_index old.tops (event_subscriber event) + 1 =
    let Q : ℕ → Type 0 = λ s. slice_index old.words s ≤ slice_index old.tops s + 1 in subst Q (sym one) most in
    let rest_there : IsLegal (slice_index next.tops (event_subscriber event)) (slice_index next.words (event_subscriber event)) closing (entries (slice_index next.words (event_subscriber event))) =
    let R : ℕ → Type 0 = λ s. IsLegal (slice_index next.tops s) (slice_index next.words s) closing (entries (slice_index next.words s)) in subst R (sym one) rest in
    subst P one (own_is_legal old next event reply closing entries most_there knows steps rest_there)
  where
    -- a step of the subscriber's own
    own_is_legal : (old next : CoreState) (event : Event) (reply : Reply) (closing : ℕ) (entries : ℕ → List Entry)
        → slice_index old.words (event_subscriber event) ≤ slice_index old.tops (event_subscriber event) + 1 → Knows old event → Steps old event reply next
        → IsLegal (slice_index next.tops (event_subscriber event)) (slice_index next.words (event_subscriber event)) closing (entries (slice_index next.words (event_subscriber event)))
        → IsLegal (slice_index old.tops (event_subscriber event)) (slice_index old.words (event_subscriber event)) closing
        (entries_made (slice_index old.words (event_subscriber event)) reply ++ entries (word_after (slice_index old.words (event_subscriber event)) reply))
    own_is_legal old next event reply closing entries most knows steps rest =
        let sub = event_subscriber event in
        let top = slice_index old.tops sub in
        let word = slice_index old.words sub in
        let here : slice_index next.words sub ≡ word_after word reply = word_of_step old next event reply knows steps in
        let under : IsLegal top (slice_index next.words sub) closing (entries (slice_index next.words sub)) =
        let T : ℕ → Type 0 = λ t. IsLegal t (slice_index next.words sub) closing (entries (slice_index next.words sub)) in
        subst T (top_of_step old next event reply sub steps) rest in
        let from_here : IsLegal top (word_after word reply) closing (entries (word_after word reply)) =
        let W : ℕ → Type 0 = λ w. IsLegal top w closing (entries w) in subst W here under in
        IsLegal-append top word (word_after word reply) closing (entries_made word reply) (entries (word_after word reply))
        (answer_is_legal old event reply knows steps.0 most) from_here
run_is_legal false old next event reply sub closing entries most knows steps other rest =
    let here = other_of_step old next event reply sub steps (apart_of (event_subscriber event) sub other) in
    let under : IsLegal (slice_index old.tops sub) (slice_index next.words sub) closing (entries (slice_index next.words sub)) =
    let T : ℕ → Type 0 = λ t. IsLegal t (slice_index next.words sub) closing (entries (slice_index next.words sub)) in
    subst T (top_of_step old next event reply sub steps) rest in
    let W : ℕ → Type 0 = λ w. IsLegal (slice_index old.tops sub) w closing (entries w) in subst W here under

-- every run leaves a legal history of each subscriber
pub each_history_is_legal : EachHistoryIsLegal
each_history_is_legal old new [] sub most leads known =
    let P : CoreState → Type 0 = λ state. IsLegal (slice_index old.tops sub) (slice_index old.words sub) (slice_index state.words sub) [] in
    subst P leads (IsLegal-nil (slice_index old.tops sub) (slice_index old.words sub))
each_history_is_legal old new ((event, reply) ∷ run) sub most (next, knows, steps, more) known =
    run_is_legal (event_subscriber event == sub) old next event reply sub (slice_index new.words sub) (λ word. history_made sub word run) most knows steps refl
    (each_history_is_legal next new run sub (bound_of_step (event_subscriber event == sub) old next event reply sub knows steps refl most) more
    (let same = steps_keep_length old next event reply steps in omega arith))

-- the number of an answer is drawn in its entries
number_is_drawn : (n word : ℕ) (reply : Reply) → times n (number_drawn reply) ≤ times n (drawn (entries_made word reply))
number_is_drawn n word (Number m) = omega arith
number_is_drawn n word (Exhausted w) = omega arith
number_is_drawn n word (Moved from to) = omega arith
number_is_drawn n word (InRange seen seq) = omega arith
number_is_drawn n word (Beyond seen seq) = omega arith

-- and in its entries with those after them, if it is an answer to the subscriber
numbers_and_more : (b : Bool) (n word : ℕ) (reply : Reply) (numbers : List ℕ) (entries : ℕ → List Entry)
    → ((w : ℕ) → times n numbers ≤ times n (drawn (entries w)))
    → times n (if b then number_drawn reply ++ numbers else numbers)
    ≤ times n (drawn (if b then entries_made word reply ++ entries (word_after word reply) else entries word))
numbers_and_more true n word reply numbers entries rest =
    let more = rest (word_after word reply) in
    let first = number_is_drawn n word reply in
    let left = times-append n (number_drawn reply) numbers in
    let right = ap (times n) (flat_map-append drawn_by (entries_made word reply) (entries (word_after word reply)))
    ∙ times-append n (drawn (entries_made word reply)) (drawn (entries (word_after word reply))) in
    omega (arith, more, first, left, right)
numbers_and_more false n word reply numbers entries rest = rest word

-- the numbers of the answers are drawn in the history
numbers_are_drawn : (n sub word : ℕ) (run : Run) → times n (numbers_drawn sub run) ≤ times n (drawn (history_made sub word run))
numbers_are_drawn n sub word [] = omega arith
numbers_are_drawn n sub word ((event, reply) ∷ run) =
    numbers_and_more (event_subscriber event == sub) n word reply (numbers_drawn sub run) (λ w. history_made sub w run) (λ w. numbers_are_drawn n sub w run)

-- no run draws a number twice for a subscriber
pub no_number_comes_twice : NoNumberComesTwice
no_number_comes_twice old new run sub most leads known =
    let word = slice_index old.words sub in
    let legal = each_history_is_legal old new run sub most leads known in
    differ_from_times (numbers_drawn sub run)
    (λ n. let drawn_too = numbers_are_drawn n sub word run in
    let once = legal_draws_once (slice_index old.tops sub) word (slice_index new.words sub) (history_made sub word run) legal n in
    omega (arith, drawn_too, once))
