-- The steps of the pure authentication centre. Its state has a word and a top for each subscriber: the last number that
-- was drawn or passed over, or the mark, top + 1, after a draw was refused; and the subscriber's greatest number.
use Rattle.std.specs.Prelude.{◌≡◌, ◌≢◌, ℕ, ◌+◌, ◌^◌, ◌<◌, ◌≤◌, ◌==◌, nat_le, if◌then◌else◌, min, List, [], ◌∷◌, ◌++◌, All, AllPairs, length, slice_index, slice_set}
use Rattle.auc_sqn.specs.Number.{max_seq}
use Rattle.auc_history.specs.declared.entry.Entry.{Entry}
use Rattle.auc_history.specs.declared.entry.Entry.TheVariants.{Drawn, Moved as moved, Look}
use Rattle.auc_history.specs.History.{IsLegal}
use Rattle.auc_core.specs.declared.event.Event.{Event}
use Rattle.auc_core.specs.declared.event.Event.TheVariants.{Draw, Resync}
use Rattle.auc_core.specs.declared.event.Reply.{Reply}
use Rattle.auc_core.specs.declared.event.Reply.TheVariants.{Number, Exhausted, Moved, InRange, Beyond}

-- what contracts see of a core: the word of each subscriber, and its top
pub record CoreState : Type 0 where
  pub words : List ℕ
  pub tops : List ℕ

-- what stands of every core
pub record IsCore (state : CoreState) : Type 0 where
  -- each subscriber has a top
  pub each : length state.tops ≡ length state.words
  -- which is a number
  pub numbers : All (λ top. top ≤ max_seq) state.tops
  -- no word is above its mark
  pub marked : (sub : ℕ) → slice_index state.words sub ≤ slice_index state.tops sub + 1

-- the subscriber that an event is of
abbrev pub event_subscriber : Event → ℕ
event_subscriber (Draw sub) = sub
event_subscriber (Resync sub seq_ms) = sub

-- the event is of a subscriber of the core, and its SEQ, if it has one, is a number of the subscriber
abbrev pub Knows : CoreState → Event → Type 0
Knows state (Draw sub) = sub < length state.words
Knows state (Resync sub seq_ms) = (sub < length state.words) × (seq_ms ≤ slice_index state.tops sub)

-- the reply to a draw at a top and a word: the next number if the word is below the top, else that there is none
abbrev pub RepliesToDraw : ℕ → ℕ → Reply → Type 0
RepliesToDraw top word (Number n) = (word < top) × (n ≡ word + 1)
RepliesToDraw top word (Exhausted w) = (top ≤ word) × (w ≡ top)
RepliesToDraw top word (Moved from to) = ⊥
RepliesToDraw top word (InRange seen seq) = ⊥
RepliesToDraw top word (Beyond seen seq) = ⊥

-- the number that stands at a top and a word: after a refused draw it is the top
abbrev pub standing : ℕ → ℕ → ℕ
standing top word = min word top

-- a reply names the number that stands at a top and a word, and then the SEQ
abbrev pub NamesNumber : ℕ → ℕ → ℕ → ℕ → ℕ → Type 0
NamesNumber top word seq_ms seen seq = (seen ≡ standing top word) × (seq ≡ seq_ms)

-- the reply to a resynchronisation at a top and a word (TS 33.102 §6.3.5 and Annex C.2.1): the number is below the SEQ
-- and moves to it; it isn't below, and the next number is at most 2 ^ 28 above the SEQ; or the next number is further
-- above it
abbrev pub RepliesToResync : ℕ → ℕ → ℕ → Reply → Type 0
RepliesToResync top word seq_ms (Number n) = ⊥
RepliesToResync top word seq_ms (Exhausted w) = ⊥
RepliesToResync top word seq_ms (Moved from to) = NamesNumber top word seq_ms from to × (from < to)
RepliesToResync top word seq_ms (InRange seen seq) = NamesNumber top word seq_ms seen seq × (seq ≤ seen) × (seen + 1 ≤ seq + 2 ^ 28)
RepliesToResync top word seq_ms (Beyond seen seq) = NamesNumber top word seq_ms seen seq × (seq + 2 ^ 28 < seen + 1)

-- the reply to an event at its subscriber's top and word
abbrev pub Replies : ℕ → ℕ → Event → Reply → Type 0
Replies top word (Draw sub) reply = RepliesToDraw top word reply
Replies top word (Resync sub seq_ms) reply = RepliesToResync top word seq_ms reply

-- the word after a step, from the word before it and its reply: the drawn number, the mark, or the number that it was
-- moved to; else it stays
abbrev pub word_after : ℕ → Reply → ℕ
word_after word (Number n) = n
word_after word (Exhausted w) = w + 1
word_after word (Moved from to) = to
word_after word (InRange seen seq) = word
word_after word (Beyond seen seq) = word

-- the state after a step: only the word of the event's subscriber changes
abbrev pub state_after : CoreState → Event → Reply → CoreState
state_after state event reply = record {
  words = slice_set state.words (event_subscriber event) (word_after (slice_index state.words (event_subscriber event)) reply);
  tops = state.tops;
}

-- one step: the reply to an event, and the state before and after it
abbrev pub Steps : CoreState → Event → Reply → CoreState → Type 0
Steps old event reply new =
    Replies (slice_index old.tops (event_subscriber event)) (slice_index old.words (event_subscriber event)) event reply
    × (new ≡ state_after old event reply)

-- what a step adds to its subscriber's history, from the word before it and its reply: the drawn number; the move; the
-- number that was looked at; the mark of the first refused draw. After the mark nothing is added
abbrev pub entries_made : ℕ → Reply → List Entry
entries_made word (Number n) = Drawn n ∷ []
entries_made word (Exhausted w) = if nat_le word w then Drawn (w + 1) ∷ [] else []
entries_made word (Moved from to) = moved from to ∷ []
entries_made word (InRange seen seq) = if nat_le word seen then Look seen ∷ [] else []
entries_made word (Beyond seen seq) = if nat_le word seen then Look seen ∷ [] else []

-- events one after the other, each with its reply
abbrev pub Run : Type 0
Run = List (Event × Reply)

-- the run leads from one state to another, and each event is one that the core knows
abbrev pub Leads : CoreState → Run → CoreState → Type 0
Leads old [] new = old ≡ new
Leads old ((event, reply) ∷ run) new = (next : CoreState) × Knows old event × Steps old event reply next × Leads next run new

-- what a run adds to a subscriber's history, from the subscriber's word before it
abbrev pub history_made : ℕ → ℕ → Run → List Entry
history_made sub word [] = []
history_made sub word ((event, reply) ∷ run) =
    if event_subscriber event == sub then entries_made word reply ++ history_made sub (word_after word reply) run else history_made sub word run

-- the number that a reply draws, if it draws one
abbrev pub number_drawn : Reply → List ℕ
number_drawn (Number n) = n ∷ []
number_drawn (Exhausted w) = []
number_drawn (Moved from to) = []
number_drawn (InRange seen seq) = []
number_drawn (Beyond seen seq) = []

-- the numbers that a run draws for a subscriber
abbrev pub numbers_drawn : ℕ → Run → List ℕ
numbers_drawn sub [] = []
numbers_drawn sub ((event, reply) ∷ run) =
    if event_subscriber event == sub then number_drawn reply ++ numbers_drawn sub run else numbers_drawn sub run

-- every run leaves a legal history of each subscriber under its top, from its word before the run to its word after it
abbrev pub EachHistoryIsLegal : Type 0
EachHistoryIsLegal = (old new : CoreState) (run : Run) (sub : ℕ)
    → slice_index old.words sub ≤ slice_index old.tops sub + 1 → Leads old run new → sub < length old.words
    → IsLegal (slice_index old.tops sub) (slice_index old.words sub) (slice_index new.words sub) (history_made sub (slice_index old.words sub) run)

-- no run draws a number twice for a subscriber
abbrev pub NoNumberComesTwice : Type 0
NoNumberComesTwice = (old new : CoreState) (run : Run) (sub : ℕ)
    → slice_index old.words sub ≤ slice_index old.tops sub + 1 → Leads old run new → sub < length old.words
    → AllPairs ◌≢◌ (numbers_drawn sub run)
