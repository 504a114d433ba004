-- What a pass notes.
use Rattle.std.proofs.Common.{◌≡◌, ◌≢◌, ℕ, zero, suc, ◌+◌, ◌-◌, ◌<◌, ◌≤◌, ◌==◌, nat_lt, Bool, true, false, if◌then◌else◌, List, [], ◌∷◌, ◌++◌, length, slice_index, slice_set, get_or, All, Contains, Option, Some, None, is_some, arith, refl, sym, ap, ◌∙◌, subst, eq-eqb}
use Rattle.std.proofs.lemmas.Bool.Decides.{nat_tests}
use Rattle.std.proofs.lemmas.Bool.{eqb-true}
use Rattle.std.proofs.lemmas.List.{append-nil, length-append, get_or-append-add, length-set, get_or-set_same, get_or-set_other}
use Rattle.std.proofs.lemmas.List.Sums.{sum_by-cons, sum_by-append}
use Rattle.auc_history.specs.declared.entry.Entry.{Entry}
use Rattle.auc_history.specs.declared.entry.Entry.TheVariants.{Drawn, Moved, Look}
use Rattle.auc_history.specs.History.{IsInOrder}
use Rattle.auc_sqn.specs.Number.{max_seq}
use Rattle.auc_draw.specs.declared.rule.Deed.{Deed}
use Rattle.auc_draw.specs.declared.rule.Deed.TheVariants.{Made, Claimed, Released as released}
use Rattle.auc_draw.specs.declared.pass.Draw.TheVariants.{Number, Exhausted}
use Rattle.auc_draw.specs.declared.pass.Jump.TheVariants.{Moved as moved_from, Stood}
use Rattle.auc_draw.specs.Deeds.{entries_of, kept_word, kept_of, kept_stop, stop_read, withholding, made, AreInOrder, claims_of}
use Rattle.auc_draw.specs.InnerPass.{noted, Notes}
use Rattle.auc_draw.specs.declared.pass.Release.{Release}
use Rattle.auc_draw.specs.declared.pass.Release.TheVariants.{Released, Above}
use Rattle.auc_memory.specs.declared.stop.Stop.{Stop}
use Rattle.atomic_table.specs.Seated.{TableId}
use Rattle.auc_draw.specs.Values.{PassValue}
use Rattle.auc_draw.specs.Pass.{IsWordKept, unless_kept, Draws, Jumps, Releases}
use Rattle.auc_draw.proofs.StopLemmas.{AreQuiet, entries_quiet, claims_quiet, release_quiet, stopped_quiet}
use Rattle.auc_draw.specs.InnerRule.{jump_entry, with_deed, with_deeds, mark_by, marks_in, wide_by, wide_in}
use Rattle.atomic_table.specs.Table.{Me}
use Rattle.auc_draw.specs.declared.rule.View.{View}
use Rattle.auc_draw.proofs.StepLemmas.{entries_same, entries_other, entries_claimed, claims_made, claims_more}

-- a draw keeps no word if it is no mark
drawn_none : (top : ℕ) (b : Bool) (n : ℕ) (es : List Entry) → (if b then Some (n - 1) else kept_word top es) ≡ None → b ≡ false
drawn_none top true n es is = let no : ⊥ = cc in absurd no
drawn_none top false n es is = refl

-- without a kept word there is no mark
pub no_marks : (top : ℕ) (es : List Entry) → kept_word top es ≡ None → marks_in top es ≡ 0
no_marks top [] is = refl
no_marks top (Drawn n ∷ es) is =
    let number = drawn_none top (nat_lt top n) n es is in
    let rest : kept_word top es ≡ None = sym (ap (λ b. if b then Some (n - 1) else kept_word top es) number) ∙ is in
    omega (arith, sum_by-cons (mark_by top) (Drawn n) es, no_marks top es rest, ap {B = ℕ} (λ b. if b then 1 else 0) number)
no_marks top (Moved from to ∷ es) is = omega (arith, sum_by-cons (mark_by top) (Moved from to) es, no_marks top es is)
no_marks top (Look seen ∷ es) is = omega (arith, sum_by-cons (mark_by top) (Look seen) es, no_marks top es is)

-- the word that is kept after further entries
pub kept_after : (top : ℕ) (es fs : List Entry) → kept_word top es ≡ None → kept_word top (es ++ fs) ≡ kept_word top fs
kept_after top [] fs is = refl
kept_after top (Drawn n ∷ es) fs is =
    let number = drawn_none top (nat_lt top n) n es is in
    let rest : kept_word top es ≡ None = sym (ap (λ b. if b then Some (n - 1) else kept_word top es) number) ∙ is in
    ap (λ b. if b then Some (n - 1) else kept_word top (es ++ fs)) number ∙ kept_after top es fs rest
kept_after top (Moved from to ∷ es) fs is = kept_after top es fs is
kept_after top (Look seen ∷ es) fs is = kept_after top es fs is

-- a word that is kept is no lower than the greatest number
drawn_high : (top : ℕ) (b : Bool) (n w : ℕ) (es : List Entry) → (kept_word top es ≡ Some w → top ≤ w) → nat_lt top n ≡ b → (if b then Some (n - 1) else kept_word top es) ≡ Some w → top ≤ w
drawn_high top true n w es rest above same = grind (arith, nat_tests)
drawn_high top false n w es rest below same = rest same

-- a kept word is at least the greatest number
kept_high : (top : ℕ) (es : List Entry) (w : ℕ) → kept_word top es ≡ Some w → top ≤ w
kept_high top [] w is = let no : ⊥ = cc in absurd no
kept_high top (Drawn n ∷ es) w is = drawn_high top (nat_lt top n) n w es (kept_high top es w) refl is
kept_high top (Moved from to ∷ es) w is = kept_high top es w is
kept_high top (Look seen ∷ es) w is = kept_high top es w is

-- ---- notes

-- 0 is no mark
pub none_noted : (k : ℕ) → k ≡ 0 → noted k ≡ None
none_noted zero is = refl
none_noted (suc k) is = absurd (omega arith)

-- any other number is one, and the word is one below it
pub word_noted : (k : ℕ) → k ≢ 0 → noted k ≡ Some (k - 1)
word_noted zero not = absurd (not refl)
word_noted (suc k) not = ap Some (omega arith)

-- so the word of a mark is noted
pub mark_noted : (w : ℕ) → noted (w + 1) ≡ Some w
mark_noted w = word_noted (w + 1) (λ none. omega (arith, none)) ∙ ap Some (omega arith)

-- an element, whatever stands for a missing one
pub default_free : (xs : List ℕ) (i d k : ℕ) → i < length xs → k ≡ get_or xs i d → k ≡ slice_index xs i
default_free [] i d k within is = absurd (omega arith)
default_free (x ∷ xs) zero d k within is = is
default_free (x ∷ xs) (suc i) d k within is = default_free xs i d k (omega arith) is

-- a subscriber's greatest number is at most the greatest of all
pub top_low : (tops : List ℕ) (sub : ℕ) → sub < length tops → All (λ n. n ≤ max_seq) tops → slice_index tops sub ≤ max_seq
top_low tops sub within low = low sub 0 within

-- the pass keeps no word of a subscriber
pub kept_none : (tops marks : List ℕ) (deeds : List Deed) (sub k : ℕ) → Notes tops marks deeds → sub < length marks → k ≡ get_or marks sub k → k ≡ 0 → kept_of (slice_index tops sub) deeds sub ≡ None
kept_none tops marks deeds sub k notes known is zero_is = notes.each sub known ∙ ap noted (sym (default_free marks sub k k known is)) ∙ none_noted k zero_is

-- the pass keeps this word of a subscriber
pub kept_some : (tops marks : List ℕ) (deeds : List Deed) (sub k : ℕ) → Notes tops marks deeds → sub < length marks → k ≡ get_or marks sub k → k ≢ 0 → kept_of (slice_index tops sub) deeds sub ≡ Some (k - 1)
kept_some tops marks deeds sub k notes known is not = notes.each sub known ∙ ap noted (sym (default_free marks sub k k known is)) ∙ word_noted k not

-- a pass that keeps no word of a subscriber made no mark of it
pub unmarked_at : (top : ℕ) (deeds : List Deed) (sub : ℕ) → kept_of top deeds sub ≡ None → marks_in top (entries_of sub deeds) ≡ 0
unmarked_at top deeds sub is = no_marks top (entries_of sub deeds) is

-- a deed of another subscriber changes no kept word
kept_other : (top : ℕ) (deeds : List Deed) (sub i : ℕ) (e : Entry) → i ≢ sub → kept_of top (deeds ++ Made sub e ∷ []) i ≡ kept_of top deeds i
kept_other top deeds sub i e apart = ap (kept_word top) (entries_other i sub deeds e apart)

-- the kept word after a deed is that of its entry, if none was kept before
pub kept_here : (top : ℕ) (deeds : List Deed) (sub : ℕ) (e : Entry) → kept_of top deeds sub ≡ None → kept_of top (deeds ++ Made sub e ∷ []) sub ≡ kept_word top (e ∷ [])
kept_here top deeds sub e is = ap (kept_word top) (entries_same sub deeds e) ∙ kept_after top (entries_of sub deeds) (e ∷ []) is

-- the deeds are in order after one more
order_more : (deeds : List Deed) (sub : ℕ) (e : Entry) → AreInOrder deeds → IsInOrder (entries_of sub (deeds ++ Made sub e ∷ [])) → AreInOrder (deeds ++ Made sub e ∷ [])
order_more deeds sub e order here = record { each = λ i. at i (i == sub) refl }
  where
    at : (i : ℕ) (b : Bool) → (i == sub) ≡ b → IsInOrder (entries_of i (deeds ++ Made sub e ∷ []))
    at i true same = let P : ℕ → Type 0 = λ k. IsInOrder (entries_of k (deeds ++ Made sub e ∷ [])) in subst P (sym (eqb-true i sub same)) here
    at i false other = subst IsInOrder (sym (entries_other i sub deeds e (λ same. let yes = eq-eqb i sub same in let no : ⊥ = cc in no))) (order.each i)

-- a step of a pass that keeps no word of the subscriber
pub record Stepped (tops marks : List ℕ) (deeds : List Deed) (sub : ℕ) (e : Entry) (new : List Deed) : Type 0 where
  pub notes : Notes tops marks deeds
  pub known : sub < length marks
  pub none : kept_of (slice_index tops sub) deeds sub ≡ None
  pub is : new ≡ deeds ++ Made sub e ∷ []
  pub ordered : IsInOrder (entries_of sub new)

-- what a step of a pass tells
pub steps : (tops marks : List ℕ) (me new : Me (Unit {0}) View) (sub : ℕ) (e : Entry) → Notes tops marks me.0.own → sub < length marks → kept_of (slice_index tops sub) me.0.own sub ≡ None
    → (new ≡ (with_deed me.0 (Made sub e), me.1)) × IsInOrder (entries_of sub new.0.own) → Stepped tops marks me.0.own sub e new.0.own
steps tops marks me new sub e notes known none told = record { notes = notes; known = known; none = none; is = ap (λ (m : Me (Unit {0}) View). m.0.own) told.0; ordered = told.1 }

-- the deeds are in order after the step
pub order_of : (tops marks : List ℕ) (deeds : List Deed) (sub : ℕ) (e : Entry) (new : List Deed) → Stepped tops marks deeds sub e new → AreInOrder new
order_of tops marks deeds sub e new st = subst AreInOrder (sym st.is) (order_more deeds sub e st.notes.ordered (subst (λ (ds : List Deed). IsInOrder (entries_of sub ds)) st.is st.ordered))

-- the kept word after the step is that of its entry
pub kept_now : (tops marks : List ℕ) (deeds : List Deed) (sub : ℕ) (e : Entry) (new : List Deed) → Stepped tops marks deeds sub e new → kept_of (slice_index tops sub) new sub ≡ kept_word (slice_index tops sub) (e ∷ [])
kept_now tops marks deeds sub e new st = ap (λ (ds : List Deed). kept_of (slice_index tops sub) ds sub) st.is ∙ kept_here (slice_index tops sub) deeds sub e st.none

-- an entry that is no mark changes no kept word
pub number_notes : (tops marks : List ℕ) (deeds : List Deed) (sub : ℕ) (e : Entry) (new : List Deed) → Stepped tops marks deeds sub e new → kept_word (slice_index tops sub) (e ∷ []) ≡ None → Notes tops marks new
number_notes tops marks deeds sub e new st unmarked = record { each = λ i within. at i within (i == sub) refl; ordered = order_of tops marks deeds sub e new st }
  where
    at : (i : ℕ) → i < length marks → (b : Bool) → (i == sub) ≡ b → kept_of (slice_index tops i) new i ≡ noted (slice_index marks i)
    at i within true same =
        let here = eqb-true i sub same in
        let was = sym st.none ∙ st.notes.each sub st.known in
        let now : kept_of (slice_index tops sub) new sub ≡ noted (slice_index marks sub) = kept_now tops marks deeds sub e new st ∙ unmarked ∙ was in
        let P : ℕ → Type 0 = λ k. kept_of (slice_index tops k) new k ≡ noted (slice_index marks k) in subst P (sym here) now
    at i within false other =
        ap (λ (ds : List Deed). kept_of (slice_index tops i) ds i) st.is ∙ kept_other (slice_index tops i) deeds sub i e (λ same. let yes = eq-eqb i sub same in let no : ⊥ = cc in no) ∙ st.notes.each i within

-- a mark is kept
pub mark_notes : (tops marks : List ℕ) (deeds : List Deed) (sub w : ℕ) (e : Entry) (new : List Deed) → Stepped tops marks deeds sub e new → kept_word (slice_index tops sub) (e ∷ []) ≡ Some w → Notes tops (slice_set marks sub (w + 1)) new
mark_notes tops marks deeds sub w e new st marked =
    record { each = λ i within. at i (omega (arith, within, length-set marks sub (w + 1))) (i == sub) refl; ordered = order_of tops marks deeds sub e new st }
  where
    at : (i : ℕ) → i < length marks → (b : Bool) → (i == sub) ≡ b → kept_of (slice_index tops i) new i ≡ noted (slice_index (slice_set marks sub (w + 1)) i)
    at i within true same =
        let here = eqb-true i sub same in
        let now : kept_of (slice_index tops sub) new sub ≡ noted (slice_index (slice_set marks sub (w + 1)) sub) =
        kept_now tops marks deeds sub e new st ∙ marked ∙ sym (mark_noted w) ∙ ap noted (sym (get_or-set_same marks sub (w + 1) 0 st.known)) in
        let P : ℕ → Type 0 = λ k. kept_of (slice_index tops k) new k ≡ noted (slice_index (slice_set marks sub (w + 1)) k) in subst P (sym here) now
    at i within false other =
        let apart : i ≢ sub = λ same. (let yes = eq-eqb i sub same in let no : ⊥ = cc in no) in
        ap (λ (ds : List Deed). kept_of (slice_index tops i) ds i) st.is ∙ kept_other (slice_index tops i) deeds sub i e apart ∙ st.notes.each i within ∙ ap noted (sym (get_or-set_other marks sub i (w + 1) 0 apart))

-- ---- the entries' words

-- a number is no mark
pub drawn_unmarked : (top n : ℕ) → n ≤ top → kept_word top (Drawn n ∷ []) ≡ None
drawn_unmarked top n low = grind (arith, nat_tests)

-- the number after a word that is at least the greatest is a mark of this word
pub drawn_marked : (top w : ℕ) → top ≤ w → kept_word top (Drawn (w + 1) ∷ []) ≡ Some w
drawn_marked top w high = by (nat_lt top (w + 1)) refl
  where
    by : (b : Bool) → nat_lt top (w + 1) ≡ b → (if b then Some (w + 1 - 1) else None) ≡ Some w
    by true above = ap Some (omega arith)
    by false below = grind (arith, nat_tests)

-- a jump makes no mark
pub jump_unmarked : (top to found : ℕ) → kept_word top (jump_entry to found ∷ []) ≡ None
jump_unmarked top to found = by (nat_lt found to)
  where
    by : (b : Bool) → kept_word top ((if b then Moved found to else Look found) ∷ []) ≡ None
    by true = refl
    by false = refl

-- a kept word of a pass is at least the greatest number
pub kept_is_high : (top : ℕ) (deeds : List Deed) (sub w : ℕ) → kept_of top deeds sub ≡ Some w → top ≤ w
kept_is_high top deeds sub w is = kept_high top (entries_of sub deeds) w is

-- ---- the calls' clauses

-- without a kept word the entries are made
spent_none : (kept : Option ℕ) (es : List Entry) → kept ≡ None → unless_kept kept es ≡ es
spent_none None es is = refl
spent_none (Some w) es is = let no : ⊥ = cc in absurd no

-- with a kept word no entry is made
spent_some : (kept : Option ℕ) (w : ℕ) (es : List Entry) → kept ≡ Some w → unless_kept kept es ≡ []
spent_some None w es is = let no : ⊥ = cc in absurd no
spent_some (Some v) w es is = refl

-- the kept word is the kept one
word_is_kept : (kept : Option ℕ) (w : ℕ) → kept ≡ Some w → IsWordKept kept w
word_is_kept None w is = let no : ⊥ = cc in absurd no
word_is_kept (Some v) w is = cc

-- without a kept word any word will do
no_word_kept : (kept : Option ℕ) (w : ℕ) → kept ≡ None → IsWordKept kept w
no_word_kept None w is = tt
no_word_kept (Some v) w is = let no : ⊥ = cc in absurd no

-- a draw that found a word below the greatest number
pub draws_number : (tops marks : List ℕ) (old deeds : List Deed) (sub found : ℕ) (new : List Deed) → Stepped tops marks deeds sub (Drawn (found + 1)) new → deeds ≡ old → found < slice_index tops sub
    → Draws (slice_index tops sub) sub old new (Number (found + 1))
draws_number tops marks old deeds sub found new st seen low =
    let top = slice_index tops sub in
    let P : List Deed → Type 0 = λ ds. Draws top sub ds new (Number (found + 1)) in
    subst P seen (st.none, omega arith, omega (arith, low), st.is, kept_now tops marks deeds sub (Drawn (found + 1)) new st ∙ drawn_unmarked top (found + 1) (omega (arith, low)))

-- a draw that found a word at least the greatest number
pub draws_mark : (tops marks : List ℕ) (old deeds : List Deed) (sub found : ℕ) (new : List Deed) → Stepped tops marks deeds sub (Drawn (found + 1)) new → deeds ≡ old → slice_index tops sub ≤ found
    → Draws (slice_index tops sub) sub old new (Exhausted found)
draws_mark tops marks old deeds sub found new st seen high =
    let top = slice_index tops sub in
    let P : List Deed → Type 0 = λ ds. Draws top sub ds new (Exhausted found) in
    subst P seen (
      high,
      no_word_kept (kept_of top deeds sub) found st.none,
      st.is ∙ ap (λ es. deeds ++ made sub es) (sym (spent_none (kept_of top deeds sub) (Drawn (found + 1) ∷ []) st.none)),
      kept_now tops marks deeds sub (Drawn (found + 1)) new st ∙ drawn_marked top found high,
    )

-- a draw of a pass that keeps a word
pub draws_kept : (top : ℕ) (old deeds : List Deed) (sub w : ℕ) → kept_of top deeds sub ≡ Some w → deeds ≡ old → Draws top sub old old (Exhausted w)
draws_kept top old deeds sub w is seen =
    let P : List Deed → Type 0 = λ ds. Draws top sub ds ds (Exhausted w) in
    subst P seen (kept_is_high top deeds sub w is, word_is_kept (kept_of top deeds sub) w is, sym (append-nil deeds) ∙ ap (λ es. deeds ++ made sub es) (sym (spent_some (kept_of top deeds sub) w (Drawn (w + 1) ∷ []) is)), is)

-- a jump that found a lower word
pub jumps_moved : (tops marks : List ℕ) (old deeds : List Deed) (sub to found : ℕ) (new : List Deed) → Stepped tops marks deeds sub (jump_entry to found) new → deeds ≡ old → found < to
    → Jumps (slice_index tops sub) sub to old new (moved_from found)
jumps_moved tops marks old deeds sub to found new st seen low =
    let P : List Deed → Type 0 = λ ds. Jumps (slice_index tops sub) sub to ds new (moved_from found) in
    let e : jump_entry to found ≡ Moved found to = by (nat_lt found to) refl in
    subst P seen (st.none, low, st.is ∙ ap (λ d. deeds ++ Made sub d ∷ []) e)
  where
    by : (b : Bool) → nat_lt found to ≡ b → jump_entry to found ≡ Moved found to
    by b is = grind (arith, nat_tests)

-- a jump that found no lower word
pub jumps_stood : (tops marks : List ℕ) (old deeds : List Deed) (sub to found : ℕ) (new : List Deed) → Stepped tops marks deeds sub (jump_entry to found) new → deeds ≡ old → to ≤ found
    → Jumps (slice_index tops sub) sub to old new (Stood found)
jumps_stood tops marks old deeds sub to found new st seen high =
    let kept = kept_of (slice_index tops sub) deeds sub in
    let P : List Deed → Type 0 = λ ds. Jumps (slice_index tops sub) sub to ds new (Stood found) in
    let e : jump_entry to found ≡ Look found = by (nat_lt found to) refl in
    subst P seen (no_word_kept kept found st.none, high, st.is ∙ ap (λ d. deeds ++ Made sub d ∷ []) e ∙ ap (λ es. deeds ++ made sub es) (sym (spent_none kept (Look found ∷ []) st.none)))
  where
    by : (b : Bool) → nat_lt found to ≡ b → jump_entry to found ≡ Look found
    by b is = grind (arith, nat_tests)

-- a jump of a pass that keeps a word
pub jumps_kept : (top : ℕ) (old deeds : List Deed) (sub to w : ℕ) → kept_of top deeds sub ≡ Some w → deeds ≡ old → to ≤ top → Jumps top sub to old old (Stood w)
jumps_kept top old deeds sub to w is seen number =
    let P : List Deed → Type 0 = λ ds. Jumps top sub to ds ds (Stood w) in
    let high = kept_is_high top deeds sub w is in
    subst P seen (word_is_kept (kept_of top deeds sub) w is, omega (arith, high, number), sym (append-nil deeds) ∙ ap (λ es. deeds ++ made sub es) (sym (spent_some (kept_of top deeds sub) w (Look w ∷ []) is)))

-- ---- a claim

-- a claim changes no kept word and no entry
pub claimed_notes : (tops marks : List ℕ) (deeds : List Deed) (n : ℕ) (new : List Deed) → new ≡ deeds ++ Claimed n ∷ [] → Notes tops marks deeds → Notes tops marks new
claimed_notes tops marks deeds n new is notes = subst (λ (ds : List Deed). Notes tops marks ds) (sym is) (record {
  each = λ i within. ap (kept_word (slice_index tops i)) (entries_claimed i n deeds) ∙ notes.each i within;
  ordered = record { each = λ i. subst IsInOrder (sym (entries_claimed i n deeds)) (notes.ordered.each i) };
})

-- a number of 32 bits isn't late
low_number : (n : ℕ) → n < 4294967296 → wide_by n ≡ 0
low_number n low = grind (arith, nat_tests)

-- a claim of a number of 32 bits
pub claimed_narrow : (deeds : List Deed) (n : ℕ) (new : List Deed) → new ≡ deeds ++ Claimed n ∷ [] → wide_in (claims_of deeds) ≡ 0 → n < 4294967296 → wide_in (claims_of new) ≡ 0
claimed_narrow deeds n new is narrow low = omega (arith, narrow, low_number n low, ap (λ (ds : List Deed). wide_in (claims_of ds)) is ∙ ap wide_in (claims_more n deeds) ∙ sum_by-append wide_by (claims_of deeds) (n ∷ []), sum_by-cons wide_by n [])

-- a step on a subscriber's word claims nothing
pub made_narrow : (deeds : List Deed) (sub : ℕ) (e : Entry) (new : List Deed) → new ≡ deeds ++ Made sub e ∷ [] → wide_in (claims_of deeds) ≡ 0 → wide_in (claims_of new) ≡ 0
made_narrow deeds sub e new is narrow = ap (λ (ds : List Deed). wide_in (claims_of ds)) is ∙ ap wide_in (claims_made sub e deeds) ∙ narrow

-- an option that isn't some is none
pub none_left : (o : Option ℕ) (b : Bool) → b ≡ is_some o → b ≡ false → o ≡ None
none_left None b is off = refl
none_left (Some n) b is off = let bad : true ≡ false = sym is ∙ off in let none : ⊥ = cc in absurd none

-- ---- a release and a look at the stop

-- deeds that make no entry and claim nothing change no kept word and no entry
pub quiet_notes : (tops marks : List ℕ) (deeds new ds : List Deed) → new ≡ deeds ++ ds → AreQuiet ds → Notes tops marks deeds → Notes tops marks new
quiet_notes tops marks deeds new ds is quiet notes = subst (λ (xs : List Deed). Notes tops marks xs) (sym is) (record {
  each = λ i within. ap (kept_word (slice_index tops i)) (entries_quiet i deeds ds quiet) ∙ notes.each i within;
  ordered = record { each = λ i. subst IsInOrder (sym (entries_quiet i deeds ds quiet)) (notes.ordered.each i) };
})

-- and claim nothing
pub quiet_narrow : (deeds new ds : List Deed) → new ≡ deeds ++ ds → AreQuiet ds → wide_in (claims_of deeds) ≡ 0 → wide_in (claims_of new) ≡ 0
quiet_narrow deeds new ds is quiet narrow = ap (λ (xs : List Deed). wide_in (claims_of xs)) is ∙ ap wide_in (claims_quiet deeds ds quiet) ∙ narrow

-- what a release adds
pub record IsQuietly (deeds new : List Deed) : Type 0 where
  pub added : List Deed
  pub is : new ≡ deeds ++ added
  pub quiet : AreQuiet added

-- a release adds such deeds
pub releases_quietly : (sub n : ℕ) (deeds new : List Deed) (answer : Release) → Releases sub n deeds new answer → IsQuietly deeds new
releases_quietly sub n deeds new Released told = record { added = released sub n ∷ []; is = told; quiet = release_quiet sub n false None }
releases_quietly sub n deeds new (Above limit) told = record { added = withholding sub n (kept_stop deeds); is = told.1; quiet = release_quiet sub n true (kept_stop deeds) }

-- a look at the stop too
pub stopped_quietly : (o : Option Stop) (me new : Me (Unit {0}) View) → new ≡ (with_deeds me.0 (stop_read o), me.1) → IsQuietly me.0.own new.0.own
stopped_quietly o me new is = record { added = stop_read o; is = ap (λ (m : Me (Unit {0}) View). m.0.own) is; quiet = stopped_quiet o }

-- the number that the caller drew is among the entries of the seat
pub drawn_here : (id : TableId) (tops : List ℕ) (deeds : List Deed) (ended : Option ℕ) (pass : PassValue) (sub n : ℕ) → record { id = id; tops = tops; deeds = deeds; ended = ended } ≡ pass → Contains (entries_of sub pass.deeds) (Drawn n) → Contains (entries_of sub deeds) (Drawn n)
drawn_here id tops deeds ended pass sub n is there = subst (λ (ds : List Deed). Contains (entries_of sub ds) (Drawn n)) (sym (ap (λ (p : PassValue). p.deeds) is)) there

-- a number that was just drawn is among the entries
pub just_drawn : (top sub n : ℕ) (old new : List Deed) → Draws top sub old new (Number n) → Contains (entries_of sub new) (Drawn n)
just_drawn top sub n old new drew = subst (λ (es : List Entry). Contains es (Drawn n)) (sym (ap (entries_of sub) drew.3 ∙ entries_same sub old (Drawn n))) (last_there (entries_of sub old))
  where
    last_there : (es : List Entry) → Contains (es ++ Drawn n ∷ []) (Drawn n)
    last_there es = (length es, omega (arith, length-append es (Drawn n ∷ [])), ap (λ k. get_or (es ++ Drawn n ∷ []) k (Drawn n)) (omega arith) ∙ get_or-append-add es (Drawn n ∷ []) 0 (Drawn n))
