-- For the words of a `CoreCentre`: after each event they are at most the mark.
use Rattle.std.proofs.Common.{◌≡◌, ◌≢◌, ℕ, zero, suc, ◌+◌, ◌-◌, ◌≤◌, ◌⊎◌, eqb, Bool, true, false, List, [], ◌∷◌, ◌++◌, arith, refl, sym, ◌∙◌, ap, subst, inl, inr}
use Rattle.std.specs.Prelude.{All, Contains, Option, Some, None, nat_le, slice_index, if◌then◌else◌}
use Rattle.std.proofs.lemmas.Bool.Decides.{eqb_tells}
use Rattle.std.proofs.lemmas.List.Elements.{All-append, All-cons, All-contains, All-head, All-nil, All-tail}
use Rattle.auc_core.specs.Step.{CoreState}
use Rattle.auc_history.specs.History.{IsLegal, IsMove, covered, covers, drawn_by, numbers_after}
use Rattle.auc_history.specs.declared.entry.Entry.{Entry}
use Rattle.auc_history.specs.declared.entry.Entry.TheVariants.{Drawn, Moved, Look}
use Rattle.auc_vector.specs.Centre.{unless_spent}
use Rattle.auc_vector.specs.Notes.{AnswersNumber, AskedCentre, AskedOf, Asking, entries_noted, entries_resynced, kept_noted}
use Rattle.auc_vector.specs.Stretch.{IsStretch, kept_at}
use Rattle.auc_vector.specs.declared.notes.Notes.{Notes}
use Rattle.auc_vector.specs.declared.notes.NumberNote.{NumberNote}
use Rattle.auc_vector.specs.declared.notes.NumberNote.TheVariants as number
use Rattle.auc_vector.specs.declared.notes.ResyncNote.{ResyncNote}
use Rattle.auc_vector.specs.declared.notes.ResyncNote.TheVariants as resync
use Rattle.auc_events.specs.Run.{kept_in, top_in}

-- no word is above its mark
abbrev pub AreLow : CoreState → Type 0
AreLow core = (sub : ℕ) → slice_index core.words sub ≤ slice_index core.tops sub + 1

-- ---- the closing of a history

-- the last one of rising numbers
last_number : (count from : ℕ) → Contains (numbers_after from (suc count)) (from + suc count)
last_number zero from = (0, omega arith, omega arith)
last_number (suc count) from =
    let (k, inside, is) = last_number count (from + 1) in
    let same : from + 1 + suc count ≡ from + suc (suc count) = omega arith in
    subst (λ (n : ℕ). Contains (numbers_after from (suc (suc count))) n) same (suc k, omega (arith, inside), is)

rising_low : (count from most : ℕ) → from + count ≤ most → All (λ n. n ≤ most) (numbers_after from count)
rising_low zero from most low = All-nil (λ n. n ≤ most)
rising_low (suc count) from most low =
    All-cons (λ n. n ≤ most) (from + 1) (numbers_after (from + 1) count) (omega (arith, low)) (rising_low count (from + 1) most (omega (arith, low)))

-- a subscriber with a greatest number
module _ (top : ℕ) where
  abbrev pub IsLow : ℕ → Type 0
  IsLow n = n ≤ top + 1

  -- the closing is the opening or a number that is covered
  closing_low : (opening closing : ℕ) (entries : List Entry) → IsLegal top opening closing entries → IsLow opening → All IsLow (covered entries) → IsLow closing
  closing_low opening closing entries legal low covers_low = by (closing - opening) refl
    where
      by : (count : ℕ) → closing - opening ≡ count → IsLow closing
      by zero e = let forward = legal.forward in omega (arith, forward, e, low)
      by (suc count) e =
          let last = All-contains IsLow (covered entries) (opening + suc count) covers_low
          (subst (λ (ns : List ℕ). Contains ns (opening + suc count)) (sym (legal.rising ∙ ap (numbers_after opening) e)) (last_number count opening)) in
          let forward = legal.forward in
          omega (arith, forward, e, last)

  -- ---- the numbers that entries cover

  -- an entry draws no number above the mark
  abbrev DrawsLow : Entry → Type 0
  DrawsLow e = All IsLow (drawn_by e)

  entry_low : (e : Entry) → IsMove top e → DrawsLow e → All IsLow (covers e)
  entry_low (Drawn n) move low = low
  entry_low (Moved from to) (up, within) low = rising_low (to - from) from (top + 1) (omega (arith, up, within))
  entry_low (Look seen) move low = All-nil IsLow

  covered_low : (entries : List Entry) → All (IsMove top) entries → All DrawsLow entries → All IsLow (covered entries)
  covered_low [] moves low = All-nil IsLow
  covered_low (e ∷ entries) moves low =
      All-append IsLow (covers e) (covered entries) (entry_low e (All-head (IsMove top) e entries moves) (All-head DrawsLow e entries low))
      (covered_low entries (All-tail (IsMove top) e entries moves) (All-tail DrawsLow e entries low))

  -- ---- what the centre answered

  one_low : (n : ℕ) → IsLow n → All DrawsLow (Drawn n ∷ [])
  one_low n low = All-cons DrawsLow (Drawn n) [] (All-cons IsLow n [] low (All-nil IsLow)) (All-nil DrawsLow)

  look_low : (seen : ℕ) → All DrawsLow (Look seen ∷ [])
  look_low seen = All-cons DrawsLow (Look seen) [] (All-nil IsLow) (All-nil DrawsLow)

  unless_low : (kept : Option ℕ) (entries : List Entry) → All DrawsLow entries → All DrawsLow (unless_spent kept entries)
  unless_low None entries low = low
  unless_low (Some w) entries low = All-nil DrawsLow

  resync_low : (kept : Option ℕ) (o : Option ResyncNote) → All DrawsLow (entries_resynced kept o)
  resync_low kept None = All-nil DrawsLow
  resync_low kept (Some (resync.Moved seen to)) = All-cons DrawsLow (Moved seen to) [] (All-nil IsLow) (All-nil DrawsLow)
  resync_low kept (Some (resync.InRange seen to)) = unless_low kept (Look seen ∷ []) (look_low seen)
  resync_low kept (Some (resync.Beyond seen to)) = unless_low kept (Look seen ∷ []) (look_low seen)
  resync_low kept (Some resync.BadAuts) = All-nil DrawsLow

  -- the word that is kept is the greatest number
  kept_is : (word w : ℕ) → kept_at top word ≡ Some w → w ≡ top
  kept_is word w = by (nat_le word top)
    where
      by : (b : Bool) → (if b then None else Some top) ≡ Some w → w ≡ top
      by true e = absurd (cc)
      by false e = cc

  number_low : (kept : Option ℕ) (word : ℕ) (o : Option NumberNote) → AnswersNumber top kept o → kept_at top word ≡ kept_noted kept o → All DrawsLow (entries_noted kept o)
  number_low kept word None answers keeps = All-nil DrawsLow
  number_low kept word (Some (number.Drew n)) answers keeps = let most = answers.2 in one_low n (omega (arith, most))
  number_low kept word (Some (number.Exhausted w)) answers keeps =
      let last = kept_is word w keeps in unless_low kept (Drawn (w + 1) ∷ []) (one_low (w + 1) (omega (arith, last)))
  number_low kept word (Some (number.Withheld n stop)) answers keeps = let most = answers.2 in one_low n (omega (arith, most))

-- ---- the words after an event

-- the greatest numbers stay
same_tops : (core next : CoreState) (sub n : ℕ) → next.tops ≡ core.tops → n ≤ slice_index core.tops sub + 1 → n ≤ slice_index next.tops sub + 1
same_tops core next sub n same low = subst (λ (tops : List ℕ). n ≤ slice_index tops sub + 1) (sym same) low

stays_low : (core next : CoreState) (sub : ℕ) → IsStretch core sub [] [] next → slice_index core.words sub ≤ slice_index core.tops sub + 1
    → slice_index next.words sub ≤ slice_index next.tops sub + 1
stays_low core next sub goes low =
    let top = slice_index core.tops sub in
    same_tops core next sub (slice_index next.words sub) goes.tops
    (closing_low top (slice_index core.words sub) (slice_index next.words sub) [] goes.legal low (All-nil (λ n. n ≤ top + 1)))

own_low : (core next : CoreState) (request : Asking) (notes : Notes) → AskedOf IsStretch kept_in top_in request notes core next
    → slice_index core.words request.sub ≤ slice_index core.tops request.sub + 1 → slice_index next.words request.sub ≤ slice_index next.tops request.sub + 1
own_low core next request notes asked low =
    let top = slice_index core.tops request.sub in
    let kept : Option ℕ = kept_in core request.sub in
    let entries : List Entry = entries_resynced kept notes.resync ++ entries_noted kept notes.number in
    let keeps = subst (λ (tops : List ℕ). kept_at (slice_index tops request.sub) (slice_index next.words request.sub) ≡ kept_noted kept notes.number) asked.own.tops asked.keeps in
    same_tops core next request.sub (slice_index next.words request.sub) asked.own.tops
    (closing_low top (slice_index core.words request.sub) (slice_index next.words request.sub) entries asked.own.legal low
    (covered_low top entries asked.own.legal.moves
    (All-append (λ e. All (λ n. n ≤ top + 1) (drawn_by e)) (entries_resynced kept notes.resync) (entries_noted kept notes.number) (resync_low top kept notes.resync)
    (number_low top kept (slice_index next.words request.sub) notes.number asked.number keeps))))

pub words_low : (core next : CoreState) (o : Option Asking) (notes : Notes) → AskedCentre IsStretch kept_in top_in o notes core next → AreLow core → AreLow next
words_low core next None notes asked low sub = stays_low core next sub (asked.0 sub) (low sub)
words_low core next (Some request) notes asked low sub = by (eqb_tells request.sub sub)
  where
    by : ((eqb request.sub sub ≡ true) × (request.sub ≡ sub)) ⊎ ((eqb request.sub sub ≡ false) × (request.sub ≢ sub)) → slice_index next.words sub ≤ slice_index next.tops sub + 1
    by (inl (e, same)) = subst (λ (s : ℕ). slice_index next.words s ≤ slice_index next.tops s + 1) same (own_low core next request notes asked (low request.sub))
    by (inr (e, other)) = stays_low core next sub (asked.others sub (λ same. other (sym same))) (low sub)
