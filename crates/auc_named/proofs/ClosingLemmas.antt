-- The closings of a round of all subscribers are those of a round of some, in the order of their places.
use Rattle.std.proofs.Common.{◌≡◌, ℕ, zero, suc, ◌+◌, ◌<◌, ◌≤◌, ◌==◌, ◌≢◌, Bool, true, false, if◌then◌else◌, List, [], ◌∷◌, ◌++◌, drop, length, map, AllPairs, slice_index, refl, sym, ap, ◌∙◌, ⊎_elim, arith, eq-eqb, drop-cons, drop_of_length-le}
use Rattle.std.proofs.lemmas.Bool.{cases_eq, cases_lt, false≢true}
use Rattle.std.proofs.lemmas.List.{map-append}
use Rattle.auc_history.specs.History.{drawn, skipped}
use Rattle.auc_history.specs.Split.{all_entries}
use Rattle.auc_history.specs.declared.entry.Entry.{Entry}
use Rattle.auc_named.specs.Named.{closing_of, records_of}
use Rattle.auc_record.specs.Entries.{entries_of_jobs}
use Rattle.auc_record.specs.Lines.{all_lines, numbers_of, withheld_of}
use Rattle.auc_world.specs.Round as round
use Rattle.auc_record.specs.declared.record.Closing.{Closing}
use Rattle.auc_record.specs.declared.record.LineRecord.{LineRecord}
use Rattle.auc_named.proofs.RecordLemmas.{ArePlainRecords, entries_named, numbers_named, withheld_named}

-- ---- closings, one subscriber after the other

-- what there is at each of so many numbers from one on
abbrev walk : (ℕ → List Closing) → ℕ → ℕ → List Closing
walk f at zero = []
walk f at (suc n) = f at ++ walk f (at + 1) n

-- the closings of the subscribers from one on are such
walk-closings_from : (openings words : List ℕ) (jobs : List (List LineRecord)) (at n : ℕ) → length words ≡ length openings → at + n ≡ length openings
    → round.closings_from at (drop at openings) (drop at words) jobs ≡ walk (λ sub. round.closing_of sub (slice_index openings sub) (slice_index words sub) jobs) at n
walk-closings_from openings words jobs at zero size all =
    ap (λ (os : List ℕ). round.closings_from at os (drop at words) jobs) (drop_of_length-le openings (omega (arith, all)))
walk-closings_from openings words jobs at (suc n) size all =
    let next : suc at ≡ at + 1 = omega arith in
    let rest = λ (k : ℕ). round.closings_from (at + 1) (drop k openings) (drop k words) jobs in
    ap (λ (os : List ℕ). round.closings_from at os (drop at words) jobs) (drop-cons openings at 0 (omega (arith, all)))
    ∙ ap (λ (ws : List ℕ). round.closings_from at (slice_index openings at ∷ drop (suc at) openings) ws jobs) (drop-cons words at 0 (omega (arith, all, size)))
    ∙ ap (λ (k : ℕ). round.closing_of at (slice_index openings at) (slice_index words at) jobs ++ rest k) next
    ∙ ap (λ (cs : List Closing). round.closing_of at (slice_index openings at) (slice_index words at) jobs ++ cs) (walk-closings_from openings words jobs (at + 1) n size (omega (arith, all)))

-- numbers at some places only, which rise: those of the places, one after the other
walk_places : (places : List ℕ) (f g : ℕ → List Closing) (to : Closing → Closing) (size at n i m : ℕ) → AllPairs ◌<◌ places → ((j : ℕ) → j < length places → slice_index places j < size)
    → ((j : ℕ) → j < length places → f (slice_index places j) ≡ map to (g j)) → ((k : ℕ) → ((j : ℕ) → j < length places → slice_index places j ≢ k) → f k ≡ [])
    → at + n ≡ size → i + m ≡ length places → ((j : ℕ) → j < i → slice_index places j < at) → ((j : ℕ) → i ≤ j → j < length places → at ≤ slice_index places j)
    → walk f at n ≡ map to (walk g i m)
walk_places places f g to size at zero i zero rising within there none all each low high = refl
walk_places places f g to size at zero i (suc m) rising within there none all each low high = absurd (
    let inside : i < length places = omega (arith, each) in
    let below = within i inside in
    let above = high i (omega arith) inside in omega (arith, below, above, all)
    )
walk_places places f g to size at (suc n) i zero rising within there none all each low high =
    let empty = none at (λ j inside is. let below = low j (omega (arith, inside, each)) in omega (arith, below, is)) in
    ap (λ (cs : List Closing). cs ++ walk f (at + 1) n) empty
    ∙ walk_places places f g to size (at + 1) n i zero rising within there none (omega (arith, all)) each
    (λ j before. let below = low j before in omega (arith, below)) (λ j from inside. absurd (omega (arith, from, inside, each)))
walk_places places f g to size at (suc n) i (suc m) rising within there none all each low high =
    let inside : i < length places = omega (arith, each) in
    ⊎_elim
    (λ (here : slice_index places i ≡ at).
    ap (λ (k : ℕ). f k ++ walk f (at + 1) n) (sym here)
    ∙ ap (λ (cs : List Closing). cs ++ walk f (at + 1) n) (there i inside)
    ∙ ap (λ (cs : List Closing). map to (g i) ++ cs)
    (walk_places places f g to size (at + 1) n (i + 1) m rising within there none (omega (arith, all)) (omega (arith, each))
    (λ j before. ⊎_elim
    (λ (less : j < i). let below = low j less in omega (arith, below))
    (λ (last : i ≤ j). let is : j ≡ i = omega (arith, last, before) in let same = ap (slice_index places) is in omega (arith, same, here))
    (cases_lt j i))
    (λ j from in_j. let above = rising i j 0 (omega (arith, from)) in_j in omega (arith, above, here)))
    ∙ sym (map-append to (g i) (walk g (i + 1) m)))
    (λ (later : slice_index places i ≢ at).
    let first = high i (omega arith) inside in
    let empty = none at (λ j in_j is. ⊎_elim
    (λ (less : j < i). let below = low j less in omega (arith, below, is))
    (λ (from : i ≤ j). ⊎_elim
    (λ (same : i ≡ j). later (ap (slice_index places) same ∙ is))
    (λ (apart : i ≢ j). let above = rising i j 0 (omega (arith, from, apart)) in_j in omega (arith, above, first, is))
    (cases_eq i j))
    (cases_lt j i)) in
    ap (λ (cs : List Closing). cs ++ walk f (at + 1) n) empty
    ∙ walk_places places f g to size (at + 1) n i (suc m) rising within there none (omega (arith, all)) each
    (λ j before. let below = low j before in omega (arith, below))
    (λ j from in_j. ⊎_elim
    (λ (same : i ≡ j). let is = ap (slice_index places) same in omega (arith, first, later, is))
    (λ (apart : i ≢ j). let above = rising i j 0 (omega (arith, from, apart)) in_j in omega (arith, above, first))
    (cases_eq i j)))
    (cases_eq (slice_index places i) at)

-- ---- the closing of a place

-- a closing by what it counts
abbrev written : ℕ → ℕ → ℕ → List Entry → List ℕ → List ℕ → Closing
written sub first last entries numbers held = record {
  sub = sub;
  first = first;
  last = last;
  drawn = length (drawn entries);
  skipped = skipped entries;
  released = length numbers;
  withheld = length held;
}

-- the closing of the subscriber of a place is the one that it has among some
closing_named : (places : List ℕ) (jobs : List (List LineRecord)) (sub opening word : ℕ) → AllPairs ◌<◌ places → ArePlainRecords (length places) jobs → sub < length places
    → round.closing_of (slice_index places sub) opening word (records_of places jobs) ≡ map (closing_of places) (round.closing_of sub opening word jobs)
closing_named places jobs sub opening word rising plain inside = by (opening == word)
  where
    by : (b : Bool)
        → (if b then [] else written (slice_index places sub) opening word (all_entries (entries_of_jobs (slice_index places sub) [] (records_of places jobs)))
        (numbers_of (slice_index places sub) (all_lines (records_of places jobs))) (withheld_of (slice_index places sub) (all_lines (records_of places jobs))) ∷ [])
        ≡ map (closing_of places) (if b then [] else written sub opening word (all_entries (entries_of_jobs sub [] jobs)) (numbers_of sub (all_lines jobs)) (withheld_of sub (all_lines jobs)) ∷ [])
    by true = refl
    by false =
        ap (λ (entries : List (List Entry)). written (slice_index places sub) opening word (all_entries entries)
        (numbers_of (slice_index places sub) (all_lines (records_of places jobs))) (withheld_of (slice_index places sub) (all_lines (records_of places jobs))) ∷ []) (entries_named places jobs sub rising plain inside)
        ∙ ap (λ (numbers : List ℕ). written (slice_index places sub) opening word (all_entries (entries_of_jobs sub [] jobs)) numbers (withheld_of (slice_index places sub) (all_lines (records_of places jobs))) ∷ [])
        (numbers_named places jobs sub rising plain inside)
        ∙ ap (λ (held : List ℕ). written (slice_index places sub) opening word (all_entries (entries_of_jobs sub [] jobs)) (numbers_of sub (all_lines jobs)) held ∷ []) (withheld_named places jobs sub rising plain inside)

-- a subscriber whose word stands has no closing
no_closing : (sub opening word : ℕ) (jobs : List (List LineRecord)) → opening ≡ word → round.closing_of sub opening word jobs ≡ []
no_closing sub opening word jobs stands = by (opening == word) (eq-eqb opening word stands)
  where
    by : (b : Bool) → b ≡ true → ◌≡◌ {A = List Closing} (if b then [] else written sub opening word (all_entries (entries_of_jobs sub [] jobs)) (numbers_of sub (all_lines jobs)) (withheld_of sub (all_lines jobs)) ∷ []) []
    by true is = refl
    by false is = absurd (false≢true is)

-- ---- all closings

-- where the words of all are those of some at their places, and each other word stands
pub closings_named : (places words others own next : List ℕ) (jobs : List (List LineRecord)) → AllPairs ◌<◌ places → ArePlainRecords (length places) jobs
    → ((j : ℕ) → j < length places → slice_index places j < length words) → length others ≡ length words → length own ≡ length places → length next ≡ length places
    → ((j : ℕ) → j < length places → slice_index words (slice_index places j) ≡ slice_index own j) → ((j : ℕ) → j < length places → slice_index others (slice_index places j) ≡ slice_index next j)
    → ((k : ℕ) → ((j : ℕ) → j < length places → slice_index places j ≢ k) → slice_index words k ≡ slice_index others k)
    → round.closings_from 0 words others (records_of places jobs) ≡ map (closing_of places) (round.closings_from 0 own next jobs)
closings_named places words others own next jobs rising plain within size own_size next_size opens closes stands =
    let wide : ℕ → List Closing = λ sub. round.closing_of sub (slice_index words sub) (slice_index others sub) (records_of places jobs) in
    let narrow : ℕ → List Closing = λ sub. round.closing_of sub (slice_index own sub) (slice_index next sub) jobs in
    walk-closings_from words others (records_of places jobs) 0 (length words) size (omega arith)
    ∙ walk_places places wide narrow (closing_of places) (length words) 0 (length words) 0 (length places) rising within
    (λ j inside.
    ap (λ (word : ℕ). round.closing_of (slice_index places j) word (slice_index others (slice_index places j)) (records_of places jobs)) (opens j inside)
    ∙ ap (λ (word : ℕ). round.closing_of (slice_index places j) (slice_index own j) word (records_of places jobs)) (closes j inside)
    ∙ closing_named places jobs j (slice_index own j) (slice_index next j) rising plain inside)
    (λ k none. no_closing k (slice_index words k) (slice_index others k) (records_of places jobs) (stands k none))
    (omega arith) (omega arith) (λ j before. absurd (omega (arith, before))) (λ j from inside. omega arith)
    ∙ ap (map (closing_of places)) (sym (walk-closings_from own next jobs 0 (length places) (next_size ∙ sym own_size) (omega (arith, own_size))))
