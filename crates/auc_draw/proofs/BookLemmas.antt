-- The loops of an opening and a closing.
use Rattle.std.proofs.Common.{◌≡◌, ◌≢◌, ℕ, zero, suc, ◌+◌, ◌<◌, ◌≤◌, ◌==◌, nat_lt, Bool, true, false, if◌then◌else◌, List, [], ◌∷◌, ◌++◌, length, map, slice_index, slice_set, replicate, All, Any, flat_map, arith, refl, sym, ap, ◌∙◌, subst, ⊎_elim, eq-eqb}
use Rattle.std.proofs.lemmas.Bool.Decides.{nat_tests}
use Rattle.std.proofs.lemmas.Bool.{eqb-true}
use Rattle.std.proofs.lemmas.List.{append-nil, append_assoc, map-append, get_or-set_same, get_or-set_other, get_or-replicate, length-replicate}
use mathlib.Core.Option.{some, some-ne-none, some-injective}
use lib.ListN.{get_elem?}
use Rattle.atomic_table.specs.Table.{Me, Splits as Cuts, Joins, Final, Seen}
use Rattle.auc_history.specs.Split.{Splits, times}
use Rattle.auc_history.proofs.Facts.{times_at}
use Rattle.auc_draw.specs.declared.rule.Deed.{Deed}
use Rattle.auc_draw.specs.declared.rule.View.{View}
use Rattle.auc_draw.specs.Deeds.{entries_of, claims_of}
use Rattle.atomic_table.specs.Seated.{TableId}
use Rattle.auc_draw.specs.declared.rule.Key.{Key}
use Rattle.auc_draw.specs.declared.rule.Note.{Note}
use Rattle.auc_draw.specs.Values.{PassValue, BookValue, KeeperValue, ClosedValue}
use Rattle.auc_draw.specs.InnerLimits.{first_note, IsTied, AreTold}
use Rattle.auc_draw.specs.InnerPass.{noted, Notes}
use Rattle.auc_draw.specs.Book.{AreTaken, Closes, EachJobIsClaimedOnce}
use Rattle.auc_draw.specs.InnerRule.{keeper_view, keeper_view_with, new_view, spent_view, after_split, after_join, Keeps}
use Rattle.auc_draw.proofs.LimitLemmas.{first_at}
use Rattle.auc_draw.proofs.ToldLemmas.{released_told, held_told, stops_told, drawn_told}
use Rattle.auc_draw.proofs.SeatLemmas.{splits_ok, joins_ok, Whole, whole_splits, whole_taken, whole_bounded}

-- ---- a split from the keeper's seat

-- a pass may be split from the keeper's seat, from which fewer than 64 were
pub splits_at : (openings tops limits : List ℕ) (id i : ℕ) (own : List ℕ) (note : Note) (me : Me (Unit {0}) View) → id ≡ 0 → me ≡ (keeper_view i own note, []) → i < 64 → Cuts (Keeps openings tops limits) id me.0 (after_split me.0) (new_view me.0.tops)
splits_at openings tops limits id i own note me first is room =
    let P : ℕ → Type 0 = λ k. Cuts (Keeps openings tops limits) k me.0 (after_split me.0) (new_view me.0.tops) in
    subst P (sym first) (splits_ok openings tops limits me.0 (omega (arith, ap (λ (m : Me (Unit {0}) View). m.0.split) is, room)))

-- a new pass keeps no word
pub nothing_noted : (tops marks : List ℕ) (n : ℕ) → marks ≡ replicate n 0 → (deeds : List Deed) → deeds ≡ [] → Notes tops marks deeds
nothing_noted tops marks n is deeds none =
    subst (λ (ds : List Deed). Notes tops marks ds) (sym none) (subst (λ (ks : List ℕ). Notes tops ks []) (sym is) (record {
      each = λ i within. ap noted (sym (get_or-replicate n i 0 0 (omega (arith, within, length-replicate {A = ℕ} n 0))));
      ordered = record { each = λ sub k j d below within. absurd (omega arith) };
    }))

-- ---- a join into the keeper's seat

-- a pass may be joined into the keeper's seat
pub joins_at : (openings tops limits : List ℕ) (id passes other : ℕ) (own : List ℕ) (note : Note) (lists : List (List Deed)) (me : Me (Unit {0}) View) (w : View) → id ≡ 0 → me ≡ (keeper_view_with passes own note lists, []) → w.active ≡ 1
    → Joins (Keeps openings tops limits) id me.0 other w (after_join me.0 w) spent_view
joins_at openings tops limits id passes other own note lists me w first is active =
    let P : ℕ → Type 0 = λ k. Joins (Keeps openings tops limits) k me.0 other w (after_join me.0 w) spent_view in
    subst P (sym first) (joins_ok openings tops limits me.0 w other (ap (λ (m : Me (Unit {0}) View). m.0.own) is) active)

-- one element goes from the rest to what is done
pub moved_over : {X : Type 0} (done rest next all : List X) (x : X) → done ++ rest ≡ all → rest ≡ x ∷ next → (done ++ x ∷ []) ++ next ≡ all
moved_over done rest next all x is rest_is = append_assoc done (x ∷ []) next ∙ ap (λ xs. done ++ xs) (sym rest_is) ∙ is

-- at the end nothing is left
pub all_moved : {X : Type 0} (done rest all : List X) → done ++ rest ≡ all → length rest ≡ 0 → done ≡ all
all_moved done [] all is none = sym (append-nil done) ∙ is
all_moved done (x ∷ rest) all is none = absurd (omega (arith, none))

-- what holds of all elements holds of the next one
pub in_rest : {X : Type 0} (P : X → Type 0) (done rest next all : List X) (x : X) → done ++ rest ≡ all → rest ≡ x ∷ next → All P all → P x
in_rest P done rest next all x is rest_is each =
    let there : All P (done ++ x ∷ next) = subst (λ xs. All P xs) (sym is ∙ ap (λ xs. done ++ xs) rest_is) each in middle P done next x there
  where
    middle : {X : Type 0} (P : X → Type 0) (done next : List X) (x : X) → All P (done ++ x ∷ next) → P x
    middle P [] next x each = each 0 x (omega arith)
    middle P (y ∷ done) next x each = middle P done next x (λ k d within. each (suc k) d (omega (arith, within)))

-- the keeper's view after a further join
pub joined_more : (passes : ℕ) (tops : List ℕ) (note : Note) (done : List PassValue) (x : PassValue) (me new : Me (Unit {0}) View) (w : View) → me ≡ (keeper_view_with passes tops note (map (λ p. p.deeds) done), []) → new ≡ (after_join me.0 w, me.1)
    → w.own ≡ x.deeds → new ≡ (keeper_view_with passes tops note (map (λ p. p.deeds) (done ++ x ∷ [])), [])
joined_more passes tops note done x me new w is step deeds =
    step ∙ ap (λ (m : Me (Unit {0}) View). (after_join m.0 w, m.1)) is
    ∙ ap (λ (l : List Deed). (keeper_view_with passes tops note (map (λ p. p.deeds) done ++ l ∷ []), [])) deeds
    ∙ ap (λ (ls : List (List Deed)). (keeper_view_with passes tops note ls, [])) (sym (map-append (λ (p : PassValue). p.deeds) done (x ∷ [])))

-- ---- the words

-- the numbers up to a place are the words after one more is written
pub reads_more : (words numbers : List ℕ) (i w : ℕ) → i < length numbers → get_elem? words i ≡ some w → ((k : ℕ) → k < i → get_elem? words k ≡ some (slice_index numbers k))
    → (k : ℕ) → k < i + 1 → get_elem? words k ≡ some (slice_index (slice_set numbers i w) k)
reads_more words numbers i w within at each k below = by (k == i) refl
  where
    by : (b : Bool) → (k == i) ≡ b → get_elem? words k ≡ some (slice_index (slice_set numbers i w) k)
    by true same =
        let here = eqb-true k i same in
        ap (λ n. get_elem? words n) here ∙ at ∙ ap some (sym (ap (λ n. slice_index (slice_set numbers i w) n) here ∙ get_or-set_same numbers i w 0 within))
    by false other =
        let apart : k ≢ i = λ same. (let yes = eq-eqb k i same in let no : ⊥ = cc in no) in
        each k (omega (arith, below, apart)) ∙ ap some (sym (get_or-set_other numbers i k w 0 apart))

-- an element is the one at its place
elem_index : (words : List ℕ) (k n : ℕ) → get_elem? words k ≡ some n → slice_index words k ≡ n
elem_index [] k n at = absurd (some-ne-none n (sym at))
elem_index (w ∷ words) zero n at = some-injective w n at
elem_index (w ∷ words) (suc k) n at = elem_index words k n at

-- ---- the closing

-- what contracts see of a book with this key, and of a keeper's pass with this note
abbrev book_of : TableId → List ℕ → List ℕ → List ℕ → BookValue
book_of id openings tops limits = record { id = id; openings = openings; tops = tops; limits = limits }

abbrev keeper_of : TableId → ℕ → Note → KeeperValue
keeper_of id passes note = record { id = id; passes = passes; limits = note.limits; seen = note.seen; stop = note.stop }

-- the words and the lists of a closed table are those of a closed book
closes : (of kept : TableId) (openings tops own limits words last : List ℕ) (slots : List (Unit {0})) (passes id : ℕ) (note : Note) (lists : List (List Deed)) (v : View) (closed : ClosedValue)
    → id ≡ 0 → v ≡ keeper_view_with passes own note lists → length lists ≡ passes → Final (Seen (Keeps openings tops limits) id v) words slots
    → length last ≡ length openings → ((k : ℕ) → k < length openings → get_elem? words k ≡ some (slice_index last k)) → closed ≡ record { words = last; lists = lists }
    → Closes (book_of of openings tops limits) lists (keeper_of kept passes note) closed
closes of kept openings tops own limits words last slots passes id note lists v closed first is many final sized reads end =
    let s = final.0 in
    let seen = final.1 in
    let at : get_elem? s.views 0 ≡ some v = subst (λ k. get_elem? s.views k ≡ some v) first seen.1 in
    let whole : Whole openings tops s v = record {
      rule = seen.0.numbers;
      first = at;
      active = ap (λ (x : View). x.active) is;
      all = ap (λ (x : View). length x.joined) is ∙ many ∙ sym (ap (λ (x : View). x.split) is);
    } in
    let held : v.joined ≡ lists = ap (λ (x : View). x.joined) is in
    let word : (k : ℕ) → k < length openings → slice_index s.words k ≡ slice_index last k = λ k known. ap (λ (ws : List ℕ). slice_index ws k) final.2 ∙ elem_index words k (slice_index last k) (reads k known) in
    let noted : first_note s.views ≡ note = first_at s.views v at ∙ ap (λ (x : View). x.note) is in
    let tied : IsTied openings limits s.words note = subst (λ (n : Note). IsTied openings limits s.words n) noted seen.0.limits.tied in
    let told : All (AreTold note) lists =
    subst (λ (ls : List (List Deed)). All (AreTold note) ls) held (subst (λ (n : Note). All (AreTold n) v.joined) noted (seen.0.limits.told 0 v at).joined) in
    subst (λ (e : ClosedValue). Closes (book_of of openings tops limits) lists (keeper_of kept passes note) e) (sym end) (record {
      same = refl;
      many = sized;
      splits = λ sub known. subst (λ (n : ℕ). Splits (slice_index tops sub) (slice_index openings sub) n (map (entries_of sub) lists)) (word sub known)
          (subst (λ (ls : List (List Deed)). Splits (slice_index tops sub) (slice_index openings sub) (slice_index s.words sub) (map (entries_of sub) ls)) held (whole_splits openings tops s v whole sub known));
      bounded = λ sub known. subst (λ (n : ℕ). n ≤ slice_index tops sub + 64) (word sub known) (whole_bounded openings tops s v whole sub known);
      taken = (slice_index s.words (length openings), subst (λ (ls : List (List Deed)). AreTaken (slice_index s.words (length openings)) (flat_map claims_of ls)) held (whole_taken openings tops s v whole));
      sized = tied.sized;
      released = λ sub known k l within. released_told note sub _ (told k l within);
      withheld = λ sub known k l within. held_told note sub _ (told k l within);
      drawn = λ sub known k l within. drawn_told note sub _ (told k l within);
      stopped = λ k l within. stops_told note _ (told k l within);
      step = λ sub known. (tied.each sub known).step;
      near = λ sub known. let e = tied.each sub known in omega (arith, e.near, e.looked, word sub known);
      within = λ sub known. (tied.each sub known).within;
      looked = λ sub known. let e = tied.each sub known in omega (arith, e.looked, word sub known);
    })

-- the same, with each fact as the code has it
pub closes_at : (of kept : TableId) (own : List ℕ) (key named : Key) (book : BookValue) (keeper : KeeperValue) (words last : List ℕ) (slots : List (Unit {0})) (passes id : ℕ) (note : Note) (lists : List (List Deed)) (v : View) (closed : ClosedValue)
    → key ≡ named → book_of of named.openings.items named.tops.items named.limits.items ≡ book → keeper_of kept passes note ≡ keeper → id ≡ 0 → v ≡ keeper_view_with passes own note lists → length lists ≡ passes
    → Final (Seen (Keeps key.openings.items key.tops.items key.limits.items) id v) words slots → length last ≡ length named.openings.items → ((k : ℕ) → k < length named.openings.items → get_elem? words k ≡ some (slice_index last k))
    → closed ≡ record { words = last; lists = lists } → Closes book lists keeper closed
closes_at of kept own key named book keeper words last slots passes id note lists v closed same book_is keeper_is first is many final sized reads end =
    subst (λ (b : BookValue). Closes b lists keeper closed) book_is (subst (λ (k : KeeperValue). Closes (book_of of named.openings.items named.tops.items named.limits.items) lists k closed) keeper_is
    (closes of kept named.openings.items named.tops.items own named.limits.items words last slots passes id note lists v closed first is many
    (subst (λ (k : Key). Final (Seen (Keeps k.openings.items k.tops.items k.limits.items) id v) words slots) same final) sized reads end))

-- ---- the claims

-- a number that counts is below
above_all : (top job : ℕ) → 1 ≤ (if nat_lt job top then 1 else 0) → job < top
above_all top job = grind (arith, nat_tests)

-- a number that is below counts once
counted : (top job : ℕ) → job < top → ◌≡◌ {A = ℕ} (if nat_lt job top then 1 else 0) 1
counted top job = grind (arith, nat_tests)

-- if the last job or a higher number was claimed, each job was claimed once
pub each_job_is_claimed_once : EachJobIsClaimedOnce
each_job_is_claimed_once book lists keeper closed jobs closes some_claim job below = ⊎_elim
    (λ (none : jobs ≡ 0). absurd (omega (arith, none, below)))
    (λ (any : Any (λ n. jobs ≤ n + 1) (flat_map claims_of lists)).
    let numbers : List ℕ = flat_map claims_of lists in
    let top = closes.taken.0 in
    let once = closes.taken.1.once in
    let here : 1 ≤ times any.1 numbers = subst (λ (n : ℕ). 1 ≤ times n numbers) any.3 (times_at numbers any.0 any.1 any.2) in
    let low = above_all top any.1 (omega (arith, here, once any.1)) in
    once job ∙ counted top job (omega (arith, below, low, any.4)))
    some_claim
