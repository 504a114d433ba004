-- The reservations that a round needs: for the groups before its workers begin.
use Rattle.std.proofs.Common.{◌≡◌, ◌≢◌, ◌⊎◌, inl, inr, ℕ, suc, ◌+◌, ◌≤◌, ◌<◌, List, [], ◌∷◌, length, get_or, take, drop, All, refl, sym, ◌∙◌, ap, subst, arith, length-drop}
use Rattle.std.specs.Prelude.{AllPairs, Bool, true, false, ◌&&◌, min, nat_le, nat_lt, slice_index, if◌then◌else◌}
use Rattle.std.proofs.lemmas.Bool.{and_parts}
use Rattle.std.proofs.lemmas.Bool.Decides.{nat_tests}
use Rattle.std.proofs.lemmas.List.{get_or_default, get_or-drop, get_or-take, length-take}
use Rattle.std.proofs.lemmas.List.Elements.{All-cons, All-nil}
use Rattle.auc_draw.specs.Values.{KeeperValue}
use Rattle.auc_history.proofs.Facts.{AllPairs-cons}
use Rattle.auc_keeper.specs.Keeper.{MayRise}
use Rattle.auc_lines.specs.declared.part.Line.{Line}
use Rattle.auc_sqn.specs.Number.{max_seq}
use Rattle.auc_jobs.specs.InnerPreparing.{AreReservable, is_asked, needed_by, needed_from, needs}

below : (n m : ℕ) → nat_lt n m ≡ true → n < m
below n m test = grind (arith, nat_tests)

at_most : (n m : ℕ) → nat_le n m ≡ true → n ≤ m
at_most n m test = grind (arith, nat_tests)

-- a step above an opening that has no limit above it
step_from : (opening limit : ℕ) → opening < max_seq → limit ≤ opening → (min (opening + 64) max_seq ≡ max_seq) ⊎ (limit + 64 ≤ min (opening + 64) max_seq)
step_from opening limit low less = by (nat_le (opening + 64) max_seq) refl
  where
    by : (test : Bool) → nat_le (opening + 64) max_seq ≡ test → (min (opening + 64) max_seq ≡ max_seq) ⊎ (limit + 64 ≤ min (opening + 64) max_seq)
    by true is = let le = at_most (opening + 64) max_seq is in inr (omega (arith, le, less))
    by false is = inl (above (opening + 64) is)
      where
        above : (n : ℕ) → nat_le n max_seq ≡ false → min n max_seq ≡ max_seq
        above n test = grind (arith, nat_tests)

-- a subscriber that needs a reservation may have it
may_rise : (pass : KeeperValue) (sub top opening : ℕ) (asked : Bool) → top ≤ max_seq → slice_index pass.seen sub ≡ opening → needs asked top opening (slice_index pass.limits sub) ≡ true → MayRise pass sub (min (opening + 64) max_seq)
may_rise pass sub top opening asked most seen needed =
    let inner = and_parts asked (nat_lt opening top && nat_le (slice_index pass.limits sub) opening) needed in
    let tests = and_parts (nat_lt opening top) (nat_le (slice_index pass.limits sub) opening) inner.1 in
    let under = below opening top tests.0 in
    let low : opening < max_seq = omega (arith, under, most) in
    let less = at_most (slice_index pass.limits sub) opening tests.1 in
    record {
      above = omega (arith, low, less);
      number = omega arith;
      near = omega (arith, seen);
      step = step_from opening (slice_index pass.limits sub) low less;
    }

-- what is said of each reservation from a subscriber on
record IsFrom (pass : KeeperValue) (sub count : ℕ) (item : ℕ × ℕ) : Type 0 where
  low : sub ≤ item.0
  known : item.0 < count
  rise : MayRise pass item.0 item.1

later : (pass : KeeperValue) (sub count : ℕ) (items : List (ℕ × ℕ)) → All (IsFrom pass (suc sub) count) items → All (IsFrom pass sub count) items
later pass sub count items all = λ j d more. let is = all j d more in record { low = omega (arith, is.low); known = is.known; rise = is.rise }

each_from : (pass : KeeperValue) (asked : ℕ → Bool) (tops : List ℕ) (count sub : ℕ) (openings : List ℕ) → ((i : ℕ) → slice_index tops i ≤ max_seq) → sub + length openings ≡ count → ((i : ℕ) → i < length openings → slice_index pass.seen (sub + i) ≡ slice_index openings i)
    → All (IsFrom pass sub count) (needed_from asked tops pass.limits sub openings)
each_from pass asked tops count sub [] most size seen = All-nil (IsFrom pass sub count)
each_from pass asked tops count sub (opening ∷ openings) most size seen =
    by (needs (asked sub) (slice_index tops sub) opening (slice_index pass.limits sub)) refl
    (later pass sub count (needed_from asked tops pass.limits (suc sub) openings)
    (each_from pass asked tops count (suc sub) openings most (omega (arith, size))
    (λ i inside. ap (slice_index pass.seen) (next sub i) ∙ seen (suc i) (omega (arith, inside)))))
  where
    next : (a b : ℕ) → suc a + b ≡ a + suc b
    next a b = omega arith

    here : slice_index pass.seen sub ≡ opening
    here = let at : sub + 0 ≡ sub = omega arith in ap (slice_index pass.seen) (sym at) ∙ seen 0 (omega arith)

    by : (test : Bool) → needs (asked sub) (slice_index tops sub) opening (slice_index pass.limits sub) ≡ test → All (IsFrom pass sub count) (needed_from asked tops pass.limits (suc sub) openings)
        → All (IsFrom pass sub count) (if test then (sub, min (opening + 64) max_seq) ∷ needed_from asked tops pass.limits (suc sub) openings else needed_from asked tops pass.limits (suc sub) openings)
    by true is rest =
        All-cons (IsFrom pass sub count) (sub, min (opening + 64) max_seq) (needed_from asked tops pass.limits (suc sub) openings)
        (record { low = omega arith; known = omega (arith, size); rise = may_rise pass sub (slice_index tops sub) opening (asked sub) (most sub) here is }) rest
    by false is rest = rest

apart_from : (pass : KeeperValue) (asked : ℕ → Bool) (tops : List ℕ) (count sub : ℕ) (openings : List ℕ) → ((i : ℕ) → slice_index tops i ≤ max_seq) → sub + length openings ≡ count → ((i : ℕ) → i < length openings → slice_index pass.seen (sub + i) ≡ slice_index openings i)
    → AllPairs (λ (a b : ℕ × ℕ). a.0 ≢ b.0) (needed_from asked tops pass.limits sub openings)
apart_from pass asked tops count sub [] most size seen = λ i j d low within. absurd (omega arith)
apart_from pass asked tops count sub (opening ∷ openings) most size seen =
    by (needs (asked sub) (slice_index tops sub) opening (slice_index pass.limits sub))
    (each_from pass asked tops count (suc sub) openings most (omega (arith, size)) further) (apart_from pass asked tops count (suc sub) openings most (omega (arith, size)) further)
  where
    next : (a b : ℕ) → suc a + b ≡ a + suc b
    next a b = omega arith

    further : (i : ℕ) → i < length openings → slice_index pass.seen (suc sub + i) ≡ slice_index openings i
    further i inside = ap (slice_index pass.seen) (next sub i) ∙ seen (suc i) (omega (arith, inside))

    by : (test : Bool) → All (IsFrom pass (suc sub) count) (needed_from asked tops pass.limits (suc sub) openings) → AllPairs (λ (a b : ℕ × ℕ). a.0 ≢ b.0) (needed_from asked tops pass.limits (suc sub) openings)
        → AllPairs (λ (a b : ℕ × ℕ). a.0 ≢ b.0) (if test then (sub, min (opening + 64) max_seq) ∷ needed_from asked tops pass.limits (suc sub) openings else needed_from asked tops pass.limits (suc sub) openings)
    by true each rest =
        AllPairs-cons (λ (a b : ℕ × ℕ). a.0 ≢ b.0) (sub, min (opening + 64) max_seq) (needed_from asked tops pass.limits (suc sub) openings)
        (λ j d more same. omega (arith, (each j d more).low, same)) rest
    by false each rest = rest

-- what a round needs, its keeper may reserve
pub are_reservable : (jobs : List (List Line)) (tops openings limits : List ℕ) (pass : KeeperValue) (count : ℕ) → ((i : ℕ) → slice_index tops i ≤ max_seq) → pass.seen ≡ openings → pass.limits ≡ limits → length openings ≡ count
    → AreReservable count pass (needed_by jobs tops openings limits)
are_reservable jobs tops openings limits pass count most seen same size =
    subst (λ (l : List ℕ). AreReservable count pass (needed_by jobs tops openings l)) same (record {
      differ = apart_from pass (is_asked jobs) tops count 0 openings most (omega (arith, size)) at;
      known = λ j d more. (each j d more).known;
      rise = λ j d more. (each j d more).rise;
    })
  where
    at : (i : ℕ) → i < length openings → slice_index pass.seen (0 + i) ≡ slice_index openings i
    at i inside = let place : 0 + i ≡ i = omega arith in ap (slice_index pass.seen) place ∙ ap (λ (l : List ℕ). slice_index l i) seen

    each : All (IsFrom pass 0 count) (needed_by jobs tops openings pass.limits)
    each = each_from pass (is_asked jobs) tops count 0 openings most (omega (arith, size)) at

-- the first of what a keeper may reserve
pub first_reservable : (count : ℕ) (pass : KeeperValue) (items : List (ℕ × ℕ)) (n : ℕ) → AreReservable count pass items → AreReservable count pass (take n items)
first_reservable count pass items n are = record {
  differ = λ i j d low within.
      let size = length-take n items in
      subst (λ (a : ℕ × ℕ). a.0 ≢ (get_or (take n items) j d).0) (sym (get_or-take n items i d (omega (arith, low, within, size))))
      (subst (λ (b : ℕ × ℕ). (get_or items i d).0 ≢ b.0) (sym (get_or-take n items j d (omega (arith, within, size)))) (are.differ i j d low (omega (arith, within, size))));
  known = λ j d more. let size = length-take n items in subst (λ (b : ℕ × ℕ). b.0 < count) (sym (get_or-take n items j d (omega (arith, more, size)))) (are.known j d (omega (arith, more, size)));
  rise = λ j d more. let size = length-take n items in subst (λ (b : ℕ × ℕ). MayRise pass b.0 b.1) (sym (get_or-take n items j d (omega (arith, more, size)))) (are.rise j d (omega (arith, more, size)));
}

-- the rest of what a keeper may reserve, after it prepared the first of it
pub rest_reservable : (count : ℕ) (old new : KeeperValue) (items : List (ℕ × ℕ)) (n : ℕ) → AreReservable count old items → new.seen ≡ old.seen
    → ((sub : ℕ) → All (λ item. sub ≢ item.0) (take n items) → slice_index new.limits sub ≡ slice_index old.limits sub) → AreReservable count new (drop n items)
rest_reservable count old new items n are seen others = record {
  differ = λ i j d low within.
      let size = length-drop n items in
      subst (λ (a : ℕ × ℕ). a.0 ≢ (get_or (drop n items) j d).0) (sym (get_or-drop n items i d))
      (subst (λ (b : ℕ × ℕ). (get_or items (n + i) d).0 ≢ b.0) (sym (get_or-drop n items j d)) (are.differ (n + i) (n + j) d (omega (arith, low)) (omega (arith, within, size))));
  known = λ j d more. let size = length-drop n items in subst (λ (b : ℕ × ℕ). b.0 < count) (sym (get_or-drop n items j d)) (are.known (n + j) d (omega (arith, more, size)));
  rise = λ j d more.
      let size = length-drop n items in
      let place : n + j < length items = omega (arith, more, size) in
      let was : MayRise old (get_or items (n + j) d).0 (get_or items (n + j) d).1 = are.rise (n + j) d place in
      let same : slice_index new.limits (get_or items (n + j) d).0 ≡ slice_index old.limits (get_or items (n + j) d).0 =
      others (get_or items (n + j) d).0 (λ k e inside.
      let front : k < n = omega (arith, inside, length-take n items) in
      let there : k < length items = omega (arith, inside, length-take n items) in
      subst (λ (b : ℕ × ℕ). (get_or items (n + j) d).0 ≢ b.0) (get_or_default items k d e there ∙ sym (get_or-take n items k e front))
      (λ equal. are.differ k (n + j) d (omega (arith, front)) place (sym equal))) in
      subst (λ (b : ℕ × ℕ). MayRise new b.0 b.1) (sym (get_or-drop n items j d)) (record {
        above = omega (arith, was.above, same);
        number = was.number;
        near = omega (arith, was.near, ap (λ (l : List ℕ). slice_index l (get_or items (n + j) d).0) seen);
        step = subst (λ (m : ℕ). ((get_or items (n + j) d).1 ≡ max_seq) ⊎ (m + 64 ≤ (get_or items (n + j) d).1)) (sym same) was.step;
      });
}
