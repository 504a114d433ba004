-- Each step of a pass keeps the rule.
use Rattle.std.proofs.Common.{◌≡◌, ◌≢◌, ◌⊎◌, ℕ, ◌+◌, ◌%◌, ◌^◌, ◌<◌, ◌≤◌, ◌==◌, nat_lt, Bool, true, false, cond, if◌then◌else◌, List, [], ◌∷◌, ◌++◌, length, set, get_or, slice_index, slice_set, All, sum_by, flat_map, arith, refl, sym, ap, ◌∙◌, subst, ⊎_elim, inl, inr, eq-eqb, max}
use Rattle.std.proofs.lemmas.Bool.Decides.{nat_tests}
use Rattle.std.proofs.lemmas.Bool.{eqb-true}
use Rattle.std.proofs.lemmas.Grind.{flat_map-append}
use Rattle.std.proofs.lemmas.List.{append-nil, append_assoc, length-set, get_or-set_same, get_or-set_other}
use Rattle.std.proofs.lemmas.List.Elements.{All-append}
use Rattle.std.proofs.lemmas.List.Quantifiers.{all_pairs_push}
use Rattle.std.proofs.lemmas.List.Sums.{sum_by-cons, sum_by-append}
use Rattle.std.proofs.Math.Nat.{mod-eq_of_lt}
use mathlib.Core.Option.{some, none}
use lib.ListN.{get_elem?}
use Rattle.atomic_table.specs.Table.{State, Me, keeps, step, Allows, carried_after, homes_after}
use Rattle.atomic_table.proofs.Lists.{at_set}
use Rattle.auc_history.specs.declared.entry.Entry.{Entry}
use Rattle.auc_history.specs.declared.entry.Entry.TheVariants.{Drawn, Moved, Look}
use Rattle.auc_history.specs.History.{IsBefore, IsInOrder, reach_of}
use Rattle.auc_history.specs.Split.{times}
use Rattle.auc_history.proofs.Facts.{times-cons, times-append}
use Rattle.auc_sqn.specs.Number.{max_seq}
use Rattle.auc_draw.specs.declared.rule.Deed.{Deed}
use Rattle.auc_draw.specs.declared.rule.Deed.TheVariants.{Made, Claimed}
use Rattle.auc_draw.specs.declared.rule.View.{View}
use Rattle.auc_draw.specs.Deeds.{entries_by, entries_of, claims_by, claims_of}
use Rattle.auc_draw.specs.InnerRule.{view_entries, view_claims, all_view_entries, passes_in, IsCovered, FitsWord, FitsJoined, Numbers, FitsClaims, Jobs, Seats, KeepsNumbers, Keeps, AllowsDraw, AllowsJump, AllowsClaim, mark_by, marks_in, wide_by, wide_in, with_deed, draws, jumps, jump_entry, claims}
use Rattle.auc_draw.specs.InnerLimits.{first_note}
use Rattle.auc_draw.proofs.LimitLemmas.{first_same, plain_told, made_plain, claimed_plain, IsPlain, still_set, limits_stepped}
use Rattle.auc_draw.proofs.CoverLemmas.{Leads, draw_leads, move_leads, look_leads, covered_more, covered_permuted}
use Rattle.auc_draw.proofs.ViewLemmas.{total_set, total_below, permuted_more, flat_set_same, few_in, times_flat, all_cons, all_nil, all_pairs_map}

-- ---- the entries and the claims after a further deed

-- the entries by a deed, if the test of the subscriber is known
entries_same_at : (b : Bool) (sub s : ℕ) (e : Entry) → (s == sub) ≡ b → entries_by sub (Made s e) ≡ (if b then e ∷ [] else [])
entries_same_at b sub s e is = ap (λ c. if c then e ∷ [] else []) is

-- after a deed of the subscriber its entry is the last
pub entries_same : (sub : ℕ) (deeds : List Deed) (e : Entry) → entries_of sub (deeds ++ Made sub e ∷ []) ≡ entries_of sub deeds ++ e ∷ []
entries_same sub deeds e = flat_map-append (entries_by sub) deeds (Made sub e ∷ []) ∙ ap (λ es. entries_of sub deeds ++ es) (append-nil (entries_by sub (Made sub e)) ∙ entries_same_at true sub sub e (eq-eqb sub sub refl))

-- a deed of another subscriber adds no entry
pub entries_other : (i sub : ℕ) (deeds : List Deed) (e : Entry) → i ≢ sub → entries_of i (deeds ++ Made sub e ∷ []) ≡ entries_of i deeds
entries_other i sub deeds e apart = flat_map-append (entries_by i) deeds (Made sub e ∷ []) ∙ ap (λ es. entries_of i deeds ++ es) (append-nil (entries_by i (Made sub e)) ∙ entries_same_at false i sub e (other (sub == i) refl)) ∙ append-nil (entries_of i deeds)
  where
    other : (b : Bool) → (sub == i) ≡ b → (sub == i) ≡ false
    other true same = absurd (apart (sym (eqb-true sub i same)))
    other false same = same

-- nor does a claim
pub entries_claimed : (i n : ℕ) (deeds : List Deed) → entries_of i (deeds ++ Claimed n ∷ []) ≡ entries_of i deeds
entries_claimed i n deeds = flat_map-append (entries_by i) deeds (Claimed n ∷ []) ∙ append-nil (entries_of i deeds)

-- an entry adds no claim
pub claims_made : (sub : ℕ) (e : Entry) (deeds : List Deed) → claims_of (deeds ++ Made sub e ∷ []) ≡ claims_of deeds
claims_made sub e deeds = flat_map-append claims_by deeds (Made sub e ∷ []) ∙ append-nil (claims_of deeds)

-- after a claim its number is the last
pub claims_more : (n : ℕ) (deeds : List Deed) → claims_of (deeds ++ Claimed n ∷ []) ≡ claims_of deeds ++ n ∷ []
claims_more n deeds = flat_map-append claims_by deeds (Claimed n ∷ [])

-- ---- the bounds

-- a view has no more marks of a subscriber than it stands for passes
weighs : (i : ℕ) (openings tops : List ℕ) (s : State (Unit {0}) View) → Numbers openings tops s → i < length openings → (j : ℕ) (v : View) → get_elem? s.views j ≡ some v → marks_in (slice_index tops i) (view_entries i v) ≤ passes_in v
weighs i openings tops s rule known j v at =
    let top = slice_index tops i in
    let few = few_in (mark_by top) (entries_of i) v.joined (all_pairs_map (FitsJoined top i) (λ l. marks_in top (entries_of i l) ≤ 1) v.joined (λ l r. r.marked) (rule.rests j v at i known)) in
    omega (arith, few, (rule.fits j v at i known).marked, sum_by-append (mark_by top) (flat_map (entries_of i) v.joined) (entries_of i v.own))

-- so there are at most 64
pub few_marks : (openings tops : List ℕ) (s : State (Unit {0}) View) (i : ℕ) → Numbers openings tops s → Seats s.views → i < length openings → sum_by (λ v. marks_in (slice_index tops i) (view_entries i v)) s.views ≤ 64
few_marks openings tops s i rule seats known = omega (arith, seats.few, seats.counted, total_below (λ v. marks_in (slice_index tops i) (view_entries i v)) passes_in s.views (weighs i openings tops s rule known))

-- a view has no more claimed numbers of over 32 bits than it stands for passes
claims_weigh : (at : ℕ) (s : State (Unit {0}) View) → Jobs at s → (j : ℕ) (v : View) → get_elem? s.views j ≡ some v → wide_in (view_claims v) ≤ passes_in v
claims_weigh place s rule j v at =
    omega (arith, few_in wide_by claims_of v.joined (rule.rests j v at), (rule.fits j v at).wide, sum_by-append wide_by (flat_map claims_of v.joined) (claims_of v.own))

-- so there are at most 64
few_wide : (at : ℕ) (s : State (Unit {0}) View) → Jobs at s → Seats s.views → sum_by (λ v. wide_in (view_claims v)) s.views ≤ 64
few_wide place s rule seats = omega (arith, seats.few, seats.counted, total_below (λ v. wide_in (view_claims v)) passes_in s.views (claims_weigh place s rule))

-- the words after one is set
word_at : (words : List ℕ) (sub i next : ℕ) → sub < length words → (b : Bool) → (i == sub) ≡ b → slice_index (slice_set words sub next) i ≡ (if b then next else slice_index words i)
word_at words sub i next sized true same = ap (λ k. slice_index (slice_set words sub next) k) (eqb-true i sub same) ∙ get_or-set_same words sub next 0 sized
word_at words sub i next sized false other = get_or-set_other words sub i next 0 (λ same. let yes = eq-eqb i sub same in let no : ⊥ = cc in no)

-- ---- what a step doesn't change

-- a view of the same seat, with other deeds of its own
pub record Alike (v w : View) : Type 0 where
  pub joined : w.joined ≡ v.joined
  pub active : w.active ≡ v.active

-- a view with other deeds keeps what holds of the seats
pub seats_still : (views : List View) (id : ℕ) (v w : View) → Seats views → get_elem? views id ≡ some v → Alike v w → w.split ≡ v.split → (v.active ≡ 0 → w.own ≡ []) → Seats (slice_set views id w)
seats_still views id v w seats at alike split idle = record {
  counted = omega (arith, seats.counted, total_set passes_in views id v w at, total_set (λ x. x.split) views id v w at, alike.active, ap (λ (l : List (List Deed)). length l) alike.joined, split);
  few = omega (arith, seats.few, total_set (λ x. x.split) views id v w at, split);
  alone = λ j u there apart. ⊎_elim
      (λ (mine : (j ≡ id) × (w ≡ u)). let known = seats.alone id v at (λ no. apart (mine.0 ∙ no)) in
      (ap (λ (x : View). x.split) (sym mine.1) ∙ split ∙ known.0, ap (λ (x : View). x.joined) (sym mine.1) ∙ alike.joined ∙ known.1))
      (λ (theirs : (j ≢ id) × (get_elem? views j ≡ some u)). seats.alone j u theirs.1 apart)
      (at_set views id j w u there);
  idle = λ j u there none. ⊎_elim
      (λ (mine : (j ≡ id) × (w ≡ u)). ap (λ (x : View). x.own) (sym mine.1) ∙ idle (sym alike.active ∙ ap (λ (x : View). x.active) mine.1 ∙ none))
      (λ (theirs : (j ≢ id) × (get_elem? views j ≡ some u)). seats.idle j u theirs.1 none)
      (at_set views id j w u there);
}

-- the same own entries make the same entries
pub entries_alike : (i : ℕ) (v w : View) → Alike v w → entries_of i w.own ≡ entries_of i v.own → view_entries i w ≡ view_entries i v
entries_alike i v w alike same = ap (λ (l : List (List Deed)). flat_map (entries_of i) l ++ entries_of i w.own) alike.joined ∙ ap (λ (es : List Entry). flat_map (entries_of i) v.joined ++ es) same

-- the same own claims make the same claims
pub claims_alike : (v w : View) → Alike v w → claims_of w.own ≡ claims_of v.own → view_claims w ≡ view_claims v
claims_alike v w alike same = ap (λ (l : List (List Deed)). flat_map claims_of l ++ claims_of w.own) alike.joined ∙ ap (λ (ns : List ℕ). flat_map claims_of v.joined ++ ns) same

-- a step that makes no entry keeps what holds of the numbers
pub numbers_still : (openings tops : List ℕ) (s : State (Unit {0}) View) (id : ℕ) (v w : View) (words : List ℕ) → Numbers openings tops s → get_elem? s.views id ≡ some v
    → ((i : ℕ) → i < length openings → slice_index words i ≡ slice_index s.words i) → Alike v w → ((i : ℕ) → entries_of i w.own ≡ entries_of i v.own)
    → Numbers openings tops record { words = words; homes = s.homes; views = slice_set s.views id w }
numbers_still openings tops s id v w words rule at word alike same = record {
  bounded = λ i known. omega (arith, rule.bounded i known, word i known, total_set (λ x. marks_in (slice_index tops i) (view_entries i x)) s.views id v w at, ap (marks_in (slice_index tops i)) (entries_alike i v w alike (same i)));
  covers = λ i known.
      let still = flat_set_same (view_entries i) s.views id v w at (entries_alike i v w alike (same i)) in
      subst (λ (n : ℕ). IsCovered (slice_index tops i) (slice_index openings i) n (all_view_entries i (slice_set s.views id w))) (sym (word i known))
      (subst (λ (es : List Entry). IsCovered (slice_index tops i) (slice_index openings i) (slice_index s.words i) es) (sym still) (rule.covers i known));
  fits = λ j u there i known. subst (λ (n : ℕ). FitsWord (slice_index tops i) n u.active (entries_of i u.own)) (sym (word i known)) (⊎_elim
      (λ (mine : (j ≡ id) × (w ≡ u)). subst (λ (x : View). FitsWord (slice_index tops i) (slice_index s.words i) x.active (entries_of i x.own)) mine.1
      (subst (λ (a : ℕ). FitsWord (slice_index tops i) (slice_index s.words i) a (entries_of i w.own)) (sym alike.active)
      (subst (λ (es : List Entry). FitsWord (slice_index tops i) (slice_index s.words i) v.active es) (sym (same i)) (rule.fits id v at i known))))
      (λ (theirs : (j ≢ id) × (get_elem? s.views j ≡ some u)). rule.fits j u theirs.1 i known)
      (at_set s.views id j w u there));
  rests = λ j u there i known. ⊎_elim
      (λ (mine : (j ≡ id) × (w ≡ u)). subst (λ (x : View). All (FitsJoined (slice_index tops i) i) x.joined) mine.1 (subst (λ (l : List (List Deed)). All (FitsJoined (slice_index tops i) i) l) (sym alike.joined) (rule.rests id v at i known)))
      (λ (theirs : (j ≢ id) × (get_elem? s.views j ≡ some u)). rule.rests j u theirs.1 i known)
      (at_set s.views id j w u there);
}

-- a step that claims nothing keeps what holds of the jobs
pub jobs_still : (place : ℕ) (s : State (Unit {0}) View) (id : ℕ) (v w : View) (words : List ℕ) → Jobs place s → get_elem? s.views id ≡ some v
    → slice_index words place ≡ slice_index s.words place → Alike v w → claims_of w.own ≡ claims_of v.own
    → Jobs place record { words = words; homes = s.homes; views = slice_set s.views id w }
jobs_still place s id v w words rule at word alike same = record {
  bounded = omega (arith, rule.bounded, word, total_set (λ x. wide_in (view_claims x)) s.views id v w at, ap wide_in (claims_alike v w alike same));
  once = λ n. ap (λ (ns : List ℕ). times n ns) (flat_set_same view_claims s.views id v w at (claims_alike v w alike same)) ∙ rule.once n ∙ ap (λ k. if nat_lt n k then 1 else 0) (sym word);
  fits = λ j u there. subst (λ (n : ℕ). FitsClaims n u.active (claims_of u.own)) (sym word) (⊎_elim
      (λ (mine : (j ≡ id) × (w ≡ u)). subst (λ (x : View). FitsClaims (slice_index s.words place) x.active (claims_of x.own)) mine.1
      (subst (λ (a : ℕ). FitsClaims (slice_index s.words place) a (claims_of w.own)) (sym alike.active)
      (subst (λ (ns : List ℕ). FitsClaims (slice_index s.words place) v.active ns) (sym same) (rule.fits id v at))))
      (λ (theirs : (j ≢ id) × (get_elem? s.views j ≡ some u)). rule.fits j u theirs.1)
      (at_set s.views id j w u there));
  rests = λ j u there. ⊎_elim
      (λ (mine : (j ≡ id) × (w ≡ u)). subst (λ (x : View). All (λ deeds. wide_in (claims_of deeds) ≤ 1) x.joined) mine.1 (subst (λ (l : List (List Deed)). All (λ deeds. wide_in (claims_of deeds) ≤ 1) l) (sym alike.joined) (rule.rests id v at)))
      (λ (theirs : (j ≢ id) × (get_elem? s.views j ≡ some u)). rule.rests j u theirs.1)
      (at_set s.views id j w u there);
}

-- a deed changes the own deeds alone
did_alike : (v : View) (d : Deed) → Alike v (with_deed v d)
did_alike v d = record { joined = refl; active = refl }

-- ---- a step on a number word

-- an entry that may be made at a word of a subscriber with this greatest number, from which it leads to another
pub record Adds (top word next : ℕ) (e : Entry) (es : List Entry) (total : ℕ) : Type 0 where
  pub rises : word ≤ next
  pub before : (d : Entry) → reach_of d ≤ word → IsBefore d e
  pub reach : reach_of e ≤ next
  pub marked : marks_in top es + mark_by top e ≤ 1
  pub bound : next ≤ top + total + mark_by top e
  pub leads : Leads top word next e

-- what fits at a word fits at a higher one
pub fits_higher : (top word next active : ℕ) (es : List Entry) → word ≤ next → FitsWord top word active es → FitsWord top next active es
fits_higher top word next active es up fits = record {
  marked = fits.marked;
  ordered = fits.ordered;
  below = λ k d within. let low = fits.below k d within in omega (arith, low, up);
}

-- and a further entry
fits_more : (top word next total active : ℕ) (e : Entry) (es : List Entry) → active ≡ 1 → FitsWord top word active es → Adds top word next e es total → FitsWord top next active (es ++ e ∷ [])
fits_more top word next total active e es one fits adds = record {
  marked = omega (arith, one, adds.marked, sum_by-append (mark_by top) es (e ∷ []), sum_by-cons (mark_by top) e []);
  ordered = all_pairs_push IsBefore es e fits.ordered (λ k d within. adds.before (get_or es k d) (fits.below k d within));
  below = All-append (λ d. reach_of d ≤ next) es (e ∷ []) (fits_higher top word next active es adds.rises fits).below (all_cons (λ d. reach_of d ≤ next) e [] adds.reach (all_nil (λ d. reach_of d ≤ next)));
}

-- a view's entries after a deed of the subscriber
entries_with_deed : (sub : ℕ) (v : View) (e : Entry) → view_entries sub (with_deed v (Made sub e)) ≡ view_entries sub v ++ e ∷ []
entries_with_deed sub v e = ap (λ (es : List Entry). flat_map (entries_of sub) v.joined ++ es) (entries_same sub v.own e) ∙ sym (append_assoc (flat_map (entries_of sub) v.joined) (entries_of sub v.own) (e ∷ []))

-- and after one of another subscriber
entries_with_other : (i sub : ℕ) (v : View) (e : Entry) → i ≢ sub → view_entries i (with_deed v (Made sub e)) ≡ view_entries i v
entries_with_other i sub v e apart = ap (λ (es : List Entry). flat_map (entries_of i) v.joined ++ es) (entries_other i sub v.own e apart)

record Stands (openings tops : List ℕ) (s : State (Unit {0}) View) (id : ℕ) (v : View) (sub : ℕ) : Type 0 where
  pub rule : KeepsNumbers openings tops s
  pub at : get_elem? s.views id ≡ some v
  pub known : sub < length openings
  pub active : v.active ≡ 1

-- an entry that may be made keeps what holds of the numbers
numbers_more : (openings tops : List ℕ) (s : State (Unit {0}) View) (id : ℕ) (v : View) (sub next : ℕ) (e : Entry) → Stands openings tops s id v sub
    → Adds (slice_index tops sub) (slice_index s.words sub) next e (entries_of sub v.own) (sum_by (λ x. marks_in (slice_index tops sub) (view_entries sub x)) s.views)
    → Numbers openings tops record { words = slice_set s.words sub next; homes = s.homes; views = slice_set s.views id (with_deed v (Made sub e)) }
numbers_more openings tops s id v sub next e st adds = record {
  bounded = λ i known. bounded_at i known (i == sub) refl;
  covers = λ i known. covered_at i known (i == sub) refl;
  fits = λ j u at i known. ⊎_elim
      (λ (mine : (j ≡ id) × (w ≡ u)). subst (λ (x : View). FitsWord (slice_index tops i) (slice_index (slice_set s.words sub next) i) x.active (entries_of i x.own)) mine.1 (mine_fits i known (i == sub) refl))
      (λ (theirs : (j ≢ id) × (get_elem? s.views j ≡ some u)). others_fit u i (rule.fits j u theirs.1 i known) (i == sub) refl)
      (at_set s.views id j w u at);
  rests = λ j u at i known. ⊎_elim
      (λ (mine : (j ≡ id) × (w ≡ u)). subst (λ (x : View). All (FitsJoined (slice_index tops i) i) x.joined) mine.1 (rule.rests id v st.at i known))
      (λ (theirs : (j ≢ id) × (get_elem? s.views j ≡ some u)). rule.rests j u theirs.1 i known)
      (at_set s.views id j w u at);
}
  where
    w : View
    w = with_deed v (Made sub e)

    rule : Numbers openings tops s
    rule = st.rule.numbers

    sized : sub < length s.words
    sized = omega (arith, st.known, st.rule.room)

    not_same : (i : ℕ) → (i == sub) ≡ false → i ≢ sub
    not_same i other same = let yes = eq-eqb i sub same in let no : ⊥ = cc in no

    covered_at : (i : ℕ) → i < length openings → (b : Bool) → (i == sub) ≡ b → IsCovered (slice_index tops i) (slice_index openings i) (slice_index (slice_set s.words sub next) i) (all_view_entries i (set s.views id w))
    covered_at i known true same =
        let here = eqb-true i sub same in
        let more = covered_more (slice_index tops sub) (slice_index openings sub) (slice_index s.words sub) next e (all_view_entries sub s.views) (rule.covers sub st.known) adds.leads in
        let there : IsCovered (slice_index tops sub) (slice_index openings sub) next (all_view_entries sub (set s.views id w)) =
        covered_permuted (slice_index tops sub) (slice_index openings sub) next (e ∷ all_view_entries sub s.views) (all_view_entries sub (set s.views id w)) more
        (permuted_more (view_entries sub) s.views id v w (e ∷ []) st.at (entries_with_deed sub v e)) in
        let P : ℕ → Type 0 = λ k. IsCovered (slice_index tops k) (slice_index openings k) next (all_view_entries k (set s.views id w)) in
        let R : ℕ → Type 0 = λ n. IsCovered (slice_index tops i) (slice_index openings i) n (all_view_entries i (set s.views id w)) in
        subst R (sym (word_at s.words sub i next sized true same)) (subst P (sym here) there)
    covered_at i known false other =
        let still = flat_set_same (view_entries i) s.views id v w st.at (entries_with_other i sub v e (not_same i other)) in
        let P : List Entry → Type 0 = λ es. IsCovered (slice_index tops i) (slice_index openings i) (slice_index s.words i) es in
        let R : ℕ → Type 0 = λ n. IsCovered (slice_index tops i) (slice_index openings i) n (all_view_entries i (set s.views id w)) in
        subst R (sym (word_at s.words sub i next sized false other)) (subst P (sym still) (rule.covers i known))

    marks_at : ℕ → View → ℕ
    marks_at i x = marks_in (slice_index tops i) (view_entries i x)

    marks_of : (i : ℕ) → sum_by (marks_at i) (set s.views id w) + marks_at i v ≡ sum_by (marks_at i) s.views + marks_at i w
    marks_of i = total_set (marks_at i) s.views id v w st.at

    bounded_at : (i : ℕ) → i < length openings → (b : Bool) → (i == sub) ≡ b → slice_index (slice_set s.words sub next) i ≤ slice_index tops i + sum_by (marks_at i) (set s.views id w)
    bounded_at i known true same =
        let here = eqb-true i sub same in
        let word = word_at s.words sub i next sized true same in
        let total = marks_of sub in
        let more = ap (marks_in (slice_index tops sub)) (entries_with_deed sub v e) ∙ sum_by-append (mark_by (slice_index tops sub)) (view_entries sub v) (e ∷ []) in
        let last = sum_by-cons (mark_by (slice_index tops sub)) e [] in
        let at_sub : next ≤ slice_index tops sub + sum_by (marks_at sub) (set s.views id w) = omega (arith, adds.bound, total, more, last) in
        let there : next ≤ slice_index tops i + sum_by (marks_at i) (set s.views id w) = subst (λ (k : ℕ). next ≤ slice_index tops k + sum_by (marks_at k) (set s.views id w)) (sym here) at_sub in
        omega (arith, there, word)
    bounded_at i known false other =
        let word = word_at s.words sub i next sized false other in
        omega (arith, rule.bounded i known, marks_of i, ap (marks_in (slice_index tops i)) (entries_with_other i sub v e (not_same i other)), word)

    others_fit : (u : View) → (i : ℕ) → FitsWord (slice_index tops i) (slice_index s.words i) u.active (entries_of i u.own) → (b : Bool) → (i == sub) ≡ b → FitsWord (slice_index tops i) (slice_index (slice_set s.words sub next) i) u.active (entries_of i u.own)
    others_fit u i fits true same =
        let here = eqb-true i sub same in
        fits_higher (slice_index tops i) (slice_index s.words i) (slice_index (slice_set s.words sub next) i) u.active (entries_of i u.own) (omega (arith, adds.rises, ap (λ k. slice_index s.words k) here, word_at s.words sub i next sized true same)) fits
    others_fit u i fits false other =
        let R : ℕ → Type 0 = λ n. FitsWord (slice_index tops i) n u.active (entries_of i u.own) in
        subst R (sym (word_at s.words sub i next sized false other)) fits

    mine_fits : (i : ℕ) → i < length openings → (b : Bool) → (i == sub) ≡ b → FitsWord (slice_index tops i) (slice_index (slice_set s.words sub next) i) w.active (entries_of i w.own)
    mine_fits i known true same =
        let here = eqb-true i sub same in
        let fits = rule.fits id v st.at sub st.known in
        let more = fits_more (slice_index tops sub) (slice_index s.words sub) next (sum_by (marks_at sub) s.views) v.active e (entries_of sub v.own) st.active fits adds in
        let P : List Entry → Type 0 = λ es. FitsWord (slice_index tops sub) next v.active es in
        let at_sub : FitsWord (slice_index tops sub) next v.active (entries_of sub w.own) = subst P (sym (entries_same sub v.own e)) more in
        let Q : ℕ → Type 0 = λ k. FitsWord (slice_index tops k) next v.active (entries_of k w.own) in
        let there : FitsWord (slice_index tops i) next v.active (entries_of i w.own) = subst Q (sym here) at_sub in
        let R : ℕ → Type 0 = λ n. FitsWord (slice_index tops i) n v.active (entries_of i w.own) in
        subst R (sym (word_at s.words sub i next sized true same)) there
    mine_fits i known false other =
        let fits = rule.fits id v st.at i known in
        let P : List Entry → Type 0 = λ es. FitsWord (slice_index tops i) (slice_index s.words i) v.active es in
        let there : FitsWord (slice_index tops i) (slice_index s.words i) v.active (entries_of i w.own) = subst P (sym (entries_other i sub v.own e (not_same i other))) fits in
        let R : ℕ → Type 0 = λ n. FitsWord (slice_index tops i) n v.active (entries_of i w.own) in
        subst R (sym (word_at s.words sub i next sized false other)) there

-- and the whole part on numbers
adds_keep : (openings tops : List ℕ) (s : State (Unit {0}) View) (id : ℕ) (v : View) (sub next : ℕ) (e : Entry) → Stands openings tops s id v sub
    → Adds (slice_index tops sub) (slice_index s.words sub) next e (entries_of sub v.own) (sum_by (λ x. marks_in (slice_index tops sub) (view_entries sub x)) s.views)
    → KeepsNumbers openings tops record { words = slice_set s.words sub next; homes = s.homes; views = slice_set s.views id (with_deed v (Made sub e)) }
adds_keep openings tops s id v sub next e st adds = record {
  room = omega (arith, st.rule.room, length-set s.words sub next);
  numbers = numbers_more openings tops s id v sub next e st adds;
  jobs = jobs_still (length openings) s id v (with_deed v (Made sub e)) (slice_set s.words sub next) st.rule.jobs st.at
      (get_or-set_other s.words sub (length openings) next 0 (λ same. omega (arith, same, st.known))) (did_alike v (Made sub e)) (claims_made sub e v.own);
  seats = seats_still s.views id v (with_deed v (Made sub e)) st.rule.seats st.at (did_alike v (Made sub e)) refl (λ none. absurd (omega (arith, none, st.active)));
}

-- a draw, of a pass that keeps no word of the subscriber
draw_adds : (top word total : ℕ) (es : List Entry) → word ≤ top + total → marks_in top es ≡ 0 → Adds top word (word + 1) (Drawn (word + 1)) es total
draw_adds top word total es bounded clean = record {
  rises = omega arith;
  before = λ d low. omega (arith, low);
  reach = omega arith;
  marked = marked (nat_lt top (word + 1)) refl;
  bound = bound (nat_lt top (word + 1)) refl;
  leads = draw_leads top word;
}
  where
    marked : (b : Bool) → nat_lt top (word + 1) ≡ b → marks_in top es + mark_by top (Drawn (word + 1)) ≤ 1
    marked b is = grind (arith, nat_tests)

    bound : (b : Bool) → nat_lt top (word + 1) ≡ b → word + 1 ≤ top + total + mark_by top (Drawn (word + 1))
    bound b is = grind (arith, nat_tests)

-- a draw keeps the part on numbers
draws_numbers : (openings tops : List ℕ) (slots id sub : ℕ) (me : Me (Unit {0}) View) → sub < length openings → slice_index tops sub ≤ max_seq → me.0.active ≡ 1 → marks_in (slice_index tops sub) (entries_of sub me.0.own) ≡ 0
    → Allows (KeepsNumbers openings tops) slots id me sub (λ n. (n + 1) % 2 ^ 64) (λ found w. draws (step slots sub 1 0 none) me found w)
draws_numbers openings tops slots id sub me known low active unmarked s rule homes at fits =
    let v = me.0 in
    let top = slice_index tops sub in
    let word = slice_index s.words sub in
    let total = sum_by (λ x. marks_in top (view_entries sub x)) s.views in
    let few = few_marks openings tops s sub rule.numbers rule.seats known in
    let bounded = rule.numbers.bounded sub known in
    let e = Drawn (word + 1) in
    let st : Stands openings tops s id v sub = record { rule = rule; at = at; known = known; active = active } in
    let adds = draw_adds top word total (entries_of sub v.own) bounded unmarked in
    let kept = adds_keep openings tops s id v sub (word + 1) e st adds in
    let within : word + 1 < 2 ^ 64 = omega (arith, bounded, few, low) in
    let small : (word + 1) % 2 ^ 64 ≡ word + 1 = mod-eq_of_lt within in
    let P : ℕ → Type 0 = λ n. KeepsNumbers openings tops record { words = slice_set s.words sub n; homes = s.homes; views = slice_set s.views id (with_deed v (Made sub e)) } in
    let ordered = subst IsInOrder (sym (entries_same sub v.own e)) (fits_more top word (word + 1) total v.active e (entries_of sub v.own) active (rule.numbers.fits id v at sub known) adds).ordered in
    (with_deed v (Made sub e), keeps, tt, subst P (sym small) kept, ((refl, ordered), within))

-- what the test says
leb_lt : (a b : ℕ) → nat_lt a b ≡ true → a < b
leb_lt a b = grind (arith, nat_tests)

-- and what it says if it fails
not_lt : (a b : ℕ) → nat_lt a b ≡ false → b ≤ a
not_lt a b = grind (arith, nat_tests)

-- a jump to a number, of such a pass
jump_adds : (top word to total : ℕ) (es : List Entry) → word ≤ top + total → to ≤ top → marks_in top es ≡ 0
    → (b : Bool) → nat_lt word to ≡ b → Adds top word (max word to) (if b then Moved word to else Look word) es total
jump_adds top word to total es bounded number clean true below = record {
  rises = omega arith;
  before = λ d low. low;
  reach = omega arith;
  marked = omega (arith, clean);
  bound = omega (arith, bounded, number);
  leads = move_leads top word to (max word to) (let low = leb_lt word to below in low) number (omega (arith, leb_lt word to below));
}
jump_adds top word to total es bounded number clean false above = record {
  rises = omega arith;
  before = λ d low. low;
  reach = omega arith;
  marked = omega (arith, clean);
  bound = omega (arith, bounded, number);
  leads = look_leads top word (max word to) (omega (arith, not_lt word to above));
}

-- a jump keeps the part on numbers
jumps_numbers : (openings tops : List ℕ) (slots id sub to : ℕ) (me : Me (Unit {0}) View) → sub < length openings → to ≤ slice_index tops sub → me.0.active ≡ 1 → marks_in (slice_index tops sub) (entries_of sub me.0.own) ≡ 0
    → Allows (KeepsNumbers openings tops) slots id me sub (λ n. max n to) (λ found w. jumps (step slots sub to 0 none) me found w)
jumps_numbers openings tops slots id sub to me known number active unmarked s rule homes at fits =
    let v = me.0 in
    let top = slice_index tops sub in
    let word = slice_index s.words sub in
    let total = sum_by (λ x. marks_in top (view_entries sub x)) s.views in
    let bounded = rule.numbers.bounded sub known in
    let e = jump_entry to word in
    let st : Stands openings tops s id v sub = record { rule = rule; at = at; known = known; active = active } in
    let adds = jump_adds top word to total (entries_of sub v.own) bounded number unmarked (nat_lt word to) refl in
    let ordered = subst IsInOrder (sym (entries_same sub v.own e)) (fits_more top word (max word to) total v.active e (entries_of sub v.own) active (rule.numbers.fits id v at sub known) adds).ordered in
    (with_deed v (Made sub e), keeps, tt, adds_keep openings tops s id v sub (max word to) e st adds, (refl, ordered))

-- ---- a step on the job word

-- a view's claims after a claim
claims_with_deed : (n : ℕ) (v : View) → view_claims (with_deed v (Claimed n)) ≡ view_claims v ++ n ∷ []
claims_with_deed n v = ap (λ (ns : List ℕ). flat_map claims_of v.joined ++ ns) (claims_more n v.own) ∙ sym (append_assoc (flat_map claims_of v.joined) (claims_of v.own) (n ∷ []))

-- one number more is claimed
one_more : (n word total old new : ℕ) → total ≡ (if nat_lt n word then 1 else 0) → new + old ≡ total + (old + cond (word == n) 1 0) → ◌≡◌ {A = ℕ} new (if nat_lt n (word + 1) then 1 else 0)
one_more n word total old new = grind (arith, nat_tests)

-- a number is of 32 bits or counts
wide_bound : (word : ℕ) → (word + 1 ≤ 4294967296 + wide_by word) ⊎ (wide_by word ≡ 1)
wide_bound word = by (nat_lt word 4294967296) refl
  where
    by : (b : Bool) → nat_lt word 4294967296 ≡ b → (word + 1 ≤ 4294967296 + (if b then 0 else 1)) ⊎ (◌≡◌ {A = ℕ} (if b then 0 else 1) 1)
    by true is = inl (omega (arith, leb_lt word 4294967296 is))
    by false is = inr refl

-- it counts once at most
wide_most : (word : ℕ) → wide_by word ≤ 1
wide_most word = by (nat_lt word 4294967296)
  where
    by : (b : Bool) → (if b then 0 else 1) ≤ 1
    by true = omega arith
    by false = omega arith

-- a claim keeps what holds of the jobs
jobs_more : (place : ℕ) (s : State (Unit {0}) View) (id : ℕ) (v : View) → Jobs place s → get_elem? s.views id ≡ some v → place < length s.words → v.active ≡ 1 → wide_in (claims_of v.own) ≡ 0
    → Jobs place record { words = slice_set s.words place (slice_index s.words place + 1); homes = s.homes; views = slice_set s.views id (with_deed v (Claimed (slice_index s.words place))) }
jobs_more place s id v rule at sized active narrow = record {
  bounded = omega (arith, bound, now);
  once = λ n. times_flat n view_claims (set s.views id w)
      ∙ one_more n word (sum_by (λ x. times n (view_claims x)) s.views) (times n (view_claims v)) (sum_by (λ x. times n (view_claims x)) (set s.views id w))
      (sym (times_flat n view_claims s.views) ∙ rule.once n)
      (total_set (λ x. times n (view_claims x)) s.views id v w at ∙ ap (λ k. sum_by (λ x. times n (view_claims x)) s.views + k) (ap (times n) (claims_with_deed word v) ∙ times-append n (view_claims v) (word ∷ []) ∙ ap (λ k. times n (view_claims v) + k) (times-cons n word [] ∙ omega arith)))
      ∙ ap (λ k. if nat_lt n k then 1 else 0) (sym now);
  fits = λ j u there. subst (λ (n : ℕ). FitsClaims n u.active (claims_of u.own)) (sym now) (⊎_elim
      (λ (mine : (j ≡ id) × (w ≡ u)). subst (λ (x : View). FitsClaims (word + 1) x.active (claims_of x.own)) mine.1 mine_fits)
      (λ (theirs : (j ≢ id) × (get_elem? s.views j ≡ some u)). let fits = rule.fits j u theirs.1 in record { wide = fits.wide; below = λ k d within. let low = fits.below k d within in omega (arith, low) })
      (at_set s.views id j w u there));
  rests = λ j u there. ⊎_elim
      (λ (mine : (j ≡ id) × (w ≡ u)). subst (λ (x : View). All (λ deeds. wide_in (claims_of deeds) ≤ 1) x.joined) mine.1 (rule.rests id v at))
      (λ (theirs : (j ≢ id) × (get_elem? s.views j ≡ some u)). rule.rests j u theirs.1)
      (at_set s.views id j w u there);
}
  where
    word : ℕ
    word = slice_index s.words place

    w : View
    w = with_deed v (Claimed word)

    now : slice_index (slice_set s.words place (word + 1)) place ≡ word + 1
    now = get_or-set_same s.words place (word + 1) 0 sized

    wide_total : sum_by (λ x. wide_in (view_claims x)) (set s.views id w) ≡ sum_by (λ x. wide_in (view_claims x)) s.views + wide_by word
    wide_total = omega (arith, total_set (λ x. wide_in (view_claims x)) s.views id v w at, ap wide_in (claims_with_deed word v) ∙ sum_by-append wide_by (view_claims v) (word ∷ []), sum_by-cons wide_by word [])

    bound : word + 1 ≤ 4294967296 + sum_by (λ x. wide_in (view_claims x)) (set s.views id w)
    bound = ⊎_elim (λ (low : word + 1 ≤ 4294967296 + wide_by word). omega (arith, low, wide_total)) (λ (high : wide_by word ≡ 1). omega (arith, high, wide_total, rule.bounded)) (wide_bound word)

    mine_fits : FitsClaims (word + 1) v.active (claims_of w.own)
    mine_fits = let fits = rule.fits id v at in record {
      wide = omega (arith, active, narrow, wide_most word, ap wide_in (claims_more word v.own) ∙ sum_by-append wide_by (claims_of v.own) (word ∷ []), sum_by-cons wide_by word []);
      below = subst (λ (ns : List ℕ). All (λ n. n < word + 1) ns) (sym (claims_more word v.own)) (All-append (λ n. n < word + 1) (claims_of v.own) (word ∷ [])
          (λ k d within. let low = fits.below k d within in omega (arith, low)) (all_cons (λ n. n < word + 1) word [] (omega arith) (all_nil (λ n. n < word + 1))));
    }

-- a claim keeps the part on numbers
claims_numbers : (openings tops : List ℕ) (slots id : ℕ) (me : Me (Unit {0}) View) → me.0.active ≡ 1 → wide_in (claims_of me.0.own) ≡ 0
    → Allows (KeepsNumbers openings tops) slots id me (length openings) (λ n. (n + 1) % 2 ^ 64) (λ found w. claims (step slots (length openings) 1 0 none) me found w)
claims_numbers openings tops slots id me active narrow s rule homes at fits =
    let v = me.0 in
    let place = length openings in
    let word = slice_index s.words place in
    let w = with_deed v (Claimed word) in
    let more : KeepsNumbers openings tops record { words = slice_set s.words place (word + 1); homes = s.homes; views = slice_set s.views id w } = record {
      room = omega (arith, rule.room, length-set s.words place (word + 1));
      numbers = numbers_still openings tops s id v w (slice_set s.words place (word + 1)) rule.numbers at (λ i known. get_or-set_other s.words place i (word + 1) 0 (λ same. omega (arith, same, known))) (did_alike v (Claimed word)) (λ i. entries_claimed i word v.own);
      jobs = jobs_more place s id v rule.jobs at rule.room active narrow;
      seats = seats_still s.views id v w rule.seats at (did_alike v (Claimed word)) refl (λ none. absurd (omega (arith, none, active)));
    } in
    let small : (word + 1) % 2 ^ 64 ≡ word + 1 = mod-eq_of_lt (omega (arith, rule.jobs.bounded, few_wide place s rule.jobs rule.seats)) in
    let P : ℕ → Type 0 = λ n. KeepsNumbers openings tops record { words = slice_set s.words place n; homes = s.homes; views = slice_set s.views id w } in
    (w, keeps, tt, subst P (sym small) more, (refl, (rule.jobs.fits id v at).below))

-- ---- the whole rule

-- a draw doesn't wrap
draw_rises : (openings tops : List ℕ) (s : State (Unit {0}) View) (sub : ℕ) → KeepsNumbers openings tops s → sub < length openings → slice_index tops sub ≤ max_seq → slice_index s.words sub ≤ (slice_index s.words sub + 1) % 2 ^ 64
draw_rises openings tops s sub rule known low =
    let small : (slice_index s.words sub + 1) % 2 ^ 64 ≡ slice_index s.words sub + 1 = mod-eq_of_lt (omega (arith, rule.numbers.bounded sub known, few_marks openings tops s sub rule.numbers rule.seats known, low)) in
    omega (arith, small)

-- a step that keeps the part on numbers, and lets no number fall, keeps the part on limits too
keeps_both : (openings tops limits : List ℕ) (slots id i : ℕ) (me : Me (Unit {0}) View) (f : ℕ → ℕ) (tells : ℕ → Me (Unit {0}) View → Type 0)
    → i ≤ length openings → ((s : State (Unit {0}) View) → KeepsNumbers openings tops s → i < length openings → slice_index s.words i ≤ f (slice_index s.words i))
    → ((found : ℕ) (w : Me (Unit {0}) View) → tells found w → IsPlain me.0 w.0)
    → Allows (KeepsNumbers openings tops) slots id me i f tells → Allows (Keeps openings tops limits) slots id me i f tells
keeps_both openings tops limits slots id i me f tells here rises plain allowed s rule homes at fits =
    let (w, act, valid, kept, told) = allowed s rule.numbers homes at fits in
    let same = plain (slice_index s.words i) (w, carried_after me.1 act) told in
    let still = still_set openings s.words i (f (slice_index s.words i)) here (omega (arith, here, rule.limits.sized)) (λ known. rises s rule.numbers known) in (
      w,
      act,
      valid,
      record {
        numbers = kept;
        limits = limits_stepped openings limits s id w (slice_set s.words i (f (slice_index s.words i))) (homes_after s.homes me.1 act) rule.limits still
            (first_same s.views id me.0 w at same.note) (plain_told (first_note s.views) me.0 w same (rule.limits.told id me.0 at));
      },
      told,
    )

-- a draw, of a pass that keeps no word of the subscriber
pub draws_ok : (openings tops limits : List ℕ) (slots id sub : ℕ) (me : Me (Unit {0}) View) → sub < length openings → slice_index tops sub ≤ max_seq → me.0.active ≡ 1 → marks_in (slice_index tops sub) (entries_of sub me.0.own) ≡ 0
    → AllowsDraw openings tops limits slots id me sub
draws_ok openings tops limits slots id sub me known low active unmarked =
    keeps_both openings tops limits slots id sub me (λ n. (n + 1) % 2 ^ 64) (λ found w. draws (step slots sub 1 0 none) me found w) (omega (arith, known)) (λ s rule below. draw_rises openings tops s sub rule below low)
    (λ found w told. made_plain sub (Drawn (found + 1)) me.0 w.0 (ap (λ (m : Me (Unit {0}) View). m.0) told.0.0)) (draws_numbers openings tops slots id sub me known low active unmarked)

-- a jump to a number, of such a pass
pub jumps_ok : (openings tops limits : List ℕ) (slots id sub to : ℕ) (me : Me (Unit {0}) View) → sub < length openings → to ≤ slice_index tops sub → me.0.active ≡ 1 → marks_in (slice_index tops sub) (entries_of sub me.0.own) ≡ 0
    → AllowsJump openings tops limits slots id me sub to
jumps_ok openings tops limits slots id sub to me known number active unmarked =
    keeps_both openings tops limits slots id sub me (λ n. max n to) (λ found w. jumps (step slots sub to 0 none) me found w) (omega (arith, known)) (λ s rule below. omega arith)
    (λ found w told. made_plain sub (jump_entry to found) me.0 w.0 (ap (λ (m : Me (Unit {0}) View). m.0) told.0)) (jumps_numbers openings tops slots id sub to me known number active unmarked)

-- a claim, of a pass whose claims haven't ended
pub claims_ok : (openings tops limits : List ℕ) (slots id place : ℕ) (me : Me (Unit {0}) View) → place ≡ length openings → me.0.active ≡ 1 → wide_in (claims_of me.0.own) ≡ 0
    → AllowsClaim openings tops limits slots id me place
claims_ok openings tops limits slots id place me here active narrow =
    let P : ℕ → Type 0 = λ k. AllowsClaim openings tops limits slots id me k in
    subst P (sym here) (keeps_both openings tops limits slots id (length openings) me (λ n. (n + 1) % 2 ^ 64) (λ found w. claims (step slots (length openings) 1 0 none) me found w) (omega arith) (λ s rule below. absurd (omega (arith, below)))
    (λ found w told. claimed_plain found me.0 w.0 (ap (λ (m : Me (Unit {0}) View). m.0) told.0)) (claims_numbers openings tops slots id me active narrow))
