-- What all views' entries cover.
use Rattle.std.proofs.Common.{◌≡◌, ℕ, zero, suc, ◌+◌, ◌-◌, ◌<◌, ◌≤◌, ◌==◌, ◌&&◌, ◌⊎◌, nat_lt, nat_le, true, cond, if◌then◌else◌, List, [], ◌∷◌, Some, Any, IsPermutation, arith, refl, sym, ap, ◌∙◌, subst, inl, inr, ⊎_elim, eq-eqb}
use Rattle.std.proofs.lemmas.Bool.Decides.{nat_tests}
use Rattle.std.proofs.lemmas.Bool.{eqb-true, false≢true}
use Rattle.std.proofs.lemmas.List.Folds.{Any-from_list_any, list_any-from_Any}
use Rattle.std.proofs.lemmas.List.Sorted.{All-permutation, list_any-IsPermutation, sum_by-IsPermutation}
use Rattle.auc_history.specs.declared.entry.Entry.{Entry}
use Rattle.auc_history.specs.declared.entry.Entry.TheVariants.{Drawn, Moved, Look}
use Rattle.auc_history.specs.History.{covers, covered, last_of, IsMove, IsFound}
use Rattle.auc_history.specs.Merge.{is_last}
use Rattle.auc_history.specs.Split.{times}
use Rattle.auc_history.proofs.Facts.{times-cons, times-append, times-numbers_after}
use Rattle.auc_draw.specs.InnerRule.{IsCovered}
use Rattle.auc_draw.proofs.ViewLemmas.{all_cons, times_flat}

-- some element of the others is some element of a list with a head
any_cons : {X : Type 0} (P : X → Type 0) (x : X) (xs : List X) → Any P xs → Any P (x ∷ xs)
any_cons P x xs (k, y, within, at, p) = (suc k, y, omega arith, at, p)

-- the head is some element
any_head : {X : Type 0} (P : X → Type 0) (x : X) (xs : List X) → P x → Any P (x ∷ xs)
any_head P x xs p = (zero, x, omega arith, refl, p)

-- some element that has one property has another that follows from it
any_map : {X : Type 0} (P Q : X → Type 0) (xs : List X) → ((x : X) → P x → Q x) → Any P xs → Any Q xs
any_map P Q xs f (k, y, within, at, p) = (k, y, within, at, f y p)

-- an entry that a step makes at a word of a subscriber with this greatest number, and the next word
pub record Leads (top word next : ℕ) (e : Entry) : Type 0 where
  pub up : word ≤ next
  pub covers : (n : ℕ) → times n (covers e) ≡ (if nat_lt word n && nat_le n next then 1 else 0)
  pub move : IsMove top e
  pub found : (opening : ℕ) (es : List Entry) → (word ≡ opening) ⊎ Any (λ d. last_of d ≡ Some word) es → IsFound opening (e ∷ es) e
  pub ends : (next ≡ word) ⊎ (last_of e ≡ Some next)

-- the number after a word is the one above it up to the next
one_number : (n word : ℕ) → ◌≡◌ {A = ℕ} (cond (word + 1 == n) 1 0 + 0) (if nat_lt word n && nat_le n (word + 1) then 1 else 0)
one_number n word = grind (arith, nat_tests)

-- a draw
pub draw_leads : (top word : ℕ) → Leads top word (word + 1) (Drawn (word + 1))
draw_leads top word = record {
  up = omega arith;
  covers = λ n. times-cons n (word + 1) [] ∙ one_number n word;
  move = tt;
  found = λ opening es stands. tt;
  ends = inr refl;
}

-- a move
pub move_leads : (top word to next : ℕ) → word < to → to ≤ top → next ≡ to → Leads top word next (Moved word to)
move_leads top word to next low number is = record {
  up = omega (arith, low, is);
  covers = λ n. times-numbers_after n (to - word) word ∙ ap (λ k. if nat_lt word n && nat_le n k then 1 else 0) (let up : word + (to - word) ≡ next = omega (arith, low, is) in up);
  move = (low, number);
  found = λ opening es stands. tt;
  ends = inr (ap Some (sym is));
}

-- no number is above a word and at most the word
no_number : (n word : ℕ) → ◌≡◌ {A = ℕ} 0 (if nat_lt word n && nat_le n word then 1 else 0)
no_number n word = grind (arith, nat_tests)

-- a look
pub look_leads : (top word next : ℕ) → next ≡ word → Leads top word next (Look word)
look_leads top word next is = record {
  up = omega (arith, is);
  covers = λ n. no_number n word ∙ ap (λ k. if nat_lt word n && nat_le n k then 1 else 0) (sym is);
  move = tt;
  found = λ opening es stands. ⊎_elim (λ (here : word ≡ opening). inl here) (λ (there : Any (λ d. last_of d ≡ Some word) es). inr (any_cons (λ d. last_of d ≡ Some word) (Look word) es there)) stands;
  ends = inl is;
}

-- the numbers up to a word, and those up to the next word
two_ranges : (n opening word next : ℕ) → opening ≤ word → word ≤ next
    → ◌≡◌ {A = ℕ} ((if nat_lt word n && nat_le n next then 1 else 0) + (if nat_lt opening n && nat_le n word then 1 else 0)) (if nat_lt opening n && nat_le n next then 1 else 0)
two_ranges n opening word next = grind (arith, nat_tests)

-- what a look found is found among more entries
found_more : (opening : ℕ) (e d : Entry) (es : List Entry) → IsFound opening es d → IsFound opening (e ∷ es) d
found_more opening e (Drawn n) es found = tt
found_more opening e (Moved from to) es found = tt
found_more opening e (Look seen) es (inl is) = inl is
found_more opening e (Look seen) es (inr any) = inr (any_cons (λ x. last_of x ≡ Some seen) e es any)

-- a further entry, which leads to the next word
pub covered_more : (top opening word next : ℕ) (e : Entry) (es : List Entry) → IsCovered top opening word es → Leads top word next e → IsCovered top opening next (e ∷ es)
covered_more top opening word next e es c leads = record {
  forward = omega (arith, c.forward, leads.up);
  once = λ n. times-append n (covers e) (covered es) ∙ ap (λ k. k + times n (covered es)) (leads.covers n)
      ∙ ap (λ k. (if nat_lt word n && nat_le n next then 1 else 0) + k) (c.once n) ∙ two_ranges n opening word next c.forward leads.up;
  moves = all_cons (IsMove top) e es leads.move c.moves;
  looks = all_cons (IsFound opening (e ∷ es)) e es (leads.found opening es c.stands) (λ k d within. found_more opening e _ es (c.looks k d within));
  stands = ⊎_elim
      (λ (same : next ≡ word). ⊎_elim
      (λ (here : word ≡ opening). inl (same ∙ here))
      (λ (there : Any (λ d. last_of d ≡ Some word) es). inr (subst (λ n. Any (λ d. last_of d ≡ Some n) (e ∷ es)) (sym same) (any_cons (λ d. last_of d ≡ Some word) e es there)))
      c.stands)
      (λ (last : last_of e ≡ Some next). inr (any_head (λ d. last_of d ≡ Some next) e es last))
      leads.ends;
}

-- ---- in another order

-- an entry that passes the test of its last number covers it as the last
last_is : (n : ℕ) (e : Entry) → is_last n e ≡ true → last_of e ≡ Some n
last_is n (Drawn m) passes = ap Some (eqb-true m n passes)
last_is n (Moved from to) passes = ap Some (eqb-true to n passes)
last_is n (Look seen) passes = absurd (false≢true passes)

-- and the other way round
is_last-from : (n : ℕ) (e : Entry) → last_of e ≡ Some n → is_last n e ≡ true
is_last-from n (Drawn m) last = let same : m ≡ n = cc in eq-eqb m n same
is_last-from n (Moved from to) last = let same : to ≡ n = cc in eq-eqb to n same
is_last-from n (Look seen) last = absurd (let no : ⊥ = cc in no)

-- entries cover a number as often in another order
times_permuted : (n : ℕ) (xs ys : List Entry) → IsPermutation xs ys → times n (covered ys) ≡ times n (covered xs)
times_permuted n xs ys same = times_flat n covers ys ∙ sum_by-IsPermutation (λ e. times n (covers e)) xs ys same ∙ sym (times_flat n covers xs)

-- an entry that covers a number as its last is still there
ends_permuted : (n : ℕ) (xs ys : List Entry) → IsPermutation xs ys → Any (λ e. last_of e ≡ Some n) xs → Any (λ e. last_of e ≡ Some n) ys
ends_permuted n xs ys same any =
    any_map (λ e. is_last n e ≡ true) (λ e. last_of e ≡ Some n) ys (λ e is. last_is n e is)
    (Any-from_list_any (is_last n) ys (sym (list_any-IsPermutation (is_last n) xs ys same)
    ∙ list_any-from_Any (is_last n) xs (any_map (λ e. last_of e ≡ Some n) (λ e. is_last n e ≡ true) xs (λ e is. is_last-from n e is) any)))

-- what a look found is still found
found_permuted : (opening : ℕ) (xs ys : List Entry) (e : Entry) → IsPermutation xs ys → IsFound opening xs e → IsFound opening ys e
found_permuted opening xs ys (Drawn n) same found = tt
found_permuted opening xs ys (Moved from to) same found = tt
found_permuted opening xs ys (Look seen) same (inl is) = inl is
found_permuted opening xs ys (Look seen) same (inr any) = inr (ends_permuted seen xs ys same any)

-- what entries cover doesn't depend on their order
pub covered_permuted : (top opening word : ℕ) (xs ys : List Entry) → IsCovered top opening word xs → IsPermutation xs ys → IsCovered top opening word ys
covered_permuted top opening word xs ys c same = record {
  forward = c.forward;
  once = λ n. times_permuted n xs ys same ∙ c.once n;
  moves = All-permutation (IsMove top) xs ys same c.moves;
  looks = λ k d within. found_permuted opening xs ys _ same (All-permutation (IsFound opening xs) xs ys same c.looks k d within);
  stands = ⊎_elim (λ (here : word ≡ opening). inl here) (λ (there : Any (λ d. last_of d ≡ Some word) xs). inr (ends_permuted word xs ys same there)) c.stands;
}
