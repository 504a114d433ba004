-- The entries of draws, and the numbers in them.
use Rattle.std.proofs.Common.{◌≡◌, ℕ, zero, suc, ◌<◌, List, [], ◌∷◌, ◌++◌, All, Contains, Option, Result, refl, sym, ap, subst, ◌∙◌, arith}
use Rattle.std.proofs.lemmas.List.Elements.{All-cons, Contains-push}
use Rattle.auc_memory.specs.declared.stop.Stop.{Stop}
use Rattle.auc_history.specs.declared.entry.Entry.{Entry}
use Rattle.auc_history.specs.declared.entry.Entry.TheVariants.{Drawn}
use Rattle.auc_history.specs.History.{IsBefore, IsInOrder}
use Rattle.auc_history.proofs.Facts.{AllPairs-head, AllPairs-tail, AllPairs-cons}
use Rattle.auc_vector.specs.Centre.{AnswersNext}
use Rattle.auc_vector.specs.declared.centre.CentreRefusal.{CentreRefusal}
use Rattle.auc_sites.specs.Drawing.{Goes, entries_of}
use Rattle.auc_sites.specs.Lease.{IsRising}

-- the entries of one number more
pub entries_of-push : (xs : List ℕ) (n : ℕ) → entries_of xs ++ Drawn n ∷ [] ≡ entries_of (xs ++ n ∷ [])
entries_of-push [] n = refl
entries_of-push (x ∷ xs) n = ap (λ (es : List Entry). Drawn x ∷ es) (entries_of-push xs n)

-- the entry of a number of a list stands among those of the list
pub entry_stands : (xs : List ℕ) (n : ℕ) → Contains xs n → Contains (entries_of xs) (Drawn n)
entry_stands [] n (k, k<n, there) = absurd (omega arith)
entry_stands (x ∷ xs) n (zero, k<n, there) = (zero, omega arith, ap Drawn there)
entry_stands (x ∷ xs) n (suc k, k<n, there) = one_further (entry_stands xs n (k, omega arith, there))
  where
    one_further : Contains (entries_of xs) (Drawn n) → Contains (Drawn x ∷ entries_of xs) (Drawn n)
    one_further (m, m<n, at') = (suc m, omega arith, at')

-- a number that is above all entries is above all numbers
pub numbers_below : (xs : List ℕ) (n : ℕ) → IsInOrder (entries_of xs ++ Drawn n ∷ []) → All (λ m. m < n) xs
numbers_below [] n order = λ k d k<n. absurd (omega arith)
numbers_below (x ∷ xs) n order =
    All-cons (λ (m : ℕ). m < n) x xs
    (before_last (AllPairs-head IsBefore (Drawn x) (entries_of xs ++ Drawn n ∷ []) order) (Contains-push (entries_of xs) (Drawn n)))
    (numbers_below xs n (AllPairs-tail IsBefore (Drawn x) (entries_of xs ++ Drawn n ∷ []) order))
  where
    before_last : All (IsBefore (Drawn x)) (entries_of xs ++ Drawn n ∷ []) → Contains (entries_of xs ++ Drawn n ∷ []) (Drawn n) → x < n
    before_last all (k, within, at') =
        let before : IsBefore (Drawn x) (Drawn n) = subst (IsBefore (Drawn x)) at' (all k (Drawn n) within) in
        before

-- numbers whose entries are in order rise
pub numbers_rise : (xs : List ℕ) → IsInOrder (entries_of xs) → IsRising xs
numbers_rise [] order = λ i j d i<j j<n. absurd (omega arith)
numbers_rise (x ∷ xs) order =
    AllPairs-cons ◌<◌ x xs
    (below xs (AllPairs-head IsBefore (Drawn x) (entries_of xs) order))
    (numbers_rise xs (AllPairs-tail IsBefore (Drawn x) (entries_of xs) order))
  where
    below : (ys : List ℕ) → All (IsBefore (Drawn x)) (entries_of ys) → All (λ m. x < m) ys
    below [] all k d k<n = absurd (omega arith)
    below (y ∷ ys) all zero d k<n = let first : IsBefore (Drawn x) (Drawn y) = all zero (Drawn y) (omega arith) in first
    below (y ∷ ys) all (suc k) d k<n = below ys (λ i e i<n. all (suc i) e (omega arith)) k d (omega arith)

-- an answer that a centre may give later is one that it may give before, if its greatest number and its kept word are the same
pub answers_before : (top later : ℕ) (kept kept_later : Option ℕ) (answer : Result ℕ CentreRefusal) → later ≡ top → kept_later ≡ kept
    → AnswersNext later kept_later answer → AnswersNext top kept answer
answers_before top later kept kept_later answer same_top same_kept answers =
    subst (λ (t : ℕ). AnswersNext t kept answer) same_top (subst (λ (k : Option ℕ). AnswersNext later k answer) same_kept answers)

-- ---- stretches of a centre's calls

-- what a centre promises of them: no call makes no entry, two stretches are one, and the entries of each are in order
abbrev pub Stays : {S : Type 0} → Goes S → Type 0
Stays {S = S} goes = (a : S) (i : ℕ) → goes a i [] [] a

abbrev pub Joins : {S : Type 0} → Goes S → Type 0
Joins {S = S} goes = (a b c : S) (i : ℕ) (es fs : List Entry) (ws vs : List (ℕ × Stop)) → goes a i es ws b → goes b i fs vs c → goes a i (es ++ fs) (ws ++ vs) c

abbrev pub Rises : {S : Type 0} → Goes S → Type 0
Rises {S = S} goes = (a b : S) (i : ℕ) (es : List Entry) (ws : List (ℕ × Stop)) → goes a i es ws b → IsInOrder es

-- a number that is drawn after others is above them
pub drawn_above : {S : Type 0} (goes : Goes S) (sub n : ℕ) (numbers : List ℕ) (before between after : S) → Joins goes → Rises goes
    → goes before sub (entries_of numbers) [] between → goes between sub (Drawn n ∷ []) [] after → All (λ m. m < n) numbers
drawn_above goes sub n numbers before between after joins rises first next =
    numbers_below numbers n (rises before after sub (entries_of numbers ++ Drawn n ∷ []) [] (joins before between after sub (entries_of numbers) (Drawn n ∷ []) [] [] first next))

-- and they are one stretch
pub drawn_more : {S : Type 0} (goes : Goes S) (sub n : ℕ) (numbers more : List ℕ) (before between after : S) → Joins goes
    → more ≡ numbers ++ n ∷ [] → goes before sub (entries_of numbers) [] between → goes between sub (Drawn n ∷ []) [] after → goes before sub (entries_of more) [] after
drawn_more goes sub n numbers more before between after joins pushed first next =
    subst (λ (es : List Entry). goes before sub es [] after) (entries_of-push numbers n ∙ sym (ap entries_of pushed))
    (joins before between after sub (entries_of numbers) (Drawn n ∷ []) [] [] first next)
