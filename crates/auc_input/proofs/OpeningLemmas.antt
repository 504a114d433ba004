-- For the words at which limits open subscribers.
use Rattle.std.proofs.Common.{◌≡◌, ℕ, zero, suc, ◌+◌, ◌<◌, ◌≤◌, ◌⊎◌, max, min, List, [], ◌∷◌, ◌++◌, length, map, take, Option, Some, Result, Ok, Err, IfOk, false, inl, inr, refl, sym, ◌∙◌, ap, subst, arith}
use Rattle.std.specs.Prelude.{slice_get, slice_index}
use Rattle.std.proofs.Math.ListN.{length-map}
use Rattle.std.proofs.lemmas.List.{map-append, take_more}
use Rattle.std.proofs.lemmas.Option.{get_or_from_slice_get}
use Rattle.auc_memory.specs.Identity.{Identity}
use Rattle.auc_journal.specs.Image.{reserved_in}
use Rattle.auc_journal.specs.Journal.{JournalState, imsi_at, limits_of, reserved_at}
use Rattle.auc_journal.specs.Durable.{IsDurable}
use Rattle.auc_journal.specs.Opening.{LeavesOpening, Opens, IsOpening}
use Rattle.auc_journal.proofs.Facts.{limits_at}
use Rattle.auc_sqn.specs.Number.{max_seq, top_of}
use Rattle.auc_subs.specs.Subscriber.{tops_of}
use Rattle.auc_subs.specs.declared.row.Row.{Row}
use Rattle.auc_world.specs.Limits.{greater, opened}
use Rattle.auc_record.specs.Openings.{lesser}
use Rattle.auc_input.specs.Opening.{Begins}

-- the word at which a limit of its identity opens a row's subscriber
abbrev pub word_of : (Identity → ℕ) → Row → ℕ
word_of limit row = min (top_of row.bits) (max row.seq (limit row.imsi))

-- the words of all rows
words_of_rows : (rows : List Row) (limit : Identity → ℕ)
    → map (word_of limit) rows ≡ lesser (tops_of rows) (greater (map (λ row. row.seq) rows) (map limit (map (λ row. row.imsi) rows)))
words_of_rows [] limit = refl
words_of_rows (row ∷ rows) limit = ap (λ (rest : List ℕ). word_of limit row ∷ rest) (words_of_rows rows limit)

-- the identity of a row
pub imsi_here : (rows : List Row) (sub : ℕ) (row : Row) → slice_get rows sub ≡ Some row → sub < length rows → imsi_at (map (λ row. row.imsi) rows) sub ≡ row.imsi
imsi_here [] sub row here inside = absurd (omega arith)
imsi_here (first ∷ rows) zero row here inside = let same : first ≡ row = cc in ap (λ (r : Row). r.imsi) same
imsi_here (first ∷ rows) (suc sub) row here inside = imsi_here rows sub row here (omega arith)

-- the words and limits of the first subscribers
pub record Opened {D : Type 0} (rows : List Row) (journal : JournalState D) (sub : ℕ) (words : List ℕ) : Type 0 where
  pub words_are : words ≡ map (word_of (λ imsi. reserved_in journal.limits imsi)) (take sub rows)
  pub limits : (i : ℕ) → i < sub → slice_index (limits_of journal) i ≤ max_seq

-- one more
pub opened_more : {D : Type 0} (rows : List Row) (journal : JournalState D) (sub limit word : ℕ) (row : Row) (words next : List ℕ) → journal.imsis ≡ map (λ row. row.imsi) rows
    → slice_get rows sub ≡ Some row → sub < length rows → limit ≡ reserved_at journal sub → limit ≤ max_seq → word ≡ min (max row.seq limit) (top_of row.bits) → next ≡ words ++ word ∷ []
    → Opened rows journal sub words → Opened rows journal (sub + 1) next
opened_more {D} rows journal sub limit word row words next is here inside value number least pushed so_far =
    let found = get_or_from_slice_get rows sub row row here in
    let imsi : imsi_at journal.imsis sub ≡ row.imsi = ap (λ (imsis : List Identity). imsi_at imsis sub) is ∙ imsi_here rows sub row here inside in
    let of_row : word ≡ word_of (λ imsi. reserved_in journal.limits imsi) row =
    least ∙ min-comm (max row.seq limit) (top_of row.bits)
    ∙ ap (λ (n : ℕ). min (top_of row.bits) (max row.seq n)) (value ∙ ap (λ (i : Identity). reserved_in journal.limits i) imsi) in
    let many = ap length is ∙ length-map rows (λ (r : Row). r.imsi) in
    let at = limits_at journal sub (omega (arith, many, inside)) in
    record {
      words_are = pushed ∙ ap (λ (w : ℕ). words ++ w ∷ []) of_row
          ∙ ap (λ (ws : List ℕ). ws ++ word_of (λ imsi. reserved_in journal.limits imsi) row ∷ []) so_far.words_are
          ∙ sym (ap (map (word_of (λ imsi. reserved_in journal.limits imsi))) (take_more rows sub row inside ∙ ap (λ (r : Row). take sub rows ++ r ∷ []) found)
          ∙ map-append (word_of (λ imsi. reserved_in journal.limits imsi)) (take sub rows) (row ∷ []));
      limits = λ i below. cases i (one_of i sub) below (omega (arith, at, value, number));
    }
  where
    min-comm : (a b : ℕ) → min a b ≡ min b a
    min-comm a b = omega arith

    one_of : (i n : ℕ) → (i < n) ⊎ (n ≤ i)
    one_of zero zero = inr (omega arith)
    one_of zero (suc n) = inl (omega arith)
    one_of (suc i) zero = inr (omega arith)
    one_of (suc i) (suc n) = elim (one_of i n) [
      | inl less ↦ inl (omega (arith, less))
      | inr more ↦ inr (omega (arith, more))
    ]

    cases : (i : ℕ) → (i < sub) ⊎ (sub ≤ i) → i < sub + 1 → slice_index (limits_of journal) sub ≤ max_seq → slice_index (limits_of journal) i ≤ max_seq
    cases i (inl less) below last = so_far.limits i less
    cases i (inr more) below last = let same : sub ≡ i = omega (arith, more, below) in subst (λ (k : ℕ). slice_index (limits_of journal) k ≤ max_seq) same last

-- all of them
pub opened_all : {D : Type 0} (rows : List Row) (journal : JournalState D) (words : List ℕ) → journal.imsis ≡ map (λ row. row.imsi) rows
    → words ≡ map (word_of (λ imsi. reserved_in journal.limits imsi)) rows → words ≡ opened rows (limits_of journal)
opened_all rows journal words is all =
    all ∙ words_of_rows rows (λ imsi. reserved_in journal.limits imsi)
    ∙ ap (λ (imsis : List Identity). lesser (tops_of rows) (greater (map (λ row. row.seq) rows) (map (λ imsi. reserved_in journal.limits imsi) imsis))) (sym is)

-- ---- the journal as it was opened

-- the identities of the first rows and of one more
pub identities_more : (rows : List Row) (sub : ℕ) (row : Row) (imsis next : List Identity) → slice_get rows sub ≡ Some row → sub < length rows → imsis ≡ map (λ row. row.imsi) (take sub rows)
    → next ≡ imsis ++ row.imsi ∷ [] → next ≡ map (λ row. row.imsi) (take (sub + 1) rows)
identities_more rows sub row imsis next here inside is pushed =
    pushed ∙ ap (λ (xs : List Identity). xs ++ row.imsi ∷ []) is
    ∙ sym (ap (map (λ (r : Row). r.imsi)) (take_more rows sub row inside ∙ ap (λ (r : Row). take sub rows ++ r ∷ []) (get_or_from_slice_get rows sub row row here))
    ∙ map-append (λ (r : Row). r.imsi) (take sub rows) (row ∷ []))

-- numbers that are the same for each identity
same_numbers : (f g : Identity → ℕ) → ((imsi : Identity) → f imsi ≡ g imsi) → (imsis : List Identity) → map f imsis ≡ map g imsis
same_numbers f g same [] = refl
same_numbers f g same (imsi ∷ imsis) =
    ap (λ (n : ℕ). n ∷ map f imsis) (same imsi) ∙ ap (λ (rest : List ℕ). g imsi ∷ rest) (same_numbers f g same imsis)

-- what a run begins with
pub opened_begins : {D E : Type 0} (seen : D → Option (List ℕ)) (may_leave : D → List ℕ → Type 0) (moment : D → ℕ) (left_since : D → ℕ → List ℕ → Type 0) (faults : D → ℕ) (rows : List Row) (from : D) (imsis : List Identity) (opening : Result (JournalState D) E)
    → imsis ≡ map (λ row. row.imsi) rows → IfOk opening (λ j. Opens seen may_leave from j.disk j.limits j.place) → IfOk opening (λ j. j.all ≡ imsis) → IfOk opening (λ j. j.imsis ≡ imsis) → IfOk opening (λ j. j.failed ≡ false)
    → IfOk opening (λ j. faults j.disk ≡ faults from) → IfOk opening (λ j. IsDurable seen may_leave from (λ imsi. reserved_in j.limits imsi) j)
    → IfOk opening (λ j. LeavesOpening seen may_leave moment left_since from j.disk) → IfOk opening (Begins seen may_leave moment left_since faults rows from)
opened_begins seen may_leave moment left_since faults rows from imsis (Err e) is opens all same ready quiet durable always = tt
opened_begins seen may_leave moment left_since faults rows from imsis (Ok j) is opens all same ready quiet durable always = record {
  found = opens.frames;
  is_found = λ file told. (j.place, opens.read file told);
  subscribers = same ∙ is;
  all = all ∙ sym same;
  limits = ap (map (λ imsi. reserved_in j.limits imsi)) (same ∙ is)
      ∙ same_numbers (λ imsi. reserved_in j.limits imsi) (λ imsi. reserved_in opens.frames imsi) (λ imsi. opens.are.same imsi) (map (λ row. row.imsi) rows);
  ready = ready;
  durable = durable;
  quiet = quiet;
  always = always;
}

-- an opening that made no call of the disk
pub opening_none : {D : Type 0} (seen : D → Option (List ℕ)) (may_leave : D → List ℕ → Type 0) (moment : D → ℕ) (left_since : D → ℕ → List ℕ → Type 0)
    → ((disk : D) (image : List ℕ) → left_since disk (moment disk) image → may_leave disk image) → (disk : D) → LeavesOpening seen may_leave moment left_since disk disk
opening_none seen may_leave moment left_since only_now disk file told only = record {
  later = omega arith;
  each = λ image left. subst (IsOpening file) (sym (only image (only_now disk image left))) (opening_here file);
  before = λ t image early left. inl left;
}
  where
    opening_here : (file : List ℕ) → IsOpening file file
    opening_here [] = (omega arith, inl refl)
    opening_here (byte ∷ bytes) = inl refl
