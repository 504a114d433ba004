-- What a line and a file say, for the laws.
use Rattle.std.proofs.Common.{ℕ, ◌≡◌, ◌≢◌, ◌<◌, ◌+◌, inl, inr, Bool, true, false, List, ◌++◌, ◌∷◌, [], length, get_or, Result, Ok, Err, arith, refl, append-nil, append_assoc, length-append}
use Rattle.std.specs.Prelude.{Contains, fold, nat_le, if◌then◌else◌}
use Rattle.std.proofs.lemmas.Bool.Decides.{nat_tests}
use Rattle.std.proofs.lemmas.List.Elements.{All-cons, All-contains, All-nil, All-push}
use Rattle.std.proofs.lemmas.List.Quantifiers.{all_pairs_push}
use Rattle.std.proofs.lemmas.Option.{slice_get-get_or}
use Rattle.auc_subs.specs.declared.row.Row.{Row}
use Rattle.auc_subs.specs.declared.refusal.SubsRefusal.{SubsRefusal}
use Rattle.auc_subs.specs.declared.refusal.SubsRefusal.TheVariants as refusal
use Rattle.auc_subs.specs.declared.refusal.SubsWhy.{SubsWhy}
use Rattle.auc_subs.specs.declared.refusal.SubsWhy.TheVariants as why
use Rattle.auc_subs.specs.Fault.{IsAdded, IsSubscriber}
use Rattle.auc_subs.specs.Field.{fields_of}
use Rattle.auc_subs.specs.File.{is_header, records_of, rows_of, told_at, with_record}
use Rattle.auc_subs.specs.Law.{AreOf, AreRight, EachFileThatIsReadIsRight, EachLineThatIsAddedIsASubscriber, EachRefusedLineHasTheFirstFault, EachRefusedRecordIsTheFirstWrong, HasHeader, IsFirstWrong, IsRefusedAt}
use Rattle.auc_subs.specs.Subscriber.{line_counts, most_subscribers, rows_with_fields}
use Rattle.auc_subs.proofs.FaultLemmas.{Tells, tells}
use Rattle.auc_subs.proofs.FileLemmas.{refused_stays}

-- what an answer says, by what it is
told_as : (counts : List ℕ) (rows : List Row) (fields : List (List ℕ)) (r s : Result (List Row) SubsWhy) → r ≡ s → Tells counts rows fields r → Tells counts rows fields s
told_as counts rows fields r s same says = rw same at says

pub refused_line_has_the_first_fault : EachRefusedLineHasTheFirstFault
refused_line_has_the_first_fault rows line fault is = told_as line_counts rows (fields_of line) (rows_with_fields line_counts rows (fields_of line)) (Err fault) is (tells line_counts rows (fields_of line))

pub line_that_is_added_is_a_subscriber : EachLineThatIsAddedIsASubscriber
line_that_is_added_is_a_subscriber rows line new is = told_as line_counts rows (fields_of line) (rows_with_fields line_counts rows (fields_of line)) (Ok new) is (tells line_counts rows (fields_of line))

-- one more record, and its row
each_more : (records : List (List (List ℕ))) (rows : List Row) (fields : List (List ℕ)) (row : Row) → AreOf records rows → IsSubscriber fields row
    → AreOf (records ++ fields ∷ []) (rows ++ row ∷ [])
each_more [] [] fields row before is = (is, tt)
each_more [] (first ∷ rows) fields row before is = absurd before
each_more (record' ∷ records) [] fields row before is = absurd before
each_more (record' ∷ records) (first ∷ rows) fields row before is = (before.0, each_more records rows fields row before.1 is)

-- there are as many records as rows
same_length : (records : List (List (List ℕ))) (rows : List Row) → AreOf records rows → length records ≡ length rows
same_length [] [] before = refl
same_length [] (first ∷ rows) before = absurd before
same_length (record' ∷ records) [] before = absurd before
same_length (record' ∷ records) (first ∷ rows) before = omega (arith, same_length records rows before.1)

-- there is room for one more row
room : (counts : List ℕ) (old new : List Row) (fields : List (List ℕ)) → IsAdded counts old fields new → length old < most_subscribers
room counts old new fields added = by_test (nat_le most_subscribers (length old)) refl
  where
    by_test : (b : Bool) → nat_le most_subscribers (length old) ≡ b → length old < most_subscribers
    by_test true full = absurd (added.right why.TooMany (grind (arith, nat_tests)))
    by_test false fits = grind (arith, nat_tests)

-- a count that is among one is it
one_count : (count n : ℕ) → Contains (count ∷ []) n → n ≡ count
one_count count n contains = All-contains (λ c. c ≡ count) (count ∷ []) n (All-cons (λ c. c ≡ count) count [] refl (All-nil (λ c. c ≡ count))) contains

-- the records of so many fields
module _ (count : ℕ) where
  -- right records with one more
  more_right : (records : List (List (List ℕ))) (old new : List Row) (fields : List (List ℕ)) → AreRight count records old → IsAdded (count ∷ []) old fields new
      → AreRight count (records ++ fields ∷ []) new
  more_right records old new fields before added =
      let fits = room (count ∷ []) old new fields added in
      let right : AreRight count (records ++ fields ∷ []) (old ++ added.row ∷ []) = record {
        counted = All-push (λ fields. length fields ≡ count) records fields before.counted (one_count count (length fields) added.count);
        each = each_more records old fields added.row before.each added.subscriber;
        differ = all_pairs_push (λ a b. a.imsi ≢ b.imsi) old added.row before.differ
            (λ k d within same. added.right why.Twice (added.row.imsi, k, added.subscriber.identity, (get_or old k d, slice_get-get_or old k d within, same)));
        limit = omega (arith, length-append old (added.row ∷ []), fits);
      } in
      rw added.put right

  -- no records are right
  nothing_right : AreRight count [] []
  nothing_right = record { counted = All-nil (λ fields. length fields ≡ count); each = tt; differ = λ i j d less within. absurd (omega arith); limit = omega arith }

  -- what the end of a reading says of the records after the header
  abbrev Ends : List (List (List ℕ)) → Result (List Row) SubsRefusal → Type 0
  Ends records (Ok rows) = AreRight count records rows
  Ends records (Err (refusal.Row number fault)) = IsFirstWrong count records number fault
  Ends records (Err refusal.NoMemory) = ⊥

  -- records that are right, and those that are left to read
  walk : (done left : List (List (List ℕ))) (rows : List Row) → AreRight count done rows → Ends (done ++ left) (fold (with_record count) (Ok rows) left)
  walk done [] rows right = rw (append-nil done) right
  walk done (fields ∷ more) rows right =
      by_answer (rows_with_fields (count ∷ []) rows fields) (tells (count ∷ []) rows fields) (λ new also. walk (done ++ fields ∷ []) more new also)
    where
      by_answer : (r : Result (List Row) SubsWhy) → Tells (count ∷ []) rows fields r
          → ((new : List Row) → AreRight count (done ++ fields ∷ []) new → Ends ((done ++ fields ∷ []) ++ more) (fold (with_record count) (Ok new) more))
          → Ends (done ++ fields ∷ more) (fold (with_record count) (told_at (length rows + 1) r) more)
      by_answer (Ok new) says on = rw (append_assoc done (fields ∷ []) more) at (on new (more_right done rows new fields right says))
      by_answer (Err fault) says on =
          rw (refused_stays count (refusal.Row (length rows + 1) fault) more)
          (record { front = done; fields = fields; behind = more; rows = rows; split = refl; place = omega (arith, same_length done rows right.each); right = right; wrong = says })

-- what the end of a reading says of a file
abbrev FileEnds : List (List (List ℕ)) → Result (List Row) SubsRefusal → Type 0
FileEnds records (Ok rows) = (count : ℕ) × (rest : List (List (List ℕ))) × HasHeader records count rest × AreRight count rest rows
FileEnds records (Err (refusal.Row number fault)) = IsRefusedAt records number fault
FileEnds records (Err refusal.NoMemory) = ⊥

-- the header, and what the records after it say
after_header : (header : List (List ℕ)) (rest : List (List (List ℕ))) → is_header header ≡ true → (r : Result (List Row) SubsRefusal) → Ends (length header) rest r
    → FileEnds (header ∷ rest) r
after_header header rest is (Ok rows) ends = (length header, rest, (header, refl, is, refl), ends)
after_header header rest is (Err (refusal.Row number fault)) ends = inr (length header, rest, (header, refl, is, refl), ends)
after_header header rest is (Err refusal.NoMemory) ends = absurd ends

file_ends : (records : List (List (List ℕ))) → FileEnds records (rows_of records)
file_ends [] = inl (tt, refl, refl)
file_ends (first ∷ rest) = by_header (is_header first) refl
  where
    by_header : (b : Bool) → is_header first ≡ b
        → FileEnds (first ∷ rest) (if b then fold (with_record (length first)) (Ok []) rest else Err (refusal.Row 0 why.Header))
    by_header true is = after_header first rest is (fold (with_record (length first)) (Ok []) rest) (walk (length first) [] rest [] (nothing_right (length first)))
    by_header false is = inl (is, refl, refl)

-- what an end says, by what it is
ends_as : (records : List (List (List ℕ))) (r s : Result (List Row) SubsRefusal) → r ≡ s → FileEnds records r → FileEnds records s
ends_as records r s same says = rw same at says

pub refused_record_is_the_first_wrong : EachRefusedRecordIsTheFirstWrong
refused_record_is_the_first_wrong bytes number fault is =
    ends_as (records_of bytes) (rows_of (records_of bytes)) (Err (refusal.Row number fault)) is (file_ends (records_of bytes))

pub file_that_is_read_is_right : EachFileThatIsReadIsRight
file_that_is_read_is_right bytes rows is = ends_as (records_of bytes) (rows_of (records_of bytes)) (Ok rows) is (file_ends (records_of bytes))
