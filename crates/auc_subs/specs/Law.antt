-- What a line and a file that are refused have wrong, and what those that are read say.
use Rattle.std.specs.Prelude.{ℕ, ◌≡◌, ◌≢◌, ◌+◌, ◌++◌, ◌≤◌, ◌⊎◌, false, true, List, [], ◌∷◌, length, All, AllPairs, Ok, Err}
use Rattle.auc_subs.specs.declared.row.Row.{Row}
use Rattle.auc_subs.specs.declared.refusal.SubsRefusal.TheVariants as refusal
use Rattle.auc_subs.specs.declared.refusal.SubsWhy.{SubsWhy}
use Rattle.auc_subs.specs.declared.refusal.SubsWhy.TheVariants as why
use Rattle.auc_subs.specs.Fault.{IsAdded, IsFirstFault, IsSubscriber}
use Rattle.auc_subs.specs.Field.{fields_of}
use Rattle.auc_subs.specs.File.{is_header, records_of, subscribers_in}
use Rattle.auc_subs.specs.Subscriber.{line_counts, most_subscribers, rows_after}

-- some records are the subscribers of some rows, one for each
abbrev pub AreOf : List (List (List ℕ)) → List Row → Type 0
AreOf [] [] = Unit {0}
AreOf [] (row ∷ rows) = ⊥
AreOf (fields ∷ records) [] = ⊥
AreOf (fields ∷ records) (row ∷ rows) = IsSubscriber fields row × AreOf records rows

-- right records: each of so many fields, and the subscribers of some rows, of different identities and not
-- too many
pub record AreRight (count : ℕ) (records : List (List (List ℕ))) (rows : List Row) : Type 0 where
  pub counted : All (λ fields. length fields ≡ count) records
  pub each : AreOf records rows
  pub differ : AllPairs (λ a b. a.imsi ≢ b.imsi) rows
  pub limit : length rows ≤ most_subscribers

-- the record of a number, from 1, is the first wrong one of records of so many fields, by this fault first
pub record IsFirstWrong (count : ℕ) (records : List (List (List ℕ))) (number : ℕ) (fault : SubsWhy) : Type 0 where
  pub front : List (List (List ℕ))
  pub fields : List (List ℕ)
  pub behind : List (List (List ℕ))
  pub rows : List Row
  pub split : records ≡ front ++ fields ∷ behind
  pub place : number ≡ length front + 1
  pub right : AreRight count front rows
  pub wrong : IsFirstFault (count ∷ []) rows fields fault

-- the first record isn't the header, or there is none
abbrev pub HasNoHeader : List (List (List ℕ)) → Type 0
HasNoHeader [] = Unit {0}
HasNoHeader (first ∷ rest) = is_header first ≡ false

-- the header of so many fields, and the records after it
abbrev pub HasHeader : List (List (List ℕ)) → ℕ → List (List (List ℕ)) → Type 0
HasHeader records count rest = (header : List (List ℕ)) × (records ≡ header ∷ rest) × (is_header header ≡ true) × (length header ≡ count)

-- the record of a number, the header being 0, is the first wrong one of a file
abbrev pub IsRefusedAt : List (List (List ℕ)) → ℕ → SubsWhy → Type 0
IsRefusedAt records number fault =
    (HasNoHeader records × (number ≡ 0) × (fault ≡ why.Header))
    ⊎ ((count : ℕ) × (rest : List (List (List ℕ))) × HasHeader records count rest × IsFirstWrong count rest number fault)

abbrev pub EachRefusedRecordIsTheFirstWrong : Type 0
EachRefusedRecordIsTheFirstWrong = (bytes : List ℕ) (number : ℕ) (fault : SubsWhy) → subscribers_in bytes ≡ Err (refusal.Row number fault)
    → IsRefusedAt (records_of bytes) number fault

abbrev pub EachFileThatIsReadIsRight : Type 0
EachFileThatIsReadIsRight = (bytes : List ℕ) (rows : List Row) → subscribers_in bytes ≡ Ok rows
    → (count : ℕ) × (rest : List (List (List ℕ))) × HasHeader (records_of bytes) count rest × AreRight count rest rows

abbrev pub EachRefusedLineHasTheFirstFault : Type 0
EachRefusedLineHasTheFirstFault = (rows : List Row) (line : List ℕ) (fault : SubsWhy) → rows_after rows line ≡ Err fault
    → IsFirstFault line_counts rows (fields_of line) fault

abbrev pub EachLineThatIsAddedIsASubscriber : Type 0
EachLineThatIsAddedIsASubscriber = (rows : List Row) (line : List ℕ) (new : List Row) → rows_after rows line ≡ Ok new
    → IsAdded line_counts rows (fields_of line) new
