-- Files of subscribers, as `csv` reads them: records of fields between commas; a field may stand between
-- double quotes, doubled inside; CR, LF or both end a record, and so does the file's end; an empty line is
-- no record; a byte order mark at the start is dropped. Record 0 is the header, and each further record is
-- one subscriber, with as many fields as the header.
use Rattle.std.specs.Prelude.{ℕ, ◌+◌, ◌==◌, ◌&&◌, ◌||◌, Bool, List, [], ◌∷◌, length, codes, fold, Result, Ok, Err, if◌then◌else◌}
use Rattle.csv.specs.Reading.{default_config, records, strip_bom}
use Rattle.auc_subs.specs.declared.row.Row.{Row}
use Rattle.auc_subs.specs.declared.refusal.SubsRefusal.{SubsRefusal}
use Rattle.auc_subs.specs.declared.refusal.SubsRefusal.TheVariants as refusal
use Rattle.auc_subs.specs.declared.refusal.SubsWhy.{SubsWhy}
use Rattle.auc_subs.specs.declared.refusal.SubsWhy.TheVariants as why
use Rattle.auc_subs.specs.Subscriber.{field, rows_with_fields}
use Rattle.auc_text.specs.Text.{is_text}

-- the records of a file, each a list of its fields
abbrev pub records_of : List ℕ → List (List (List ℕ))
records_of bytes = records default_config (strip_bom bytes)

-- whether a record begins with the names of the first seven fields
abbrev pub is_named : List (List ℕ) → Bool
is_named fields =
    is_text (field fields 0) (codes "imsi") && is_text (field fields 1) (codes "k")
    && is_text (field fields 2) (codes "kind") && is_text (field fields 3) (codes "op") && is_text (field fields 4) (codes "amf")
    && is_text (field fields 5) (codes "seq") && is_text (field fields 6) (codes "usim")

-- whether a record ends with the names of the last two of nine fields
abbrev pub ends_named : List (List ℕ) → Bool
ends_named fields = (length fields == 9) && is_text (field fields 7) (codes "bits") && is_text (field fields 8) (codes "age")

-- whether a record is the header, of seven fields or nine
abbrev pub is_header : List (List ℕ) → Bool
is_header fields = is_named fields && ((length fields == 7) || ends_named fields)

-- a fault, told with the number of its record
abbrev pub told_at : ℕ → Result (List Row) SubsWhy → Result (List Row) SubsRefusal
told_at number (Ok rows) = Ok rows
told_at number (Err fault) = Err (refusal.Row number fault)

-- the rows with the subscriber that the next record is, which has so many fields: after so many rows, it
-- is the record of the next number. The first refusal stays
abbrev pub with_record : ℕ → Result (List Row) SubsRefusal → List (List ℕ) → Result (List Row) SubsRefusal
with_record count (Ok rows) fields = told_at (length rows + 1) (rows_with_fields (count ∷ []) rows fields)
with_record count (Err refused) fields = Err refused

-- the rows that records are, the header first, or the first wrong record with its first fault
abbrev pub rows_of : List (List (List ℕ)) → Result (List Row) SubsRefusal
rows_of [] = Err (refusal.Row 0 why.Header)
rows_of (first ∷ rest) =
    if is_header first then fold (with_record (length first)) (Ok []) rest else Err (refusal.Row 0 why.Header)

-- the subscribers that a file tells, or its first wrong record with its first fault
abbrev pub subscribers_in : List ℕ → Result (List Row) SubsRefusal
subscribers_in bytes = rows_of (records_of bytes)
