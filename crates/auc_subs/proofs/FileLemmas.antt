-- How reading on in a file follows its list of records, for the functions of `file`.
use Rattle.std.proofs.Common.{ℕ, zero, suc, ◌≡◌, ◌<◌, ◌≤◌, ◌==◌, ◌&&◌, Bool, true, false, List, [], ◌∷◌, ◌++◌, length, get_or, Option, Some, None, Result, Ok, Err, Bor, refl, sym, ap, ◌∙◌, inl, arith}
use Rattle.std.proofs.lemmas.Bool.{false≢true}
use Rattle.std.proofs.lemmas.Bool.Decides.{nat_tests}
use Rattle.std.specs.Prelude.{Contains, MatchBool, if◌then◌else◌, fold}
use Rattle.csv.specs.Machine.{Read, after_end, ends_at_end, ends_with, field_after, fields_after, in_field, is_byte, is_end, next_record, start_field, start_record, step}
use Rattle.csv.specs.Reading.{NextIs, ReadRecord, ReadsNext, default_config, pending_of, records_from, source_of}
use Rattle.csv.specs.Records.{field_at}
use Rattle.csv.specs.declared.parser.Config.{Config}
use Rattle.csv.specs.declared.parser.Terminator.{Terminator}
use Rattle.csv.specs.declared.parser.Terminator.TheVariants as term
use Rattle.csv.specs.declared.parser.State.{State}
use Rattle.csv.specs.declared.parser.State.TheVariants as st
use Rattle.csv.specs.declared.parser.Action.{Action}
use Rattle.csv.specs.declared.parser.Action.TheVariants as act
use Rattle.csv.specs.declared.reader.Reader.{Reader}
use Rattle.auc_subs.specs.declared.row.Row.{Row}
use Rattle.auc_subs.specs.declared.refusal.SubsRefusal.{SubsRefusal}
use Rattle.auc_subs.specs.declared.refusal.SubsRefusal.TheVariants as refusal
use Rattle.auc_subs.specs.declared.refusal.SubsWhy.TheVariants as why
use Rattle.auc_subs.specs.File.{is_header, rows_of, with_record}
use Rattle.auc_subs.specs.InnerFile.{IsBefore, WentOn}
use Rattle.auc_subs.specs.Subscriber.{line_counts}

-- where a record has no field, the one there is empty
pub field_missing : (fields : List (List ℕ)) (place : ℕ) → field_at fields place ≡ None → get_or fields place [] ≡ []
unfolding field_at
field_missing [] place none = refl
field_missing (first ∷ rest) zero none = cc none
field_missing (first ∷ rest) (suc place) none = field_missing rest place none

-- ---- one record of a text

-- a step that ends a record leaves the machine between two records
abbrev Separates : State × Action → Type 0
Separates after = is_end after.1 ≡ true → ends_at_end after.0 ≡ false

either : (test : Bool) (a b : State × Action) → Separates a → Separates b → Separates (if test then a else b)
either true a b is_a is_b = is_a
either false a b is_a is_b = is_b

no_end : (s : State) (action : Action) → is_end action ≡ false → Separates (s, action)
no_end s action more ends = cc

-- the byte that ends a record
between_after_end : (terminator : Terminator) (c : ℕ) → ends_at_end (after_end terminator c) ≡ false
between_after_end term.CRLF c = elim (c == 13) as (λ b. ends_at_end (if b then st.AfterCr else st.StartRecord) ≡ false) [ true ↦ refl | false ↦ refl ]
between_after_end (term.Any t) c = refl

in_field_separates : (cfg : Config) (c : ℕ) → Separates (in_field cfg c)
in_field_separates cfg c =
    either (c == cfg.delimiter) (st.StartField, act.EndField) (if ends_with cfg.terminator c then (after_end cfg.terminator c, act.EndRecord) else (st.InField, act.Copy))
    (no_end st.StartField act.EndField refl)
    (either (ends_with cfg.terminator c) (after_end cfg.terminator c, act.EndRecord) (st.InField, act.Copy)
    (λ ends. between_after_end cfg.terminator c) (no_end st.InField act.Copy refl))

start_field_separates : (cfg : Config) (c : ℕ) → Separates (start_field cfg c)
start_field_separates cfg c =
    either (cfg.quoting && (c == cfg.quote)) (st.InQuoted, act.Skip) (in_field cfg c) (no_end st.InQuoted act.Skip refl) (in_field_separates cfg c)

start_record_separates : (cfg : Config) (c : ℕ) → Separates (start_record cfg c)
start_record_separates cfg c =
    either (ends_with cfg.terminator c) (st.StartRecord, act.Skip) (if is_byte cfg.comment c then (st.InComment, act.Skip) else start_field cfg c)
    (no_end st.StartRecord act.Skip refl)
    (either (is_byte cfg.comment c) (st.InComment, act.Skip) (start_field cfg c) (no_end st.InComment act.Skip refl) (start_field_separates cfg c))

step_separates : (cfg : Config) (s : State) (c : ℕ) → Separates (step cfg s c)
step_separates cfg st.StartRecord c = start_record_separates cfg c
step_separates cfg st.StartField c = start_field_separates cfg c
step_separates cfg st.InField c = in_field_separates cfg c
step_separates cfg st.InQuoted c =
    either (cfg.quoting && (c == cfg.quote)) (st.AfterQuote, act.Skip) (if cfg.quoting && is_byte cfg.escape c then (st.InEscape, act.Skip) else (st.InQuoted, act.Copy))
    (no_end st.AfterQuote act.Skip refl)
    (either (cfg.quoting && is_byte cfg.escape c) (st.InEscape, act.Skip) (st.InQuoted, act.Copy) (no_end st.InEscape act.Skip refl) (no_end st.InQuoted act.Copy refl))
step_separates cfg st.InEscape c = no_end st.InQuoted act.Copy refl
step_separates cfg st.AfterQuote c =
    either (cfg.quoting && cfg.double_quote && (c == cfg.quote)) (st.InQuoted, act.Copy) (in_field cfg c) (no_end st.InQuoted act.Copy refl) (in_field_separates cfg c)
step_separates cfg st.InComment c =
    either (c == 10) (st.StartRecord, act.Skip) (st.InComment, act.Skip) (no_end st.StartRecord act.Skip refl) (no_end st.InComment act.Skip refl)
step_separates cfg st.AfterCr c =
    either (c == 10) (st.StartRecord, act.Skip) (start_record cfg c) (no_end st.StartRecord act.Skip refl) (start_record_separates cfg c)

-- a record that was read leaves the machine between two records, and of a text that it began between two
-- records it leaves less
record Consumed (s : State) (bytes : List ℕ) (after : Read) : Type 0 where
  pub between : ends_at_end after.1 ≡ false
  pub no_more : length after.2 ≤ length bytes
  pub less : ends_at_end s ≡ false → length after.2 < length bytes

-- two that are read as one record are one
same_read : (a b : Read) → Some a ≡ Some b → a ≡ b
same_read a b same = cc

-- nothing is no record
no_read : (after : Read) → (let none : Option Read = None in none) ≡ Some after → ⊥
no_read after is = cc

consumed_last : (s : State) (fields : List (List ℕ)) (test : Bool) (after : Read) → ends_at_end s ≡ test
    → (if test then Some (fields, st.StartRecord, []) else None) ≡ Some after → Consumed s [] after
consumed_last s fields true after ends is =
    let same = same_read (fields, st.StartRecord, []) after is in
    let rest : after.2 ≡ [] = ap (λ (p : Read). p.2) (sym same) in
    record { between = ap (λ (p : Read). ends_at_end p.1) (sym same); no_more = rw rest (omega arith); less = λ between. absurd (false≢true (sym between ∙ ends)) }
consumed_last s fields false after ends is = absurd (no_read after is)

consumed : (cfg : Config) (s : State) (fields : List (List ℕ)) (field bytes : List ℕ) (after : Read)
    → next_record cfg s fields field bytes ≡ Some after → Consumed s bytes after
unfolding next_record
consumed cfg s fields field [] after is = consumed_last s (fields ++ (field ∷ [])) (ends_at_end s) after refl is
consumed cfg s fields field (c ∷ rest) after is =
    by_end (is_end (step cfg s c).1) refl is (consumed cfg (step cfg s c).0 (fields_after (step cfg s c).1 fields field) (field_after (step cfg s c).1 c field) rest after)
  where
    by_end : (test : Bool) → is_end (step cfg s c).1 ≡ test
        → (if test then Some (fields_after (step cfg s c).1 fields field, (step cfg s c).0, rest)
        else next_record cfg (step cfg s c).0 (fields_after (step cfg s c).1 fields field) (field_after (step cfg s c).1 c field) rest) ≡ Some after
        → (next_record cfg (step cfg s c).0 (fields_after (step cfg s c).1 fields field) (field_after (step cfg s c).1 c field) rest ≡ Some after
        → Consumed (step cfg s c).0 rest after)
        → Consumed s (c ∷ rest) after
    by_end true ends is more =
        let same = same_read (fields_after (step cfg s c).1 fields field, (step cfg s c).0, rest) after is in
        let left : after.2 ≡ rest = ap (λ (p : Read). p.2) (sym same) in
        record { between = ap (λ (p : Read). ends_at_end p.1) (sym same) ∙ step_separates cfg s c ends; no_more = rw left (omega arith); less = λ _. rw left (omega arith) }
    by_end false ends is more =
        let later = more is in
        record { between = later.between; no_more = omega (arith, later.no_more); less = λ _. omega (arith, later.no_more) }

-- ---- the records that are left

-- after a record of these fields, so many are left of the rest
record Follows (state after : State) (bytes rest : List ℕ) (count : ℕ) (fields : List (List ℕ)) : Type 0 where
  pub fewer : ℕ
  pub enough : length rest < fewer
  pub between : ends_at_end after ≡ false
  pub told : records_from default_config count state bytes ≡ fields ∷ records_from default_config fewer after rest

follows : (state after : State) (bytes rest : List ℕ) (count : ℕ) (found : Bool) (fields : List (List ℕ))
    → length bytes < count → ends_at_end state ≡ false → NextIs (next_record default_config state [] [] bytes) found fields after rest
    → MatchBool found (Follows state after bytes rest count fields) (records_from default_config count state bytes ≡ [])
unfolding records_from
follows state after bytes rest zero found fields room between next = absurd (omega arith)
follows state after bytes rest (suc count) found fields room between next = by_read (next_record default_config state [] [] bytes) refl next
  where
    by_read : (read : Option Read) → next_record default_config state [] [] bytes ≡ read → NextIs read found fields after rest
        → MatchBool found (Follows state after bytes rest (suc count) fields) (records_from default_config (suc count) state bytes ≡ [])
    by_read None is next = rw (next, is) refl
    by_read (Some p) is next =
        let gone = consumed default_config state [] [] bytes p is in
        rw next.0 (record { fewer = count; enough = rw next.3 (omega (arith, gone.less between)); between = rw next.2 gone.between; told = rw (is, next.1, next.2, next.3) refl })

-- what a read of a record does to the records that are left
pub went_on : (old new : Reader (Bor (List ℕ))) (left : List (List (List ℕ))) (found : Bool) (fields : List (List ℕ))
    → IsBefore old left → ReadRecord (λ s. Some s.now) old new found fields → new.first ≡ true
    → MatchBool found (WentOn new left fields) (left ≡ [])
went_on old new left found fields before read first =
    by_rest (pending_of (Some new.rdr.now) new) (rw read.1 refl) (rw (before.config, before.source) at read.0)
  where
    by_found : (rest : List ℕ) (found : Bool) → source_of (λ s. Some s.now) new ≡ Some rest → MatchBool found (Follows old.state new.state before.bytes rest before.count fields) (records_from default_config before.count old.state before.bytes ≡ [])
        → MatchBool found (WentOn new left fields) (left ≡ [])
    by_found rest true source more = (
      records_from default_config more.fewer new.state rest,
      before.told ∙ more.told,
      record {
        untrimmed = read.3 ∙ before.untrimmed;
        ready = inl first;
        config = read.2 ∙ before.config;
        between = more.between;
        bytes = rest;
        source = source;
        count = more.fewer;
        enough = more.enough;
        told = refl;
      },
    )
    by_found rest false source none = before.told ∙ none

    by_rest : (rest : Option (List ℕ)) → source_of (λ s. Some s.now) new ≡ rest → ReadsNext default_config old.state (Some before.bytes) rest found fields new.state
        → MatchBool found (WentOn new left fields) (left ≡ [])
    by_rest None source next = absurd next
    by_rest (Some rest) source next = by_found rest found source (follows old.state new.state before.bytes rest before.count found fields before.enough before.between next)

-- ---- the header

-- behind the header come the rows
pub header_read : (reader : Reader (Bor (List ℕ))) (left : List (List (List ℕ))) (fields : List (List ℕ)) → WentOn reader left fields → is_header fields ≡ true
    → (rest : List (List (List ℕ))) × IsBefore reader rest × (rows_of left ≡ fold (with_record (length fields)) (Ok []) rest)
header_read reader left fields went holds = (went.0, went.2, rw (went.1, holds) refl)

-- and the header has as many fields as a line may have
pub header_count : (fields : List (List ℕ)) → is_header fields ≡ true → Contains line_counts (length fields)
header_count fields holds = by_seven (length fields == 7) refl
  where
    by_seven : (b : Bool) → (length fields == 7) ≡ b → Contains line_counts (length fields)
    by_seven true seven = let same : length fields ≡ 7 = grind (arith, nat_tests) in rw same (0, omega arith, refl)
    by_seven false other = let same : length fields ≡ 9 = grind (arith, nat_tests) in rw same (1, omega arith, refl)

-- another record isn't the header
pub header_wrong : (reader : Reader (Bor (List ℕ))) (left : List (List (List ℕ))) (fields : List (List ℕ)) → WentOn reader left fields → is_header fields ≡ false
    → rows_of left ≡ Err (refusal.Row 0 why.Header)
header_wrong reader left fields went fails = rw (went.1, fails) refl

-- nor is none
pub header_missing : (left : List (List (List ℕ))) → left ≡ [] → rows_of left ≡ Err (refusal.Row 0 why.Header)
header_missing left none = rw none refl

-- one refusal, told of two answers
pub same_refusal : (rows : Result (List Row) SubsRefusal) (a b : SubsRefusal) → rows ≡ Err a → (let count : Result ℕ SubsRefusal = Err a in count) ≡ Err b → rows ≡ Err b
same_refusal rows a b is same = cc

-- ---- the rows

-- a refusal stays to the end
pub refused_stays : (count : ℕ) (refused : SubsRefusal) (records : List (List (List ℕ))) → fold (with_record count) (Err refused) records ≡ Err refused
refused_stays count refused [] = refl
refused_stays count refused (first ∷ rest) = refused_stays count refused rest

-- a record that is a subscriber puts a row
pub row_put : (count : ℕ) (rows more : List Row) (left rest : List (List (List ℕ))) (fields : List (List ℕ)) → left ≡ fields ∷ rest
    → with_record count (Ok rows) fields ≡ Ok more → fold (with_record count) (Ok rows) left ≡ fold (with_record count) (Ok more) rest
row_put count rows more left rest fields told put = rw (told, put) refl

-- a wrong record is the answer
pub row_refused : (count : ℕ) (rows : List Row) (refused : SubsRefusal) (left rest : List (List (List ℕ))) (fields : List (List ℕ)) → left ≡ fields ∷ rest
    → with_record count (Ok rows) fields ≡ Err refused → fold (with_record count) (Ok rows) left ≡ Err refused
row_refused count rows refused left rest fields told is = rw (told, is) (refused_stays count refused rest)

-- where no record is left, the rows are the answer
pub all_put : (count : ℕ) (rows : List Row) (left : List (List (List ℕ))) → left ≡ [] → fold (with_record count) (Ok rows) left ≡ Ok rows
all_put count rows left none = rw none refl
