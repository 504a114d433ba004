-- The first fault of a record, for the laws: the tests in their order, and what each leaves to the next.
use Rattle.std.proofs.Common.{ℕ, ◌≡◌, ◌≢◌, ◌<◌, ◌≤◌, ◌+◌, ◌==◌, ◌⊎◌, inl, inr, Bool, true, false, List, ◌++◌, ◌∷◌, [], length, get_or, nat_eq, Option, Some, None, is_some, Result, Ok, Err, arith, refl, sym, subst, ◌∙◌, ap, slice_get}
use Rattle.std.specs.List.{list_any}
use Rattle.std.specs.Prelude.{All, Contains, nat_le, nat_lt, if◌then◌else◌, codes}
use Rattle.std.specs.Option.{ok_or}
use Rattle.std.proofs.lemmas.Bool.Decides.{nat_tests}
use Rattle.std.proofs.lemmas.List.Elements.{All-contains}
use Rattle.std.proofs.lemmas.List.Folds.{Any-from_list_any, list_any_at}
use Rattle.std.proofs.lemmas.List.Quantifiers.{position-Some}
use Rattle.std.proofs.lemmas.Option.{slice_get_cases}
use Rattle.auc_memory.specs.Identity.{Identity, identity_of}
use Rattle.auc_milenage.specs.Milenage.{opc_of}
use Rattle.auc_sqn.specs.Number.{top_of}
use Rattle.auc_subs.specs.declared.row.Row.{Row}
use Rattle.auc_subs.specs.declared.refusal.SubsWhy.{SubsWhy}
use Rattle.auc_subs.specs.declared.refusal.SubsWhy.TheVariants as why
use Rattle.auc_text.specs.Field.{number_in, octets_in}
use Rattle.auc_text.specs.Text.{is_text}
use Rattle.auc_subs.specs.Fault.{Fails, IsAdded, IsFirstFault, IsNoNumber, IsOpc, IsSubscriber, IsTaken, order}
use Rattle.auc_subs.specs.Steps.{◌>>=◌}
use Rattle.auc_subs.specs.Subscriber.{HasIdentity, age_in, bits_in, field, most_subscribers, opc_in, place_of, rows_with, rows_with_fields, same_identity}
use Rattle.auc_subs.proofs.RowLemmas.{found, not_found}

-- the fault of a place in the order
abbrev fault_at : ℕ → SubsWhy
fault_at place =
    if nat_eq place 0 then why.Header
    else if nat_eq place 1 then why.FieldCount
    else if nat_eq place 2 then why.Imsi
    else if nat_eq place 3 then why.Key
    else if nat_eq place 4 then why.Kind
    else if nat_eq place 5 then why.Op
    else if nat_eq place 6 then why.Amf
    else if nat_eq place 7 then why.Bits
    else if nat_eq place 8 then why.Age
    else if nat_eq place 9 then why.Seq
    else if nat_eq place 10 then why.Usim
    else if nat_eq place 11 then why.Twice
    else why.TooMany

fault_at-order : (fault : SubsWhy) → fault_at (order fault) ≡ fault
fault_at-order why.Header = refl
fault_at-order why.FieldCount = refl
fault_at-order why.Imsi = refl
fault_at-order why.Key = refl
fault_at-order why.Kind = refl
fault_at-order why.Op = refl
fault_at-order why.Amf = refl
fault_at-order why.Bits = refl
fault_at-order why.Age = refl
fault_at-order why.Seq = refl
fault_at-order why.Usim = refl
fault_at-order why.Twice = refl
fault_at-order why.TooMany = refl

-- faults of one place are one
one_fault : (a b : SubsWhy) → order a ≡ order b → a ≡ b
one_fault a b same = sym (fault_at-order a) ∙ ap fault_at same ∙ fault_at-order b

-- all tests of a record
no_fault : (fault : SubsWhy) → order fault < 13
no_fault why.Header = omega arith
no_fault why.FieldCount = omega arith
no_fault why.Imsi = omega arith
no_fault why.Key = omega arith
no_fault why.Kind = omega arith
no_fault why.Op = omega arith
no_fault why.Amf = omega arith
no_fault why.Bits = omega arith
no_fault why.Age = omega arith
no_fault why.Seq = omega arith
no_fault why.Usim = omega arith
no_fault why.Twice = omega arith
no_fault why.TooMany = omega arith

-- an identity that a row has is found
taken_is_found : (rows : List Row) (imsi : Identity) → place_of rows imsi ≡ None → (sub : ℕ) → HasIdentity rows sub imsi → ⊥
taken_is_found rows imsi none sub has = by_row (slice_get_cases rows sub).1
  where
    by_row : ((row : Row) × (sub < length rows) × (slice_get rows sub ≡ Some row) × (get_or rows sub row ≡ row))
        ⊎ ((length rows ≤ sub) × (slice_get rows sub ≡ None)) → ⊥
    by_row (inl h) =
        let same : h.0 ≡ has.0 = cc (h.2, has.1) in
        not_found rows imsi none sub h.0 h.1 (rw (h.3, same) has.2)
    by_row (inr h) = absurd (cc (h.1, has.1))

-- a count that passes the test is among those that there may be
counted : (counts : List ℕ) (n : ℕ) → list_any (λ count. n == count) counts ≡ true → Contains counts n
counted counts n holds =
    let any = Any-from_list_any (λ count. n == count) counts holds in
    let same : any.1 ≡ n = grind (arith, nat_tests) in
    subst (Contains counts) same (any.0, any.2, any.3)

-- one that doesn't pass it is none of them
not_counted : (counts : List ℕ) (n : ℕ) → list_any (λ count. n == count) counts ≡ false → All (λ count. n ≢ count) counts
not_counted counts n fails k d within same =
    let test : (n == get_or counts k d) ≡ true = grind (arith, nat_tests) in
    absurd (cc (list_any_at (λ count. n == count) counts k d within test, fails))

-- the row of fields that passed their tests
abbrev row_with : Identity → List ℕ → List ℕ → List ℕ → ℕ → Option ℕ → ℕ → ℕ → Row
row_with imsi k opc amf bits age seq usim = record { imsi = imsi; secret = record { k = k; opc = opc }; amf = amf; seq = seq; usim = usim; bits = bits; age = age }

-- a number that was read is one
is_number : (fields : List (List ℕ)) (text : List ℕ) (bits number : ℕ) → bits_in fields ≡ Some bits → number_in 15 (top_of bits) text ≡ Some number → IsNoNumber fields text → ⊥
is_number fields text bits number is_bits is none =
    let same : none.0 ≡ bits = cc (none.1, is_bits) in
    absurd (cc (is, rw same at none.2))

-- the records of so many fields, after some rows
module _ (counts : List ℕ) (rows : List Row) (fields : List (List ℕ)) where
  -- no fault of a lower place
  abbrev Clear : ℕ → Type 0
  Clear place = (earlier : SubsWhy) → order earlier < place → Fails counts rows fields earlier → ⊥

  -- a test that doesn't fail leaves the next
  passed : (fault : SubsWhy) → Clear (order fault) → (Fails counts rows fields fault → ⊥) → Clear (order fault + 1)
  passed fault clear passes earlier less fails = which (nat_lt (order earlier) (order fault)) refl
    where
      which : (b : Bool) → nat_lt (order earlier) (order fault) ≡ b → ⊥
      which true is = clear earlier (grind (arith, nat_tests)) fails
      which false is =
          let same : order earlier ≡ order fault = grind (arith, nat_tests) in
          passes (rw (one_fault earlier fault same) at fails)

  -- what an answer says of a record
  abbrev pub Tells : Result (List Row) SubsWhy → Type 0
  Tells (Ok new) = IsAdded counts rows fields new
  Tells (Err fault) = IsFirstFault counts rows fields fault

  -- what OPc's field says
  abbrev OpcTells : List ℕ → Result (List ℕ) SubsWhy → Type 0
  OpcTells k (Ok opc) = IsOpc k (field fields 2) (field fields 3) opc × Clear 6
  OpcTells k (Err fault) = IsFirstFault counts rows fields fault

  opc_tells : (k : List ℕ) → Clear 4 → OpcTells k (opc_in k (field fields 2) (field fields 3))
  opc_tells k clear = by_op (is_text (field fields 2) (codes "op")) refl
    where
      from_op : is_text (field fields 2) (codes "op") ≡ true → (o : Option (List ℕ)) → octets_in 16 (field fields 3) ≡ o
          → OpcTells k (ok_or o why.Op >>= (λ op. Ok (opc_of k op)))
      from_op kind None is = record { fails = is; first = passed why.Kind clear (λ fails. absurd (cc (kind, fails.0))) }
      from_op kind (Some op) is = (inl (kind, op, is, refl), passed why.Op (passed why.Kind clear (λ fails. absurd (cc (kind, fails.0)))) (λ fails. absurd (cc (is, fails))))

      from_opc : is_text (field fields 2) (codes "opc") ≡ true → (o : Option (List ℕ)) → octets_in 16 (field fields 3) ≡ o
          → OpcTells k (ok_or o why.Op)
      from_opc kind None is = record { fails = is; first = passed why.Kind clear (λ fails. absurd (cc (kind, fails.1))) }
      from_opc kind (Some opc) is = (inr (kind, is), passed why.Op (passed why.Kind clear (λ fails. absurd (cc (kind, fails.1)))) (λ fails. absurd (cc (is, fails))))

      by_opc : is_text (field fields 2) (codes "op") ≡ false → (b : Bool) → is_text (field fields 2) (codes "opc") ≡ b
          → OpcTells k (if b then ok_or (octets_in 16 (field fields 3)) why.Op else Err why.Kind)
      by_opc other true is = from_opc is (octets_in 16 (field fields 3)) refl
      by_opc other false is = record { fails = (other, is); first = clear }

      by_op : (b : Bool) → is_text (field fields 2) (codes "op") ≡ b
          → OpcTells k (if b then (ok_or (octets_in 16 (field fields 3)) why.Op >>= (λ op. Ok (opc_of k op)))
          else if is_text (field fields 2) (codes "opc") then ok_or (octets_in 16 (field fields 3)) why.Op else Err why.Kind)
      by_op true is = from_op is (octets_in 16 (field fields 3)) refl
      by_op false is = by_opc is (is_text (field fields 2) (codes "opc")) refl

  -- the last tests of a record, of a row that its fields are
  added : (row : Row) → Contains counts (length fields) → IsSubscriber fields row → Clear 11 → Tells (rows_with rows row)
  added row count is clear = by_place (place_of rows row.imsi) refl
    where
      by_room : Clear 12 → (b : Bool) → nat_le most_subscribers (length rows) ≡ b
          → Tells (if b then Err why.TooMany else Ok (rows ++ row ∷ []))
      by_room clear true full = record { fails = grind (arith, nat_tests); first = clear }
      by_room clear false room = record {
        row = row;
        count = count;
        subscriber = is;
        right = λ fault. passed why.TooMany clear (λ fails. grind (arith, nat_tests)) fault (no_fault fault);
        put = refl;
      }

      new : place_of rows row.imsi ≡ None → IsTaken rows (field fields 0) → ⊥
      new none taken =
          let same : taken.0 ≡ row.imsi = cc (taken.2, is.identity) in
          taken_is_found rows row.imsi none taken.1 (rw same at taken.3)

      by_place : (o : Option ℕ) → place_of rows row.imsi ≡ o
          → Tells (if is_some o then Err why.Twice else if nat_le most_subscribers (length rows) then Err why.TooMany else Ok (rows ++ row ∷ []))
      by_place None none = by_room (passed why.Twice clear (new none)) (nat_le most_subscribers (length rows)) refl
      by_place (Some sub) some = record { fails = (row.imsi, sub, is.identity, found rows row.imsi sub some (within sub some)); first = clear }
        where
          within : (sub : ℕ) → place_of rows row.imsi ≡ Some sub → sub < length rows
          within sub some = (position-Some (λ other. same_identity other.imsi row.imsi) rows sub row some).0

  -- one test of a field, and what follows if it doesn't fail
  turn : {A : Type 0} (o : Option A) (fault : SubsWhy) (next : A → Result Row SubsWhy) → Clear (order fault)
      → (o ≡ None → Fails counts rows fields fault) → ((x : A) → o ≡ Some x → Tells (next x >>= (λ row. rows_with rows row)))
      → Tells ((ok_or o fault >>= next) >>= (λ row. rows_with rows row))
  turn {A} o fault next clear fails on = by_test o refl
    where
      by_test : (o' : Option A) → o ≡ o' → Tells ((ok_or o' fault >>= next) >>= (λ row. rows_with rows row))
      by_test None is = record { fails = fails is; first = clear }
      by_test (Some x) is = on x is

  -- the tests from a field on
  abbrev from_usim : Identity → List ℕ → List ℕ → List ℕ → ℕ → Option ℕ → ℕ → Result Row SubsWhy
  from_usim imsi k opc amf bits age seq = ok_or (number_in 15 (top_of bits) (field fields 6)) why.Usim >>= (λ usim. Ok (row_with imsi k opc amf bits age seq usim))

  abbrev from_seq : Identity → List ℕ → List ℕ → List ℕ → ℕ → Option ℕ → Result Row SubsWhy
  from_seq imsi k opc amf bits age = ok_or (number_in 15 (top_of bits) (field fields 5)) why.Seq >>= (λ seq. from_usim imsi k opc amf bits age seq)

  abbrev from_age : Identity → List ℕ → List ℕ → List ℕ → ℕ → Result Row SubsWhy
  from_age imsi k opc amf bits = ok_or (age_in fields) why.Age >>= (λ age. from_seq imsi k opc amf bits age)

  abbrev from_bits : Identity → List ℕ → List ℕ → List ℕ → Result Row SubsWhy
  from_bits imsi k opc amf = ok_or (bits_in fields) why.Bits >>= (λ bits. from_age imsi k opc amf bits)

  abbrev from_amf : Identity → List ℕ → List ℕ → Result Row SubsWhy
  from_amf imsi k opc = ok_or (octets_in 2 (field fields 4)) why.Amf >>= (λ amf. from_bits imsi k opc amf)

  abbrev from_opc : Identity → List ℕ → Result Row SubsWhy
  from_opc imsi k = opc_in k (field fields 2) (field fields 3) >>= (λ opc. from_amf imsi k opc)

  abbrev from_key : Identity → Result Row SubsWhy
  from_key imsi = ok_or (octets_in 16 (field fields 1)) why.Key >>= (λ k. from_opc imsi k)

  -- the numbers, behind the index length and the age limit
  numbers : (imsi : Identity) (k opc amf : List ℕ) (bits : ℕ) (age : Option ℕ) → bits_in fields ≡ Some bits → Clear 9
      → ((seq usim : ℕ) → number_in 15 (top_of bits) (field fields 5) ≡ Some seq → number_in 15 (top_of bits) (field fields 6) ≡ Some usim
      → IsSubscriber fields (row_with imsi k opc amf bits age seq usim))
      → Contains counts (length fields) → Tells (from_seq imsi k opc amf bits age >>= (λ row. rows_with rows row))
  numbers imsi k opc amf bits age is_bits clear is count =
      turn (number_in 15 (top_of bits) (field fields 5)) why.Seq (from_usim imsi k opc amf bits age) clear (λ none. (bits, is_bits, none)) (λ seq is_seq.
      let clear_usim = passed why.Seq clear (is_number fields (field fields 5) bits seq is_bits is_seq) in
      turn (number_in 15 (top_of bits) (field fields 6)) why.Usim (λ usim. Ok (row_with imsi k opc amf bits age seq usim)) clear_usim (λ none. (bits, is_bits, none)) (λ usim is_usim.
      added (row_with imsi k opc amf bits age seq usim) count (is seq usim is_seq is_usim)
      (passed why.Usim clear_usim (is_number fields (field fields 6) bits usim is_bits is_usim))))

  -- the fields behind OPc's
  after_opc : (imsi : Identity) (k opc : List ℕ) → Contains counts (length fields) → identity_of (field fields 0) ≡ Some imsi
      → octets_in 16 (field fields 1) ≡ Some k → IsOpc k (field fields 2) (field fields 3) opc → Clear 6
      → Tells (from_amf imsi k opc >>= (λ row. rows_with rows row))
  after_opc imsi k opc count is_imsi is_k is_opc clear =
      turn (octets_in 2 (field fields 4)) why.Amf (from_bits imsi k opc) clear (λ none. none) (λ amf is_amf.
      let clear_bits = passed why.Amf clear (λ none. absurd (cc (is_amf, none))) in
      turn (bits_in fields) why.Bits (from_age imsi k opc amf) clear_bits (λ none. none) (λ bits is_bits.
      let clear_age = passed why.Bits clear_bits (λ none. absurd (cc (is_bits, none))) in
      turn (age_in fields) why.Age (from_seq imsi k opc amf bits) clear_age (λ none. none) (λ age is_age.
      numbers imsi k opc amf bits age is_bits (passed why.Age clear_age (λ none. absurd (cc (is_age, none))))
      (λ seq usim is_seq is_usim. record { identity = is_imsi; key = is_k; operator = is_opc; management = is_amf; index = is_bits; limit = is_age; drawn = is_seq; accepted = is_usim })
      count)))

  -- OPc's fields, and those behind
  at_opc : (imsi : Identity) (k : List ℕ) → Contains counts (length fields) → identity_of (field fields 0) ≡ Some imsi
      → octets_in 16 (field fields 1) ≡ Some k → (r : Result (List ℕ) SubsWhy) → OpcTells k r
      → Tells ((r >>= (λ opc. from_amf imsi k opc)) >>= (λ row. rows_with rows row))
  at_opc imsi k count is_imsi is_k (Ok opc) opc_tells = after_opc imsi k opc count is_imsi is_k opc_tells.0 opc_tells.1
  at_opc imsi k count is_imsi is_k (Err fault) opc_tells = opc_tells

  -- what the answer to a record says of it
  pub tells : Tells (rows_with_fields counts rows fields)
  tells = by_count (list_any (λ count. length fields == count) counts) refl
    where
      none_before : Clear 1
      none_before earlier less fails =
          let same : order earlier ≡ order why.Header = omega (arith, less) in
          rw (one_fault earlier why.Header same) at fails

      of_count : Contains counts (length fields)
          → Tells ((ok_or (identity_of (field fields 0)) why.Imsi >>= (λ imsi. from_key imsi)) >>= (λ row. rows_with rows row))
      of_count count =
          let clear_imsi = passed why.FieldCount none_before (λ other. All-contains (λ n. length fields ≢ n) counts (length fields) other count refl) in
          turn (identity_of (field fields 0)) why.Imsi from_key clear_imsi (λ none. none) (λ imsi is_imsi.
          let clear_key = passed why.Imsi clear_imsi (λ none. absurd (cc (is_imsi, none))) in
          turn (octets_in 16 (field fields 1)) why.Key (from_opc imsi) clear_key (λ none. none) (λ k is_k.
          at_opc imsi k count is_imsi is_k (opc_in k (field fields 2) (field fields 3))
          (opc_tells k (passed why.Key clear_key (λ none. absurd (cc (is_k, none)))))))

      by_count : (b : Bool) → list_any (λ count. length fields == count) counts ≡ b
          → Tells ((if b then (ok_or (identity_of (field fields 0)) why.Imsi >>= (λ imsi. from_key imsi)) else Err why.FieldCount) >>= (λ row. rows_with rows row))
      by_count true is = of_count (counted counts (length fields) is)
      by_count false is = record { fails = not_counted counts (length fields) is; first = none_before }
