-- The faults of a record, each by itself: which test of which field fails, and in what order faults are
-- told.
use Rattle.std.specs.Prelude.{ℕ, ◌≡◌, ◌≢◌, ◌<◌, ◌≤◌, ◌++◌, ◌⊎◌, false, true, List, [], ◌∷◌, length, All, Contains, codes, Some, None}
use Rattle.auc_memory.specs.Identity.{Identity, identity_of}
use Rattle.auc_milenage.specs.Milenage.{opc_of}
use Rattle.auc_sqn.specs.Number.{top_of}
use Rattle.auc_subs.specs.declared.row.Row.{Row}
use Rattle.auc_subs.specs.declared.refusal.SubsWhy.{SubsWhy}
use Rattle.auc_subs.specs.declared.refusal.SubsWhy.TheVariants as why
use Rattle.auc_text.specs.Field.{number_in, octets_in}
use Rattle.auc_text.specs.Text.{is_text}
use Rattle.auc_subs.specs.Subscriber.{HasIdentity, age_in, bits_in, field, most_subscribers}

-- some row has the identity that a text is
abbrev pub IsTaken : List Row → List ℕ → Type 0
IsTaken rows text = (imsi : Identity) × (sub : ℕ) × (identity_of text ≡ Some imsi) × HasIdentity rows sub imsi

-- the index length is read, and the text of a number isn't one up to the top of that length
abbrev pub IsNoNumber : List (List ℕ) → List ℕ → Type 0
IsNoNumber fields text = (bits : ℕ) × (bits_in fields ≡ Some bits) × (number_in 15 (top_of bits) text ≡ None)

-- the test of a fault fails for the fields of a record, of which there may be so many, after these rows
abbrev pub Fails : List ℕ → List Row → List (List ℕ) → SubsWhy → Type 0
Fails counts rows fields why.Header = ⊥
Fails counts rows fields why.FieldCount = All (λ count. length fields ≢ count) counts
Fails counts rows fields why.Imsi = identity_of (field fields 0) ≡ None
Fails counts rows fields why.Key = octets_in 16 (field fields 1) ≡ None
Fails counts rows fields why.Kind = (is_text (field fields 2) (codes "op") ≡ false) × (is_text (field fields 2) (codes "opc") ≡ false)
Fails counts rows fields why.Op = octets_in 16 (field fields 3) ≡ None
Fails counts rows fields why.Amf = octets_in 2 (field fields 4) ≡ None
Fails counts rows fields why.Bits = bits_in fields ≡ None
Fails counts rows fields why.Age = age_in fields ≡ None
Fails counts rows fields why.Seq = IsNoNumber fields (field fields 5)
Fails counts rows fields why.Usim = IsNoNumber fields (field fields 6)
Fails counts rows fields why.Twice = IsTaken rows (field fields 0)
Fails counts rows fields why.TooMany = most_subscribers ≤ length rows

-- the place of a fault in the order in which faults are told
abbrev pub order : SubsWhy → ℕ
order why.Header = 0
order why.FieldCount = 1
order why.Imsi = 2
order why.Key = 3
order why.Kind = 4
order why.Op = 5
order why.Amf = 6
order why.Bits = 7
order why.Age = 8
order why.Seq = 9
order why.Usim = 10
order why.Twice = 11
order why.TooMany = 12

-- the first fault of a record: its test fails, and no earlier one does
pub record IsFirstFault (counts : List ℕ) (rows : List Row) (fields : List (List ℕ)) (fault : SubsWhy) : Type 0 where
  pub fails : Fails counts rows fields fault
  pub first : (earlier : SubsWhy) → order earlier < order fault → Fails counts rows fields earlier → ⊥

-- OPc of a key: computed of OP after the word `op`, or given after the word `opc` (TS 35.206 §4.1)
abbrev pub IsOpc : List ℕ → List ℕ → List ℕ → List ℕ → Type 0
IsOpc k kind text opc =
    ((is_text kind (codes "op") ≡ true) × (op : List ℕ) × (octets_in 16 text ≡ Some op) × (opc ≡ opc_of k op))
    ⊎ ((is_text kind (codes "opc") ≡ true) × (octets_in 16 text ≡ Some opc))

-- a record is a subscriber's: each field of its form
pub record IsSubscriber (fields : List (List ℕ)) (row : Row) : Type 0 where
  pub identity : identity_of (field fields 0) ≡ Some row.imsi
  pub key : octets_in 16 (field fields 1) ≡ Some row.secret.k
  pub operator : IsOpc row.secret.k (field fields 2) (field fields 3) row.secret.opc
  pub management : octets_in 2 (field fields 4) ≡ Some row.amf
  pub index : bits_in fields ≡ Some row.bits
  pub limit : age_in fields ≡ Some row.age
  pub drawn : number_in 15 (top_of row.bits) (field fields 5) ≡ Some row.seq
  pub accepted : number_in 15 (top_of row.bits) (field fields 6) ≡ Some row.usim

-- a record without a fault is a subscriber's, whose row is put after the others
pub record IsAdded (counts : List ℕ) (old : List Row) (fields : List (List ℕ)) (new : List Row) : Type 0 where
  pub row : Row
  pub count : Contains counts (length fields)
  pub subscriber : IsSubscriber fields row
  pub right : (fault : SubsWhy) → Fails counts old fields fault → ⊥
  pub put : new ≡ old ++ row ∷ []
