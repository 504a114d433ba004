-- Bytes and the attributes that they are. Reserved bytes and fill are free.
use Rattle.std.specs.Prelude.{◌≡◌, ◌≢◌, ℕ, ◌+◌, ◌*◌, ◌%◌, ◌<◌, ◌≤◌, ◌⊎◌, true, false, ◌&&◌, nat_lt, if◌then◌else◌, List, [], ◌∷◌, ◌++◌, length, Option, Some, None}
use Rattle.std.specs.List.{list_all}
use Rattle.std.specs.Int.{w16, to_be_bytes}
use Rattle.auc_attr.specs.declared.attr.Attr.{Attr}
use Rattle.auc_attr.specs.declared.refusal.AttrRefusal.{AttrRefusal}
use Rattle.auc_attr.specs.declared.refusal.AttrRefusal.TheVariants as refusal
use Rattle.auc_attr.specs.declared.table.Row.{Row}
use Rattle.auc_attr.specs.declared.table.Shape.{Shape}
use Rattle.auc_attr.specs.declared.table.Shape.TheVariants as shape
use Rattle.auc_attr.specs.declared.table.Table.{Table}
use Rattle.auc_attr.specs.declared.table.Table.TheVariants as tables
use Rattle.auc_attr.specs.Table.{row_in}
use Rattle.auc_attr.specs.Item.{Item, items, is_named}
use Rattle.auc_attr.specs.Spelling.{stands_in, is_zero}
use Rattle.auc_attr.specs.Conditions.{first_of}
use Rattle.auc_attr.specs.Fault.{attr_faults_in}

-- two reserved bytes, and the value
pub record IsAfterReserved (body value : List ℕ) : Type 0 where
  pub free : List ℕ
  pub two : length free ≡ 2
  pub parts : body ≡ free ++ value

-- the value's length in two bytes, the value, and the least fill
pub record IsCounted (unit least most : ℕ) (body value : List ℕ) : Type 0 where
  pub at_least : least ≤ length value
  pub at_most : length value ≤ most
  pub filling : List ℕ
  pub short : length filling < 4
  pub parts : body ≡ to_be_bytes w16 (unit * length value) ++ (value ++ filling)

-- the bit D, and 15 reserved bits
pub record IsFlag (body value : List ℕ) : Type 0 where
  pub first : ℕ
  pub second : ℕ
  pub parts : body ≡ first ∷ second ∷ []
  pub top : value ≡ (if nat_lt first 128 then 0 else 1) ∷ []

-- what may stand after type and length, and the value that it has
abbrev pub IsBody : Shape → List ℕ → List ℕ → Type 0
IsBody (shape.Fixed n) body value = (length value ≡ n) × (body ≡ value)
IsBody (shape.AfterReserved n) body value = (length value ≡ n) × IsAfterReserved body value
IsBody shape.BitCounted body value = IsCounted 8 4 16 body value
IsBody shape.ByteCounted body value = IsCounted 1 0 1016 body value
IsBody shape.Several body value = ((length value ≡ 32) ⊎ (length value ≡ 48)) × IsAfterReserved body value
IsBody shape.Versions body value = (length value % 2 ≡ 0) × IsCounted 1 2 1016 body value
IsBody shape.Ciphertext body value = IsAfterReserved body value
IsBody shape.Hash body value = ((length value ≡ 0) ⊎ ((length value ≡ 20) ⊎ (length value ≡ 32))) × IsAfterReserved body value
IsBody shape.Zeros body value = ((length value ≡ 2) ⊎ ((length value ≡ 6) ⊎ (length value ≡ 10))) × (list_all is_zero value ≡ true) × (body ≡ value)
IsBody shape.Flag body value = IsFlag body value
IsBody shape.Skipped body value = body ≡ value

-- by a table, bytes begin with an attribute, before which these types stood, and go on with the rest
pub record IsAttrIn (table : Table) (seen : List ℕ) (i : Item) (bytes rest : List ℕ) : Type 0 where
  pub row : Row
  pub known : row_in table i.kind ≡ Some row
  pub first : (row.once && stands_in seen i.kind) ≡ false
  pub units : ℕ
  pub some : 0 < units
  pub body : List ℕ
  pub size : length body + 2 ≡ 4 * units
  pub parts : bytes ≡ i.kind ∷ units ∷ (body ++ rest)
  pub value : IsBody row.shape body i.value

-- there are bytes, and this is the first fault of the attribute at their front, before which these types stood
pub record IsFaultIn (table : Table) (seen bytes : List ℕ) (fault : AttrRefusal) : Type 0 where
  pub some : bytes ≢ []
  pub first : first_of (attr_faults_in table seen bytes) ≡ Some fault

-- the bytes are these attributes, and then they end, or have a fault there
abbrev pub EndsIn : Table → List ℕ → List ℕ → Option AttrRefusal → Type 0
EndsIn table seen bytes None = bytes ≡ []
EndsIn table seen bytes (Some fault) = IsFaultIn table seen bytes fault

abbrev pub WalksIn : Table → List ℕ → List ℕ → List Item → Option AttrRefusal → Type 0
WalksIn table seen bytes [] end = EndsIn table seen bytes end
WalksIn table seen bytes (i ∷ is) end = (rest : List ℕ) × IsAttrIn table seen i bytes rest × WalksIn table (seen ++ i.kind ∷ []) rest is end

-- the bytes are these attributes and nothing else
abbrev pub ReadsIn : Table → List ℕ → List Item → Type 0
ReadsIn table bytes is = WalksIn table [] bytes is None

-- the fault is the first of the bytes; want of memory is none of theirs
abbrev pub FirstFaultIn : Table → List ℕ → AttrRefusal → Type 0
FirstFaultIn table bytes refusal.NoMemory = Unit {0}
FirstFaultIn table bytes fault = (is : List Item) × WalksIn table [] bytes is (Some fault)

-- the same by the table of EAP-AKA
abbrev pub IsAttr : List ℕ → Item → List ℕ → List ℕ → Type 0
IsAttr seen i bytes rest = IsAttrIn tables.Aka seen i bytes rest

abbrev pub IsFault : List ℕ → List ℕ → AttrRefusal → Type 0
IsFault seen bytes fault = IsFaultIn tables.Aka seen bytes fault

abbrev pub Walks : List ℕ → List ℕ → List Item → Option AttrRefusal → Type 0
Walks seen bytes is end = WalksIn tables.Aka seen bytes is end

abbrev pub Reads : List ℕ → List Item → Type 0
Reads bytes is = ReadsIn tables.Aka bytes is

abbrev pub FirstFault : List ℕ → AttrRefusal → Type 0
FirstFault bytes fault = FirstFaultIn tables.Aka bytes fault

abbrev pub ReadsAttrs : List ℕ → List Attr → Type 0
ReadsAttrs bytes list = Reads bytes (items list) × (list_all is_named list ≡ true)
